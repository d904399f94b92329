-- Lists of writes whose seqs rise.
use Rattle.std.proofs.Common.{◌≡◌, ℕ, ◌<◌, ◌≤◌, ◌⊎◌, List, [], ◌∷◌, ◌++◌, refl, sym, ap, ◌∙◌, arith}
use Rattle.std.proofs.Common.{inl, inr}
use Rattle.bk_base.specs.declared.writes.Write.{Write}
use Rattle.bk_laws.specs.Log.{IsLog, RisesAbove, last_seq, seq_after}
use Rattle.bk_image.specs.Readings.{In}

seq_of : {v w : Write} → v ≡ w → v.seq.0 ≡ w.seq.0
seq_of is = ap (λ (x : Write). x.seq.0) is

pub rises-from : (m n : ℕ) (ws : List Write) → m ≤ n → RisesAbove n ws → RisesAbove m ws
rises-from m n [] low h = tt
rises-from m n (w ∷ ws) low h = (omega (arith, low, h.0), h.1)

-- each write is above the bound, and none is above the last seq
pub rises-above : (n : ℕ) (ws : List Write) (w : Write) → RisesAbove n ws → In w ws → n < w.seq.0
rises-above n [] w h is_in = absurd is_in
rises-above n (x ∷ xs) w h (inl is) = omega (arith, h.0, seq_of is)
rises-above n (x ∷ xs) w h (inr later) = omega (arith, h.0, rises-above x.seq.0 xs w h.1 later)

pub seq_after-low : (n : ℕ) (ws : List Write) → RisesAbove n ws → n ≤ seq_after n ws
seq_after-low n [] h = omega arith
seq_after-low n (w ∷ ws) h = omega (arith, h.0, seq_after-low w.seq.0 ws h.1)

pub rises-last : (n : ℕ) (ws : List Write) (w : Write) → RisesAbove n ws → In w ws
    → w.seq.0 ≤ seq_after n ws
rises-last n [] w h is_in = absurd is_in
rises-last n (x ∷ xs) w h (inl is) = omega (arith, seq_of is, seq_after-low x.seq.0 xs h.1)
rises-last n (x ∷ xs) w h (inr later) = rises-last x.seq.0 xs w h.1 later

-- the last seq is that of a write, or there is none
pub seq_after-in : (n : ℕ) (ws : List Write)
    → (seq_after n ws ≡ n) ⊎ ((w : Write) × In w ws × (w.seq.0 ≡ seq_after n ws))
seq_after-in n [] = inl refl
seq_after-in n (w ∷ ws) =
    elim (seq_after-in w.seq.0 ws) [
      | inl none ↦ inr (w, inl refl, sym none)
      | inr last ↦ inr (last.0, inr last.1, last.2)
    ]

-- Lists one behind the other

pub seq_after-append : (n : ℕ) (vs ws : List Write)
    → seq_after n (vs ++ ws) ≡ seq_after (seq_after n vs) ws
seq_after-append n [] ws = refl
seq_after-append n (v ∷ vs) ws = seq_after-append v.seq.0 vs ws

pub rises-append : (n : ℕ) (vs ws : List Write) → RisesAbove n vs → RisesAbove (seq_after n vs) ws
    → RisesAbove n (vs ++ ws)
rises-append n [] ws h k = k
rises-append n (v ∷ vs) ws h k = (h.0, rises-append v.seq.0 vs ws h.1 k)

pub rises-front : (n : ℕ) (vs ws : List Write) → RisesAbove n (vs ++ ws) → RisesAbove n vs
rises-front n [] ws h = tt
rises-front n (v ∷ vs) ws h = (h.0, rises-front v.seq.0 vs ws h.1)

pub rises-back : (n : ℕ) (vs ws : List Write) → RisesAbove n (vs ++ ws)
    → RisesAbove (seq_after n vs) ws
rises-back n [] ws h = h
rises-back n (v ∷ vs) ws h = rises-back v.seq.0 vs ws h.1

-- each write of the front is below each of the back
pub rises-apart : (n : ℕ) (vs ws : List Write) (v w : Write) → RisesAbove n (vs ++ ws) → In v vs
    → In w ws → v.seq.0 < w.seq.0
rises-apart n vs ws v w h front back =
    let low = rises-last n vs v (rises-front n vs ws h) front in
    let high = rises-above (seq_after n vs) ws w (rises-back n vs ws h) back in
    omega (arith, low, high)

-- of writes that stand in a log the last seq is at most that of the log
pub last_seq-within : (vs ws : List Write) → IsLog ws → ((v : Write) → In v vs → In v ws)
    → last_seq vs ≤ last_seq ws
last_seq-within vs ws rises within =
    elim (seq_after-in 0 vs) [
      | inl none ↦ omega (arith, none)
      | inr last ↦ omega (arith, last.2, rises-last 0 ws last.0 rises (within last.0 last.1))
    ]

-- So what goes on behind the log goes on behind them.
pub rises-within : (vs ws more : List Write) → IsLog vs → IsLog (ws ++ more)
    → ((v : Write) → In v vs → In v ws) → IsLog (vs ++ more)
rises-within vs ws more first whole within =
    let low = last_seq-within vs ws (rises-front 0 ws more whole) within in
    rises-append 0 vs more first
    (rises-from (last_seq vs) (last_seq ws) more low (rises-back 0 ws more whole))

-- One seq, one write; the same writes, the same list

pub one_seq : (n : ℕ) (ws : List Write) (v w : Write) → RisesAbove n ws → In v ws → In w ws
    → v.seq.0 ≡ w.seq.0 → v ≡ w
one_seq n [] v w h p q same = absurd p
one_seq n (x ∷ xs) v w h (inl p) (inl q) same = p ∙ sym q
one_seq n (x ∷ xs) v w h (inl p) (inr q) same =
    absurd (omega (arith, same, seq_of p, rises-above x.seq.0 xs w h.1 q))
one_seq n (x ∷ xs) v w h (inr p) (inl q) same =
    absurd (omega (arith, same, seq_of q, rises-above x.seq.0 xs v h.1 p))
one_seq n (x ∷ xs) v w h (inr p) (inr q) same = one_seq x.seq.0 xs v w h.1 p q same

-- a write other than the first stands behind it
behind_first : (m n : ℕ) (w x : Write) (ws xs : List Write) → RisesAbove m (w ∷ ws)
    → RisesAbove n (x ∷ xs) → w ≡ x
    → ((v : Write) → In v (w ∷ ws) → In v (x ∷ xs)) → (v : Write) → In v ws → In v xs
behind_first m n w x ws xs h k same within v is_in =
    elim (within v (inr is_in)) [
      | inl is ↦ absurd (omega (arith, seq_of is, seq_of same, rises-above w.seq.0 ws v h.1 is_in))
      | inr later ↦ later
    ]

first_is : (m n : ℕ) (w x : Write) (ws xs : List Write) → RisesAbove m (w ∷ ws)
    → RisesAbove n (x ∷ xs)
    → In w (x ∷ xs) → In x (w ∷ ws) → w ≡ x
first_is m n w x ws xs h k (inl is) there = is
first_is m n w x ws xs h k (inr later) (inl is) = sym is
first_is m n w x ws xs h k (inr later) (inr there) =
    absurd (omega (arith, rises-above x.seq.0 xs w k.1 later, rises-above w.seq.0 ws x h.1 there))

pub same_writes : (m n : ℕ) (vs ws : List Write) → RisesAbove m vs → RisesAbove n ws
    → ((v : Write) → In v vs → In v ws)
    → ((w : Write) → In w ws → In w vs) → vs ≡ ws
same_writes m n [] [] h k there back = refl
same_writes m n [] (w ∷ ws) h k there back = absurd (back w (inl refl))
same_writes m n (v ∷ vs) [] h k there back = absurd (there v (inl refl))
same_writes m n (v ∷ vs) (w ∷ ws) h k there back =
    let first = first_is m n v w vs ws h k (there v (inl refl)) (back w (inl refl)) in
    let later = same_writes v.seq.0 w.seq.0 vs ws h.1 k.1
    (behind_first m n v w vs ws h k first there)
    (behind_first n m w v ws vs k h (sym first) back) in
    λ i. first i ∷ later i
