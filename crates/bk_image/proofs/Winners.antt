-- Which write of a log its map has for a key.
use Rattle.std.proofs.Common.{◌≡◌, ℕ, ◌≤◌, Bool, true, false, cond, List, [], ◌∷◌, ◌++◌, Option}
use Rattle.std.proofs.Common.{None, Some, refl, sym, ap, ◌∙◌, arith, inl, inr}
use Rattle.std.specs.Str.{bytes_eq}
use Rattle.bk_base.specs.declared.writes.Write.{Write}
use Rattle.bk_laws.specs.Log.{IsLog, RisesAbove, SameMap, or_else, put_of, winner}
use Rattle.bk_laws.proofs.LastWrites.{winner-append}
use Rattle.bk_image.specs.Readings.{In}
use Rattle.bk_image.proofs.Logs.{one_seq, rises-above}

-- the later writes decide, and else the first
behind : (w : Write) (ws : List Write) (key : List ℕ) (o : Option Write) → winner ws key ≡ o
    → winner (w ∷ ws) key ≡ or_else o (cond (bytes_eq w.key key) (Some w) None)
behind w ws key o is =
    ap (λ (p : Option Write). or_else p (cond (bytes_eq w.key key) (Some w) None)) is

first : (w : Write) (ws : List Write) (key : List ℕ) (b : Bool) → winner ws key ≡ None
    → bytes_eq w.key key ≡ b
    → winner (w ∷ ws) key ≡ cond b (Some w) None
first w ws key b none is = behind w ws key None none ∙ ap (λ (c : Bool). cond c (Some w) None) is

-- the winner is a write of the key
pub winner-in : (ws : List Write) (key : List ℕ) (w : Write) → winner ws key ≡ Some w
    → In w ws × (bytes_eq w.key key ≡ true)
winner-in [] key w h = absurd (cc h)
winner-in (x ∷ xs) key w h =
    go (winner xs key) refl (bytes_eq x.key key) refl (winner-in xs key) where
      go : (o : Option Write) → winner xs key ≡ o → (b : Bool) → bytes_eq x.key key ≡ b
          → ((v : Write) → winner xs key ≡ Some v → In v xs × (bytes_eq v.key key ≡ true))
          → In w (x ∷ xs) × (bytes_eq w.key key ≡ true)
      go (Some v) o b e later =
          let is : Some v ≡ Some w = sym (behind x xs key (Some v) o) ∙ h in
          let found = later w (o ∙ is) in
          (inr found.0, found.1)
      go None o true e later =
          let is : Some x ≡ Some w = sym (first x xs key true o e) ∙ h in
          let same : x ≡ w = cc is in
          (inl (sym same), ap (λ (v : Write). bytes_eq v.key key) (sym same) ∙ e)
      go None o false e later = let is : ◌≡◌ {A = Option Write} None (Some w) =
          sym (first x xs key false o e) ∙ h in absurd (cc is)

-- where there is none no write has the key
pub winner-none : (ws : List Write) (key : List ℕ) (w : Write) → winner ws key ≡ None → In w ws
    → bytes_eq w.key key ≡ true → ⊥
winner-none [] key w h is_in same = is_in
winner-none (x ∷ xs) key w h is_in same = go (winner xs key) refl is_in (winner-none xs key w) where
  go : (o : Option Write) → winner xs key ≡ o → In w (x ∷ xs)
      → (winner xs key ≡ None → In w xs → bytes_eq w.key key ≡ true → ⊥) → ⊥
  go (Some v) o place later = let is : Some v ≡ None = sym (behind x xs key (Some v) o)
      ∙ h in absurd (cc is)
  go None o (inr there) later = later o there same
  go None o (inl is) later =
      let has : bytes_eq x.key key ≡ true = ap (λ (v : Write). bytes_eq v.key key) (sym is)
      ∙ same in
      let some : Some x ≡ None = sym (first x xs key true o has) ∙ h in
      absurd (cc some)

-- of the writes of a key the winner has the greatest seq
pub winner-last : (n : ℕ) (ws : List Write) (key : List ℕ) (v w : Write) → RisesAbove n ws
    → winner ws key ≡ Some w → In v ws
    → bytes_eq v.key key ≡ true → v.seq.0 ≤ w.seq.0
winner-last n [] key v w rises h is_in same = absurd is_in
winner-last n (x ∷ xs) key v w rises h is_in same =
    go (winner xs key) refl is_in (λ is. winner-last x.seq.0 xs key v w rises.1 is) where
      go : (o : Option Write) → winner xs key ≡ o → In v (x ∷ xs)
          → (winner xs key ≡ Some w → In v xs → bytes_eq v.key key ≡ true → v.seq.0 ≤ w.seq.0)
          → v.seq.0 ≤ w.seq.0
      go (Some u) o place later =
          let is : Some u ≡ Some w = sym (behind x xs key (Some u) o) ∙ h in
          let there = (winner-in xs key w (o ∙ is)).0 in
          elim place [
            | inl at_front ↦ omega (
              arith,
              rises-above x.seq.0 xs w rises.1 there,
              ap (λ (y : Write). y.seq.0) at_front,
            )
            | inr behind_it ↦ later (o ∙ is) behind_it same
          ]
      go None o (inr there) later = absurd (winner-none xs key v o there same)
      go None o (inl is) later =
          let has : bytes_eq x.key key ≡ true = ap (λ (y : Write). bytes_eq y.key key) (sym is)
          ∙ same in
          let some : Some x ≡ Some w = sym (first x xs key true o has) ∙ h in
          let here : x ≡ w = cc some in
          omega (arith, ap (λ (y : Write). y.seq.0) is, ap (λ (y : Write). y.seq.0) here)

-- So a write of the key that has the greatest seq is the winner.
pub winner_is : (ws : List Write) (key : List ℕ) (w : Write) → IsLog ws → In w ws
    → bytes_eq w.key key ≡ true
    → ((x : Write) → In x ws → bytes_eq x.key key ≡ true → x.seq.0 ≤ w.seq.0)
    → winner ws key ≡ Some w
winner_is ws key w rises is_in same greatest = go (winner ws key) refl where
  go : (o : Option Write) → winner ws key ≡ o → winner ws key ≡ Some w
  go None o = absurd (winner-none ws key w o is_in same)
  go (Some v) o =
      let found = winner-in ws key v o in
      let low = greatest v found.0 found.1 in
      let high = winner-last 0 ws key w v rises o is_in same in
      o ∙ ap Some (one_seq 0 ws v w rises found.0 is_in (omega (arith, low, high)))

-- Maps

pub same_sym : (a b : List Write) → SameMap a b → SameMap b a
same_sym a b same key = sym (same key)

pub same_trans : (a b c : List Write) → SameMap a b → SameMap b c → SameMap a c
same_trans a b c first second key = first key ∙ second key

pub same_append : (a b more : List Write) → SameMap a b → SameMap (a ++ more) (b ++ more)
same_append a b more same key =
    ap put_of (winner-append a more key) ∙ go (winner more key)
    ∙ ap put_of (sym (winner-append b more key)) where
      go : (o : Option Write)
          → put_of (or_else o (winner a key)) ≡ put_of (or_else o (winner b key))
      go None = same key
      go (Some w) = refl
