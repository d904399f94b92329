-- Sums over those of a list that a test picks.
use Rattle.std.proofs.Common.{◌≡◌, ◌∙◌, ◌||◌, ℕ, ◌+◌, Bool, true, false, cond, List, [], ◌∷◌, length, filter, sum_by, refl, sym, ap, subst, arith, inl, inr, length-append}
use Rattle.std.proofs.lemmas.Bool.{cases_Bool}
use Rattle.std.proofs.lemmas.List.Sums.{sum_by-cons}
use Rattle.bk_base.specs.declared.writes.Write.{Write}
use Rattle.bk_image.specs.Readings.{In}
use Rattle.bk_laws.proofs.RecordBytes.{length-record_of}
use Rattle.bk_laws.specs.Record.{record_of, records_of, size_of}

abbrev pub sum_where : {X : Type 0} → (X → ℕ) → (X → Bool) → List X → ℕ
sum_where size p [] = 0
sum_where size p (x ∷ xs) = cond (p x) (size x) 0 + sum_where size p xs

pub sum_filter : {X : Type 0} (size : X → ℕ) (p : X → Bool) (xs : List X) → sum_by size (filter p xs) ≡ sum_where size p xs
sum_filter size p [] = refl
sum_filter size p (x ∷ xs) = go (p x) (sum_filter size p xs) where
  go : (b : Bool) → sum_by size (filter p xs) ≡ sum_where size p xs
      → sum_by size (cond b (x ∷ filter p xs) (filter p xs)) ≡ cond b (size x) 0 + sum_where size p xs
  go true later = sum_by-cons size x (filter p xs) ∙ ap (λ (n : ℕ). size x + n) later
  go false later = later ∙ omega arith

pub records_filter : (p : Write → Bool) (ws : List Write) → length (records_of (filter p ws)) ≡ sum_where size_of p ws
records_filter p [] = refl
records_filter p (w ∷ ws) = go (p w) (records_filter p ws) where
  go : (b : Bool) → length (records_of (filter p ws)) ≡ sum_where size_of p ws
      → length (records_of (cond b (w ∷ filter p ws) (filter p ws))) ≡ cond b (size_of w) 0 + sum_where size_of p ws
  go true later =
      length-append (record_of w) (records_of (filter p ws))
      ∙ ap (λ (n : ℕ). n + length (records_of (filter p ws))) (length-record_of w) ∙ ap (λ (n : ℕ). size_of w + n) later
  go false later = later ∙ omega arith

pub where_none : {X : Type 0} (size : X → ℕ) (p : X → Bool) (xs : List X) → ((x : X) → In x xs → p x ≡ false)
    → sum_where size p xs ≡ 0
where_none size p [] none = refl
where_none size p (x ∷ xs) none =
    let later = where_none size p xs (λ y is_in. none y (inr is_in)) in rw (none x (inl refl)) (omega (arith, later))

pub where_same : {X : Type 0} (size : X → ℕ) (p q : X → Bool) (xs : List X) → ((x : X) → In x xs → p x ≡ q x)
    → sum_where size p xs ≡ sum_where size q xs
where_same size p q [] same = refl
where_same size p q (x ∷ xs) same =
    let later = where_same size p q xs (λ y is_in. same y (inr is_in)) in rw (same x (inl refl)) (omega (arith, later))

pub where_either : {X : Type 0} (size : X → ℕ) (p q : X → Bool) (xs : List X)
    → ((x : X) → In x xs → p x ≡ true → q x ≡ true → ⊥)
    → sum_where size (λ x. p x || q x) xs ≡ sum_where size p xs + sum_where size q xs
where_either size p q [] apart = refl
where_either size p q (x ∷ xs) apart =
    go (p x) (q x) refl refl (where_either size p q xs (λ y is_in. apart y (inr is_in))) where
      go : (a b : Bool) → p x ≡ a → q x ≡ b
          → sum_where size (λ y. p y || q y) xs ≡ sum_where size p xs + sum_where size q xs
          → cond (a || b) (size x) 0 + sum_where size (λ y. p y || q y) xs
          ≡ (cond a (size x) 0 + sum_where size p xs) + (cond b (size x) 0 + sum_where size q xs)
      go true true is also later = absurd (apart x (inl refl) is also)
      go true false is also later = omega (arith, later)
      go false true is also later = omega (arith, later)
      go false false is also later = omega (arith, later)

-- no two have one mark
abbrev pub AreUnlike : {X : Type 0} → (X → ℕ) → List X → Type 0
AreUnlike mark [] = Unit {0}
AreUnlike mark (x ∷ xs) = ((y : _) → In y xs → mark x ≡ mark y → ⊥) × AreUnlike mark xs

-- so one alone is picked of those that have one mark
pub where_one : {X : Type 0} (size mark : X → ℕ) (p : X → Bool) (xs : List X) (x : X) → AreUnlike mark xs → In x xs
    → p x ≡ true → ((y : X) → In y xs → p y ≡ true → mark y ≡ mark x) → sum_where size p xs ≡ size x
where_one size mark p [] x unlike is_in picks only = absurd is_in
where_one size mark p (z ∷ zs) x unlike (inl is) picks only =
    let here : p z ≡ true = subst (λ y. p y ≡ true) is picks in
    let later = where_none size p zs other in
    let same : size x ≡ size z = ap size is in
    rw here (omega (arith, later, same)) where
      other : (y : _) → In y zs → p y ≡ false
      other y y_in =
          elim (cases_Bool (p y)) [
            | inl t ↦ absurd (unlike.0 y y_in (sym (ap mark is) ∙ sym (only y (inr y_in) t)))
            | inr f ↦ f
          ]
where_one size mark p (z ∷ zs) x unlike (inr is_in) picks only =
    elim (cases_Bool (p z)) [
      | inl t ↦ absurd (unlike.0 x is_in (only z (inl refl) t))
      | inr f ↦
          let later = where_one size mark p zs x unlike.1 is_in picks (λ y y_in. only y (inr y_in)) in
          rw f (omega (arith, later))
    ]
