-- The place of a value in a list.
use Rattle.std.specs.Prelude.{◌≡◌, ℕ, zero, suc, Bool, true, false, List, [], ◌∷◌}

-- the first value that passes the test stands at this place
abbrev pub IsFirstOf : {X : Type 0} → (X → Bool) → List X → ℕ → Type 0
IsFirstOf test [] i = ⊥
IsFirstOf test (x ∷ xs) zero = test x ≡ true
IsFirstOf test (x ∷ xs) (suc i) = (test x ≡ false) × IsFirstOf test xs i
