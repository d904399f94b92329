-- What reads and moments give, and what a sink takes.
use Rattle.std.specs.Prelude.{◌≡◌, ℕ, ◌+◌, ◌≤◌, List, [], ◌∷◌, ◌++◌, length, take, drop}
use Rattle.bk_base.specs.declared.numbers.Moment.{Moment}

-- a read of a source took n bytes of the whole input, which now stand at the front of `into`
pub record Takes (whole : List ℕ) (before now n : ℕ) (into : List ℕ) : Type 0 where
  pub moved : now ≡ before + n
  pub inside : now ≤ length whole
  pub bytes : take n into ≡ take n (drop before whole)

-- a read of a view gave the first n of the bytes left
pub record Gives (before now : List ℕ) (n : ℕ) (into : List ℕ) : Type 0 where
  pub inside : n ≤ length before
  pub bytes : take n into ≡ take n before
  pub others : now ≡ drop n before

-- a view gave a first part of its bytes, at most so many
abbrev pub GivesPart : List ℕ → List ℕ → ℕ → Type 0
GivesPart before now most = (n : ℕ) × (n ≤ most) × (now ≡ drop n before)

-- a sink took all of a piece
abbrev pub Wrote : List ℕ → List ℕ → List ℕ → Type 0
Wrote before now piece = now ≡ before ++ piece

-- it took a first part of it
abbrev pub LeftOver : List ℕ → List ℕ → List ℕ → Type 0
LeftOver before now piece = (part rest : List ℕ) × (now ≡ before ++ part) × (part ++ rest ≡ piece)

-- the moment that a clock gives, where these are left
abbrev pub first_moment : List Moment → Moment
first_moment [] = record { 0 = 0 }
first_moment (m ∷ ms) = m

-- the moments that are left then
abbrev pub later_moments : List Moment → List Moment
later_moments [] = []
later_moments (m ∷ []) = m ∷ []
later_moments (m ∷ n ∷ ms) = n ∷ ms
