-- A keydir that takes the next version of any key.
use Rattle.std.specs.Prelude.{◌≡◌, ℕ, false, List, [], ◌∷◌}
use Rattle.bk_keydir.specs.Keydir.{Entry, IsNewerThan, Shown}
use Rattle.bk_keydir.specs.Slots.{has_open}

-- the newest version of each key has a seq below n
abbrev pub AreBelow : ℕ → List Entry → Type 0
AreBelow n [] = Unit {0}
AreBelow n (e ∷ es) = IsNewerThan n e.1 × AreBelow n es

-- No fold is open, and a version with the seq n is newer than all.
pub record TakesSeq (n : ℕ) (d : Shown) : Type 0 where
  pub closed : has_open d.slots ≡ false
  pub below : AreBelow n d.entries
