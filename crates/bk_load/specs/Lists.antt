-- The swap lists that stand in a directory.
use Rattle.std.specs.Prelude.{◌≡◌, ℕ, ◌≤◌, ◌+◌, ◌⊎◌, List, [], ◌∷◌, ◌++◌, Some}
use Rattle.bk_base.specs.declared.names.Name.{Name}
use Rattle.bk_laws.specs.SwapList.{SwapList, IsWhole}
use Rattle.bk_swap.specs.Lists.{list_of}
use Rattle.bk_image.specs.Readings.{In, Reading, swap}
use Rattle.bk_image.specs.CountedFiles.{HasList}
use Rattle.bk_load.specs.declared.lists.Standing.{Standing}
use Rattle.bk_load.specs.declared.lists.Lists.{Lists}

-- the list stands whole under its name
pub record StandsIn (r : Reading) (x : Standing) : Type 0 where
  pub bytes : List ℕ
  pub there : r (swap x.id) ≡ Some bytes
  pub whole : IsWhole bytes (list_of x.list)

abbrev pub RiseAbove : ℕ → List Standing → Type 0
RiseAbove low [] = Unit {0}
RiseAbove low (x ∷ xs) = (low ≤ x.id) × RiseAbove (x.id + 1) xs

-- These are all whole lists that stand, in order of their ids.
pub record AreLists (r : Reading) (lists : List Standing) : Type 0 where
  pub low : ℕ
  pub rise : RiseAbove low lists
  pub each : (x : Standing) → In x lists → StandsIn r x
  pub all : (l : SwapList) (h : HasList r l) → (x : Standing) × In x lists × (x.id ≡ h.id)

-- the file under this name of a swap list holds none
pub record IsOdd (r : Reading) (n : Name) : Type 0 where
  pub bytes : List ℕ
  pub is : n ≡ swap n.id
  pub there : r n ≡ Some bytes
  pub none : (l : SwapList) → IsWhole bytes l → ⊥

-- names whose ids rise
abbrev pub NamesRise : ℕ → List Name → Type 0
NamesRise low [] = Unit {0}
NamesRise low (n ∷ ns) = (low ≤ n.id) × NamesRise (n.id + 1) ns

-- These are the names of all odd files, in order of their ids.
pub record AreOdd (r : Reading) (odd : List Name) : Type 0 where
  pub rise : NamesRise 0 odd
  pub each : (n : Name) → In n odd → IsOdd r n
  pub all : (n : Name) → IsOdd r n → In n odd

-- one of the lists has the file as an input
abbrev pub IsInputOf : List Standing → ℕ → Type 0
IsInputOf lists id = (x : Standing) × In x lists × In id (list_of x.list).inputs

-- The bytes are a whole list, which was taken in, or none, and then their name was.
pub record TakesWhole (name : Name) (bytes : List ℕ) (j k : Lists) : Type 0 where
  pub list : Standing
  pub id : list.id ≡ name.id
  pub whole : IsWhole bytes (list_of list.list)
  pub added : k.whole.items ≡ j.whole.items ++ list ∷ []
  pub same_odd : k.odd.items ≡ j.odd.items

pub record TakesOdd (name : Name) (bytes : List ℕ) (j k : Lists) : Type 0 where
  pub none : (l : SwapList) → IsWhole bytes l → ⊥
  pub added : k.odd.items ≡ j.odd.items ++ name ∷ []
  pub same_whole : k.whole.items ≡ j.whole.items

abbrev pub TakesIn : Name → List ℕ → Lists → Lists → Type 0
TakesIn name bytes j k = TakesWhole name bytes j k ⊎ TakesOdd name bytes j k
