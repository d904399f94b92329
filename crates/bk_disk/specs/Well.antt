-- A test that each name stands once in what is told.
use Rattle.std.specs.Prelude.{Bool, true, false, not, ◌&&◌, ◌||◌, List, [], ◌∷◌}
use Rattle.bk_base.specs.declared.names.Name.{Name}
use Rattle.bk_disk.specs.Names.{same}
use Rattle.bk_disk.specs.Told.{Told, names}

abbrev pub stands_in : Name → List Name → Bool
stands_in n [] = false
stands_in n (m ∷ ms) = same n m || stands_in n ms

abbrev pub are_once : List Name → Bool
are_once [] = true
are_once (n ∷ ns) = not (stands_in n ns) && are_once ns

abbrev pub are_same : List Name → List Name → Bool
are_same [] [] = true
are_same [] (n ∷ ns) = false
are_same (m ∷ ms) [] = false
are_same (m ∷ ms) (n ∷ ns) = same m n && are_same ms ns

abbrev pub is_well : Told → Bool
is_well t = are_once (names t.image) && are_same (names t.fronts) (names t.image)
