-- The files of a directory as they read, and the writes that each of them holds.
use Rattle.std.specs.Prelude.{◌≡◌, ℕ, ◌⊎◌, true, cond, List, [], ◌∷◌, ◌++◌, Option, is_some}
use Rattle.std.specs.Prelude.{unwrap_or, option_map}
use Rattle.bk_base.specs.declared.names.Name.{Name}
use Rattle.bk_base.specs.declared.names.Kind.TheVariants.{Main, MainTemp, Hint, HintTemp, Swap}
use Rattle.bk_base.specs.declared.names.Kind.TheVariants.{SwapTemp}
use Rattle.bk_base.specs.declared.writes.Write.{Write}
use Rattle.bk_disk.specs.Names.{same}
use Rattle.bk_disk.specs.Told.{Table, Front, at}

-- x stands in the list
abbrev pub In : {X : Type 0} → X → List X → Type 0
In x [] = ⊥
In x (y ∷ ys) = (x ≡ y) ⊎ In x ys

-- the names of the files with this id
abbrev pub main : ℕ → Name
main id = record { id = id; kind = Main }

abbrev pub main_temp : ℕ → Name
main_temp id = record { id = id; kind = MainTemp }

abbrev pub hint : ℕ → Name
hint id = record { id = id; kind = Hint }

abbrev pub hint_temp : ℕ → Name
hint_temp id = record { id = id; kind = HintTemp }

abbrev pub swap : ℕ → Name
swap id = record { id = id; kind = Swap }

abbrev pub swap_temp : ℕ → Name
swap_temp id = record { id = id; kind = SwapTemp }

-- The bytes of each file, or None where it isn't there. An image reads as `at image`.
abbrev pub Reading : Type 0
Reading = Name → Option (List ℕ)

-- the writes of each file, in the order of their records
abbrev pub Books : Type 0
Books = Name → List Write

abbrev pub IsThere : Reading → Name → Type 0
IsThere r n = is_some (r n) ≡ true

-- a file's bytes, none where it isn't there
abbrev pub bytes_in : Reading → Name → List ℕ
bytes_in r n = unwrap_or (r n) []

-- the synced bytes alone: what no crash takes
abbrev pub synced_of : Table Front → Reading
synced_of fronts n = option_map (λ f. f.synced) (at fronts n)

-- the books with more writes at the end of one file's
abbrev pub added : Name → List Write → Books → Books
added n more books m = cond (same m n) (books m ++ more) (books m)

-- the books with these writes in the place of one file's
abbrev pub placed : Name → List Write → Books → Books
placed n writes books m = cond (same m n) writes (books m)
