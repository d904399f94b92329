-- The choices of single calls as pairs.
use Rattle.std.specs.Prelude.{ℕ, List, map}
use Rattle.bk_memdisk.specs.declared.plans.Chosen.{Chosen}

abbrev pub pairs_of : List Chosen → List (ℕ × ℕ)
pairs_of cs = map (λ (c : Chosen). (c.call, c.effect)) cs
