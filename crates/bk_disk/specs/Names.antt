-- The test whether two names are the same.
use Rattle.std.specs.Prelude.{ℕ, ◌==◌, ◌&&◌, Bool}
use Rattle.bk_base.specs.declared.names.Name.{Name}
use Rattle.bk_base.specs.declared.names.Kind.{Kind}
use Rattle.bk_base.specs.declared.names.Kind.TheVariants.{Main, MainTemp, Hint, HintTemp, Swap, SwapTemp, Settings}

abbrev pub kind_number : Kind → ℕ
kind_number Main = 0
kind_number MainTemp = 1
kind_number Hint = 2
kind_number HintTemp = 3
kind_number Swap = 4
kind_number SwapTemp = 5
kind_number Settings = 6

unfoldable pub same : Name → Name → Bool
same m n = (m.id == n.id) && (kind_number m.kind == kind_number n.kind)
