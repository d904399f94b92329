use Rattle.std.proofs.Common.{ℕ, List}
use Rattle.bk_laws.specs.Hint.{Hinted, RowsLeft}
use Rattle.test_formats.proofs.hints.versions_in.Given as goal

-- rows are left behind those that were read
abbrev pub invariant-loop : goal.invariant-loop
invariant-loop g l = (covered : ℕ) × (rows : List Hinted) × RowsLeft l.bytes l.reader.at covered rows
