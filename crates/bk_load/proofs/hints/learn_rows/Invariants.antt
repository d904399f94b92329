use Rattle.std.proofs.Common.{◌≡◌, ℕ, ◌-◌, List, length}
use Rattle.std.specs.List.{AllByRecursion}
use Rattle.bk_base.specs.declared.writes.Write.{Write}
use Rattle.bk_laws.specs.Hint.{Hinted, RowsLeft, rows_from}
use Rattle.bk_laws.specs.Record.{IsWritable}
use Rattle.bk_load.specs.Learning.{AreFit, KeepsWithin}
use Rattle.bk_load.proofs.HintRows.{Taking}
use Rattle.bk_load.proofs.hints.learn_rows.Given as goal

abbrev pub invariant-rows : goal.invariant-rows
invariant-rows l = record {
  left : (covered : ℕ) × (rows : List Hinted) × RowsLeft l.bytes l.reader.at covered rows;
  file : l.reader.file ≡ l.fn.file;
  kept : (covered : ℕ) (rows : List Hinted) → RowsLeft l.bytes 0 covered rows
      → (later : List Hinted) × RowsLeft l.bytes l.reader.at covered later
      × KeepsWithin l.fn.file covered l.initial.learned.keys.entries l.learned.keys.entries;
  fit : AreFit l.initial.learned → AreFit l.learned;
  so : (covered : ℕ) (writes : List Write) → RowsLeft l.bytes 0 covered (rows_from 0 writes)
      → AllByRecursion IsWritable writes → Taking l.bytes l.fn.file covered writes l.reader.at l.initial.learned l.learned;
}

abbrev pub decreases-rows : goal.decreases-rows
decreases-rows l = length l.bytes - l.reader.at
