-- What was learned from the records of a file.
use Rattle.std.specs.Prelude.{◌≡◌, ℕ, ◌+◌, List, length}
use Rattle.bk_base.specs.declared.numbers.FileId.{FileId}
use Rattle.bk_base.specs.declared.writes.Write.{Write}
use Rattle.bk_laws.specs.Record.{records_of}
use Rattle.bk_laws.specs.Version.{placed_from}
use Rattle.bk_load.specs.Learning.{Grows, Known, Learns, greatest}

-- The records of these writes stand from one place of the file to the other, and were learned.
pub record HasScanned (file : FileId) (from : ℕ) (writes : List Write) (end : ℕ) (j k : Known) : Type 0 where
  pub ends : end ≡ from + length (records_of writes)
  pub learns : Learns (placed_from file from writes) j.keys.entries k.keys.entries
  pub grows : Grows file.0 (length (records_of writes)) j.keys.entries k.keys.entries
  pub last : k.last ≡ greatest j.last writes
