-- That a crash left no torn bytes which by chance are a record.
use Rattle.std.specs.Prelude.{◌≡◌, ℕ, ◌<◌, ◌≤◌, false, List, ◌++◌, length, drop, Some}
use Rattle.std.specs.List.{AllByRecursion}
use Rattle.bk_base.specs.declared.names.Name.{Name}
use Rattle.bk_base.specs.declared.writes.Write.{Write}
use Rattle.bk_disk.specs.Told.{Front, Image, Table, at, bytes_of}
use Rattle.bk_laws.specs.Record.{IsWritable, NoRecord, records_of}

-- the bytes begin with these
abbrev pub Begins : List ℕ → List ℕ → Type 0
Begins bytes front = bytes ≡ front ++ drop (length front) bytes

-- Both the bytes that were handed over and those that were left begin with the records of these
-- writes.
pub record IsKept (handed left : List ℕ) (run : List Write) : Type 0 where
  pub fit : AllByRecursion IsWritable run
  pub was : Begins handed (records_of run)
  pub is : Begins left (records_of run)

-- no longer run of records was kept
pub record IsRun (handed left : List ℕ) (run : List Write) : Type 0 where
  pub kept : IsKept handed left run
  pub longest : (other : List Write) → IsKept handed left other
      → length (records_of other) ≤ length (records_of run)

-- Behind the records that were kept no record stands.
abbrev pub NoChanceIn : List ℕ → List ℕ → Type 0
NoChanceIn handed left = (run : List Write) → IsRun handed left run
    → NoRecord (drop (length (records_of run)) left)

-- It is said of each file that bytes were handed to since its last good sync. Only there a crash
-- can tear a record. What was handed counts in full, that of a failed append and what was cut away
-- too.
abbrev pub NoChance : Table Front → Image → Type 0
NoChance fronts image = (n : Name) (f : Front) → at fronts n ≡ Some f → f.lent ≡ false
    → 0 < length f.pending
    → NoChanceIn (f.synced ++ f.pending) (bytes_of n image)
