-- The log that the counted files hold, and hints that tell the truth of their files.
use Rattle.std.specs.Prelude.{◌≡◌, ℕ, List, [], ◌∷◌, ◌++◌, length, Some}
use Rattle.bk_base.specs.declared.names.Name.{Name}
use Rattle.bk_base.specs.declared.writes.Write.{Write}
use Rattle.bk_laws.specs.Log.{IsLog, SameMap}
use Rattle.bk_laws.specs.Record.{AreRecords, records_of}
use Rattle.bk_laws.specs.Hint.{Hinted, IsGood, rows_from}
use Rattle.bk_image.specs.Readings.{Books, In, Reading, bytes_in, hint}
use Rattle.bk_image.specs.CountedFiles.{Counts}

-- no two of the writes have one seq
abbrev pub AreOnce : List Write → Type 0
AreOnce [] = Unit {0}
AreOnce (w ∷ ws) = ((x : Write) → In x ws → w.seq ≡ x.seq → ⊥) × AreOnce ws

-- The log has exactly the writes of the counted files, and no seq stands in them twice. The records
-- of one file need not stand in the order of their seqs: those that a merge wrote may not. Nothing
-- is said of files that don't count.
pub record Recovers (r : Reading) (books : Books) (log : List Write) : Type 0 where
  -- a file's writes are those of its records, from its front on
  pub reads : (n : Name) → Counts r n → AreRecords (bytes_in r n) (books n)
  pub once : (n : Name) → Counts r n → AreOnce (books n)
  -- no write stands in two files
  pub apart : (n m : Name) (w : Write) → Counts r n → Counts r m → In w (books n) → In w (books m)
      → n ≡ m
  pub rising : IsLog log
  pub from : (w : Write) → In w log → (n : Name) × Counts r n × In w (books n)
  pub all : (n : Name) (w : Write) → Counts r n → In w (books n) → In w log

-- Where the hint is Good for a data file of this length, its rows are those of the file's first
-- records, and it covers just these.
pub record HintRows (covered : ℕ) (rows : List Hinted) (writes : List Write) : Type 0 where
  pub first : List Write
  pub later : List Write
  pub whole : writes ≡ first ++ later
  pub rows_are : rows ≡ rows_from 0 first
  pub covers : covered ≡ length (records_of first)

abbrev pub HintTrue : List ℕ → ℕ → List Write → Type 0
HintTrue bytes len writes = (covered : ℕ) (rows : List Hinted) → IsGood bytes len covered rows
    → HintRows covered rows writes

abbrev pub HintsTrue : Reading → Books → Type 0
HintsTrue r books = (n : Name) (bytes : List ℕ) → Counts r n → r (hint n.id) ≡ Some bytes
    → HintTrue bytes (length (bytes_in r n)) (books n)

-- The files hold a log that has the map of this one. They may lack writes that no longer matter,
-- and have none besides.
pub record Safe (r : Reading) (books : Books) (log : List Write) : Type 0 where
  pub base : List Write
  pub recovers : Recovers r books base
  pub hints : HintsTrue r books
  pub same_map : SameMap base log
  pub within : (w : Write) → In w base → In w log
