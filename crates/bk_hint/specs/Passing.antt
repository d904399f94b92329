-- What a writer and a reader of hints have come to.
use Rattle.std.specs.Prelude.{◌≡◌, ℕ, ◌+◌, ◌-◌, ◌^◌, ◌<◌, ◌≤◌, if◌then◌else◌, true, List, [], ◌∷◌, length, Option, Some, None}
use Rattle.bk_base.specs.declared.limits.TheConstants.{HINT_HEADER, LONGEST_VALUE, RECORD_HEADER, TOMBSTONE}
use Rattle.bk_base.specs.declared.numbers.FileId.{FileId}
use Rattle.bk_base.specs.declared.writes.Version.{Version}
use Rattle.bk_crc.specs.Crc.{register_after, start_register}
use Rattle.bk_laws.specs.Hint.{Hinted, RowsLeft, rows_text, version_in}
use Rattle.bk_hint.specs.declared.rows.HintRow.{HintRow}

-- how many rows were written, and the register of the CRC behind them
pub record Written : Type 0 where
  pub rows : ℕ
  pub register : ℕ

-- these rows were written
pub record HasWritten (w : Written) (rows : List Hinted) : Type 0 where
  pub number : length rows < 2 ^ 64 → w.rows ≡ length rows
  pub check : w.register ≡ register_after start_register (rows_text rows)

-- where in a hint's bytes the next row begins, and whose hint it is
pub record Reading : Type 0 where
  pub file : FileId
  pub at : ℕ

-- The size is that of a record with this key: a value of at most 16,777,216 bytes, none for a tombstone.
pub record HasSize (v : Version) (key : List ℕ) : Type 0 where
  pub least : RECORD_HEADER + length key ≤ v.size
  pub most : v.size ≤ RECORD_HEADER + length key + LONGEST_VALUE
  pub none : v.gone ≡ true → v.size ≡ RECORD_HEADER + length key

-- the row of a version and its key
abbrev pub row_of : HintRow → Hinted
row_of row = record {
  moment = row.version.moment.0;
  vsz = if row.version.gone then TOMBSTONE else row.version.size - (RECORD_HEADER + length row.key);
  at = row.version.at;
  seq = row.version.seq.0;
  crc = row.version.crc;
  key = row.key;
}

-- The next row is given, as a version and its key, and the reader stands behind it, before the others;
-- or none is left.
abbrev pub Gives : List ℕ → Reading → Reading → Option (Version × List ℕ) → ℕ → List Hinted → Type 0
Gives bytes old new None covered rows = (rows ≡ []) × (new ≡ old)
Gives bytes old new (Some given) covered rows =
    (r : Hinted) × (later : List Hinted) × (rows ≡ r ∷ later) × (given.0 ≡ version_in old.file r)
    × (given.1 ≡ r.key) × (new ≡ record { file = old.file; at = old.at + (HINT_HEADER + length r.key) })
    × RowsLeft bytes new.at covered later
