-- The hint of a data file: a row for each of its records, in the file's order, and an end mark. So a
-- keydir can be filled without reading the values. Numbers are unsigned and big-endian:
--
--   bytes 0 to 3    the moment
--   bytes 4 to 5    the length of the key
--   bytes 6 to 9    the length of the value, or 4,294,967,295 for a tombstone
--   bytes 10 to 17  the place of the record in the data file
--   bytes 18 to 25  the seq
--   bytes 26 to 29  the checksum of the record
--   from 30 on      the key
--
-- The end mark is such a header with moment, key and value 0. In the place of the record's place
-- stands how much of the data file the hint covers, in that of the seq the number of rows, and in that
-- of the checksum the CRC-32 of all rows.
use Rattle.std.specs.Prelude.{◌≡◌, ℕ, ◌+◌, ◌^◌, ◌<◌, ◌≤◌, List, [], ◌∷◌, ◌++◌, length, map, drop}
use Rattle.std.specs.Int.{w16, w32, w64, to_be_bytes}
use Rattle.std.specs.List.{AllByRecursion, flat_map}
use Rattle.bk_base.specs.declared.limits.TheConstants.{LONGEST_VALUE, RECORD_HEADER}
use Rattle.bk_base.specs.declared.numbers.FileId.{FileId}
use Rattle.bk_base.specs.declared.writes.Version.{Version}
use Rattle.bk_base.specs.declared.writes.Write.{Write}
use Rattle.bk_crc.specs.Crc.{crc_of}
use Rattle.bk_laws.specs.Record.{IsSeq, checksum_of, is_tombstone_field, records_of, size_of, value_field, value_length}
use Rattle.bk_laws.specs.Wire.{FitsKey}

-- what a row says of one record
pub record Hinted : Type 0 where
  pub moment : ℕ
  -- the field of the value's length
  pub vsz : ℕ
  pub at : ℕ
  pub seq : ℕ
  pub crc : ℕ
  pub key : List ℕ

-- a header, by its six numbers in their order
unfoldable pub head_text : ℕ → ℕ → ℕ → ℕ → ℕ → ℕ → List ℕ
head_text moment ksz vsz at seq crc =
    to_be_bytes w32 moment ++ to_be_bytes w16 ksz ++ to_be_bytes w32 vsz ++ to_be_bytes w64 at
    ++ to_be_bytes w64 seq ++ to_be_bytes w32 crc

unfoldable pub row_text : Hinted → List ℕ
row_text r = head_text r.moment (length r.key) r.vsz r.at r.seq r.crc ++ r.key

abbrev pub rows_text : List Hinted → List ℕ
rows_text rows = flat_map row_text rows

-- the end mark, by what is covered, the number of rows and the checksum
abbrev pub mark_text : ℕ → ℕ → ℕ → List ℕ
mark_text covered count crc = head_text 0 0 0 covered count crc

-- the hint of these rows
abbrev pub text_with : ℕ → List Hinted → List ℕ
text_with covered rows = rows_text rows ++ mark_text covered (length rows) (crc_of (rows_text rows))

-- the row of a write whose record stands at this place
abbrev pub row_from : ℕ → Write → Hinted
row_from at w = record {
  moment = w.moment.0;
  vsz = value_field w.body;
  at = at;
  seq = w.seq.0;
  crc = checksum_of w;
  key = w.key;
}

-- the rows of writes whose records stand one after the other from this place on
abbrev pub rows_from : ℕ → List Write → List Hinted
rows_from at [] = []
rows_from at (w ∷ ws) = row_from at w ∷ rows_from (at + size_of w) ws

-- the hint of a data file that holds the records of these writes from its front
abbrev pub hint_text : List Write → List ℕ
hint_text writes = text_with (length (records_of writes)) (rows_from 0 writes)

-- a row that can be written: each number fits its field, and the key has a length that is no end mark's
pub record FitsRow (r : Hinted) : Type 0 where
  pub moment : r.moment < 2 ^ 32
  pub vsz : r.vsz < 2 ^ 32
  pub at : r.at < 2 ^ 64
  pub seq : r.seq < 2 ^ 64
  pub crc : r.crc < 2 ^ 32
  pub key : FitsKey r.key

-- The bytes are whole: these rows, and an end mark that names their number and stores this checksum,
-- be it right or wrong.
pub record IsHint (bytes : List ℕ) (covered : ℕ) (rows : List Hinted) (crc : ℕ) : Type 0 where
  pub fit : AllByRecursion FitsRow rows
  pub covered_fits : covered < 2 ^ 64
  pub count_fits : length rows < 2 ^ 64
  pub crc_fits : crc < 2 ^ 32
  pub whole : bytes ≡ rows_text rows ++ mark_text covered (length rows) crc

-- where the row's record ends
abbrev pub row_end : Hinted → ℕ
row_end r = r.at + (RECORD_HEADER + length r.key + value_length r.vsz)

-- the row tells of a record that may stand within the covered length
pub record IsSoundRow (covered : ℕ) (r : Hinted) : Type 0 where
  pub seq : IsSeq r.seq
  pub value : value_length r.vsz ≤ LONGEST_VALUE
  pub within : row_end r ≤ covered

-- The hint is good for a data file of this length: it is whole, its checksum is right, it covers no
-- more than the file, and each row is sound.
pub record IsGood (bytes : List ℕ) (len covered : ℕ) (rows : List Hinted) : Type 0 where
  pub hint : IsHint bytes covered rows (crc_of (rows_text rows))
  pub within : covered ≤ len
  pub sound : AllByRecursion (IsSoundRow covered) rows

-- these rows, each of them sound, and an end mark are left of a hint's bytes from a place on
pub record RowsLeft (bytes : List ℕ) (at covered : ℕ) (rows : List Hinted) : Type 0 where
  pub count : ℕ
  pub crc : ℕ
  pub fit : AllByRecursion FitsRow rows
  pub sound : AllByRecursion (IsSoundRow covered) rows
  pub here : at ≤ length bytes
  pub left : drop at bytes ≡ rows_text rows ++ mark_text covered count crc

-- the version that a row tells of
abbrev pub version_in : FileId → Hinted → Version
version_in file r = record {
  seq = record { 0 = r.seq };
  at = r.at;
  moment = record { 0 = r.moment };
  file = file;
  size = RECORD_HEADER + length r.key + value_length r.vsz;
  crc = r.crc;
  gone = is_tombstone_field r.vsz;
}

-- what rows tell of the keys of a file
abbrev pub told_by : FileId → List Hinted → List (List ℕ × Version)
told_by file rows = map (λ (r : Hinted). (r.key, version_in file r)) rows
