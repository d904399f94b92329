-- What the header of a row says.
use Rattle.std.specs.Prelude.{◌≡◌, ℕ, ◌+◌, ◌≤◌, List, ◌++◌, length, drop}
use Rattle.std.specs.Int.{w16, w32, w64, from_be_bytes}
use Rattle.bk_base.specs.declared.limits.TheConstants.{LONGEST_VALUE, RECORD_HEADER}
use Rattle.bk_laws.specs.Record.{IsSeq, value_length}
use Rattle.bk_laws.specs.Hint.{FitsRow, Hinted, head_text, row_text}
use Rattle.bk_hint.specs.declared.headers.Header.{Header}

-- the numbers of the first 30 bytes, each from where its field begins
unfoldable pub header_of : List ℕ → Header
header_of bytes = record {
  at = from_be_bytes w64 (drop 10 bytes);
  seq = from_be_bytes w64 (drop 18 bytes);
  moment = record { 0 = from_be_bytes w32 bytes };
  vsz = from_be_bytes w32 (drop 6 bytes);
  crc = from_be_bytes w32 (drop 26 bytes);
  ksz = from_be_bytes w16 (drop 4 bytes);
}

-- the bytes of a header
abbrev pub text_of : Header → List ℕ
text_of h = head_text h.moment.0 h.ksz h.vsz h.at h.seq h.crc

-- the numbers are those of an end mark behind so many rows
pub record IsMark (rows : ℕ) (h : Header) : Type 0 where
  pub moment : h.moment.0 ≡ 0
  pub key : h.ksz ≡ 0
  pub value : h.vsz ≡ 0
  pub count : h.seq ≡ rows

-- how many bytes the record has by its row
abbrev pub record_size : Header → ℕ
record_size h = RECORD_HEADER + h.ksz + value_length h.vsz

-- the row tells of a record that may stand within the covered length
pub record IsSoundHeader (covered : ℕ) (h : Header) : Type 0 where
  pub seq : IsSeq h.seq
  pub value : value_length h.vsz ≤ LONGEST_VALUE
  pub within : h.at + record_size h ≤ covered

-- the row by its header and its key
abbrev pub row_in : Header → List ℕ → Hinted
row_in h key = record {
  moment = h.moment.0;
  vsz = h.vsz;
  at = h.at;
  seq = h.seq;
  crc = h.crc;
  key = key;
}

-- the header of a row
abbrev pub head_of : Hinted → Header
head_of r = record {
  at = r.at;
  seq = r.seq;
  moment = record { 0 = r.moment };
  vsz = r.vsz;
  crc = r.crc;
  ksz = length r.key;
}

-- the row stands at the front of the bytes, and the rest follows it
pub record RowStands (bytes : List ℕ) (r : Hinted) (rest : List ℕ) : Type 0 where
  pub fits : FitsRow r
  pub whole : bytes ≡ row_text r ++ rest

-- no row stands at the front of the bytes
abbrev pub NoRow : List ℕ → Type 0
NoRow bytes = (r : Hinted) (rest : List ℕ) → RowStands bytes r rest → ⊥

-- the first row, as it was found: its header and its key, and what follows
pub record IsFirstRow (bytes : List ℕ) (h : Header) (key rest : List ℕ) : Type 0 where
  pub stands : RowStands bytes (row_in h key) rest
  pub key_length : length key ≡ h.ksz
