-- What `decode` answers, and where each refusal comes.
use Rattle.std.specs.Prelude.{◌≡◌, ◌≢◌, ℕ, ◌<◌, ◌≤◌, nat_lt, if◌then◌else◌, List, [], length, take, drop}
use Rattle.bk_base.specs.declared.limits.TheConstants.{CHECKSUM, RECORD_HEADER}
use Rattle.bk_base.specs.declared.writes.Write.{Write}
use Rattle.bk_crc.specs.Crc.{crc_of}
use Rattle.bk_laws.specs.Record.{RecordStands, checksum_of, size_of}
use Rattle.bk_laws.specs.Version.{is_tombstone}
use Rattle.bk_record.specs.declared.decoding.Decoded.{Decoded}
use Rattle.bk_record.specs.declared.decoding.DecodedKey.{DecodedKey}
use Rattle.bk_record.specs.declared.decoding.Stop.{Stop}
use Rattle.bk_record.specs.declared.decoding.Stop.TheVariants.{End, Short, BadCheck, BadField, Memory}
use Rattle.bk_record.specs.declared.header.Header.{Header}
use Rattle.bk_record.specs.Header.{IsSound, header_of, said_size}

-- how many bytes are needed: those of a header, and then as many as its sizes say
abbrev pub needed : List ℕ → ℕ
needed bytes = if nat_lt (length bytes) RECORD_HEADER then RECORD_HEADER else said_size (header_of bytes)

-- the checksum of what stands behind the checksum's field, as far as the sizes say
abbrev pub computed_of : List ℕ → ℕ
computed_of bytes = crc_of (drop CHECKSUM (take (said_size (header_of bytes)) bytes))

-- the header at the front of the bytes, and the text that has as many bytes as its sizes say
pub record IsWhole (bytes : List ℕ) (h : Header) (text : List ℕ) : Type 0 where
  pub long : RECORD_HEADER ≤ length bytes
  pub header : h ≡ header_of bytes
  pub sizes : said_size (header_of bytes) ≤ length bytes
  pub is_text : text ≡ take (said_size (header_of bytes)) bytes

-- and its checksum is the one that is stored, and its header that of some write
pub record IsChecked (bytes : List ℕ) (h : Header) (text : List ℕ) : Type 0 where
  pub whole : IsWhole bytes h text
  pub check : h.crc ≡ crc_of (drop 4 text)
  pub sound : IsSound h

-- Where each refusal comes. No two of them come at the same bytes.
abbrev pub IsStop : List ℕ → Stop → Type 0
IsStop bytes End = bytes ≡ []
IsStop bytes Short = (0 < length bytes) × (length bytes < needed bytes)
IsStop bytes (BadCheck stored computed) =
    (needed bytes ≤ length bytes) × (stored ≡ (header_of bytes).crc) × (computed ≡ computed_of bytes) × (stored ≢ computed)
IsStop bytes BadField =
    (needed bytes ≤ length bytes) × ((header_of bytes).crc ≡ computed_of bytes) × (IsSound (header_of bytes) → ⊥)
IsStop bytes Memory = (w : Write) × (rest : List ℕ) × RecordStands bytes w rest

-- the record at the front of the bytes, with its size and its checksum
pub record IsDecoded (bytes : List ℕ) (d : Decoded) : Type 0 where
  pub stands : RecordStands bytes d.write (drop d.size bytes)
  pub size : d.size ≡ size_of d.write
  pub crc : d.crc ≡ checksum_of d.write

-- what is said of a write without its value
abbrev pub without_value : Write → DecodedKey
without_value w = record {
  key = w.key;
  seq = w.seq;
  moment = w.moment;
  size = size_of w;
  crc = checksum_of w;
  gone = is_tombstone w.body;
}

-- the record at the front of the bytes, without its value
pub record IsKeyDecoded (bytes : List ℕ) (d : DecodedKey) : Type 0 where
  pub write : Write
  pub stands : RecordStands bytes write (drop d.size bytes)
  pub says : d ≡ without_value write
