-- The header of a record says the write's numbers.
use Rattle.std.proofs.Common.{◌≡◌, ℕ, ◌≤◌, List, ◌++◌, length, arith}
use Rattle.std.proofs.lemmas.Nat.{from_be_bytes-to_be_bytes_2, from_be_bytes-to_be_bytes_4, from_be_bytes-to_be_bytes_8}
use Rattle.bk_base.specs.declared.limits.TheConstants.{LONGEST_KEY}
use Rattle.bk_base.specs.declared.writes.Write.{Write}
use Rattle.bk_laws.proofs.RecordBytes.{checksum_of-lt, field_fits}
use Rattle.bk_laws.specs.Record.{IsWritable, checksum_of, covered_of, fields_of, record_of, value_field}
use Rattle.bk_record.specs.Header.{header_of}

-- what the header of a record says
pub record HeaderSays (bytes : List ℕ) (w : Write) : Type 0 where
  pub crc : (header_of bytes).crc ≡ checksum_of w
  pub moment : (header_of bytes).moment.0 ≡ w.moment.0
  pub ksz : (header_of bytes).ksz ≡ length w.key
  pub vsz : (header_of bytes).vsz ≡ value_field w.body
  pub seq : (header_of bytes).seq ≡ w.seq.0

pub header_of-record_of : (w : Write) (rest : List ℕ) → IsWritable w → HeaderSays (record_of w ++ rest) w
unfolding header_of record_of covered_of fields_of
header_of-record_of w rest fits = record {
  crc = from_be_bytes-to_be_bytes_4 (checksum_of w) (checksum_of-lt w fits);
  moment = from_be_bytes-to_be_bytes_4 w.moment.0 fits.moment;
  ksz = let bound : length w.key ≤ LONGEST_KEY = fits.key.bounds.short in from_be_bytes-to_be_bytes_2 (length w.key) (omega arith);
  vsz = from_be_bytes-to_be_bytes_4 (value_field w.body) (field_fits w.body fits.body);
  seq = from_be_bytes-to_be_bytes_8 w.seq.0 (omega (arith, fits.seq.1));
}
