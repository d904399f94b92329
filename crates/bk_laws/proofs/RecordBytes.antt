-- The bytes of a record: that they are bytes, how many they are, and that its checksum fits its field.
use Rattle.std.proofs.Common.{◌≡◌, ◌^◌, ◌<◌, ◌≤◌, ◌++◌, length, refl, arith}
use Rattle.std.specs.Int.{w16, w32, w64, to_be_bytes}
use Rattle.std.proofs.lemmas.Bool.Decides.{nat_tests}
use Rattle.std.proofs.lemmas.List.{length-append}
use Rattle.bk_base.specs.Bounds.{AreBytes}
use Rattle.bk_base.specs.declared.limits.TheConstants.{LONGEST_VALUE}
use Rattle.bk_base.specs.declared.writes.Write.{Write}
use Rattle.bk_base.specs.declared.writes.Body.{Body}
use Rattle.bk_base.specs.declared.writes.Body.TheVariants.{Put, Gone}
use Rattle.bk_base.proofs.Bytes.{AreBytes-append, All-from_AreBytes}
use Rattle.bk_base.proofs.FixedWidth.{AreBytes-to_be_bytes_2, AreBytes-to_be_bytes_4, AreBytes-to_be_bytes_8}
use Rattle.bk_crc.proofs.Bounds.{crc_of-lt}
use Rattle.bk_laws.specs.Record.{IsWritable, FitsBody, checksum_of, covered_of, fields_of, is_tombstone_field, record_of}
use Rattle.bk_laws.specs.Record.{size_of, value_field, value_length, value_of}
use Rattle.bk_laws.specs.Version.{is_tombstone}

pub length-record_of : (w : Write) → length (record_of w) ≡ size_of w
unfolding record_of covered_of fields_of
length-record_of w = omega (arith, length-append w.key (value_of w.body))

pub length_said : (b : Body) → FitsBody b → value_length (value_field b) ≡ length (value_of b)
length_said (Put value) fits = let bound : length value ≤ LONGEST_VALUE = fits.bounds in grind (arith, nat_tests)
length_said Gone fits = refl

pub length_bound : (b : Body) → FitsBody b → length (value_of b) ≤ LONGEST_VALUE
length_bound (Put value) fits = fits.bounds
length_bound Gone fits = omega arith

pub tombstone_said : (b : Body) → FitsBody b → is_tombstone_field (value_field b) ≡ is_tombstone b
tombstone_said (Put value) fits = let bound : length value ≤ LONGEST_VALUE = fits.bounds in grind (arith, nat_tests)
tombstone_said Gone fits = refl

pub field_fits : (b : Body) → FitsBody b → value_field b < 2 ^ 32
field_fits (Put value) fits = let bound : length value ≤ LONGEST_VALUE = fits.bounds in omega arith
field_fits Gone fits = omega arith

value_fits : (b : Body) → FitsBody b → AreBytes (value_of b)
value_fits (Put value) fits = fits.bytes
value_fits Gone fits = λ i. omega arith

pub AreBytes-fields_of : (w : Write) → AreBytes (fields_of w)
unfolding fields_of
AreBytes-fields_of w =
    let moment = to_be_bytes w32 w.moment.0 in
    let ksz = to_be_bytes w16 (length w.key) in
    let vsz = to_be_bytes w32 (value_field w.body) in
    let sizes = AreBytes-append moment ksz (AreBytes-to_be_bytes_4 w.moment.0) (AreBytes-to_be_bytes_2 (length w.key)) in
    let all_but_seq = AreBytes-append (moment ++ ksz) vsz sizes (AreBytes-to_be_bytes_4 (value_field w.body)) in
    AreBytes-append (moment ++ ksz ++ vsz) (to_be_bytes w64 w.seq.0) all_but_seq (AreBytes-to_be_bytes_8 w.seq.0)

pub AreBytes-covered_of : (w : Write) → IsWritable w → AreBytes (covered_of w)
unfolding covered_of
AreBytes-covered_of w fits =
    let front = AreBytes-append (fields_of w) w.key (AreBytes-fields_of w) fits.key.bytes in
    AreBytes-append (fields_of w ++ w.key) (value_of w.body) front (value_fits w.body fits.body)

pub checksum_of-lt : (w : Write) → IsWritable w → checksum_of w < 2 ^ 32
unfolding checksum_of
checksum_of-lt w fits = crc_of-lt (covered_of w) (All-from_AreBytes (covered_of w) (AreBytes-covered_of w fits))

pub AreBytes-record_of : (w : Write) → IsWritable w → AreBytes (record_of w)
unfolding record_of
AreBytes-record_of w fits =
    AreBytes-append (to_be_bytes w32 (checksum_of w)) (covered_of w)
    (AreBytes-to_be_bytes_4 (checksum_of w)) (AreBytes-covered_of w fits)
