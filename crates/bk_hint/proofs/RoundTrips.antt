-- What was written is read again.
use Rattle.std.proofs.Common.{◌≡◌, ℕ, ◌+◌, ◌-◌, ◌^◌, ◌<◌, ◌≤◌, Bool, true, false, cond, eqb, List, [], ◌∷◌, length}
use Rattle.std.proofs.Common.{refl, ap, ◌∙◌, arith}
use Rattle.std.specs.List.{AllByRecursion}
use Rattle.std.proofs.lemmas.Bool.Decides.{nat_tests}
use Rattle.std.proofs.lemmas.List.{length-append}
use Rattle.bk_base.specs.Bounds.{AreBytes}
use Rattle.bk_base.specs.declared.limits.TheConstants.{LONGEST_VALUE, RECORD_HEADER, TOMBSTONE}
use Rattle.bk_base.specs.declared.numbers.FileId.{FileId}
use Rattle.bk_base.specs.declared.writes.Write.{Write}
use Rattle.bk_crc.specs.Crc.{crc_of}
use Rattle.bk_crc.proofs.Bounds.{crc_of-lt}
use Rattle.bk_laws.specs.Hint.{FitsRow, Hinted, IsGood, IsSoundRow, RowsLeft, hint_text}
use Rattle.bk_laws.specs.Hint.{row_from, row_text, rows_from, rows_text, text_with, told_by, version_in}
use Rattle.bk_laws.specs.Version.{placed_from, version_at}
use Rattle.bk_laws.specs.Record.{is_tombstone_field, value_length}
use Rattle.bk_laws.specs.Record.{IsSeq, IsWritable, record_of, records_of, size_of}
use Rattle.bk_hint.specs.declared.rows.HintRow.{HintRow}
use Rattle.bk_hint.specs.Headers.{head_of, text_of}
use Rattle.bk_hint.specs.Passing.{HasSize, row_of}
use Rattle.bk_base.proofs.Bytes.{AreBytes-append, All-from_AreBytes}
use Rattle.bk_hint.proofs.Heads.{AreBytes-head_text}
use Rattle.bk_hint.proofs.HintTexts.{one_hint}
use Rattle.bk_laws.proofs.RecordBytes.{checksum_of-lt, field_fits, length-record_of, length_bound, length_said, tombstone_said}

-- ---- rows

AreBytes-row_text : (r : Hinted) → FitsRow r → AreBytes (row_text r)
unfolding row_text
AreBytes-row_text r fits =
    AreBytes-append (text_of (head_of r)) r.key
    (AreBytes-head_text r.moment (length r.key) r.vsz r.at r.seq r.crc) fits.key.bytes

AreBytes-rows_text : (rows : List Hinted) → AllByRecursion FitsRow rows → AreBytes (rows_text rows)
AreBytes-rows_text [] fit = λ i. omega arith
AreBytes-rows_text (r ∷ rs) fit =
    AreBytes-append (row_text r) (rows_text rs) (AreBytes-row_text r fit.0) (AreBytes-rows_text rs fit.1)

pub rows_are_good : (covered len : ℕ) (rows : List Hinted) → AllByRecursion FitsRow rows
    → AllByRecursion (IsSoundRow covered) rows → length rows < 2 ^ 64
    → covered ≤ len → covered < 2 ^ 64 → IsGood (text_with covered rows) len covered rows
rows_are_good covered len rows fit sound few within small = record {
  hint = record {
    fit = fit;
    covered_fits = small;
    count_fits = few;
    crc_fits = crc_of-lt (rows_text rows) (All-from_AreBytes (rows_text rows) (AreBytes-rows_text rows fit));
    whole = refl;
  };
  within = within;
  sound = sound;
}

pub one_reading : (bytes : List ℕ) (m n covered other : ℕ) (rows more : List Hinted)
    → IsGood bytes m covered rows → IsGood bytes n other more → (covered ≡ other) × (rows ≡ more)
one_reading bytes m n covered other rows more p q =
    let same = one_hint bytes covered other rows more _ _ p.hint q.hint in (same.covered_is, same.rows_are)

pub good_rows : (bytes : List ℕ) (len covered : ℕ) (rows : List Hinted)
    → IsGood bytes len covered rows → RowsLeft bytes 0 covered rows
good_rows bytes len covered rows good = record {
  count = length rows;
  crc = crc_of (rows_text rows);
  fit = good.hint.fit;
  sound = good.sound;
  here = omega arith;
  left = good.hint.whole;
}

-- ---- the rows of a file's records

row_fits : (at : ℕ) (w : Write) → IsWritable w → at < 2 ^ 64 → FitsRow (row_from at w)
row_fits at w fits small =
    record {
      moment = fits.moment;
      vsz = field_fits w.body fits.body;
      at = small;
      seq = omega (arith, fits.seq.1);
      crc = checksum_of-lt w fits;
      key = fits.key;
    }

row_sound : (at covered : ℕ) (w : Write) → IsWritable w → at + size_of w ≤ covered → IsSoundRow covered (row_from at w)
row_sound at covered w fits within =
    let said = length_said w.body fits.body in
    record {
      seq = fits.seq;
      value = omega (arith, said, length_bound w.body fits.body);
      within = omega (arith, said);
    }

size_first : (w : Write) (ws : List Write) → length (records_of (w ∷ ws)) ≡ size_of w + length (records_of ws)
size_first w ws =
    length-append (record_of w) (records_of ws) ∙ ap (λ (n : ℕ). n + length (records_of ws)) (length-record_of w)

rows_fit : (at : ℕ) (ws : List Write) → AllByRecursion IsWritable ws → at + length (records_of ws) < 2 ^ 64
    → AllByRecursion FitsRow (rows_from at ws)
rows_fit at [] fit small = tt
rows_fit at (w ∷ ws) fit small =
    let size = size_first w ws in
    (row_fits at w fit.0 (omega arith), rows_fit (at + size_of w) ws fit.1 (omega (arith, size)))

rows_sound : (at covered : ℕ) (ws : List Write) → AllByRecursion IsWritable ws
    → at + length (records_of ws) ≤ covered → AllByRecursion (IsSoundRow covered) (rows_from at ws)
rows_sound at covered [] fit within = tt
rows_sound at covered (w ∷ ws) fit within =
    let size = size_first w ws in (
      row_sound at covered w fit.0 (omega (arith, size)),
      rows_sound (at + size_of w) covered ws fit.1 (omega (arith, size)),
    )

rows_few : (at : ℕ) (ws : List Write) → length (rows_from at ws) ≤ length (records_of ws)
rows_few at [] = omega arith
rows_few at (w ∷ ws) = omega (arith, size_first w ws, rows_few (at + size_of w) ws)

pub written_is_good : (writes : List Write) (len : ℕ) → AllByRecursion IsWritable writes
    → length (records_of writes) ≤ len → len < 2 ^ 64
    → IsGood (hint_text writes) len (length (records_of writes)) (rows_from 0 writes)
written_is_good writes len fit within small =
    let covered = length (records_of writes) in
    rows_are_good covered len (rows_from 0 writes) (rows_fit 0 writes fit (omega arith))
    (rows_sound 0 covered writes fit (omega arith)) (omega (arith, rows_few 0 writes)) within (omega arith)

pub told_record : (file : FileId) (at : ℕ) (w : Write) → IsWritable w
    → version_in file (row_from at w) ≡ version_at file at w
told_record file at w fits =
    let size : RECORD_HEADER + length w.key + value_length (row_from at w).vsz ≡ size_of w =
    omega (arith, length_said w.body fits.body) in
    let gone = tombstone_said w.body fits.body in
    λ i. record (version_at file at w) { size = size i; gone = gone i }

pub told_records : (file : FileId) (at : ℕ) (writes : List Write) → AllByRecursion IsWritable writes
    → told_by file (rows_from at writes) ≡ placed_from file at writes
told_records file at [] fit = refl
told_records file at (w ∷ ws) fit =
    let first = told_record file at w fit.0 in
    let rest = told_records file (at + size_of w) ws fit.1 in
    λ i. (w.key, first i) ∷ rest i

-- ---- rows that are added one by one

-- the field of the value's length, and what it says
record Says (gone : Bool) (size least : ℕ) : Type 0 where
  pub length_is : value_length (cond gone TOMBSTONE (size - least)) + least ≡ size
  pub gone_is : is_tombstone_field (cond gone TOMBSTONE (size - least)) ≡ gone
  pub bound : value_length (cond gone TOMBSTONE (size - least)) ≤ LONGEST_VALUE

says : (gone : Bool) (size least : ℕ) → least ≤ size → size ≤ least + LONGEST_VALUE
    → (gone ≡ true → size ≡ least) → Says gone size least
says true size least low high none = record {
  length_is = omega (arith, none refl);
  gone_is = refl;
  bound = omega arith;
}
says false size least low high none =
    let no : eqb (size - least) TOMBSTONE ≡ false = grind (arith, nat_tests) in
    record { length_is = rw no (omega arith); gone_is = no; bound = rw no (omega arith) }

pub added_is_sound : (row : HintRow) (covered : ℕ) → IsSeq row.version.seq.0 → HasSize row.version row.key
    → row.version.at + row.version.size ≤ covered → IsSoundRow covered (row_of row)
added_is_sound row covered seq has within =
    let v = row.version in
    let s = says v.gone v.size (RECORD_HEADER + length row.key) has.least has.most has.none in
    record { seq = seq; value = s.bound; within = omega (arith, s.length_is) }

pub told_again : (row : HintRow) → HasSize row.version row.key
    → version_in row.version.file (row_of row) ≡ row.version
told_again row has =
    let v = row.version in
    let s = says v.gone v.size (RECORD_HEADER + length row.key) has.least has.most has.none in
    let size : RECORD_HEADER + length row.key + value_length (row_of row).vsz ≡ v.size = omega (arith, s.length_is) in
    λ i. record v { size = size i; gone = s.gone_is i }
