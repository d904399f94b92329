use Rattle.std.proofs.Common.{◌≡◌, ◌∙◌, ap, arith, length, refl, sym, List, [], ℕ, Bool, true, false}
use Rattle.std.specs.Int.{w32, from_be_bytes}
use Rattle.std.proofs.lemmas.List.{append-nil}
use Rattle.bk_base.specs.declared.numbers.FileId.{FileId}
use Rattle.bk_base.specs.declared.writes.Version.{Version}
use Rattle.bk_base.specs.declared.writes.Write.{Write}
use Rattle.bk_laws.specs.Record.{IsWritable, checksum_of, record_of, size_of}
use Rattle.bk_laws.specs.Version.{is_tombstone, version_at}
use Rattle.bk_laws.proofs.RecordBytes.{length-record_of, length_bound}
use Rattle.bk_record.specs.Header.{header_of}
use Rattle.bk_record.proofs.Headers.{header_of-record_of}
use Rattle.bk_store.proofs.writing.version_of.Goals as goal

pub overflow_cast-result : goal.overflow_cast-result
overflow_cast-result c =
    omega (
      arith,
      ap length c.requires.text,
      length-record_of c.args.write.now,
      c.requires.fits.key.bounds.short,
      length_bound c.args.write.now.body c.requires.fits.body,
    )

pub checksum-requires : goal.checksum-requires
checksum-requires c = omega (arith, ap length c.requires.text, length-record_of c.args.write.now)

-- the checksum stands in front
front_says : (w : Write) (text : List ℕ) → IsWritable w → text ≡ record_of w → from_be_bytes w32 text ≡ checksum_of w
unfolding header_of
front_says w text fits is =
    ap (from_be_bytes w32) (is ∙ sym (append-nil (record_of w))) ∙ (header_of-record_of w [] fits).crc

version_is : (w : Write) (file : FileId) (at size crc : ℕ) (gone : Bool) → size ≡ size_of w → crc ≡ checksum_of w
    → gone ≡ is_tombstone w.body
    → ◌≡◌ {A = Version}
    (record { seq = w.seq; at = at; moment = w.moment; file = file; size = size; crc = crc; gone = gone })
    (version_at file at w)
version_is w file at size crc gone p q r = rw (p, q, r) refl

pub returns-in-Gone : goal.returns-in-Gone
returns-in-Gone c =
    let w = c.args.write.now in
    version_is w c.args.place.file c.args.place.at (length c.args.text.now) c.checksum.result true
    (ap length c.requires.text ∙ length-record_of w)
    (c.checksum.ensures ∙ front_says w c.args.text.now c.requires.fits c.requires.text)
    (sym (ap is_tombstone c.in-Gone.is))

pub returns-in_default : goal.returns-in_default
returns-in_default c =
    let w = c.args.write.now in
    version_is w c.args.place.file c.args.place.at (length c.args.text.now) c.checksum.result false
    (ap length c.requires.text ∙ length-record_of w)
    (c.checksum.ensures ∙ front_says w c.args.text.now c.requires.fits c.requires.text)
    (sym (ap is_tombstone c.in_default.is))
