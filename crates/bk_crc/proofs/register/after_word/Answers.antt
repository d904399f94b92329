use Rattle.std.proofs.Common.{sym}
use Rattle.bk_crc.proofs.Words.{after_zeros-word}
use Rattle.bk_crc.proofs.register.after_word.Goals as goal

pub returns : goal.returns
returns c =
    rw (
      c.entry.ensures,
      c.entry-2.ensures,
      c.entry-3.ensures,
      c.entry-4.ensures,
      c.entry-5.ensures,
      c.entry-6.ensures,
      c.entry-7.ensures,
      c.entry-8.ensures,
      c.to_le_bytes.ensures,
    )
    (sym (after_zeros-word c.args.zeros c.args.word c.ranges.word.fits))
