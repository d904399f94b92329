use Rattle.std.proofs.Common.{sym}
use Rattle.bk_crc.specs.Slices.{after_zeros}
use Rattle.bk_crc.proofs.Linear.{byte_step-low}
use Rattle.bk_crc.proofs.register.after_byte.Goals as goal

pub returns : goal.returns
unfolding after_zeros
returns c = rw (c.entry.ensures, c.to_le_bytes.ensures) (sym (byte_step-low c.args.register c.args.byte))
