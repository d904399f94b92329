use Rattle.bk_crc.proofs.Table.{SLICES-at}
use Rattle.bk_crc.proofs.slices.entry.Goals as goal

pub returns : goal.returns
returns c = SLICES-at c.args.slice c.args.byte _ c.requires c.ranges.byte.fits
