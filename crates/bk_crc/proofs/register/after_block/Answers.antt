use Rattle.bk_crc.proofs.Words.{register_after-words, bytes_within}
use Rattle.bk_crc.proofs.register.after_block.Goals as goal

pub returns : goal.returns
returns c =
    let block = c.args.block.now in
    rw (c.after_word.ensures, c.after_word-2.ensures, c.from.ensures)
    (register_after-words c.args.register c.from_le_bytes-first.result c.from_le_bytes-second.result block
    (bytes_within block c.fits-block) c.told-block
    (rw (c.as_chunks.ensures.front, c.told-block) at c.from_le_bytes-first.ensures)
    (rw (c.as_chunks.ensures.front, c.told-block) at c.from_le_bytes-second.ensures))
