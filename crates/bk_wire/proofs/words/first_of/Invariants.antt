use Rattle.std.proofs.Common.{◌≡◌, drop}
use Rattle.bk_wire.specs.ReplyReading.{words_at}
use Rattle.bk_wire.proofs.words.first_of.Given as goal

abbrev pub invariant-loop-word : goal.invariant-loop-word
invariant-loop-word l = words_at (drop l.word-index l.words) l.bytes ≡ words_at l.words l.bytes
