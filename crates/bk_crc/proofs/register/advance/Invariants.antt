use Rattle.std.proofs.Common.{◌≡◌, length, drop}
use Rattle.bk_crc.specs.Crc.{register_after}
use Rattle.bk_crc.proofs.register.advance.Given as goal

abbrev pub invariant-loop-block : goal.invariant-loop-block
invariant-loop-block l = register_after l.register l.left ≡ register_after l.fn.register l.fn.bytes

abbrev pub decreases-loop-block : goal.decreases-loop-block
decreases-loop-block l = length l.left

abbrev pub invariant-loop-byte : goal.invariant-loop-byte
invariant-loop-byte l = register_after l.register (drop l.byte-index l.byte-items) ≡ register_after l.fn.register l.fn.bytes
