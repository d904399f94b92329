use Rattle.std.proofs.Common.{◌≡◌, ◌<◌, ◌^◌, Ok}
use Rattle.bk_wire.specs.ReplyReading.{hex_digits_at}
use Rattle.bk_wire.proofs.numbers.hexadecimal.Given as goal

abbrev pub invariant-loop-i : goal.invariant-loop-i
invariant-loop-i l = (hex_digits_at l.i l.bytes ≡ Ok (l.number, l.rest)) × (l.number < 16 ^ l.i)
