use Rattle.std.proofs.Common.{◌≡◌, ◌^◌, ◌<◌, ◌++◌, drop, length, decimal}
use Rattle.bk_wire.proofs.digits.Digits.of.Given as goal

abbrev pub invariant-loop-i : goal.invariant-loop-i
invariant-loop-i l =
    (length l.bytes ≡ 39) × (l.rest < 10 ^ l.i) × (l.i < 39 → 0 < l.rest)
    × (decimal l.number ≡ decimal l.rest ++ drop l.i l.bytes)
