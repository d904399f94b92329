use Rattle.std.proofs.Common.{◌≡◌, ◌≤◌, drop}
use Rattle.bk_wire.specs.Reading.{number_at, digits_at}
use Rattle.bk_wire.proofs.numbers.wide.Given as goal

abbrev pub invariant-loop-i : goal.invariant-loop-i
invariant-loop-i l =
    (l.number ≤ l.most) × (digits_at l.most l.end l.number (drop l.i l.rest) ≡ number_at 0 l.most l.end l.bytes)
