use Rattle.std.proofs.Common.{◌≡◌, IfSome, IsSomeAnd}
use Rattle.bk_crc.specs.Crc.{register_after, start_register}
use Rattle.bench_crc.proofs.crc_of_rest.Given as goal

-- the register has gone over what the reader no longer gives
abbrev pub invariant-loop : goal.invariant-loop
invariant-loop g l =
    IfSome (g.R.Read.remaining l.fn.reader)
    (λ bytes. IsSomeAnd (g.R.Read.remaining l.reader)
    (λ left. register_after l.crc left ≡ register_after start_register bytes))
