use Rattle.std.proofs.Common.{◌≡◌, ◌-◌, length, sym, arith, ◌∙◌}
use Rattle.bk_swap.specs.Lists.{needed}
use Rattle.bk_swap.specs.Stops.{computed_of, stored_of}
use Rattle.bk_swap.proofs.Texts.{is_whole, number_at-there}
use Rattle.bk_swap.proofs.decoding.check.Goals as goal

pub returns-clause-whole : goal.returns-clause-whole
returns-clause-whole c =
    let bytes = c.args.bytes.now in
    let long : length bytes ≡ needed bytes = grind arith in
    let same : stored_of bytes ≡ computed_of bytes =
    sym (number_at-there bytes (length bytes - 4) (omega (arith, long)))
    ∙ sym c.number_at-stored.ensures ∙ c.if-stored-computed.false ∙ c.crc32-computed.ensures in
    (long, is_whole bytes (λ i. omega (arith, c.type_inv.bytes i)) long same)
