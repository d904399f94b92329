use Rattle.std.proofs.Common.{ap, ◌∙◌, ◌∷◌, sym, Some}
use Rattle.atomic_table.specs.Table.{rest}
use Rattle.bk_turn.proofs.steps.take.Goals as goal

pub exchange-requires : goal.exchange-requires
exchange-requires g c = let x =
    c.requires.full in (c.requires.table, (Some x.0, x.1 ∙ ap (λ r. (0, Some x.0) ∷ r) (sym (ap rest x.1))))
