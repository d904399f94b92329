use Rattle.std.proofs.Common.{sym, ◌∙◌}
use Rattle.bk_memdisk.proofs.Effects.{effect_of-this, effect_of-other}
use Rattle.bk_memdisk.proofs.plans.last_effect.Goals as goal
use Rattle.bk_memdisk.proofs.plans.last_effect.Goals.{then-choice-call, else-choice-call}

pub loop-choice-preserved : goal.loop-choice-preserved
loop-choice-preserved c =
    elim c.if-choice-call.branch [
      | then-choice-call w ↦ w.effect-is ∙ sym (effect_of-this _ _ _ _ c.loop-choice-test.true w.if-choice-call.true)
      | else-choice-call w ↦ w.effect-is ∙ c.loop-choice.invariant
          ∙ sym (effect_of-other _ _ _ _ c.loop-choice-test.true w.if-choice-call.false)
    ]
