use Rattle.std.proofs.Common.{◌≡◌, take}
use Rattle.bk_memdisk.specs.Plans.{effect_of}
use Rattle.bk_memdisk.specs.Chosen.{pairs_of}
use Rattle.bk_memdisk.proofs.plans.last_effect.Given as goal

abbrev pub invariant-loop-choice : goal.invariant-loop-choice
invariant-loop-choice l = l.effect ≡ effect_of l.call (pairs_of (take l.choice-index l.chosen))
