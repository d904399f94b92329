use Rattle.bk_turn.specs.Handles.{hold_number}
use Rattle.bk_turn.specs.Pushes.{push_step}
use Rattle.bench_turn.proofs.turns.hold.Given as goal

-- the step of a holding that answers nothing
abbrev pub ghost-leave : goal.ghost-leave
ghost-leave g a = push_step (hold_number a.holding) 0
