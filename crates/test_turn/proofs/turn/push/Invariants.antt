use Rattle.bk_turn.specs.Handles.{hold_number}
use Rattle.bk_turn.specs.Pushes.{push_step}
use Rattle.test_turn.proofs.turn.push.Given as goal

abbrev pub ghost-leave_pushed : goal.ghost-leave_pushed
ghost-leave_pushed g a = push_step (hold_number a.holding) a.number
