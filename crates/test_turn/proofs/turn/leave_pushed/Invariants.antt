use Rattle.test_turn.proofs.turn.leave_pushed.Given as goal

abbrev pub ghost-leave : goal.ghost-leave
ghost-leave g a = g.step
