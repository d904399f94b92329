use Rattle.bk_base.specs.Blanks.{blank_opening}
use Rattle.test_turn.proofs.turn.opened.Given as goal

abbrev pub ghost-new : goal.ghost-new
ghost-new g a = blank_opening
