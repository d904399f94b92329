use Rattle.bk_base.specs.Blanks.{blank_opening}
use Rattle.bench_turn.proofs.turns.hold_by.Given as goal

abbrev pub ghost-new : goal.ghost-new
ghost-new g a = blank_opening
