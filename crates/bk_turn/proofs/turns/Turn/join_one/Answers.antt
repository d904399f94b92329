use Rattle.std.proofs.Common.{sym, ◌∙◌, subst, Option}
use Rattle.bk_turn.specs.declared.passes.Pass.{Pass}
use Rattle.bk_turn.specs.Handles.{pass_view}
use Rattle.bk_turn.specs.Places.{IsSeenIn}
use Rattle.bk_turn.proofs.Joining.{nothing_seen}
use Rattle.bk_turn.proofs.turns.Turn.join_one.Goals as goal

pub returns-in-None-clause-joined : goal.returns-in-None-clause-joined
returns-in-None-clause-joined g c = let steps = (pass_view c.args.pass).seen in
    subst (λ (place : Option Pass). IsSeenIn steps place)
    (sym (sym c.take.ensures.value ∙ c.in-None.is)) (nothing_seen steps)
