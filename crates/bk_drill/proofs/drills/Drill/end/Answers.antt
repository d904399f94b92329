use Rattle.std.proofs.Common.{ℕ, refl, subst, sym}
use Rattle.std.proofs.lemmas.Bool.{true≢false}
use Rattle.bk_script.specs.declared.lines.Action.TheVariants.{End}
use Rattle.bk_script.specs.declared.printed.Printed.TheVariants.{NoFold}
use Rattle.bk_drill.specs.declared.drills.Drill.{Drill}
use Rattle.bk_drill.proofs.Acting.{Result}
use Rattle.bk_drill.proofs.drills.Drill.end.Goals as goal
use Rattle.bk_drill.proofs.Folding.{asks_end, fold_closes, has_no_fold, owner_of}

pub returns-in-Ok : goal.returns-in-Ok
returns-in-Ok c =
    fold_closes c.args.self.now _ c.args.actor.0 c.args.slot refl refl refl (λ n. refl) c.reset.ensures c.in-Ok.ensures.closed
    (owner_of _ c.args.actor.0 (λ none. true≢false (sym (c.in-Ok.ensures.owner.1 none)))) (c.in-Ok.ensures.ok refl)

pub returns-in-Err : goal.returns-in-Err
returns-in-Err c = λ b at.
    let new : Drill = record c.args.self.now { store = c.fold_close.new.self } in
    subst (λ (n : ℕ). Result b c.args.actor.0 (End c.args.slot) (NoFold n) new) (sym c.in-Err.ensures.slot.0)
    (has_no_fold c.args.self.now new (End c.args.slot) c.args.actor.0 c.args.slot (asks_end c.args.slot)
    (record { now = refl; plan = refl; settings = refl; loans = λ n. refl; listed = λ n. refl })
    c.in-Err.ensures.slot.1 (c.in-Err.ensures.owner.0 refl) (c.in-Err.ensures.refused refl) b at)
