use Rattle.std.proofs.Common.{refl, inl, inr}
use Rattle.bk_drill.proofs.drills.Drill.read.Goals as goal
use Rattle.bk_drill.proofs.Finding.{read_finds_none, read_gives}

pub returns-in_default : goal.returns-in_default
returns-in_default c =
    read_finds_none c.args.self.now _ c.args.actor.0 refl refl refl refl (λ n. refl) c.in_default.ensures.gone c.in_default.ensures.loan

pub returns-in-Ok : goal.returns-in-Ok
returns-in-Ok c =
    read_gives c.args.self.now _ c.args.actor.0 c.in-Some.loan _ refl refl refl refl (λ n. refl) c.in-Some.ensures.gone
    c.in-Some.ensures.loan (inl (c.in-Ok.value, refl, c.in-Ok.ensures.ok refl))

pub returns-in-Err : goal.returns-in-Err
returns-in-Err c =
    read_gives c.args.self.now _ c.args.actor.0 c.in-Some.loan _ refl refl refl refl (λ n. refl) c.in-Some.ensures.gone
    c.in-Some.ensures.loan (inr (c.in-Err.ensures.err refl))
