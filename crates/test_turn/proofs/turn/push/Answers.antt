use Rattle.std.proofs.Common.{◌≡◌, List, ℕ, [], ◌∷◌, ◌++◌, rules, sym, subst, refl}
use Rattle.bk_turn.specs.Handles.{hold_number, hold_view}
use Rattle.bk_turn.specs.Pushes.{ArePushes, push_step}
use Rattle.bk_turn.proofs.Pushing.{pushes_one}
use Rattle.test_turn.proofs.turn.push.Goals as goal

pub leave_pushed-requires : goal.leave_pushed-requires
leave_pushed-requires g c = let holding =
    c.in-Ok.holding in let all : c.push.new.self.items ≡ holding.value.numbers.items ++ c.args.number
    ∷ [] = search rules in (
      c.in-Ok.ensures.turn,
      (
        refl,
        subst (λ (xs : List ℕ). ArePushes xs
            ((hold_view holding).seen ++ push_step (hold_number holding) c.args.number ∷ [])) (sym all)
            (pushes_one holding.value.numbers.items (hold_view holding).seen (hold_number holding)
            c.args.number c.in-Ok.ensures.stands),
      ),
    )
