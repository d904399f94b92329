-- A push keeps a list of numbers what its pushes leave.
use Rattle.std.proofs.Common.{◌≡◌, ℕ, List, [], ◌∷◌, ◌++◌, refl, ap, sym, ◌∙◌, arith}
use Rattle.std.proofs.lemmas.List.Elements.{All-push}
use mathlib.Core.List.{map-append}
use Rattle.bk_base.specs.declared.histories.Step.{Step}
use Rattle.bk_turn.specs.Pushes.{push_step, pushed, ArePushes}

-- one number more, by one step more
pub pushes_one : (numbers : List ℕ) (steps : List Step) (caller number : ℕ) → ArePushes numbers steps
    → ArePushes (numbers ++ number ∷ []) (steps ++ push_step caller number ∷ [])
pushes_one numbers steps caller number r = record {
  in_order = ap (λ (xs : List ℕ). xs ++ number ∷ []) r.in_order
      ∙ sym (map-append pushed steps (push_step caller number ∷ []));
  pushes = All-push (λ step. step ≡ push_step step.entry.caller step.faults) steps
      (push_step caller number) r.pushes refl;
}

-- no number by no step
pub pushes_none : ArePushes [] []
pushes_none = record { in_order = refl; pushes = λ k d lt. absurd (omega arith) }
