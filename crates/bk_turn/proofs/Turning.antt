-- What a client needs of a whole turn: one step more keeps what was seen.
use Rattle.std.proofs.Common.{◌≡◌, ℕ, ◌+◌, List, [], ◌∷◌, ◌++◌, length, Option, Some, ap, sym, ◌∙◌, subst}
use mathlib.Core.List.{IsPrefix}
use Rattle.bk_base.specs.declared.histories.Step.{Step}
use Rattle.bk_turn.specs.declared.views.View.{View}
use Rattle.bk_turn.specs.History.{own_of, number_at, Continues, Ends, Advances}
use Rattle.bk_turn.proofs.Beginnings.{prefix_trans, prefix_more}

-- the step of a holding comes behind all that was seen
pub ended_keeps_seen : (old : View) (number : ℕ) (step : Step) (now : View) → Ends old number step now
    → IsPrefix old.seen now.seen
ended_keeps_seen old number step now e = (step ∷ [], sym e.seen)

-- a holding that is taken and left is one whole turn
pub whole_turn : (old : View) (place number : ℕ) (mid : View) (step : Step) (now : View)
    → Continues old place number mid → step.entry.caller ≡ number → Ends mid number step now
    → Advances old step now
whole_turn old place number mid step now c calls e =
    let at : number ≡ number_at old.number (old.first + length mid.seen) =
    c.numbered ∙ ap (number_at old.number) c.placed in record {
      before = mid.seen;
      same = (e.same.0 ∙ c.same.0, e.same.1 ∙ c.same.1, e.same.2 ∙ c.same.3, e.same.3 ∙ c.same.4);
      goes_on = c.seen;
      seen = e.seen;
      numbered = e.numbered ∙ ap Some at;
      called = calls ∙ at;
      own_added = ap (λ (n : Option ℕ). own_of n now.seen) e.numbered
          ∙ (e.own_added ∙ ap (λ (xs : List Step). xs ++ step ∷ []) c.own_kept);
    }

-- a whole turn keeps what was seen
pub turn_keeps_seen : (old : View) (step : Step) (now : View) → Advances old step now → IsPrefix old.seen now.seen
turn_keeps_seen old step now a =
    subst (IsPrefix old.seen) (sym a.seen) (prefix_more old.seen a.before (step ∷ []) a.goes_on)

-- and what began what was seen still does
pub turn_keeps_prefix : (xs : List Step) (old : View) (step : Step) (now : View)
    → IsPrefix xs old.seen → Advances old step now → IsPrefix xs now.seen
turn_keeps_prefix xs old step now p a = prefix_trans xs old.seen now.seen p (turn_keeps_seen old step now a)
