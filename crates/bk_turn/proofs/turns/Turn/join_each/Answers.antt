use Rattle.std.proofs.Common.{◌≡◌, ℕ, ◌<◌, List, length, get_or, set, Option, None, sym, ◌∙◌, ap, subst, arith, get_or-set_same, get_or-set_other, length-set}
use Rattle.std.proofs.lemmas.List.{get_or_read}
use Rattle.std.proofs.lemmas.List.Sums.{sum_by_more}
use mathlib.Core.Logic.{dite}
use native.Mathlib.Decide.{ℕ_discrete}
use Rattle.bk_base.specs.declared.histories.Step.{Step}
use Rattle.bk_turn.specs.declared.passes.Pass.{Pass}
use Rattle.bk_turn.specs.Handles.{pass_view}
use Rattle.bk_turn.specs.Places.{place_view, Keeps, IsSeenIn}
use Rattle.bk_turn.proofs.Joining.{keeps_more}
use Rattle.bk_turn.proofs.turns.Turn.join_each.Goals as goal

pub loop-place-preserved : goal.loop-place-preserved
loop-place-preserved g c = let i : ℕ = c.loop-place.place-index in let now = c.loop-place.places in
    let first = c.args.places.now in let inv = c.loop-place.invariant in let item = c.place-item.result in
    let in_now : i < length now = omega arith in let in_first : i < length first = omega arith in
    let old = pass_view c.args.pass in let mid = pass_view c.loop-place.pass in let joined =
    pass_view c.join_one-pass.result in
    let place = get_or now i item in
    let read : (d : Option Pass) → get_or first i d ≡ place
    = λ d. sym (inv.left i d (omega arith) in_now)
    ∙ (sym (get_or_read now i item in_now c.place-item.is d)
    ∙ get_or_read now i item in_now c.place-item.is item) in record {
      turn = c.join_one-pass.ensures.turn;
      keeps =
          let more = sum_by_more (λ (p : Option Pass). (place_view p).weight) first i None in_first in
          let its : (place_view (get_or first i None)).weight ≡ (place_view place).weight =
          ap (λ (p : Option Pass). (place_view p).weight) (read None) in
          subst (λ (w : ℕ). Keeps old w joined) (omega arith)
          (keeps_more old mid joined _ _ inv.keeps c.join_one-pass.ensures.keeps);
      seen = c.join_one-pass.ensures.seen ∙ inv.seen;
      joined = λ k d lt. dite (ℕ_discrete k i)
          (λ e. subst (λ (p : Option Pass). IsSeenIn old.seen p) (sym (ap (λ (n : ℕ). get_or first n d) e ∙ read d))
          (let its : IsSeenIn mid.seen place =
          c.join_one-pass.ensures.joined in subst (λ (steps : List Step). IsSeenIn steps place)
          inv.seen its))
          (λ ne. inv.joined k d (omega arith));
      emptied = λ k d lt. dite (ℕ_discrete k i)
          (λ e. ap (λ (n : ℕ). get_or (set now i c.join_one-pass.new.place) n d) e
          ∙ (get_or-set_same now i c.join_one-pass.new.place d in_now
          ∙ c.join_one-pass.ensures.emptied))
          (λ ne. get_or-set_other now i k c.join_one-pass.new.place d ne ∙ inv.emptied k d (omega arith));
      left = λ k d le lt. get_or-set_other now i k c.join_one-pass.new.place d (λ e. omega arith)
          ∙ inv.left k d (omega arith) (let same = length-set now i c.join_one-pass.new.place in omega arith);
    }
