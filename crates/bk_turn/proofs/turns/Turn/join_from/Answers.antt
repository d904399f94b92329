use Rattle.std.proofs.Common.{◌≡◌, ℕ, ◌<◌, List, length, get_or, set, Option, Some, sym, ◌∙◌, ap, subst, arith, get_or-set_other, length-set}
use Rattle.std.proofs.lemmas.List.{get_or_read}
use mathlib.Core.Logic.{dite}
use native.Mathlib.Decide.{ℕ_discrete}
use Rattle.bk_base.specs.declared.histories.Step.{Step}
use Rattle.bk_turn.specs.declared.passes.Pass.{Pass}
use Rattle.bk_turn.specs.Handles.{pass_view}
use Rattle.bk_turn.specs.Places.{IsSeenIn}
use Rattle.bk_turn.proofs.Joining.{seen_in}
use Rattle.bk_turn.proofs.turns.Turn.join_from.Goals as goal

pub returns-clause-joined : goal.returns-clause-joined
returns-clause-joined g c = let first = c.args.places.now in let most : ℕ = c.farthest-most.result in
    let with_most = pass_view c.join-pass.result in let left = c.take_pass.new.place in
    let rest : (k : ℕ) (d : Option Pass) → k < length (set first most left)
    → IsSeenIn with_most.seen (get_or (set first most left) k d)
    = c.join_each.ensures.joined in
    let within : most < length first = c.farthest-most.ensures.within in
    let read : (d : Option Pass) → get_or first most d ≡ Some c.take_pass.result
    = λ d. let item = c.index-places-most.result in let is = c.index-places-most.is in
    sym (get_or_read first most item within is d)
    ∙ (get_or_read first most item within is item ∙ c.take_pass.ensures.pass) in
    let at : (k : ℕ) (d : Option Pass) → k < length first → IsSeenIn with_most.seen (get_or first k d)
    = λ k d lt. dite (ℕ_discrete k most)
    (λ e. subst (λ (p : Option Pass). IsSeenIn with_most.seen p) (sym (ap (λ (n : ℕ). get_or first n d) e ∙ read d))
    (seen_in (pass_view c.args.pass) with_most c.take_pass.result c.join-pass.ensures.joins))
    (λ ne. subst (λ (p : Option Pass). IsSeenIn with_most.seen p) (get_or-set_other first most k left d ne)
    (rest k d (let same = length-set first most left in omega arith))) in
    λ k d lt. subst (λ (steps : List Step). IsSeenIn steps (get_or first k d))
    (sym c.join_each.ensures.seen) (at k d lt)
