use Rattle.std.proofs.Common.{◌≡◌, ◌<◌, Some, length, arith, sym, ◌∙◌, subst, true, false}
use Rattle.bk_keydir.specs.Folds.{IsNextPair, is_listed}
use Rattle.bk_keydir.specs.Keydir.{versions_at}
use Rattle.bk_keydir.specs.Slots.{at_epoch}
use Rattle.bk_keydir.proofs.CallLemmas.{from_min}
use Rattle.bk_keydir.proofs.FoldLemmas.{is_next, passes}
use Rattle.bk_keydir.proofs.keydir.Keydir.next_at.Goals as goal

pub returns-then-lists : goal.returns-then-lists
returns-then-lists c = λ s is.
    let fold = c.in_ok-fold.fold in
    let es = c.args.self.now.entries in
    let place = c.loop-place.place in
    let both : Some fold ≡ Some s = sym c.in_ok-fold.was ∙ c.fold.ensures ∙ is in
    let same : fold ≡ s = cc both in
    let low : place < length es = omega (arith, c.loop-place-test.true, c.len-len.ensures.len) in
    let listed : is_listed c.args.ttl fold (at_epoch fold.epoch.0 (versions_at place es)) ≡ true =
    sym c.lists.ensures ∙ c.if-lists.true in
    subst (λ x. IsNextPair c.args.ttl x es place) same
    (is_next c.args.ttl fold place es low listed
    (from_min fold.cursor (length es) place c.loop-place.invariant.0 low)
    c.loop-place.invariant.1 c.loop-place.invariant.2)

pub loop-place-preserved : goal.loop-place-preserved
loop-place-preserved c =
    let fold = c.in_ok-fold.fold in
    let es = c.args.self.now.entries in
    let place = c.loop-place.place in
    let low : place < length es = omega (arith, c.loop-place-test.true, c.len-len.ensures.len) in
    let not_listed : is_listed c.args.ttl fold (at_epoch fold.epoch.0 (versions_at place es)) ≡ false =
    sym c.lists.ensures ∙ c.if-lists.false in
    let past = passes c.args.ttl fold place es low not_listed in
    (omega (arith, c.loop-place.invariant.0), past.0 ∙ c.loop-place.invariant.1, past.1 ∙ c.loop-place.invariant.2)
