use Rattle.std.proofs.Common.{◌≡◌, ◌∙◌, ap, arith, length, take, drop, List, ℕ, ◌-◌, ◌≤◌}
use Rattle.std.proofs.lemmas.List.{length-drop, length-take}
use Rattle.std.proofs.Math.Seq.{drop-drop}
use borrow.Rule.Slice.PartMut.{put_mid, same_len_mid}
use Rattle.bk_disk.proofs.Streams.{filled}
use Rattle.bk_disk.proofs.views.read_exact.Goals as goal

pub loop-at-preserved : goal.loop-at-preserved
loop-at-preserved g c =
    let at = c.loop-at.at in
    let n = c.in_ok-at.field-0 in
    let k = length c.loop-at.into - c.loop-at.at in
    let kept : length (put_mid at k c.loop-at.into c.read.new.into) ≡ length c.loop-at.into =
    same_len_mid at k c.loop-at.into c.read.new.into c.read.auto.into in
    let long : length c.read.new.into ≡ k =
    omega (arith, c.read.auto.into, length-take k (drop at c.loop-at.into), length-drop at c.loop-at.into) in
    let few : n ≤ k = omega (arith, long, c.in_ok-at.ensures.within) in
    record {
      within = omega (arith, kept, few, c.loop-at.invariant.within);
      long = kept ∙ c.loop-at.invariant.long;
      rest = omega (arith, c.in_ok-at.ensures.rest, c.loop-at.invariant.rest);
      bytes = λ tells. filled at k n c.loop-at.into c.read.new.into (g.V.View.left c.args.view.now)
          c.loop-at.invariant.within long few (c.loop-at.invariant.bytes tells)
          ((c.in_ok-at.ensures.bytes tells).bytes ∙ ap (λ (l : List ℕ). take n l) (c.loop-at.invariant.left tells));
      left = λ tells. (c.in_ok-at.ensures.bytes tells).others
          ∙ ap (λ (l : List ℕ). drop n l) (c.loop-at.invariant.left tells)
          ∙ drop-drop n at (g.V.View.left c.args.view.now);
      later = omega (arith, c.in_ok-at.ensures.cause.later, c.loop-at.invariant.later);
      kept = λ strong. c.read.ensures.same_faults (c.loop-at.invariant.fallible ∙ strong)
          ∙ c.loop-at.invariant.kept strong;
      fallible = c.read.ensures.fallible ∙ c.loop-at.invariant.fallible;
    }
