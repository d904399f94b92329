use Rattle.std.proofs.Common.{◌<◌, ◌≤◌, length, arith, ap, sum_by, take_all, ◌∙◌}
use Rattle.bk_base.specs.declared.rows.Row.{Row}
use Rattle.bk_store.proofs.Sweeping.{sum_more}
use Rattle.bk_store.proofs.sweeps.sums.Goals as goal

pub overflow_add-total : goal.overflow_add-total
overflow_add-total c =
    omega (arith, c.loop-place.invariant.total_fits, c.wide-total.ensures.small, c.loop-place-test.true, c.number_of-place-end.type_inv)

pub overflow_add-live : goal.overflow_add-live
overflow_add-live c =
    omega (arith, c.loop-place.invariant.live_fits, c.wide-live.ensures.small, c.loop-place-test.true, c.number_of-place-end.type_inv)

pub loop-place-preserved : goal.loop-place-preserved
loop-place-preserved c =
    let low : c.loop-place.place < length c.args.rows.now = omega (arith, c.loop-place-test.true, c.number_of-place-end.ensures) in
    record {
      total = sum_more (λ (r : Row). r.total) c.args.rows.now c.loop-place.place _ c.loop-place.total c.wide-total.result low
          c.loop-place.invariant.total c.wide-total.ensures.same;
      live = sum_more (λ (r : Row). r.live) c.args.rows.now c.loop-place.place _ c.loop-place.live c.wide-live.result low
          c.loop-place.invariant.live c.wide-live.ensures.same;
      total_fits = omega (arith, c.loop-place.invariant.total_fits, c.wide-total.ensures.small);
      live_fits = omega (arith, c.loop-place.invariant.live_fits, c.wide-live.ensures.small);
    }

pub returns : goal.returns
returns c =
    let whole : length c.args.rows.now ≤ c.loop-place.place =
    omega (arith, c.loop-place-test.false, c.number_of-place-end.ensures) in
    let all = take_all c.loop-place.place c.args.rows.now whole in
    record {
      total = c.loop-place.invariant.total ∙ ap (sum_by (λ (r : Row). r.total)) all;
      live = c.loop-place.invariant.live ∙ ap (sum_by (λ (r : Row). r.live)) all;
    }
