use Rattle.std.proofs.Common.{◌≡◌, ◌≤◌, ◌*◌, sum_by, take}
use Rattle.bk_base.specs.declared.rows.Row.{Row}
use Rattle.bk_store.proofs.sweeps.sums.Given as goal

abbrev pub invariant-loop-place : goal.invariant-loop-place
invariant-loop-place l = record {
  total : l.total ≡ sum_by (λ (r : Row). r.total) (take l.place l.rows);
  live : l.live ≡ sum_by (λ (r : Row). r.live) (take l.place l.rows);
  total_fits : l.total ≤ 18446744073709551616 * l.place;
  live_fits : l.live ≤ 18446744073709551616 * l.place;
}
