use Rattle.std.proofs.Common.{ℕ, ◌<◌, length, Some, None, sym, subst, ◌∙◌}
use Rattle.bk_load.proofs.Counted.{step_counted}
use Rattle.bk_load.proofs.counting.count_versions.Goals.{in-Some, in_default}
use Rattle.bk_load.proofs.counting.count_versions.Goals as goal

pub loop-position-preserved : goal.loop-position-preserved
loop-position-preserved c =
    let lt : c.loop-position.position < length c.args.keydir.now.entries =
    subst (λ (n : ℕ). c.loop-position.position < n) c.len-position-end.ensures.len c.loop-position-test.true in
    elim c.match-version_at.branch [
      | in-Some w ↦ step_counted c.args.keydir.now.entries c.loop-position.position c.args.rows.now c.loop-position.rows
          c.match-version_at.rows (Some w.in-Some.version) lt c.loop-position.invariant
          (sym w.in-Some.is ∙ c.version_at.ensures) (w.rows-is ∙ w.count.ensures)
      | in_default w ↦ step_counted c.args.keydir.now.entries c.loop-position.position c.args.rows.now c.loop-position.rows
          c.match-version_at.rows None lt c.loop-position.invariant
          (sym w.in_default.is ∙ c.version_at.ensures) w.rows-is
    ]
