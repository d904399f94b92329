use Rattle.std.proofs.Common.{◌≡◌, ◌<◌, ◌≤◌, ◌+◌, cond, Bool, length, take, arith, ap, refl, subst, sum_by, take_all, ◌∙◌}
use Rattle.bk_store.specs.Sweeps.{has_put}
use Rattle.bk_store.proofs.Sweeping.{puts_more}
use Rattle.bk_store.proofs.sweeps.count_puts.Goals as goal
use Rattle.bk_store.proofs.sweeps.count_puts.Goals.{else-is_put_at, then-is_put_at}

pub loop-position-init : goal.loop-position-init
loop-position-init c = (refl, omega arith)

pub overflow_add-puts : goal.overflow_add-puts
overflow_add-puts c = omega (arith, c.loop-position.invariant.1, c.loop-position-test.true, c.len-position-end.ensures.small)

pub loop-position-preserved : goal.loop-position-preserved
loop-position-preserved c =
    let low : c.loop-position.position < length c.args.keydir.now.entries =
    omega (arith, c.loop-position-test.true, c.len-position-end.ensures.len) in
    let more = puts_more c.args.keydir.now.entries c.loop-position.position c.loop-position.puts c.is_put_at.result low
    c.loop-position.invariant.0 c.is_put_at.ensures in
    let few = c.loop-position.invariant.1 in
    elim c.if-is_put_at.branch [
      | then-is_put_at w ↦ (
        w.puts-is ∙ subst (λ (b : Bool). c.loop-position.puts + cond b 1 0
            ≡ sum_by has_put (take (c.loop-position.position + 1) c.args.keydir.now.entries)) w.if-is_put_at.true more,
        omega (arith, w.puts-is, few),
      )
      | else-is_put_at w ↦ (
        w.puts-is ∙ omega (
          arith,
          subst (λ (b : Bool). c.loop-position.puts + cond b 1 0
              ≡ sum_by has_put (take (c.loop-position.position + 1) c.args.keydir.now.entries)) w.if-is_put_at.false more,
        ),
        omega (arith, w.puts-is, few),
      )
    ]

pub returns-clause-puts : goal.returns-clause-puts
returns-clause-puts c =
    let whole : length c.args.keydir.now.entries ≤ c.loop-position.position =
    omega (arith, c.loop-position-test.false, c.len-position-end.ensures.len) in
    c.loop-position.invariant.0
    ∙ ap (λ es. sum_by has_put es) (take_all c.loop-position.position c.args.keydir.now.entries whole)
