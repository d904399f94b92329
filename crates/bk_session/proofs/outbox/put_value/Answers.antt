use Rattle.std.proofs.Common.{◌≡◌, ◌∙◌, ℕ, ◌-◌, ◌≤◌, ◌++◌, length, drop, arith, ap}
use Rattle.std.proofs.lemmas.List.{length-drop, length-take}
use Rattle.bk_session.proofs.Outboxes.{is_value, read_behind, value_stays}
use Rattle.bk_session.proofs.outbox.put_value.Goals as goal
use Rattle.bk_store.specs.Loans.{Lent}

pub returns-clause-ok : goal.returns-clause-ok
returns-clause-ok g c =
    let held = c.args.text.now.items in
    let start = c.len-start.result in
    let at : start ≡ length held = omega (arith, c.len-start.ensures) in
    let same : c.value_at.result ≡ c.args.loan.value_at =
    c.value_at.ensures.place ∙ ap (λ (l : Lent). l.value_at) c.in_ok-read.ensures.same in
    let few : c.args.loan.value_at ≤ c.args.loan.size =
    omega (arith, same, c.value_at.ensures.inside, ap (λ (l : Lent). l.size) c.in_ok-read.ensures.same) in
    let long : length c.read.new.into ≡ c.args.loan.size =
    omega (
      arith,
      c.read.auto.into,
      length-take (length c.deref_mut.result.now - start) (drop start c.deref_mut.result.now),
      length-drop start c.deref_mut.result.now,
      c.deref_mut.ensures.len,
      c.in_ok-resize.ensures.len,
      c.in-Some.ensures,
      c.size.ensures,
    ) in (
      drop c.args.loan.value_at c.read.new.into,
      is_value g.V.View.tells c.args.loan c.read.new.into long few c.in_ok-read.ensures.text,
      c.drop_at.ensures
          ∙ value_stays _ held c.read.new.into _ c.value_at.result
          (read_behind held _ _ c.read.new.into _ start c.in-Some.end _ _ at
          (c.deref_mut.ensures.value ∙ c.in_ok-resize.ensures.items)
          (omega (arith, c.in-Some.ensures))
          (omega (arith, c.in_ok-resize.ensures.len, c.in-Some.ensures, long, c.size.ensures))) at
          ∙ ap (λ (n : ℕ). held ++ drop n c.read.new.into) same,
    )
