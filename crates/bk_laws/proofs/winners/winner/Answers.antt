use Rattle.std.proofs.Common.{◌≡◌, ◌∙◌, ◌+◌, ◌-◌, ℕ, drop, ap, sym, arith}
use Rattle.std.specs.Str.{bytes_eq}
use Rattle.bk_laws.specs.Log.{winner as winning_write}
use Rattle.bk_base.specs.declared.writes.Write.{Write}
use Rattle.bk_laws.proofs.LastWrites.{found}
use Rattle.bk_laws.proofs.winners.winner.Goals as goal

pub returns-then-eq-clause-some : goal.returns-then-eq-clause-some
returns-then-eq-clause-some c =
    let next : c.loop-place.place ≡ c.loop-place.place - 1 + 1 = omega (arith, c.loop-place-test.true) in
    found c.args.log.now c.args.key.now (c.loop-place.place - 1) c.index-log-place.result (omega (arith, c.loop-place-test.true, c.loop-place.invariant.within))
    c.index-log-place.is
    (ap (λ (w : Write). bytes_eq w.key c.args.key.now) c.index-log-place.is ∙ sym c.eq.ensures.value ∙ c.if-eq.true)
    (ap (λ (n : ℕ). winning_write (drop n c.args.log.now) c.args.key.now) (sym next) ∙ c.loop-place.invariant.none)
