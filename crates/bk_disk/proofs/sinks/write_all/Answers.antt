use Rattle.std.proofs.Common.{◌∙◌, ◌-◌, ◌++◌, ap, sym, arith, append_assoc, length, List, ℕ, take, drop}
use Rattle.std.proofs.lemmas.List.{take-append-drop, take-take, length-take, length-drop}
use Rattle.std.proofs.Math.Seq.{take-add}
use Rattle.bk_disk.specs.Streams.{LeftOver}
use Rattle.bk_disk.proofs.Results.{on_err}
use Rattle.bk_disk.proofs.sinks.write_all.Goals as goal

pub returns-in_err-at-clause-part : goal.returns-in_err-at-clause-part
returns-in_err-at-clause-part g c = λ tells.
    let part : LeftOver (g.K.Sink.written c.args.sink.now) (g.K.Sink.written c.write.new.self) c.args.piece.now = (
      take c.loop-at.at c.args.piece.now,
      drop c.loop-at.at c.args.piece.now,
      c.in_err-at.ensures.kept tells ∙ c.loop-at.invariant.wrote tells,
      take-append-drop c.loop-at.at c.args.piece.now,
    )
    in on_err _ part

pub loop-at-preserved : goal.loop-at-preserved
loop-at-preserved g c = record {
  within = omega (arith, c.in_ok-at.ensures.within);
  wrote = λ tells. c.in_ok-at.ensures.wrote tells
      ∙ ap (λ (l : List ℕ). g.K.Sink.written c.loop-at.sink ++ l)
      (take-take c.in_ok-at.field-0 (length c.args.piece.now - c.loop-at.at) (drop c.loop-at.at c.args.piece.now)
      (omega (
        arith,
        c.in_ok-at.ensures.within,
        length-drop c.loop-at.at c.args.piece.now,
        length-take
            (length c.args.piece.now - c.loop-at.at) (drop c.loop-at.at c.args.piece.now),
      )))
      ∙ ap (λ (l : List ℕ). l ++ take c.in_ok-at.field-0 (drop c.loop-at.at c.args.piece.now))
      (c.loop-at.invariant.wrote tells)
      ∙ append_assoc (g.K.Sink.written c.args.sink.now) (take c.loop-at.at c.args.piece.now)
      (take c.in_ok-at.field-0 (drop c.loop-at.at c.args.piece.now))
      ∙ ap (λ (l : List ℕ). g.K.Sink.written c.args.sink.now ++ l)
      (sym (take-add c.loop-at.at c.in_ok-at.field-0 c.args.piece.now));
  later = omega (arith, c.in_ok-at.ensures.cause.later, c.loop-at.invariant.later);
}
