use Rattle.std.proofs.Common.{◌∙◌, refl, subst, sym}
use Rattle.bk_base.specs.declared.statuses.Status.{Status}
use Rattle.bitcaskd.specs.Commands.{MayEnd}
use Rattle.bitcaskd.specs.declared.command.Command.TheVariants.{Drill}
use Rattle.bitcaskd.proofs.DrillingLaws.{drill_ends, sink_ends, source_ends}
use Rattle.bitcaskd.proofs.drilling.run_script.Goals as goal

pub returns-clause-ran : goal.returns-clause-ran
returns-clause-ran g c = λ told clock disk moments. record {
  end = c.drill-end.result;
  is_status = c.of_drill.ensures;
  drill = c.drill-end.ensures.drill;
  source = c.drill-end.ensures.whole;
  behind = c.drill-end.ensures.behind;
  later = c.drill-end.ensures.wrote;
  disk = refl;
  moments = refl;
}

pub returns-clause-ends : goal.returns-clause-ends
returns-clause-ends g c = subst (λ (s : Status). MayEnd Drill s) (sym c.of_drill.ensures) (drill_ends c.drill-end.result)

pub returns-clause-source : goal.returns-clause-source
returns-clause-source g c = λ is. c.drill-end.ensures.source (source_ends c.drill-end.result (sym c.of_drill.ensures ∙ is))

pub returns-clause-sink : goal.returns-clause-sink
returns-clause-sink g c = λ is. c.drill-end.ensures.sink (sink_ends c.drill-end.result (sym c.of_drill.ensures ∙ is))
