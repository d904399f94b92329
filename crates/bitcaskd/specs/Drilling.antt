-- What a run of `drill` does: the script that the source holds is run over a store in memory, and what its lines print is
-- written. The disk and the clock stay as they are.
use Rattle.std.specs.Prelude.{◌≡◌, ◌≤◌, IsTrue, drop}
use Rattle.bk_base.specs.declared.statuses.Status.{Status}
use Rattle.bk_base.specs.declared.statuses.Status.TheVariants.{Done, Memory, Source, Sink, Syntax, Long}
use Rattle.bk_drill.specs.Drills.{IsDrill, Streams, streams_of, traffic}
use Rattle.bk_drill.specs.Drills.{Telling as DrillTelling}
use Rattle.bk_drill.specs.Drills.{telling as drill_telling}
use Rattle.bk_drill.specs.declared.ends.DrillEnd.{DrillEnd}
use Rattle.bk_drill.specs.declared.ends.DrillEnd.TheVariants.{End as drill_end, Syntax as drill_syntax, Source as drill_source, Sink as drill_sink, Long as drill_long, Memory as drill_memory}
use Rattle.bk_exchange.specs.Sessions.{IsStart}
use Rattle.bitcaskd.specs.Run.{Outside, Telling, most_taken}

-- the status of a run whose drill ended so
abbrev pub of_drill : DrillEnd → Status
of_drill drill_end = Done
of_drill (drill_syntax offset) = Syntax
of_drill drill_source = Source
of_drill drill_sink = Sink
of_drill drill_long = Long
of_drill drill_memory = Memory

-- what the source has still to give, and what the sink took
abbrev pub streams_in : Outside → Streams
streams_in o = streams_of (drop o.taken o.whole) o.written

-- what the source and the sink tell
abbrev pub streams_tell : Telling → DrillTelling
streams_tell tells = drill_telling tells.source tells.sink

-- Between source and sink there is one drill.
pub record Drills (tells : Telling) (old new : Outside) (status : Status) : Type 0 where
  pub end : DrillEnd
  pub is_status : status ≡ of_drill end
  pub drill : IsDrill (streams_tell tells) most_taken (traffic (streams_in old) (streams_in new)) end
  pub source : IsTrue tells.source → new.whole ≡ old.whole
  pub behind : IsTrue tells.sink → IsStart old.written new.written
  pub later : old.sink_faults ≤ new.sink_faults
  pub disk : new.disk ≡ old.disk
  pub moments : new.moments ≡ old.moments
