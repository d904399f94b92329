-- The statuses of a drill.
use Rattle.std.proofs.Common.{◌≡◌, subst}
use Rattle.bk_base.specs.declared.statuses.Status.{Status}
use Rattle.bk_base.specs.declared.statuses.Status.TheVariants.{Disk, Sink, Source}
use Rattle.bk_drill.specs.declared.ends.DrillEnd.{DrillEnd}
use Rattle.bk_drill.specs.declared.ends.DrillEnd.TheVariants.{End as drill_end, Syntax as drill_syntax, Source as drill_source, Sink as drill_sink, Long as drill_long, Memory as drill_memory}
use Rattle.bitcaskd.specs.Commands.{MayEnd}
use Rattle.bitcaskd.specs.Drilling.{of_drill}
use Rattle.bitcaskd.specs.declared.command.Command.TheVariants.{Drill}

pub source_ends : (end : DrillEnd) → of_drill end ≡ Source → end ≡ drill_source
source_ends drill_end is = absurd (cc is)
source_ends (drill_syntax offset) is = absurd (cc is)
source_ends drill_source is = cc
source_ends drill_sink is = absurd (cc is)
source_ends drill_long is = absurd (cc is)
source_ends drill_memory is = absurd (cc is)

pub sink_ends : (end : DrillEnd) → of_drill end ≡ Sink → end ≡ drill_sink
sink_ends drill_end is = absurd (cc is)
sink_ends (drill_syntax offset) is = absurd (cc is)
sink_ends drill_source is = absurd (cc is)
sink_ends drill_sink is = cc
sink_ends drill_long is = absurd (cc is)
sink_ends drill_memory is = absurd (cc is)

-- A drill ends with one of its statuses, and never by the disk.
pub drill_ends : (end : DrillEnd) → MayEnd Drill (of_drill end)
drill_ends drill_end = tt
drill_ends (drill_syntax offset) = tt
drill_ends drill_source = tt
drill_ends drill_sink = tt
drill_ends drill_long = tt
drill_ends drill_memory = tt

pub no_disk : (status : Status) → MayEnd Drill status → status ≡ Disk → ⊥
no_disk status ends is = subst (λ (s : Status). MayEnd Drill s) is ends
