-- What a run does, by its command.
use Rattle.std.specs.Prelude.{◌⊎◌}
use Rattle.bk_base.specs.declared.statuses.Status.{Status}
use Rattle.bk_base.specs.declared.statuses.Status.TheVariants.{Done, Memory, Disk, Source, Sink, Syntax, Settings, Damaged, Full, Long}
use Rattle.bitcaskd.specs.declared.command.Command.{Command}
use Rattle.bitcaskd.specs.declared.command.Command.TheVariants.{Check, Drill, Open}
use Rattle.bitcaskd.specs.declared.command.Work.{Work}
use Rattle.bitcaskd.specs.declared.command.Work.TheVariants.{Fill, List as list_work, Pipe}
use Rattle.bitcaskd.specs.Checking.{Checks}
use Rattle.bitcaskd.specs.Drilling.{Drills}
use Rattle.bitcaskd.specs.Filling.{Fills}
use Rattle.bitcaskd.specs.Listing.{Lists}
use Rattle.bitcaskd.specs.Run.{Outside, Refuses, Runs, Telling}

-- what it does with a store that was opened
abbrev pub Works : Work → Telling → Outside → Outside → Status → Type 0
Works Pipe tells old new status = Runs tells old new status
Works list_work tells old new status = Lists tells old new status
Works (Fill count) tells old new status = Fills count tells old new status

-- The directory isn't opened, or the command does its work. A drill opens none.
abbrev pub Does : Command → Telling → Outside → Outside → Status → Type 0
Does (Open work) tells old new status = Refuses tells old new status ⊎ Works work tells old new status
Does Check tells old new status = Checks tells old new status
Does Drill tells old new status = Drills tells old new status

-- the statuses that a run of the command may end with
abbrev pub MayEnd : Command → Status → Type 0
MayEnd command Done = Unit {0}
MayEnd command Memory = Unit {0}
MayEnd command Sink = Unit {0}
MayEnd Drill Source = Unit {0}
MayEnd Drill Syntax = Unit {0}
MayEnd Drill Long = Unit {0}
MayEnd Drill status = ⊥
MayEnd command Disk = Unit {0}
MayEnd command Settings = Unit {0}
MayEnd (Open Pipe) Source = Unit {0}
MayEnd (Open Pipe) Syntax = Unit {0}
MayEnd (Open Pipe) Long = Unit {0}
MayEnd (Open list_work) Damaged = Unit {0}
MayEnd (Open (Fill count)) Full = Unit {0}
MayEnd command status = ⊥
