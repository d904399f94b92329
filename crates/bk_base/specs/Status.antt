-- The exit statuses.
use Rattle.std.specs.Prelude.{ℕ}
use Rattle.bk_base.specs.declared.statuses.Status.{Status}
use Rattle.bk_base.specs.declared.statuses.Status.TheVariants.{Done, Memory, Words, Disk, Source, Sink, Syntax, Settings, Damaged, Full, Long, Door}

abbrev pub code_of : Status → ℕ
code_of Done = 0
code_of Memory = 1
code_of Words = 2
code_of Disk = 3
code_of Source = 4
code_of Sink = 5
code_of Syntax = 6
code_of Settings = 7
code_of Damaged = 8
code_of Full = 9
code_of Long = 10
code_of Door = 12
