-- What a run of `check` does: the directory is recovered, and a report of it as it was found is written.
use Rattle.std.specs.Prelude.{◌≡◌, ℕ, ◌≤◌, List, [], ◌++◌, Bool, IsTrue, Result, Ok, Err}
use Rattle.bk_base.specs.declared.statuses.Status.{Status}
use Rattle.bk_base.specs.declared.statuses.Status.TheVariants.{Done, Disk, Memory, Sink}
use Rattle.bk_base.specs.declared.writes.Write.{Write}
use Rattle.bk_disk.specs.Causes.{Rose}
use Rattle.bk_disk.specs.Told.{Told}
use Rattle.bk_image.specs.SoundDirectory.{IsSoundDisk}
use Rattle.bk_load.specs.Courses.{Came}
use Rattle.bk_policy.specs.declared.settings.Settings.{Settings}
use Rattle.bk_report.specs.Directory.{IsReportOf}
use Rattle.bk_report.specs.declared.errors.ReportError.{ReportError}
use Rattle.bk_report.specs.declared.errors.ReportError.TheVariants.{Disk as report_disk, Read as report_read, Sink as report_sink, Memory as report_memory}
use Rattle.bitcaskd.specs.Opening.{IsCauseOf, KeepsLog, SaysSettings}
use Rattle.bitcaskd.specs.Run.{Outside, Telling}

-- What was written: the report of the directory as it was found; a first part of it, where the sink failed; or else
-- nothing.
abbrev pub Reports : Status → Bool → Told → Told → List ℕ → Type 0
Reports Done tells was now output = IsTrue tells → IsReportOf was now output
Reports Sink tells was now output = (rest : List ℕ) × (IsTrue tells → IsReportOf was now (output ++ rest))
Reports status tells was now output = output ≡ []

-- Why it ended so: the work is done, the sink failed, or the directory wasn't recovered.
abbrev pub IsEndOf : Status → Telling → Outside → Outside → Type 0
IsEndOf Done tells old new = IsTrue tells.disk → (settings : Settings) × SaysSettings old.disk.told settings
IsEndOf Sink tells old new = Rose old.sink_faults new.sink_faults
IsEndOf status tells old new = IsCauseOf status tells.disk old.disk new.disk

-- The same files count afterwards as before, and whatever log the directory held it still holds. Nothing was
-- read, and no moment was asked for.
pub record Checks (tells : Telling) (old new : Outside) (status : Status) : Type 0 where
  pub came : Came tells.disk old.disk new.disk
  pub keeps : IsTrue tells.disk → (log : List Write) → IsSoundDisk old.disk.told log → KeepsLog old.disk.told new.disk.told log
  pub output : List ℕ
  pub reports : Reports status tells.disk old.disk.told new.disk.told output
  pub wrote : IsTrue tells.sink → new.written ≡ old.written ++ output
  pub ended : IsEndOf status tells old new
  pub later : old.sink_faults ≤ new.sink_faults
  pub whole : new.whole ≡ old.whole
  pub taken : new.taken ≡ old.taken
  pub moments : new.moments ≡ old.moments

-- the status of a run whose report came to this
abbrev pub of_report : Result Unit ReportError → Status
of_report (Ok done) = Done
of_report (Err report_disk) = Disk
of_report (Err report_read) = Disk
of_report (Err report_sink) = Sink
of_report (Err report_memory) = Memory
