-- From the calls of a check to the whole run.
use Rattle.std.proofs.Common.{◌≡◌, ◌∙◌, ℕ, ◌≤◌, List, [], ◌++◌, refl, sym, subst, inl, inr, IsTrue, Result, Ok, Err}
use Rattle.std.specs.Result.{IsErrOf}
use Rattle.std.proofs.lemmas.List.{append-nil}
use Rattle.bk_base.specs.declared.statuses.Status.{Status}
use Rattle.bk_base.specs.declared.statuses.Status.TheVariants.{Done, Memory, Disk, Source, Sink, Settings}
use Rattle.bk_disk.specs.Causes.{Rose}
use Rattle.bk_disk.specs.Shown.{DiskShown}
use Rattle.bk_disk.specs.Told.{Image, IsWell, Told}
use Rattle.bk_load.specs.Courses.{Came}
use Rattle.bk_load.specs.SettingsFile.{settings_file}
use Rattle.bk_load.specs.Steps.{AsksOnly}
use Rattle.bk_load.proofs.Courses.{came_trans}
use Rattle.bk_policy.specs.declared.settings.Settings.{Settings as StoreSettings}
use Rattle.bk_report.specs.Directory.{IsReport, IsReportOf, Tells}
use Rattle.bk_report.specs.declared.errors.ReportError.{ReportError}
use Rattle.bk_report.specs.declared.errors.ReportError.TheVariants.{Disk as report_disk, Read as report_read, Sink as report_sink, Memory as report_memory}
use Rattle.bitcaskd.specs.Checking.{Checks, IsEndOf, Reports, of_report}
use Rattle.bitcaskd.specs.Commands.{MayEnd}
use Rattle.bitcaskd.specs.Opening.{IsCauseOf, IsRefused, SaysSettings}
use Rattle.bitcaskd.specs.Run.{Outside, Telling}
use Rattle.bitcaskd.specs.declared.command.Command.{Command}
use Rattle.bitcaskd.specs.declared.command.Command.TheVariants.{Check}
use Rattle.bitcaskd.proofs.OpeningLaws.{keeps_log}
use Rattle.bk_store.proofs.AppendExits.{rose_since}

-- ---- a directory that wasn't recovered

refused_reports : (tells : Telling) (old new : Outside) (status : Status) → IsCauseOf status tells.disk old.disk new.disk
    → Reports status tells.disk old.disk.told new.disk.told []
refused_reports tells old new Settings is = refl
refused_reports tells old new Disk is = refl
refused_reports tells old new Memory is = refl
refused_reports tells old new status is = absurd is

refused_end : (tells : Telling) (old new : Outside) (status : Status) → IsCauseOf status tells.disk old.disk new.disk
    → IsEndOf status tells old new
refused_end tells old new Settings is = is
refused_end tells old new Disk is = is
refused_end tells old new Memory is = is
refused_end tells old new status is = absurd is

-- what a check leaves of the streams and the clock
pub record LeavesClient (old new : Outside) : Type 0 where
  pub whole : new.whole ≡ old.whole
  pub taken : new.taken ≡ old.taken
  pub moments : new.moments ≡ old.moments

pub refused_checks : (tells : Telling) (old new : Outside) (status : Status) → IsRefused tells.disk old.disk new.disk status
    → (IsTrue tells.disk → IsWell new.disk.told) → LeavesClient old new → new.written ≡ old.written
    → old.sink_faults ≤ new.sink_faults → Checks tells old new status
refused_checks tells old new status refused well client same later = record {
  came = refused.came;
  keeps = λ t log sound. keeps_log old.disk.told new.disk.told log (refused.came.goes t) (well t) sound;
  output = [];
  reports = refused_reports tells old new status refused.cause;
  wrote = λ t. same ∙ sym (append-nil old.written);
  ended = refused_end tells old new status refused.cause;
  later = later;
  whole = client.whole;
  taken = client.taken;
  moments = client.moments;
}

-- ---- a report

-- the directory as it was before its settings were read
earlier_report : (len : ℕ) (was mid now : Told) (text : List ℕ) → AsksOnly settings_file len was mid → IsReportOf mid now text
    → IsReportOf was now text
earlier_report len was mid now text asks is = record {
  files = is.files;
  report = is.report;
  is_report = subst (λ (i : Image). IsReport i is.files is.report) asks.image is.is_report;
  says = is.says;
  idle = is.idle;
}

-- What a report came to, over a directory whose settings were read before
pub record Reported (tells : Telling) (old new : Outside) (mid : DiskShown) (r : Result Unit ReportError) : Type 0 where
  pub settings : StoreSettings
  pub says : IsTrue tells.disk → SaysSettings old.disk.told settings
  pub len : ℕ
  pub asked : IsTrue tells.disk → AsksOnly settings_file len old.disk.told mid.told
  pub before : Came tells.disk old.disk mid
  pub after : Came tells.disk mid new.disk
  pub output : List ℕ
  pub told : Tells r tells.disk mid.told new.disk.told output
  pub wrote : IsTrue tells.sink → new.written ≡ old.written ++ output
  pub disk : IsErrOf r report_disk → Rose mid.faults new.disk.faults
  pub read : IsErrOf r report_read → Rose mid.views new.disk.views
  pub sink : IsErrOf r report_sink → Rose old.sink_faults new.sink_faults
  pub later : old.sink_faults ≤ new.sink_faults

module _ (tells : Telling) (old new : Outside) (mid : DiskShown) where
  reports_as : (r : Result Unit ReportError) (is : Reported tells old new mid r)
      → Reports (of_report r) tells.disk old.disk.told new.disk.told is.output
  reports_as (Ok done) is = λ t. earlier_report is.len old.disk.told mid.told new.disk.told is.output (is.asked t) (is.told t)
  reports_as (Err report_sink) is = (
    is.told.0,
    λ t. earlier_report is.len old.disk.told mid.told new.disk.told (is.output ++ is.told.0) (is.asked t) (is.told.1 t),
  )
  reports_as (Err report_disk) is = is.told
  reports_as (Err report_read) is = is.told
  reports_as (Err report_memory) is = is.told

  ends_as : (r : Result Unit ReportError) → Reported tells old new mid r → IsEndOf (of_report r) tells old new
  ends_as (Ok done) is = λ t. (is.settings, is.says t)
  ends_as (Err report_sink) is = is.sink refl
  ends_as (Err report_disk) is = inl (rose_since old.disk.faults mid.faults new.disk.faults is.before.faults (is.disk refl))
  ends_as (Err report_read) is = inr (rose_since old.disk.views mid.views new.disk.views is.before.views (is.read refl))
  ends_as (Err report_memory) is = tt

  pub reported_checks : (r : Result Unit ReportError) → Reported tells old new mid r → (IsTrue tells.disk → IsWell new.disk.told)
      → LeavesClient old new → Checks tells old new (of_report r)
  reported_checks r is well client =
      let came = came_trans tells.disk old.disk mid new.disk is.before is.after in
      record {
        came = came;
        keeps = λ t log sound. keeps_log old.disk.told new.disk.told log (came.goes t) (well t) sound;
        output = is.output;
        reports = reports_as r is;
        wrote = is.wrote;
        ended = ends_as r is;
        later = is.later;
        whole = client.whole;
        taken = client.taken;
        moments = client.moments;
      }

-- ---- the status

pub check_disk : (tells : Telling) (old new : Outside) (status : Status) → Checks tells old new status → status ≡ Disk
    → IsCauseOf Disk tells.disk old.disk new.disk
check_disk tells old new status is same = subst (λ (s : Status). IsEndOf s tells old new) same is.ended

pub check_sink : (tells : Telling) (old new : Outside) (status : Status) → Checks tells old new status → status ≡ Sink
    → Rose old.sink_faults new.sink_faults
check_sink tells old new status is same = subst (λ (s : Status). IsEndOf s tells old new) same is.ended

-- a run of `check` ends so
check_end : (tells : Telling) (old new : Outside) (status : Status) → IsEndOf status tells old new → MayEnd Check status
check_end tells old new Done is = tt
check_end tells old new Memory is = tt
check_end tells old new Disk is = tt
check_end tells old new Sink is = tt
check_end tells old new Settings is = tt
check_end tells old new status is = absurd is

pub check_ends : (tells : Telling) (old new : Outside) (status : Status) → Checks tells old new status → (command : Command)
    → Check ≡ command → MayEnd command status
check_ends tells old new status is command same =
    subst (λ (c : Command). MayEnd c status) same (check_end tells old new status is.ended)

pub check_source : (tells : Telling) (old new : Outside) (status : Status) → Checks tells old new status → status ≡ Source → ⊥
check_source tells old new status is same = subst (λ (s : Status). IsEndOf s tells old new) same is.ended
