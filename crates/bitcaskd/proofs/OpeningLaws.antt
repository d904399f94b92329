-- What is known of the moments in which a store was opened.
use Rattle.std.proofs.Common.{◌≡◌, ◌∙◌, ℕ, List, [], Bool, false, map, refl, sym, ap, subst, inl, inr, IsTrue, Result, Err}
use Rattle.bk_base.specs.declared.names.Name.{Name}
use Rattle.bk_base.specs.declared.statuses.Status.{Status}
use Rattle.bk_base.specs.declared.statuses.Status.TheVariants.{Done, Memory, Words, Disk, Source, Sink, Syntax, Settings, Damaged, Full, Long, Door}
use Rattle.bk_base.specs.declared.writes.Write.{Write}
use Rattle.bk_disk.specs.Causes.{Rose}
use Rattle.bk_disk.specs.Crashes.{MayLeave, front_of}
use Rattle.bk_disk.specs.Shown.{DiskShown}
use Rattle.bk_disk.specs.Told.{Front, Image, IsOnce, IsWell, Table, Told, at, clock, names}
use Rattle.bk_image.specs.SoundDirectory.{IsSound, IsSoundDisk}
use Rattle.bk_image.specs.Readings.{main}
use Rattle.bk_keydir.specs.Slots.{has_open}
use Rattle.bk_load.specs.Courses.{Came, Course}
use Rattle.bk_load.specs.SettingsFile.{Answers, Loads, settings_file}
use Rattle.bk_load.specs.Steps.{AsksOnly}
use Rattle.bk_load.specs.Tidying.{Goes}
use Rattle.bk_load.specs.declared.errors.LoadSettings.{LoadSettings}
use Rattle.bk_load.specs.declared.errors.LoadSettings.TheVariants.{Bad, Disk as settings_disk, Read as settings_read, Memory as settings_memory}
use Rattle.bk_load.specs.declared.errors.OpenError.{OpenError}
use Rattle.bk_load.specs.declared.errors.OpenError.TheVariants.{Disk as open_disk, Read as open_read, Memory as open_memory}
use Rattle.bk_load.proofs.Courses.{came_trans}
use Rattle.bk_load.proofs.Going.{asks_goes}
use Rattle.bk_load.proofs.KeptLogs.{recovery_keeps_log, tidied_sound}
use Rattle.bk_load.proofs.Tidied.{apart_kinds}
use Rattle.bk_policy.specs.declared.settings.Settings.{Settings as StoreSettings}
use Rattle.bk_store.specs.Events.{KeepsPast}
use Rattle.bk_store.specs.Shown.{Shown}
use Rattle.bk_store.specs.Standing.{StandsFor}
use Rattle.bk_store.specs.Starting.{opening_of}
use Rattle.bk_files.specs.Files.{disk_shown}
use Rattle.bitcaskd.specs.Opening.{IsCauseOf, IsRefused, KeepsLog, Opens, SaysSettings, of_open, of_settings}
use Rattle.bitcaskd.specs.Commands.{MayEnd}
use Rattle.bitcaskd.specs.Run.{OpensAt}
use Rattle.bitcaskd.specs.declared.command.Command.TheVariants.{Open}
use Rattle.bitcaskd.specs.declared.command.Work.{Work}
use Rattle.bk_store.proofs.AppendExits.{rose_since}

-- ---- crashes

pub opens_at : (t u v : Told) (log : List Write) → Goes t u → IsSoundDisk t log → KeepsPast u v → OpensAt (clock u) t v log
opens_at t u v log goes holds past = record {
  later = goes.later;
  within = past.later;
  crash = λ k low high image may.
      recovery_keeps_log t u log goes holds.synced holds.sound k low high image
      (subst (λ (f : Table Front). MayLeave f image) (past.same k high) may);
}

pub keeps_log : (t u : Told) (log : List Write) → Goes t u → IsWell u → IsSoundDisk t log → KeepsLog t u log
keeps_log t u log goes well sound = record {
  now = record {
    well = well;
    sound = tidied_sound t.image u.image log goes.tidied sound.sound;
    synced = goes.synced sound.synced;
  };
  crash = λ k low high image may. recovery_keeps_log t u log goes sound.synced sound.sound k low high image may;
}

-- ---- what the calls of an opening make of a disk

pub settings_came : (tells : Bool) (was now : DiskShown) (len : ℕ) (r : Result StoreSettings LoadSettings) → Loads was now r
    → (IsTrue tells → AsksOnly settings_file len was.told now.told) → Came tells was now
settings_came tells was now len r loads asked = record {
  faults = loads.faults;
  views = loads.views;
  outs = loads.outs;
  goes = λ t. asks_goes settings_file len was.told now.told
      (λ k. apart_kinds (main k) settings_file (λ is. absurd (cc is))) (asked t);
}

pub holds_still : (len : ℕ) (t u : Told) (log : List Write) → AsksOnly settings_file len t u → IsSoundDisk t log → IsSoundDisk u log
holds_still len t u log asks sound = record {
  well = record {
    once = subst (λ (i : Image). IsOnce (names i)) (sym asks.image) sound.well.once;
    paired = ap names asks.fronts ∙ sound.well.paired ∙ ap names (sym asks.image);
  };
  sound = subst (λ (i : Image). IsSound i log) (sym asks.image) sound.sound;
  synced = asks.fronts ∙ sound.synced ∙ ap (map (λ (e : Name × List ℕ). (e.0, front_of e.1))) (sym asks.image);
}

-- the directory was opened with the settings that were read
pub opens_by : (tells : Bool) (was now : DiskShown) (store : Shown) (settings : StoreSettings) → Came tells was now
    → (IsTrue tells → (log : List Write) → IsSoundDisk was.told log → IsSoundDisk now.told log)
    → (IsTrue tells → SaysSettings was.told settings) → Came tells now (disk_shown store.files)
    → store.settings ≡ settings → store.files.catalog.max_file ≡ settings.max_file → has_open store.keys.slots ≡ false
    → (IsTrue tells → (log : List Write) → IsSoundDisk now.told log
    → StandsFor store (opening_of log store) [] [])
    → Opens tells was store
opens_by tells was now store settings before holds says after are limit no_fold stands = record {
  came = came_trans tells was now (disk_shown store.files) before after;
  rested = record {
    no_fold = no_fold;
    limit = limit ∙ ap (λ (x : StoreSettings). x.max_file) (sym are);
  };
  says = λ t. subst (SaysSettings was.told) (sym are) (says t);
  stands = λ t log is. stands t log (holds t log is);
}

pub no_settings : (tells : Bool) (was now : DiskShown) (e : LoadSettings) → Came tells was now
    → Loads was now (Err e) → (IsTrue tells → Answers (at was.told.image settings_file) (Err e))
    → IsRefused tells was now (of_settings e)
no_settings tells was now (Bad error) came loads says = record { cause = λ t. (error, says t); came = came }
no_settings tells was now settings_disk came loads says = record { cause = inl (loads.disk refl); came = came }
no_settings tells was now settings_read came loads says = record { cause = inr (loads.read refl); came = came }
no_settings tells was now settings_memory came loads says = record { cause = tt; came = came }

pub not_opened : (tells : Bool) (was now last : DiskShown) (e : OpenError) → Came tells was now
    → Course {T = Unit {0}} tells now last (Err e) → IsRefused tells was last (of_open e)
not_opened tells was now last open_disk before course = record {
  cause = inl (rose_since was.faults now.faults last.faults before.faults (course.disk refl));
  came = came_trans tells was now last before course.came;
}
not_opened tells was now last open_read before course = record {
  cause = inr (rose_since was.views now.views last.views before.views (course.read refl));
  came = came_trans tells was now last before course.came;
}
not_opened tells was now last open_memory before course =
    record { cause = tt; came = came_trans tells was now last before course.came }

-- ---- the status of a run

-- a count that rose behind the opening rose in the run
pub rose_in_run : (tells : Bool) (was : DiskShown) (store : Shown) (faults : ℕ) → Opens tells was store
    → Rose store.files.faults faults → Rose was.faults faults
rose_in_run tells was store faults opens rose =
    rose_since was.faults store.files.faults faults opens.came.faults rose

pub views_in_run : (tells : Bool) (was : DiskShown) (store : Shown) (views : ℕ) → Opens tells was store
    → Rose store.files.fallible_views views → Rose was.views views
views_in_run tells was store views opens rose =
    rose_since was.views store.files.fallible_views views opens.came.views rose

pub refused_ends : (tells : Bool) (was now : DiskShown) (status : Status) → IsRefused tells was now status
    → (work : Work) → MayEnd (Open work) status
refused_ends tells was now status refused work = go status refused.cause
  where
    go : (s : Status) → IsCauseOf s tells was now → MayEnd (Open work) s
    go Settings is = tt
    go Disk is = tt
    go Memory is = tt
    go Done is = absurd is
    go Words is = absurd is
    go Source is = absurd is
    go Sink is = absurd is
    go Syntax is = absurd is
    go Damaged is = absurd is
    go Full is = absurd is
    go Long is = absurd is
    go Door is = absurd is

-- what such a refusal says of a status
pub caused : (tells : Bool) (was now : DiskShown) (status other : Status) → IsRefused tells was now status → status ≡ other
    → IsCauseOf other tells was now
caused tells was now status other refused is = subst (λ (s : Status). IsCauseOf s tells was now) is refused.cause
