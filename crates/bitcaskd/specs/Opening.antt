-- How a directory is opened: its settings are read, and it is recovered.
use Rattle.std.specs.Prelude.{◌≡◌, ◌⊎◌, List, [], Bool, false, IsTrue, Ok, Err}
use Rattle.bk_base.specs.declared.statuses.Status.{Status}
use Rattle.bk_base.specs.declared.statuses.Status.TheVariants.{Memory, Disk, Settings}
use Rattle.bk_base.specs.declared.writes.Write.{Write}
use Rattle.bk_disk.specs.Causes.{Rose}
use Rattle.bk_disk.specs.Crashes.{AtEach, MayLeave}
use Rattle.bk_disk.specs.Shown.{DiskShown}
use Rattle.bk_disk.specs.Told.{Front, Image, Table, Told, at, clock}
use Rattle.bk_files.specs.Files.{disk_shown}
use Rattle.bk_image.specs.SoundDirectory.{IsSound, IsSoundDisk}
use Rattle.bk_keydir.specs.Slots.{has_open}
use Rattle.bk_load.specs.Courses.{Came}
use Rattle.bk_load.specs.SettingsFile.{Answers, settings_file}
use Rattle.bk_load.specs.declared.errors.LoadSettings.{LoadSettings}
use Rattle.bk_load.specs.declared.errors.LoadSettings.TheVariants.{Bad, Disk as settings_disk, Read as settings_read, Memory as settings_memory}
use Rattle.bk_load.specs.declared.errors.OpenError.{OpenError}
use Rattle.bk_load.specs.declared.errors.OpenError.TheVariants.{Disk as open_disk, Read as open_read, Memory as open_memory}
use Rattle.bk_policy.specs.declared.errors.SettingsError.{SettingsError}
use Rattle.bk_policy.specs.declared.settings.Settings.{Settings as StoreSettings}
use Rattle.bk_store.specs.Shown.{Shown}
use Rattle.bk_store.specs.Standing.{StandsFor}
use Rattle.bk_store.specs.Starting.{opening_of}

-- each image that a crash may leave is sound and has this log
abbrev pub LeavesLog : List Write → Table Front → Type 0
LeavesLog log fronts = (image : Image) → MayLeave fronts image → IsSound image log

-- The directory has this log, and so has what a crash leaves at each moment since.
pub record KeepsLog (old new : Told) (log : List Write) : Type 0 where
  pub now : IsSoundDisk new log
  pub crash : AtEach new (clock old) (LeavesLog log)

-- what the directory's file says
abbrev pub SaysSettings : Told → StoreSettings → Type 0
SaysSettings t settings = Answers (at t.image settings_file) (Ok settings)

abbrev pub SaysNoSettings : Told → Type 0
SaysNoSettings t = (error : SettingsError) × Answers (at t.image settings_file) (Err (Bad error))

-- Why it wasn't opened: the file of the settings says none, a call or a view failed, or memory ran out.
abbrev pub IsCauseOf : Status → Bool → DiskShown → DiskShown → Type 0
IsCauseOf Settings tells was now = IsTrue tells → SaysNoSettings was.told
IsCauseOf Disk tells was now = Rose was.faults now.faults ⊎ Rose was.views now.views
IsCauseOf Memory tells was now = Unit {0}
IsCauseOf status tells was now = ⊥

-- After a refusal the same files count as before.
pub record IsRefused (tells : Bool) (was now : DiskShown) (status : Status) : Type 0 where
  pub cause : IsCauseOf status tells was now
  pub came : Came tells was now

-- No fold is open, and a file is sealed at the length that the settings say.
pub record IsRested (store : Shown) : Type 0 where
  pub no_fold : has_open store.keys.slots ≡ false
  pub limit : store.files.catalog.max_file ≡ store.settings.max_file

-- The store has the settings that the file says, and stands for the log that the directory held.
pub record Opens (tells : Bool) (was : DiskShown) (store : Shown) : Type 0 where
  pub came : Came tells was (disk_shown store.files)
  pub rested : IsRested store
  pub says : IsTrue tells → SaysSettings was.told store.settings
  pub stands : IsTrue tells → (log : List Write) → IsSoundDisk was.told log
      → StandsFor store (opening_of log store) [] []

-- the status of a run that such a refusal ends
abbrev pub of_settings : LoadSettings → Status
of_settings (Bad error) = Settings
of_settings settings_disk = Disk
of_settings settings_read = Disk
of_settings settings_memory = Memory

abbrev pub of_open : OpenError → Status
of_open open_disk = Disk
of_open open_read = Disk
of_open open_memory = Memory
