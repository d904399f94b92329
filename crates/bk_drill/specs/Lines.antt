-- What each line of a script does, and the lines that it prints.
use Rattle.std.specs.Prelude.{◌≡◌, ◌≢◌, ◌⊎◌, ℕ, ◌<◌, ◌≤◌, ◌&&◌, Bool, true, IsTrue, IsSome, List, [], ◌∷◌, ◌++◌, length, map, Option}
use Rattle.bk_base.specs.declared.histories.StoreSettings.{StoreSettings}
use Rattle.bk_disk.specs.Crashes.{MayLeave}
use Rattle.bk_disk.specs.Told.{Front, Image, Table, Told, at, listing}
use Rattle.bk_exchange.specs.Answers.{map_size}
use Rattle.bk_image.specs.Chance.{NoChance}
use Rattle.bk_image.specs.Prefix.{HasPrefix, MeetsPrefix, Prefix}
use Rattle.bk_image.specs.SoundDirectory.{IsSound}
use Rattle.bk_keydir.specs.declared.loads.Loaded.{Loaded}
use Rattle.bk_keydir.specs.declared.loads.Torn.{Torn}
use Rattle.bk_laws.specs.Log.{last_seq}
use Rattle.bk_load.specs.Directory.{greatest_in}
use Rattle.bk_load.specs.Loads.{IsLoadedFrom}
use Rattle.bk_load.specs.Tidying.{Tidied}
use Rattle.bk_memdisk.specs.Crash.{crashed}
use Rattle.bk_memdisk.specs.Plans.{Planned, chosen, counted_to, effect_at, fused}
use Rattle.bk_script.specs.declared.lines.Action.{Action}
use Rattle.bk_script.specs.declared.lines.Line.{Line}
use Rattle.bk_script.specs.declared.lines.Line.TheVariants.{Max, Ttl, At, Fail, Fuse, By, Stop}
use Rattle.bk_script.specs.declared.printed.Printed.{Printed}
use Rattle.bk_script.specs.declared.printed.Printed.TheVariants.{Disk, Memory, Read, Reopened, Torn as torn_line}
use Rattle.bk_store.specs.History.{kept_of}
use Rattle.bk_drill.specs.Between.{Begins, Between, IsEmpty, log_at, with_plan}
use Rattle.bk_drill.specs.Actions.{Acts}

-- A test of what a crash left of a disk. It says true only where no torn bytes are a record by chance.
abbrev pub Test : Type 0
Test = Table Front → Image → Bool

-- ---- a stop

-- What a crash found and left: of each file what it may lose, the files as they read, and as it left them.
pub record Crash : Type 0 where
  pub fronts : Table Front
  pub before : Image
  pub image : Image

-- the crash of a disk by a choice
abbrev pub crash_of : Option ℕ → List ℕ → Told → Crash
crash_of keep flips t = record { fronts = t.fronts; before = t.image; image = crashed keep flips t.fronts t.image }

-- The crash left what the choice says, which is one of the images that it may leave.
pub record IsCrash (keep : Option ℕ) (flips : List ℕ) (c : Crash) : Type 0 where
  pub chosen : c.image ≡ crashed keep flips c.fronts c.before
  pub allowed : MayLeave c.fronts c.image

-- A crash that changes no byte meets no chance match; of each other one the test says whether it did.
abbrev pub is_clear : Test → List ℕ → Crash → Bool
is_clear test [] c = true
is_clear test (flip ∷ flips) c = test c.fronts c.image

-- The disk that it found was that of the history: it had the map of the log, and each image that a crash may
-- leave of it has that of a prefix with each synced write.
pub record IsDiskOf (b : Between) (c : Crash) : Type 0 where
  pub map_is : Prefix c.before (log_at b) (length (log_at b)) b.tried
  pub crash : MeetsPrefix (log_at b) (kept_of b.opening b.steps) b.tried c.fronts

-- The next history opens with the log that the image has, which has the map of such a prefix.
pub record IsReopened (b later : Between) (c : Crash) : Type 0 where
  pub sound : IsSound c.image later.opening.log
  pub part : HasPrefix later.opening.log (kept_of b.opening b.steps) (log_at b ++ b.tried)

-- the files behind whose whole records more bytes stand
abbrev pub line_of_torn : Torn → Printed
line_of_torn t = torn_line t.file t.at t.bytes

-- The numbers are those of what recovery loaded of the image: the last seq, the keys, and the torn files.
pub record Prints (later : Between) (c : Crash) (lines : List Printed) : Type 0 where
  pub recovered : Image
  pub tidied : Tidied (at c.image) (at recovered)
  pub loaded : Loaded
  pub is : IsLoadedFrom (at recovered) loaded
  pub keys : ℕ
  pub size : IsTrue later.sound → keys ≡ map_size later.opening.log
  pub are : lines ≡ Reopened (record { 0 = last_seq later.opening.log }) keys (length loaded.report.torn.items)
      ∷ map line_of_torn loaded.report.torn.items

pub record Stops (test : Test) (b : Between) (keep : Option ℕ) (flips : List ℕ) (lines : List Printed) (later : Between)
    : Type 0 where
  pub crash : Crash
  pub is : IsCrash keep flips crash
  pub disk : IsTrue b.sound → IsDiskOf b crash
  pub flipless : IsTrue b.sound → flips ≡ [] → NoChance crash.fronts crash.image
  pub sound : later.sound ≡ (b.sound && is_clear test flips crash)
  pub reopened : IsTrue later.sound → IsReopened b later crash
  pub begins : Begins later
  -- files are numbered on from the greatest number that is there
  pub last_file : later.opening.snapshot.last_file.0 ≡ greatest_in (listing crash.image)
  pub settings : later.opening.settings ≡ b.opening.settings
  pub moment : later.moment ≡ b.moment
  pub prints : Prints later crash lines

-- ---- an action

-- Of the calls of the disk that are made up to this number, one is chosen to fail.
abbrev pub MeetsChosen : Planned → ℕ → Type 0
MeetsChosen plan calls = (call : ℕ) × (plan.calls < call) × (call ≤ calls) × IsSome (effect_at call plan)

-- An action printed this line, and the calls of the disk are this many then. DISK is printed only where one of those
-- that it made was chosen to fail; and where one was, nothing else is, but for MEMORY. READ is never printed: no view
-- that was opened is chosen to fail.
pub record IsAsPlanned (plan : Planned) (calls : ℕ) (line : Printed) : Type 0 where
  pub made : plan.calls ≤ calls
  pub refused : line ≡ Disk → MeetsChosen plan calls
  pub fails : MeetsChosen plan calls → (line ≡ Disk) ⊎ (line ≡ Memory)
  pub not_read : line ≢ Read

-- The action is one of the history, and the calls of the disk are counted on.
pub record ActsOnDisk (b : Between) (who : ℕ) (action : Action) (line : Printed) (later : Between) : Type 0 where
  pub acted : Between
  pub acts : Acts b who action line acted
  pub calls : ℕ
  pub planned : IsAsPlanned b.plan calls line
  pub counted : later ≡ with_plan (counted_to calls b.plan) acted

-- ---- the whole

-- a setting, which stands before all other lines
abbrev pub Sets : StoreSettings → List Printed → Between → Type 0
Sets settings lines later = (lines ≡ []) × IsEmpty settings later

-- The call is chosen, or there is no memory to note it.
abbrev pub Chooses : Between → Planned → List Printed → Between → Type 0
Chooses b plan lines later =
    ((lines ≡ []) × (later ≡ with_plan plan b)) ⊎ ((lines ≡ Memory ∷ []) × (later ≡ b))

abbrev pub LineIs : Test → Between → Line → List Printed → Between → Type 0
LineIs test b (Max n) lines later = Sets (record b.opening.settings { max_file = n }) lines later
LineIs test b (Ttl n) lines later = Sets (record b.opening.settings { ttl = n }) lines later
LineIs test b (At now) lines later = (lines ≡ []) × (later ≡ record b { moment = now })
LineIs test b (Fail nth effect) lines later = Chooses b (chosen nth effect b.plan) lines later
LineIs test b (Fuse calls effect) lines later = (lines ≡ []) × (later ≡ with_plan (fused calls effect b.plan) b)
LineIs test b (By actor action) lines later = (line : Printed) × (lines ≡ line ∷ []) × ActsOnDisk b actor.0 action line later
LineIs test b (Stop keep flips) lines later = Stops test b keep flips lines later
