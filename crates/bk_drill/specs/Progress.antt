-- How a drill goes on from line to line.
use Rattle.std.specs.Prelude.{◌≡◌, ℕ, false, List, [], ◌∷◌, length, map, Option, None}
use Rattle.bk_base.specs.declared.limits.TheConstants.{MOST_FOLDS}
use Rattle.bk_base.specs.declared.numbers.Moment.{Moment}
use Rattle.bk_base.specs.declared.numbers.Seq.{Seq as SeqNumber}
use Rattle.bk_base.specs.declared.requests.Full.TheVariants.{Seq, Files}
use Rattle.bk_base.specs.declared.writes.Write.{Write}
use Rattle.bk_disk.specs.Told.{Told, at, listing}
use Rattle.bk_image.specs.SoundDirectory.{IsSoundDisk}
use Rattle.bk_keydir.specs.declared.loads.Loaded.{Loaded}
use Rattle.bk_keydir.specs.declared.loads.Torn.{Torn}
use Rattle.bk_keydir.specs.Slots.{has_open}
use Rattle.bk_load.specs.Directory.{greatest_in}
use Rattle.bk_load.specs.Loads.{IsLoadedFrom}
use Rattle.bk_load.specs.Tidying.{Tidied}
use Rattle.bk_memdisk.specs.Plans.{Planned, counted_to, nothing_chosen}
use Rattle.bk_policy.specs.declared.settings.Settings.{Settings}
use Rattle.bk_script.specs.declared.lines.Action.{Action}
use Rattle.bk_script.specs.declared.lines.Line.{Line}
use Rattle.bk_script.specs.declared.printed.Printed.{Printed}
use Rattle.bk_script.specs.declared.printed.Printed.TheVariants.{Disk, Full, Memory, Reopened}
use Rattle.bk_store.specs.declared.errors.PutError.{PutError}
use Rattle.bk_store.specs.declared.errors.PutError.TheVariants.{FullSeq, FullFiles, Disk as put_disk, Memory as put_memory}
use Rattle.bk_store.specs.declared.sweeps.Stat.{Stat}
use Rattle.bk_store.specs.Shown.{Shown, settings_of}
use Rattle.bk_store.specs.Standing.{StandsFor}
use Rattle.bk_store.specs.Starting.{opening_of}
use Rattle.bk_store.specs.Sweeps.{IsStat}
use Rattle.bk_drill.specs.Actions.{Acts}
use Rattle.bk_drill.specs.Between.{Between, IsEmpty}
use Rattle.bk_drill.specs.Drills.{IsTest}
use Rattle.bk_drill.specs.Lines.{LineIs, Stops, Test, crash_of, line_of_torn}
use Rattle.bk_drill.specs.declared.drills.Drill.{Drill}
use Rattle.bk_drill.specs.declared.stops.Recovered.{Recovered}
use Rattle.bk_drill.specs.Loans.{loan_in, tally_in}
use Rattle.bk_drill.specs.Shown.{IsAt}

-- wherever the drill stood, the action did so
abbrev pub ActsAs : ℕ → Action → Printed → Drill → Drill → Type 0
ActsAs who action line old new =
    (b : Between) → IsAt old b → (later : Between) × Acts b who action line later × IsAt new later

-- wherever the drill stood, the line did so
abbrev pub RunsAs : Line → List Printed → Drill → Drill → Type 0
RunsAs line printed old new = (test : Test) → IsTest test
    → (b : Between) → IsAt old b → (later : Between) × LineIs test b line printed later × IsAt new later

-- a drill over an empty disk
abbrev pub IsNew : Settings → Drill → Type 0
IsNew settings d = (b : Between) × IsEmpty (settings_of settings) b × IsAt d b

-- a drill over this store, with nothing kept
pub record IsOver (store : Shown) (settings : Settings) (now : Moment) (plan : Planned) (d : Drill) : Type 0 where
  pub store_is : d.store ≡ store
  pub settings_are : d.settings ≡ settings
  pub now_is : d.now ≡ now
  pub plan_is : d.plan ≡ plan
  pub no_loan : (actor : ℕ) → loan_in d.loans actor ≡ None
  pub no_tally : (slot : ℕ) → tally_in d.tallies slot ≡ 0

-- Only the room of its disk may be another: the store was parted from its disk and put together again.
abbrev pub IsSameStore : Shown → Shown → Type 0
IsSameStore old new = new ≡ record old { files = record old.files { room = new.files.room } }

-- the line of a write that was refused
abbrev pub line_of_put : PutError → Printed
line_of_put FullSeq = Full Seq
line_of_put FullFiles = Full Files
line_of_put put_disk = Disk
line_of_put put_memory = Memory

-- ---- a recovery

-- the lines of a stop
abbrev pub reopened_lines : SeqNumber → ℕ → List Torn → List Printed
reopened_lines seq keys torn = Reopened seq keys (length torn) ∷ map line_of_torn torn

-- The store of a disk that was recovered, and what is told of it. Where the disk was sound and synced, the store
-- stands for its log.
pub record IsRecovered (settings : Settings) (t : Told) (r : Recovered) : Type 0 where
  pub settings_are : r.store.settings ≡ settings
  pub limit : r.store.files.catalog.max_file ≡ settings.max_file
  pub no_fold : has_open r.store.keys.slots ≡ false
  pub slots : length r.store.keys.slots ≡ MOST_FOLDS
  pub seq : r.seq.0 ≡ r.store.seq
  pub stat : Stat
  pub counted : IsStat stat r.store
  pub keys : r.keys ≡ stat.keys
  pub loaded : Loaded
  pub from : IsLoadedFrom (at r.store.files.told.image) loaded
  pub torn : r.torn.items ≡ loaded.report.torn.items
  pub tidied : Tidied (at t.image) (at r.store.files.told.image)
  pub last_file : r.store.files.catalog.last ≡ greatest_in (listing t.image)
  pub plan : r.plan ≡ counted_to r.plan.calls nothing_chosen
  pub stands : (log : List Write) → IsSoundDisk t log → StandsFor r.store (opening_of log r.store) [] []

-- The drill was stopped: its own disk crashed by the choice, and it goes on over what recovery made of that.
pub record IsStopped (keep : Option ℕ) (flips : List ℕ) (printed : List Printed) (old new : Drill) : Type 0 where
  pub left : Tidied (at (crash_of keep flips old.store.files.told).image) (at new.store.files.told.image)
  pub stops : (test : Test) → IsTest test → (b : Between) → IsAt old b
      → (later : Between) × (stops : Stops test b keep flips printed later)
      × (stops.crash ≡ crash_of keep flips old.store.files.told) × IsAt new later
