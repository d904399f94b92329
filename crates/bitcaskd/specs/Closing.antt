-- How a run closes: its store is synced once, whatever ended the session.
use Rattle.std.specs.Prelude.{◌≡◌, ◌⊎◌, ◌≤◌, List, [], ◌∷◌, ◌++◌, Bool, IsTrue}
use Rattle.bk_base.specs.declared.calls.Answer.TheVariants.{Numbered}
use Rattle.bk_base.specs.declared.calls.Call.TheVariants.{Sync}
use Rattle.bk_base.specs.declared.histories.Opening.{Opening}
use Rattle.bk_base.specs.declared.histories.Step.{Step}
use Rattle.bk_base.specs.declared.numbers.Seq.{Seq}
use Rattle.bk_base.specs.declared.statuses.SessionEnd.{SessionEnd}
use Rattle.bk_base.specs.declared.statuses.SessionEnd.TheVariants.{Quit, End, Syntax as syntax_end, Source as source_end, Sink as sink_end, Long as long_end, Memory as memory_end, Disk as disk_end}
use Rattle.bk_base.specs.declared.statuses.Status.{Status}
use Rattle.bk_base.specs.declared.statuses.Status.TheVariants.{Done, Memory, Disk, Source, Sink, Syntax, Long}
use Rattle.bk_base.specs.declared.writes.Write.{Write}
use Rattle.bk_disk.specs.Causes.{Rose}
use Rattle.bk_disk.specs.Crashes.{AtEach}
use Rattle.bk_disk.specs.Told.{clock}
use Rattle.bk_image.specs.Prefix.{MeetsEither}
use Rattle.bk_laws.specs.History.{log_of}
use Rattle.bk_session.specs.Following.{Follows}
use Rattle.bk_store.specs.Events.{clock_of, entry_by, quiet_by}
use Rattle.bk_store.specs.History.{kept_of}
use Rattle.bk_store.specs.Shown.{Shown}

-- the status of a run whose session ended so, where its last sync is answered
abbrev pub status_of : SessionEnd → Status
status_of Quit = Done
status_of End = Done
status_of (syntax_end offset) = Syntax
status_of source_end = Source
status_of sink_end = Sink
status_of long_end = Long
status_of memory_end = Memory
status_of disk_end = Disk

-- A sync that fails changes the status Done alone.
abbrev pub if_unsynced : Status → Status
if_unsynced Done = Disk
if_unsynced status = status

-- Nothing is tried any more, or what was tried before is so still.
abbrev pub IsLeft : List Write → List Write → Type 0
IsLeft tried left = (left ≡ []) ⊎ (left ≡ tried)

-- at each moment of the sync a crash meets the prefix, with what was tried before it or with nothing
abbrev pub CrashesWithin : Bool → Shown → Shown → Opening → List Step → List Write → Type 0
CrashesWithin known old new o h tried = IsTrue known
    → AtEach new.files.told (clock old.files.told) (MeetsEither (log_of o h) (kept_of o h) tried [])

-- The sync was answered: nothing is tried any more.
pub record Synced (known : Bool) (old new : Shown) (o : Opening) (h : List Step) (tried : List Write) : Type 0 where
  pub seq : Seq
  pub step : Step
  pub entry : step.entry ≡ entry_by 0 Sync (Numbered seq)
  pub at : step.at ≡ clock_of known new.files.told
  pub follows : Follows known new o (h ++ step ∷ []) []
  pub crash : CrashesWithin known old new o h tried

-- It was refused, and the disk counted a fault in it.
pub record Unsynced (known : Bool) (old new : Shown) (o : Opening) (h : List Step) (tried : List Write) : Type 0 where
  pub step : Step
  pub failed : 1 ≤ step.faults
  pub entry : step.entry ≡ quiet_by 0
  pub at : step.at ≡ clock_of known new.files.told
  pub left : List Write
  pub is_left : IsLeft tried left
  pub follows : Follows known new o (h ++ step ∷ []) left
  pub crash : CrashesWithin known old new o h tried

-- It is said of each history that the store followed, with all that is known of what it holds.
abbrev pub OfEach : (Bool → Shown → Shown → Opening → List Step → List Write → Type 0) → Bool → Shown → Shown → Type 0
OfEach P tells old new = (known : Bool) → (IsTrue known → IsTrue tells) → (o : Opening) (h : List Step) (tried : List Write)
    → Follows known old o h tried → P known old new o h tried

-- the status after the sync
abbrev pub ClosesBy : Status → Status → Bool → Shown → Shown → Type 0
ClosesBy status result tells old new =
    ((result ≡ status) × OfEach Synced tells old new)
    ⊎ ((result ≡ if_unsynced status) × Rose old.files.faults new.files.faults × OfEach Unsynced tells old new)
