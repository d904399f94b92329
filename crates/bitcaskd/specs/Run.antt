-- What one run of `pipe` does, from the bytes of its source to the bytes of its sink.
use Rattle.std.specs.Prelude.{◌≡◌, ◌⊎◌, ℕ, ◌<◌, ◌≤◌, List, [], ◌∷◌, ◌++◌, Bool, IsTrue, Some, length, drop, sum_by}
use Rattle.std.specs.Prelude.{false}
use Rattle.bk_base.specs.declared.limits.TheConstants.{LONGEST_SESSION}
use Rattle.bk_base.specs.declared.numbers.Moment.{Moment}
use Rattle.bk_base.specs.declared.histories.Opening.{Opening}
use Rattle.bk_base.specs.declared.histories.Step.{Step}
use Rattle.bk_base.specs.declared.calls.Call.TheVariants.{Sync, Quiet}
use Rattle.bk_base.specs.declared.statuses.SessionEnd.{SessionEnd}
use Rattle.bk_base.specs.declared.statuses.Status.{Status}
use Rattle.bk_base.specs.declared.writes.Write.{Write}
use Rattle.bk_disk.specs.Counts.{Counted}
use Rattle.bk_disk.specs.Crashes.{MayLeaveNow, fronts_at}
use Rattle.bk_disk.specs.Shown.{DiskShown}
use Rattle.bk_disk.specs.Told.{Image, Told, clock}
use Rattle.bk_exchange.specs.Exchanges.{Exchange}
use Rattle.bk_exchange.specs.OneThread.{OneThread}
use Rattle.bk_exchange.specs.Sessions.{Session, Traffic, exchanges}
use Rattle.bk_exchange.specs.Sessions.{Telling as ClientTelling}
use Rattle.bk_image.specs.Prefix.{MeetsEither, MeetsPrefix, Prefix}
use Rattle.bk_image.specs.SoundDirectory.{IsSoundDisk}
use Rattle.bk_laws.specs.History.{IsLegalHistory, log_of}
use Rattle.bk_policy.specs.declared.settings.Settings.{Settings as StoreSettings}
use Rattle.bk_session.specs.Crashes.{CrashesAt}
use Rattle.bk_session.specs.Following.{own_context}
use Rattle.bk_store.specs.History.{kept_of}
use Rattle.bk_store.specs.Shown.{settings_of}
use Rattle.bitcaskd.specs.Closing.{IsLeft, if_unsynced, status_of}
use Rattle.bitcaskd.specs.Opening.{IsRefused, KeepsLog, LeavesLog, SaysSettings}

-- which of the four objects tell their content
pub record Telling : Type 0 where
  pub disk : Bool
  pub source : Bool
  pub sink : Bool
  pub clock : Bool

-- what the objects show: the disk with its counts, what the source holds and how much of it was
-- taken, what the sink took and how often it failed, and the moments that the clock has to give
pub record Outside : Type 0 where
  pub disk : DiskShown
  pub whole : List ℕ
  pub taken : ℕ
  pub written : List ℕ
  pub sink_faults : ℕ
  pub moments : List Moment

abbrev pub outside : DiskShown → List ℕ → ℕ → List ℕ → ℕ → List Moment → Outside
outside disk whole taken written sink_faults moments = record {
  disk = disk;
  whole = whole;
  taken = taken;
  written = written;
  sink_faults = sink_faults;
  moments = moments;
}

abbrev pub telling : Bool → Bool → Bool → Bool → Telling
telling disk source sink clock = record { disk = disk; source = source; sink = sink; clock = clock }

-- what the source, the sink and the clock tell
abbrev pub client_tells : Telling → ClientTelling
client_tells tells = record { source = tells.source; sink = tells.sink; clock = tells.clock }

-- the most bytes that are taken
abbrev pub most_taken : ℕ
most_taken = LONGEST_SESSION

-- what passed between the run and its client: of the source what was left, and what the sink took
abbrev pub traffic : Outside → Outside → List ℕ → Traffic
traffic old new output = record {
  input = drop old.taken old.whole;
  left = drop new.taken new.whole;
  output = output;
  moments = old.moments;
  later = new.moments;
}

-- the numbers of all steps
abbrev pub faults_in : List Step → ℕ
faults_in = sum_by (λ (step : Step). step.faults)

abbrev pub views_in : List Step → ℕ
views_in = sum_by (λ (step : Step). step.views)

abbrev pub outs_in : List Step → ℕ
outs_in = sum_by (λ (step : Step). step.outs)

-- ---- how it ends

-- A crash now takes nothing: what it leaves has exactly the map of this log.
abbrev pub IsAllSynced : Told → List Write → Type 0
IsAllSynced t log = (image : Image) → MayLeaveNow t image → Prefix image log (length log) []

-- The sync at the end: a step that syncs, after which a crash takes nothing; or one that was
-- refused, whose disk failed.
pub record IsSync (known : Bool) (t : Told) (log : List Write) (step : Step) : Type 0 where
  pub call : step.entry.call ≡ Sync
  pub synced : IsTrue known → IsAllSynced t log

pub record IsFailedSync (step : Step) : Type 0 where
  pub call : step.entry.call ≡ Quiet
  pub failed : 1 ≤ step.faults

-- There is one sync, whatever ended the session. The status says how the session ended; or Disk, where it read
-- the input as far as it goes and only the sync failed.
abbrev pub Closes : Bool → Told → List Write → SessionEnd → Status → Step → Type 0
Closes known t log end status step =
    (IsSync known t log step × (status ≡ status_of end))
    ⊎ (IsFailedSync step × (status ≡ if_unsynced (status_of end)))

-- ---- what the disk is left with

-- The directory has the map of the log, or of the log and the write that was tried. Each image that
-- a crash may leave without a chance match has that of a prefix with each synced write.
pub record IsLeftWith (t : Told) (o : Opening) (h : List Step) (tried : List Write) : Type 0 where
  pub left : List Write
  pub is_left : IsLeft tried left
  pub image : Prefix t.image (log_of o h) (length (log_of o h)) left
  pub crash : MeetsPrefix (log_of o h) (kept_of o h) left t.fronts

-- The store was opened at this moment of the disk's clock. A crash up to then leaves the log as it was.
pub record OpensAt (opened : ℕ) (old new : Told) (log : List Write) : Type 0 where
  pub later : clock old ≤ opened
  pub within : opened ≤ clock new
  pub crash : (k : ℕ) → clock old ≤ k → k ≤ opened → LeavesLog log (fronts_at new k)

-- Since then the session was served, up to this moment. A crash leaves what the exchanges say that were done.
pub record ServesUntil (ended opened : ℕ) (new : Told) (o : Opening) (xs : List Exchange) : Type 0 where
  pub later : opened ≤ ended
  pub within : ended ≤ clock new
  pub crash : (k : ℕ) → opened ≤ k → k < ended → CrashesAt o [] [] xs k (fronts_at new k)

-- Since then all exchanges are done, and a crash leaves what they all say.
abbrev pub ClosesSince : ℕ → Told → Opening → List Step → List Write → Type 0
ClosesSince ended new o h tried = (k : ℕ) → ended ≤ k → k ≤ clock new
    → MeetsEither (log_of o h) (kept_of o h) tried [] (fronts_at new k)

-- What a crash at each moment of the run leaves.
pub record CrashesIn (old new : Told) (o : Opening) (xs : List Exchange) (h : List Step) (tried : List Write) : Type 0 where
  pub opened : ℕ
  pub ended : ℕ
  pub opens : OpensAt opened old new o.log
  pub serves : ServesUntil ended opened new o xs
  pub closes : ClosesSince ended new o h tried

-- ---- the whole

-- The history opens with no fold and with the settings that the directory's file says; and with this log, where
-- it is known that the directory held it.
pub record IsOpenedBy (tells : Telling) (old : Outside) (found : List Write) (known : Bool) (o : Opening) : Type 0 where
  pub log : IsTrue known → o.log ≡ found
  pub folds : o.folds ≡ []
  pub whole : o.whole ≡ known
  pub settings : StoreSettings
  pub says : IsTrue tells.disk → SaysSettings old.disk.told settings
  pub are : o.settings ≡ settings_of settings
  pub faults : old.disk.faults ≤ o.faults
  pub views : old.disk.views ≤ o.views
  pub outs : o.outs ≡ old.disk.outs

-- The run is one history: a session with the client on one thread, and a sync. What is said of the store is said
-- where the opening is `whole`; the rest holds over every disk.
pub record IsRun (tells : Telling) (old new : Outside) (status : Status) (log : List Write) (whole : Bool)
    : Type 0 where
  pub opening : Opening
  pub is_opened : IsOpenedBy tells old log whole opening
  pub end : SessionEnd
  pub steps : List Step
  pub output : List ℕ
  pub session : Session (own_context opening) (client_tells tells) most_taken [] steps (traffic old new output) end
  pub tried : List Write
  pub one_thread : OneThread (own_context opening) steps [] tried session.transcript
  pub source : IsTrue tells.source → new.whole ≡ old.whole
  pub wrote : IsTrue tells.sink → new.written ≡ old.written ++ output
  pub closing : Step
  pub own : closing.entry.caller ≡ 0
  pub closes : Closes whole new.disk.told (log_of opening steps) end status closing
  pub closed : IsTrue whole → closing.at ≡ Some (clock new.disk.told)
  pub legal : IsTrue whole → IsLegalHistory opening (steps ++ closing ∷ [])
  pub left : IsTrue whole → IsLeftWith new.disk.told opening (steps ++ closing ∷ []) tried
  pub crash : IsTrue whole → CrashesIn old.disk.told new.disk.told opening (exchanges session.transcript) steps tried
  pub faults : Counted false opening.faults (faults_in (steps ++ closing ∷ [])) new.disk.faults
  pub views : Counted false opening.views (views_in (steps ++ closing ∷ [])) new.disk.views
  pub outs : Counted false opening.outs (outs_in (steps ++ closing ∷ [])) new.disk.outs

-- It is so for each log that the directory holds. Where none is known of it, because the disk doesn't tell
-- or its directory isn't sound, it is so with an opening that isn't `whole`, and with some log.
abbrev pub Runs : Telling → Outside → Outside → Status → Type 0
Runs tells old new status = (log : List Write) (whole : Bool)
    → (IsTrue whole → IsTrue tells.disk × IsSoundDisk old.disk.told log) → IsRun tells old new status log whole

-- The directory wasn't opened: nothing was read or written, and no moment was asked for. Whatever log the
-- directory held, it still holds.
pub record Refuses (tells : Telling) (old new : Outside) (status : Status) : Type 0 where
  pub is_refused : IsRefused tells.disk old.disk new.disk status
  pub keeps : IsTrue tells.disk → (log : List Write) → IsSoundDisk old.disk.told log → KeepsLog old.disk.told new.disk.told log
  pub whole : new.whole ≡ old.whole
  pub taken : new.taken ≡ old.taken
  pub written : new.written ≡ old.written
  pub sink_faults : new.sink_faults ≡ old.sink_faults
  pub moments : new.moments ≡ old.moments
