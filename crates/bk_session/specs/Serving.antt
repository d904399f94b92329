-- What serving one request does: its exchange, what the store follows then, and what went out.
use Rattle.std.specs.Prelude.{◌≡◌, ◌⊎◌, ℕ, ◌<◌, ◌≤◌, Bool, false, IsTrue, List, [], ◌∷◌, ◌++◌, Some}
use Rattle.std.specs.List.{AllByRecursion, flat_map}
use Rattle.bk_base.specs.declared.histories.Opening.{Opening}
use Rattle.bk_base.specs.declared.histories.Step.{Step}
use Rattle.bk_base.specs.declared.numbers.Moment.{Moment}
use Rattle.bk_base.specs.declared.requests.Reply.TheVariants.{Disk}
use Rattle.bk_base.specs.declared.requests.Request.{Request}
use Rattle.bk_base.specs.declared.writes.Write.{Write}
use Rattle.bk_disk.specs.Crashes.{fronts_at}
use Rattle.bk_disk.specs.Told.{Told, clock}
use Rattle.bk_exchange.specs.Answers.{Context}
use Rattle.bk_exchange.specs.Exchanges.{Exchange, IsCut, IsExchange, asked_in, moment_of}
use Rattle.bk_exchange.specs.OneThread.{IsOwn}
use Rattle.bk_exchange.specs.Points.{Point, point_of}
use Rattle.bk_exchange.specs.Refusals.{is_quit}
use Rattle.bk_exchange.specs.Sessions.{IsQuit, Ticks}
use Rattle.bk_exchange.specs.Writes.{told_by, write_asked}
use Rattle.bk_image.specs.Prefix.{MeetsEither}
use Rattle.bk_laws.specs.History.{log_of}
use Rattle.bk_laws.specs.Wire.{reply_text}
use Rattle.bk_session.specs.declared.serving.Onward.{Onward}
use Rattle.bk_session.specs.declared.serving.Onward.TheVariants.{Next, Quit, Sink, Memory}
use Rattle.bk_session.specs.Following.{Follows, own_context}
use Rattle.bk_session.specs.Outgoing.{Outgoing, Sends, Loses, Stops}
use Rattle.bk_store.specs.History.{kept_of}
use Rattle.bk_store.specs.Shown.{Shown}

-- what a session's disk, sink and clock tell
pub record Tells : Type 0 where
  pub disk : Bool
  pub sink : Bool
  pub clock : Bool

abbrev pub tells_of : Bool → Bool → Bool → Tells
tells_of disk sink clock = record { disk = disk; sink = sink; clock = clock }

-- what a session shows between two requests: its store, the moments that the clock has still to give, and
-- what goes out
pub record SessionState : Type 0 where
  pub store : Shown
  pub moments : List Moment
  pub out : Outgoing

abbrev pub session_state : Shown → List Moment → Outgoing → SessionState
session_state store moments out = record { store = store; moments = moments; out = out }

-- ---- the exchange

-- The request was served; or the session ended in it, with a listing that may be cut.
abbrev pub IsServedAs : Onward → Context → Point → Exchange → Type 0
IsServedAs Next c p x = IsExchange c p x × (is_quit x.request ≡ false)
IsServedAs Quit c p x = IsQuit c p x
IsServedAs Sink c p x = (IsExchange c p x × (is_quit x.request ≡ false)) ⊎ (IsQuit c p x ⊎ IsCut c p x)
IsServedAs Memory c p x = (IsExchange c p x × (is_quit x.request ≡ false)) ⊎ (IsQuit c p x ⊎ IsCut c p x)

-- What an exchange leaves tried, behind this log: nothing; or what was tried before, where it told no write;
-- or its own write, where it was answered DISK.
abbrev pub Tries : List Write → List Write → Exchange → List Write → Type 0
Tries log tried x left =
    (left ≡ []) ⊎ (((left ≡ tried) × (told_by x.request (moment_of x.now) x.replies ≡ []))
    ⊎ ((x.replies ≡ Disk ∷ []) × (left ≡ write_asked x.request (moment_of x.now) log)))

-- ---- a crash within it

-- the step ended after this moment of the disk's clock
abbrev pub IsLater : ℕ → Step → Type 0
IsLater k step = (at : ℕ) × (step.at ≡ Some at) × (k < at)

-- the step ended at this moment of the disk's clock, or after it
abbrev pub IsSince : ℕ → Step → Type 0
IsSince n step = (at : ℕ) × (step.at ≡ Some at) × (n ≤ at)

-- A crash at a moment before the exchange's end meets the prefix of the log before it, with what was tried
-- then or with what it asks to write.
pub record CrashesIn (o : Opening) (h : List Step) (tried : List Write) (x : Exchange) (new : Told) (k : ℕ)
    : Type 0 where
  pub later : AllByRecursion (IsLater k) x.steps
  pub meets : MeetsEither (log_of o h) (kept_of o h) tried
      (write_asked x.request (moment_of x.now) (log_of o h)) (fronts_at new k)

abbrev pub CrashesWithin : Told → Told → Opening → List Step → List Write → Exchange → Type 0
CrashesWithin old new o h tried x =
    (k : ℕ) → clock old ≤ k → k < clock new → CrashesIn o h tried x new k

-- ---- the whole

abbrev pub SendsAs : Onward → Outgoing → List ℕ → Outgoing → Type 0
SendsAs Next old text new = Sends old text new
SendsAs Quit old text new = Sends old text new
SendsAs Sink old text new = Stops old text new
SendsAs Memory old text new = Loses old text new

pub record Served (tells : Tells) (request : Request) (onward : Onward) (old new : SessionState) (o : Opening)
    (h : List Step) (tried : List Write) : Type 0 where
  pub x : Exchange
  pub left : List Write
  pub asked : x.request ≡ request
  pub is : IsServedAs onward (own_context o) (point_of o h) x
  pub own : IsOwn (own_context o) x
  pub ticks : IsTrue tells.clock → Ticks (asked_in x.now) old.moments new.moments
  pub follows : Follows tells.disk new.store o (h ++ x.steps) left
  pub tries : Tries (log_of o h) tried x left
  pub since : IsTrue tells.disk → AllByRecursion (IsSince (clock old.store.files.told)) x.steps
  pub crash : IsTrue tells.disk
      → CrashesWithin old.store.files.told new.store.files.told o h tried x
  pub writes : IsTrue tells.sink → SendsAs onward old.out (flat_map reply_text x.replies) new.out

-- of every history that the store followed
abbrev pub Serves : Tells → Request → Onward → SessionState → SessionState → Type 0
Serves tells request onward old new =
    (o : Opening) (h : List Step) (tried : List Write) → Follows tells.disk old.store o h tried
    → Served tells request onward old new o h tried
