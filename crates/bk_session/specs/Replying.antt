-- What one event of the store answers to a request: its line, and what the store follows then.
use Rattle.std.specs.Prelude.{◌≡◌, ◌≢◌, Bool, true, IsTrue, List, [], ◌∷◌, ◌++◌, drop, Option, Some}
use Rattle.bk_base.specs.declared.histories.Opening.{Opening}
use Rattle.bk_base.specs.declared.histories.Step.{Step}
use Rattle.bk_base.specs.declared.numbers.Moment.{Moment}
use Rattle.bk_base.specs.declared.requests.Reply.{Reply}
use Rattle.bk_base.specs.declared.requests.Reply.TheVariants.{Damaged, Memory, Read, Value}
use Rattle.bk_base.specs.declared.requests.Request.{Request}
use Rattle.bk_base.specs.declared.writes.Write.{Write}
use Rattle.bk_disk.specs.Crashes.{AtEach}
use Rattle.bk_disk.specs.Told.{clock}
use Rattle.bk_exchange.specs.Exchanges.{Exchange, Replies, moment_of}
use Rattle.bk_exchange.specs.OneThread.{QuietCalls, one_if_quiet}
use Rattle.bk_exchange.specs.Points.{events, point_of}
use Rattle.bk_exchange.specs.Writes.{write_asked}
use Rattle.bk_image.specs.Prefix.{MeetsEither}
use Rattle.bk_laws.specs.History.{log_of}
use Rattle.bk_session.specs.Following.{Follows, own_context}
use Rattle.bk_session.specs.Serving.{Tries}
use Rattle.bk_store.specs.Events.{KeepsPast, clock_of}
use Rattle.bk_store.specs.History.{kept_of}
use Rattle.bk_store.specs.Loans.{Lent}
use Rattle.bk_session.specs.Outgoing.{IsDamageOf}
use Rattle.bk_store.specs.Shown.{Shown}

abbrev pub exchange_of : Request → Option Moment → List Step → List Reply → Exchange
exchange_of request now steps replies = record { request = request; now = now; steps = steps; replies = replies }

-- The request was served by this one line, and by one step of the session's own.
pub record Replied (tells : Bool) (request : Request) (now : Option Moment) (reply : Reply) (v u : Shown)
    (o : Opening) (h : List Step) (tried : List Write) : Type 0 where
  pub step : Step
  pub left : List Write
  pub caller : step.entry.caller ≡ 0
  pub at : step.at ≡ clock_of tells u.files.told
  pub past : IsTrue tells → KeepsPast v.files.told u.files.told
  pub replied : Replies (own_context o) request (moment_of now) (events (point_of o h) (step ∷ [])) (reply ∷ [])
  pub quiet : QuietCalls (Some reply) (one_if_quiet step.entry.call)
  pub follows : Follows tells u o (h ++ step ∷ []) left
  pub tries : Tries (log_of o h) tried (exchange_of request now (step ∷ []) (reply ∷ [])) left
  pub crash : IsTrue tells → AtEach u.files.told (clock v.files.told)
      (MeetsEither (log_of o h) (kept_of o h) tried (write_asked request (moment_of now) (log_of o h)))

-- of every history that the store followed
abbrev pub RepliesOnce : Bool → Request → Option Moment → Reply → Shown → Shown → Type 0
RepliesOnce tells request now reply v u =
    (o : Opening) (h : List Step) (tried : List Write) → Follows tells v o h tried
    → Replied tells request now reply v u o h tried

-- the line that shows the value of a loan, or why it couldn't be read
abbrev pub IsGiven : Bool → Lent → Reply → Type 0
IsGiven tells l (Value value) = IsTrue tells → value ≡ drop l.value_at l.left
IsGiven tells l Read = l.fallible ≡ true
IsGiven tells l (Damaged d) = IsDamageOf tells l d
IsGiven tells l Memory = Unit {0}
IsGiven tells l reply = ⊥
