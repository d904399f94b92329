-- What a session does, from the bytes of its source to those of its sink.
use Rattle.std.specs.Prelude.{◌≡◌, ℕ, List, ◌++◌, Bool, IsTrue}
use Rattle.bk_base.specs.declared.histories.Opening.{Opening}
use Rattle.bk_base.specs.declared.histories.Step.{Step}
use Rattle.bk_base.specs.declared.numbers.Moment.{Moment}
use Rattle.bk_base.specs.declared.statuses.SessionEnd.{SessionEnd}
use Rattle.bk_base.specs.declared.writes.Write.{Write}
use Rattle.bk_exchange.specs.OneThread.{OneThread}
use Rattle.bk_exchange.specs.Sessions.{Session, Telling, Traffic, exchanges}
use Rattle.bk_session.specs.Crashes.{CrashesBetween}
use Rattle.bk_session.specs.Following.{Follows, own_context}
use Rattle.bk_store.specs.Shown.{Shown}

-- The two sides of a session. On the one side its store; on the other what the source has still to give, what
-- the sink took, and the moments that the clock has still to give.
pub record Sides : Type 0 where
  pub store : Shown
  pub left : List ℕ
  pub written : List ℕ
  pub moments : List Moment

abbrev pub sides_of : Shown → List ℕ → List ℕ → List Moment → Sides
sides_of store left written moments =
    record { store = store; left = left; written = written; moments = moments }

abbrev pub telling : Bool → Bool → Bool → Telling
telling source sink clock = record { source = source; sink = sink; clock = clock }

-- what passed between a session and its client
abbrev pub traffic : Sides → Sides → List ℕ → Traffic
traffic old new output = record {
  input = old.left;
  left = new.left;
  output = output;
  moments = old.moments;
  later = new.moments;
}

-- A session was held on one thread, and its store followed the history to h2. A crash leaves at each moment
-- what the exchanges that were done by then say.
pub record IsHeld (known : Bool) (tells : Telling) (most : ℕ) (old new : Sides) (end : SessionEnd)
    (o : Opening) (h : List Step) (first : List Write) : Type 0 where
  pub h2 : List Step
  pub tried : List Write
  pub output : List ℕ
  pub session : Session (own_context o) tells most h h2 (traffic old new output) end
  pub one_thread : OneThread (own_context o) h2 first tried session.transcript
  pub wrote : IsTrue tells.sink → new.written ≡ old.written ++ output
  pub follows : Follows known new.store o h2 tried
  pub crash : IsTrue known → CrashesBetween old.store.files.told new.store.files.told o h first
      (exchanges session.transcript)

-- It is said of each history that the store followed, with all that is known of what it holds.
abbrev pub IsHeldFor : Bool → Telling → ℕ → Sides → Sides → SessionEnd → Type 0
IsHeldFor known tells most old new end = (o : Opening) (h : List Step) (first : List Write)
    → Follows known old.store o h first → IsHeld known tells most old new end o h first
