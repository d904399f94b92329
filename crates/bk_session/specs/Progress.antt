-- How far a session has come between two requests, and what each of its steps does to that.
use Rattle.std.specs.Prelude.{◌≡◌, ℕ, ◌+◌, ◌*◌, ◌-◌, ◌<◌, ◌≤◌, List, [], ◌++◌, length, Bool, IsTrue}
use Rattle.std.specs.Prelude.{Option, None, Some}
use Rattle.std.specs.List.{AllByRecursion}
use Rattle.bk_base.specs.declared.histories.Opening.{Opening}
use Rattle.bk_base.specs.declared.histories.Step.{Step}
use Rattle.bk_base.specs.declared.numbers.Moment.{Moment}
use Rattle.bk_base.specs.declared.statuses.SessionEnd.{SessionEnd}
use Rattle.bk_base.specs.declared.writes.Write.{Write}
use Rattle.bk_exchange.specs.Exchanges.{Exchange}
use Rattle.bk_exchange.specs.OneThread.{IsOwn, MayBeTried}
use Rattle.bk_exchange.specs.Sessions.{SoFar, Telling}
use Rattle.bk_laws.specs.History.{log_of}
use Rattle.bk_session.specs.Crashes.{CrashesBetween}
use Rattle.bk_session.specs.Following.{Follows, own_context}
use Rattle.bk_session.specs.Sessions.{IsHeld, Sides}
use Rattle.bk_session.specs.declared.inbox.Input.{Input}
use Rattle.bk_session.specs.declared.inbox.Input.TheVariants.{Taken, Ended, Long, Failed, Memory}
use Rattle.bk_store.specs.Shown.{Shown}
use Rattle.bk_wire.specs.Stream.{Stream, taken}

-- ---- between two requests

-- These exchanges were served since the store and the clock were as they were first: these bytes were read for
-- them, and this text is their replies.
pub record HasServed (disk ticking : Bool) (old : Shown) (before : List Moment) (now : Shown)
    (later : List Moment) (read made : List ℕ) (o : Opening) (h : List Step) (first : List Write) : Type 0 where
  pub xs : List Exchange
  pub h2 : List Step
  pub tried : List Write
  pub so_far : SoFar (own_context o) ticking h h2 read made before later xs
  pub own : AllByRecursion (IsOwn (own_context o)) xs
  pub tries : MayBeTried (log_of o h2) first xs tried
  pub follows : Follows disk now o h2 tried
  pub crash : IsTrue disk → CrashesBetween old.files.told now.files.told o h first xs

-- Behind what was read the reader has taken more, and of the text a first part was written.
pub record HasCome (disk : Bool) (tells : Telling) (start now : Sides) (stream : Stream) (gathered : List ℕ)
    (o : Opening) (h : List Step) (first : List Write) : Type 0 where
  pub read : List ℕ
  pub made : List ℕ
  pub served : HasServed disk tells.clock start.store start.moments now.store now.moments read made o h first
  pub offset : stream.offset ≡ length read
  pub took : IsTrue tells.source → start.left ≡ (read ++ stream.rest) ++ now.left
  pub wrote : IsTrue tells.sink
      → (out : List ℕ) × (now.written ≡ start.written ++ out) × (out ++ gathered ≡ made)

-- wherever a session had come from, it has come further
abbrev pub ComesOn : Bool → Telling → Sides → Stream → List ℕ → Sides → Stream → List ℕ → Type 0
ComesOn disk tells old stream gathered new later more =
    (start : Sides) (o : Opening) (h : List Step) (first : List Write)
    → HasCome disk tells start old stream gathered o h first
    → HasCome disk tells start new later more o h first

-- wherever it had come from, it has ended so
abbrev pub ComesToEnd : Bool → Telling → Sides → Stream → List ℕ → Sides → SessionEnd → Type 0
ComesToEnd disk tells old stream gathered new end =
    (start : Sides) (o : Opening) (h : List Step) (first : List Write)
    → HasCome disk tells start old stream gathered o h first
    → IsHeld disk tells stream.most start new end o h first

-- how a session goes on: it has come further, or to an end
abbrev pub Goes : Option SessionEnd → Bool → Telling → Sides → Stream → List ℕ → Sides → Stream → List ℕ → Type 0
Goes None disk tells old stream gathered new later more = ComesOn disk tells old stream gathered new later more
Goes (Some end) disk tells old stream gathered new later more = ComesToEnd disk tells old stream gathered new end

-- what is left to be read falls with each step
abbrev pub work_left : Stream → ℕ
work_left stream = 2 * (stream.most - stream.offset) - length stream.rest

-- ---- what is read

-- the piece of the input that was taken
pub record TakesPiece (tells : Bool) (old new : Stream) (left later : List ℕ) : Type 0 where
  pub piece : List ℕ
  pub some : 0 < length piece
  pub offset : new.offset ≡ old.offset
  pub rest : new.rest ≡ old.rest ++ piece
  pub bytes : IsTrue tells → left ≡ piece ++ later

-- a piece that there was no memory for
pub record LosesPiece (tells : Bool) (old : Stream) (left later : List ℕ) : Type 0 where
  pub piece : List ℕ
  pub within : taken old + length piece ≤ old.most
  pub bytes : IsTrue tells → left ≡ piece ++ later

-- What asking a source for more gives.
abbrev pub TakesMore : Input → Bool → Stream → Stream → List ℕ → List ℕ → Type 0
TakesMore Taken tells old new left later = TakesPiece tells old new left later
TakesMore Ended tells old new left later =
    (new ≡ old) × (taken old < old.most) × (IsTrue tells → (left ≡ []) × (later ≡ []))
TakesMore Long tells old new left later = (new ≡ old) × (taken old ≡ old.most) × (IsTrue tells → later ≡ left)
TakesMore Failed tells old new left later =
    (new ≡ old) × (taken old < old.most) × (IsTrue tells → later ≡ left)
TakesMore Memory tells old new left later = (new ≡ old) × LosesPiece tells old left later
