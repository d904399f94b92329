-- An exchange: one request of a session, and what was made of it.
use Rattle.std.specs.Prelude.{◌≡◌, ◌⊎◌, ℕ, ◌+◌, Bool, true, false, not, List, [], ◌∷◌, ◌++◌, length, Option, None, Some}
use Rattle.std.specs.Prelude.{is_some}
use Rattle.std.specs.List.{flat_map}
use Rattle.bk_base.specs.declared.calls.Call.{Call}
use Rattle.bk_base.specs.declared.calls.Call.TheVariants.{FoldOpen}
use Rattle.bk_base.specs.declared.histories.Step.{Step}
use Rattle.bk_base.specs.declared.numbers.Moment.{Moment}
use Rattle.bk_base.specs.declared.numbers.Seq.{Seq}
use Rattle.bk_base.specs.declared.requests.Reply.{Reply}
use Rattle.bk_base.specs.declared.requests.Reply.TheVariants.{Pair, Key, End, Disk}
use Rattle.bk_base.specs.declared.requests.Request.{Request}
use Rattle.bk_base.specs.declared.requests.Request.TheVariants.{Get, Put, Delete, Fold, Keys}
use Rattle.bk_base.specs.declared.writes.Write.{Write}
use Rattle.bk_laws.specs.Wire.{Fits, request_text, reply_text}
use Rattle.bk_exchange.specs.Points.{AtOne, Event, Point, Said, events, own}
use Rattle.bk_exchange.specs.Listings.{IsListing, Row, listing_calls, row_lines}
use Rattle.bk_exchange.specs.Answers.{Context, Answers, own_calls}
use Rattle.bk_exchange.specs.Refusals.{Refuses, Fails, ClosesIf, is_listing}

-- The request, the moment that the clock gave for it, all steps that the history gained in it, those of
-- other callers too, and the replies.
pub record Exchange : Type 0 where
  pub request : Request
  pub now : Option Moment
  pub steps : List Step
  pub replies : List Reply

-- the requests for which the clock is asked
abbrev pub asks_clock : Request → Bool
asks_clock (Get key) = true
asks_clock (Put key value) = true
asks_clock (Delete key) = true
asks_clock Fold = true
asks_clock Keys = true
asks_clock request = false

-- a moment where none was asked: no call of such a request has one
abbrev pub moment_of : Option Moment → Moment
moment_of None = record { 0 = 0 }
moment_of (Some now) = now

-- It is answered; or it is refused before a call was answered, or fails after one was.
abbrev pub Replies : Context → Request → Moment → List Event → List Reply → Type 0
Replies c request now es replies =
    Answers c request now es replies ⊎ (Refuses c request es replies ⊎ Fails c request now es replies)

pub record IsExchange (c : Context) (p : Point) (x : Exchange) : Type 0 where
  pub fits : Fits x.request
  pub clock : is_some x.now ≡ asks_clock x.request
  pub replied : Replies c x.request (moment_of x.now) (events p x.steps) x.replies

-- A listing within which the session ended: its rows so far, and no line behind them. The fold is closed,
-- but where the tickets were used up.
pub record IsCut (c : Context) (p : Point) (x : Exchange) : Type 0 where
  pub listing : is_listing x.request ≡ true
  pub clock : is_some x.now ≡ true
  pub epoch : Seq
  pub slot : ℕ
  pub rows : List Row
  pub behind : List Said
  pub called : own_calls c (events p x.steps) ≡ listing_calls (moment_of x.now) epoch slot rows behind
  pub closes : ClosesIf (not c.spent) slot [] behind
  pub lines : x.replies ≡ row_lines x.request rows

-- ---- what a list of exchanges is, each in its order

abbrev pub requests_of : List Exchange → List ℕ
requests_of = flat_map (λ (x : Exchange). request_text x.request)

abbrev pub replies_of : List Exchange → List ℕ
replies_of = flat_map (λ (x : Exchange). flat_map reply_text x.replies)

abbrev pub steps_of : List Exchange → List Step
steps_of = flat_map (λ (x : Exchange). x.steps)

-- the moments that the clock was asked for
abbrev pub asked_in : Option Moment → List Moment
asked_in None = []
asked_in (Some now) = now ∷ []

abbrev pub moments_of : List Exchange → List Moment
moments_of = flat_map (λ (x : Exchange). asked_in x.now)

-- ---- what each exchange has

abbrev pub is_row : Reply → Bool
is_row (Pair key value) = true
is_row (Key key) = true
is_row line = false

-- rows, of a listing alone, and behind them one line that is no row
pub record IsClosed (request : Request) (replies : List Reply) : Type 0 where
  pub rows : List Row
  pub line : Reply
  pub lines : replies ≡ row_lines request rows ++ line ∷ []
  pub alone : is_listing request ≡ false → rows ≡ []
  pub closes : is_row line ≡ false

-- what holds of the log before the caller's own event of this call
abbrev pub Before : Context → Point → Exchange → Call → (List Write → Type 0) → Type 0
Before c p x call P =
    AtOne (λ (e : Event). (e.step.entry.call ≡ call) × P e.before.state.log) (own c.who (events p x.steps))

-- the rows, and the number behind them, show all that was live as the fold was opened
pub record ListsAll (c : Context) (p : Point) (x : Exchange) : Type 0 where
  pub rows : List Row
  pub lines : x.replies ≡ row_lines x.request rows ++ End (length rows) ∷ []
  pub whole : Before c p x (FoldOpen (moment_of x.now))
      (λ (log : List Write). IsListing c.opening.settings.ttl (moment_of x.now).0 log [] rows)

-- ---- faults

-- the line that closes an exchange
abbrev pub last_of : List Reply → Option Reply
last_of [] = None
last_of (reply ∷ []) = Some reply
last_of (reply ∷ next ∷ replies) = last_of (next ∷ replies)

abbrev pub one_if_disk : Option Reply → ℕ
one_if_disk (Some Disk) = 1
one_if_disk line = 0

-- how many exchanges were answered DISK
abbrev pub disk_lines : List Exchange → ℕ
disk_lines [] = 0
disk_lines (x ∷ xs) = one_if_disk (last_of x.replies) + disk_lines xs

-- by how much the disk's count of faults rose
abbrev pub faults_in : List Step → ℕ
faults_in [] = 0
faults_in (step ∷ steps) = step.faults + faults_in steps
