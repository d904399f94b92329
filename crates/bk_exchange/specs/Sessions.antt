-- A session: its exchanges one after the other, how it ends, and what it read, wrote and asked of the clock.
use Rattle.std.specs.Prelude.{◌≡◌, ◌⊎◌, ℕ, ◌+◌, ◌<◌, ◌≤◌, Bool, true, false, IsTrue, List, [], ◌∷◌, ◌++◌, length}
use Rattle.std.specs.Prelude.{is_none, Option, None, Some}
use Rattle.bk_base.specs.declared.histories.Step.{Step}
use Rattle.bk_base.specs.declared.numbers.Moment.{Moment}
use Rattle.bk_base.specs.declared.requests.Reply.TheVariants.{Syntax as syntax_line}
use Rattle.bk_base.specs.declared.statuses.SessionEnd.{SessionEnd}
use Rattle.bk_base.specs.declared.statuses.SessionEnd.TheVariants.{Quit, End, Syntax, Source, Sink, Long, Memory, Disk}
use Rattle.bk_laws.specs.Wire.{reply_text, NoneStands, IsPartial, IsBad}
use Rattle.bk_exchange.specs.Points.{Point, point_after, point_of}
use Rattle.bk_exchange.specs.Answers.{Context}
use Rattle.bk_exchange.specs.Refusals.{is_quit}
use Rattle.bk_exchange.specs.Exchanges.{Exchange, IsExchange, IsCut, requests_of, replies_of, steps_of, moments_of}

-- ---- what was said

-- The exchanges that were served, and behind them QUIT, or the listing within which the session ended.
pub record Transcript : Type 0 where
  pub served : List Exchange
  pub last : Option Exchange

abbrev pub as_list : {X : Type 0} → Option X → List X
as_list None = []
as_list (Some x) = x ∷ []

abbrev pub exchanges : Transcript → List Exchange
exchanges t = t.served ++ as_list t.last

-- each goes on where the one before left the history
abbrev pub AreServed : Context → Point → List Exchange → Type 0
AreServed c p [] = Unit {0}
AreServed c p (x ∷ xs) = IsExchange c p x × (is_quit x.request ≡ false) × AreServed c (point_after p x.steps) xs

abbrev pub IsQuit : Context → Point → Exchange → Type 0
IsQuit c p x = (is_quit x.request ≡ true) × IsExchange c p x

-- A session ends between two requests, but with QUIT. Within one it ends by the sink, for memory, or by the disk.
abbrev pub IsLast : Context → Point → SessionEnd → Option Exchange → Type 0
IsLast c p Quit (Some x) = IsQuit c p x
IsLast c p Quit None = ⊥
IsLast c p Sink (Some x) = IsQuit c p x ⊎ IsCut c p x
IsLast c p Memory (Some x) = IsQuit c p x ⊎ IsCut c p x
IsLast c p Disk (Some x) = IsQuit c p x ⊎ IsCut c p x
IsLast c p end (Some x) = ⊥
IsLast c p end None = Unit {0}

pub record IsTranscript (c : Context) (p : Point) (end : SessionEnd) (t : Transcript) : Type 0 where
  pub served : AreServed c p t.served
  pub last : IsLast c (point_after p (steps_of t.served)) end t.last

-- ---- what was read

-- No request stands at this offset: the part that was taken goes on to none, or it is all that was left,
-- and fewer bytes were taken than a session may take, so that the end was seen.
pub record IsSyntax (most offset : ℕ) (part left : List ℕ) : Type 0 where
  pub some : 0 < length part
  pub none : NoneStands (part ++ left)
  pub seen : IsBad part ⊎ ((left ≡ []) × (offset + length part < most))

-- How far a session that ends so has read: the requests end at this offset, behind them this part was taken
-- too, and this is left.
abbrev pub EndsReading : ℕ → SessionEnd → ℕ → List ℕ → List ℕ → Type 0
EndsReading most End offset part left = (part ≡ []) × (left ≡ []) × (offset < most)
EndsReading most (Syntax at) offset part left = IsSyntax most offset part left
EndsReading most Source offset part left = IsPartial part × (offset + length part < most)
EndsReading most Long offset part left = IsPartial part × (offset + length part ≡ most)
EndsReading most end offset part left = Unit {0}

pub record Reads (most : ℕ) (end : SessionEnd) (requests input left : List ℕ) : Type 0 where
  pub part : List ℕ
  pub whole : input ≡ (requests ++ part) ++ left
  pub within : length (requests ++ part) ≤ most
  pub ends : EndsReading most end (length requests) part left

-- the offset that Syntax names is that of the first request that isn't served
abbrev pub IsAt : SessionEnd → ℕ → Type 0
IsAt (Syntax at) offset = at ≡ offset
IsAt end offset = Unit {0}

-- ---- what was written

-- a first part of these bytes, or all of them
abbrev pub IsStart : List ℕ → List ℕ → Type 0
IsStart part bytes = (rest : List ℕ) × (part ++ rest ≡ bytes)

abbrev pub syntax_text : ℕ → List ℕ
syntax_text offset = reply_text (syntax_line offset)

-- what a session's source, sink and clock tell
pub record Telling : Type 0 where
  pub source : Bool
  pub sink : Bool
  pub clock : Bool

-- What passed between a session and its client: what the source had left to give as it began and as it
-- ended, what the sink took, and the moments that the clock had to give as it began and as it ended.
pub record Traffic : Type 0 where
  pub input : List ℕ
  pub left : List ℕ
  pub output : List ℕ
  pub moments : List Moment
  pub later : List Moment

-- the line SYNTAX is due: the session ended between two requests, and none stands behind these
pub record SyntaxIsDue (tells : Telling) (most : ℕ) (t : Traffic) (between : Bool) (requests : List ℕ) : Type 0 where
  pub is_between : between ≡ true
  pub seen : IsTrue tells.source → (part : List ℕ) × (t.input ≡ (requests ++ part) ++ t.left)
      × IsSyntax most (length requests) part t.left

-- All replies were written; where memory, the sink or the disk ended the session, at least a first part.
abbrev pub Writes : Telling → ℕ → SessionEnd → Traffic → Bool → List ℕ → List ℕ → Type 0
Writes tells most (Syntax at) t between requests replies = t.output ≡ replies ++ syntax_text at
Writes tells most Memory t between requests replies = IsStart t.output replies
Writes tells most Disk t between requests replies = IsStart t.output replies
Writes tells most Sink t between requests replies =
    IsStart t.output replies
    ⊎ (SyntaxIsDue tells most t between requests × IsStart t.output (replies ++ syntax_text (length requests)))
Writes tells most end t between requests replies = t.output ≡ replies

-- ---- what the clock was asked

abbrev pub first_moment : List Moment → Moment
first_moment [] = record { 0 = 0 }
first_moment (m ∷ ms) = m

-- the last moment stays
abbrev pub later_moments : List Moment → List Moment
later_moments [] = []
later_moments (m ∷ []) = m ∷ []
later_moments (m ∷ n ∷ ms) = n ∷ ms

-- the clock gave these, one after the other, and no other
abbrev pub Ticks : List Moment → List Moment → List Moment → Type 0
Ticks [] old new = new ≡ old
Ticks (m ∷ ms) old new = (m ≡ first_moment old) × Ticks ms (later_moments old) new

-- ---- the whole

-- The session took the history from h to h2, with this traffic, and ended so. It could take at most so many
-- bytes.
pub record Session (c : Context) (tells : Telling) (most : ℕ) (h h2 : List Step) (t : Traffic)
    (end : SessionEnd) : Type 0 where
  pub transcript : Transcript
  pub said : IsTranscript c (point_of c.opening h) end transcript
  pub steps : h2 ≡ h ++ steps_of (exchanges transcript)
  pub offset : IsAt end (length (requests_of (exchanges transcript)))
  pub reads : IsTrue tells.source → Reads most end (requests_of (exchanges transcript)) t.input t.left
  pub writes : IsTrue tells.sink → Writes tells most end t (is_none transcript.last)
      (requests_of (exchanges transcript)) (replies_of (exchanges transcript))
  pub ticks : IsTrue tells.clock → Ticks (moments_of (exchanges transcript)) t.moments t.later

-- Between two requests: these were served, of these bytes, with these replies.
pub record SoFar (c : Context) (ticking : Bool) (h h2 : List Step) (taken made : List ℕ) (moments later : List Moment)
    (xs : List Exchange) : Type 0 where
  pub served : AreServed c (point_of c.opening h) xs
  pub steps : h2 ≡ h ++ steps_of xs
  pub read : taken ≡ requests_of xs
  pub wrote : made ≡ replies_of xs
  pub ticks : IsTrue ticking → Ticks (moments_of xs) moments later

-- the ends that a session may come to though it took all that it may take and its last request isn't whole
abbrev pub ends_at_limit : SessionEnd → Bool
ends_at_limit Quit = true
ends_at_limit Sink = true
ends_at_limit Memory = true
ends_at_limit Disk = true
ends_at_limit Long = true
ends_at_limit end = false
