-- A listing, from the opening of its fold to its end.
use Rattle.std.specs.Prelude.{◌≡◌, ◌≢◌, ℕ, Bool, true, IsTrue, List, [], ◌∷◌, ◌++◌, drop, length, Some}
use Rattle.std.specs.List.{AllByRecursion, flat_map}
use Rattle.bk_base.specs.declared.histories.Opening.{Opening}
use Rattle.bk_base.specs.declared.histories.Step.{Step}
use Rattle.bk_base.specs.declared.numbers.Moment.{Moment}
use Rattle.bk_base.specs.declared.numbers.Seq.{Seq}
use Rattle.bk_base.specs.declared.requests.Reply.{Reply}
use Rattle.bk_base.specs.declared.requests.Reply.TheVariants.{Damaged, Key, Memory, Pair, Read}
use Rattle.bk_base.specs.declared.requests.Request.{Request}
use Rattle.bk_base.specs.declared.requests.Request.TheVariants.{Fold as fold_request, Keys as keys_request}
use Rattle.bk_base.specs.declared.writes.Write.{Write}
use Rattle.bk_disk.specs.Told.{Told, clock}
use Rattle.bk_exchange.specs.Answers.{own_calls}
use Rattle.bk_exchange.specs.Exchanges.{Exchange}
use Rattle.bk_exchange.specs.Listings.{Row, closing_call, end_call, listing_calls, row_line, row_lines}
use Rattle.bk_exchange.specs.OneThread.{IsAlone, IsOwn, QuietCalls, quiet_in}
use Rattle.bk_exchange.specs.Points.{Said, events, point_of}
use Rattle.bk_exchange.specs.Refusals.{Cause, closes_after, may_drop}
use Rattle.bk_keydir.specs.Slots.{slot_at, who_of}
use Rattle.bk_laws.specs.Wire.{reply_text}
use Rattle.bk_store.specs.Loans.{Lent}
use Rattle.bk_store.specs.Shown.{Shown}
use Rattle.bk_session.specs.declared.listings.Given.{Given}
use Rattle.bk_session.specs.declared.listings.Given.TheVariants.{Row as given_row, End as given_end, Line, Sink}
use Rattle.bk_session.specs.declared.listings.Listing.{Listing}
use Rattle.bk_session.specs.declared.listings.Listing.TheVariants.{Keys, Pairs}
use Rattle.bk_session.specs.declared.serving.Onward.{Onward}
use Rattle.bk_session.specs.Following.{Follows, own_context}
use Rattle.bk_session.specs.Outgoing.{IsDamageOf, Outgoing, Sends, Stops}
use Rattle.bk_session.specs.Serving.{IsServedAs, IsSince, SendsAs}

abbrev pub request_of : Listing → Request
request_of Keys = keys_request
request_of Pairs = fold_request

-- No call changed what a crash may leave.
pub record IsUnmoved (t u : Told) : Type 0 where
  pub past : u.past ≡ t.past
  pub fronts : u.fronts ≡ t.fronts

-- where a listing began: the history, what was tried, the moment, and what the disk told
pub record Begun : Type 0 where
  pub opening : Opening
  pub before : List Step
  pub tried : List Write
  pub now : Moment
  pub told : Told

-- By these steps the fold in this slot gave these pairs. `behind` are its calls since, and so many calls were
-- quiet.
pub record Listed (disk : Bool) (b : Begun) (slot : ℕ) (v : Shown) (given : List Row) (behind : List Said)
    (quiet : ℕ) (steps : List Step) : Type 0 where
  pub epoch : Seq
  pub called : own_calls (own_context b.opening) (events (point_of b.opening b.before) steps)
      ≡ listing_calls b.now epoch slot given behind
  pub alone : IsAlone 0 steps
  pub quiet_calls : quiet_in steps ≡ quiet
  pub follows : Follows disk v b.opening (b.before ++ steps) b.tried
  pub unmoved : IsTrue disk → IsUnmoved b.told v.files.told
  pub since : IsTrue disk → AllByRecursion (IsSince (clock b.told)) steps

-- the fold in the slot is the session's
abbrev pub IsOurs : ℕ → Shown → Type 0
IsOurs slot v = who_of (slot_at v.keys.slots slot) ≡ Some 0

-- ---- one row

-- The row's text went to the outbox; or the sink failed, and it was the last; or it found no room.
abbrev pub ShowsText : Given → Bool → List ℕ → Outgoing → Outgoing → Type 0
ShowsText given_row sink text old new = IsTrue sink → Sends old text new
ShowsText Sink sink text old new = IsTrue sink → Stops old text new
ShowsText given sink text old new = ⊥

-- why the value of a loan has no row
abbrev pub IsSpoilt : Bool → Lent → Reply → Type 0
IsSpoilt tells l Read = l.fallible ≡ true
IsSpoilt tells l (Damaged d) = IsDamageOf tells l d
IsSpoilt tells l Memory = Unit {0}
IsSpoilt tells l reply = ⊥

-- the row of KEYS
abbrev pub ShowsKey : Given → Bool → List ℕ → Outgoing → Outgoing → Type 0
ShowsKey (Line line) sink key old new = (line ≡ Memory) × (new ≡ old)
ShowsKey given sink key old new = ShowsText given sink (reply_text (Key key)) old new

-- the row of FOLD
abbrev pub ShowsPair : Given → Bool → Bool → List ℕ → Lent → Outgoing → Outgoing → Type 0
ShowsPair (Line line) views sink key l old new = IsSpoilt views l line × (new ≡ old)
ShowsPair given views sink key l old new =
    (value : List ℕ) × (IsTrue views → value ≡ drop l.value_at l.left)
    × ShowsText given sink (reply_text (Pair key value)) old new

-- the pair has no row, and this line stands in the place of END
pub record BreaksAt (disk : Bool) (request : Request) (b : Begun) (slot : ℕ) (v : Shown) (rows : List Row) (line : Reply)
    : Type 0 where
  pub steps : List Step
  pub dropped : List Row
  pub quiet : ℕ
  pub listed : Listed disk b slot v (rows ++ dropped) [] quiet steps
  pub may : may_drop request line (length dropped) ≡ true
  pub closes : closes_after line ≡ true
  pub counts : QuietCalls (Some line) quiet
  pub cause : Cause (own_context b.opening) request line (events (point_of b.opening b.before) steps)

-- one pair more, whose row's text goes on so
pub record RowsGoOn (disk : Bool) (request : Request) (b : Begun) (slot : ℕ) (v : Shown) (rows : List Row)
    (Out : List ℕ → Type 0) : Type 0 where
  pub steps : List Step
  pub row : Row
  pub listed : Listed disk b slot v (rows ++ row ∷ []) [] 0 steps
  pub out : Out (reply_text (row_line request row))

-- What asking for the next pair gives, of each listing that came so far with these rows.
abbrev pub Gives : Given → Bool → Bool → Request → ℕ → Shown → Outgoing → Shown → Outgoing → Type 0
Gives given_row disk sink request slot v out u new =
    (b : Begun) (rows : List Row) (steps : List Step) → Listed disk b slot v rows [] 0 steps
    → RowsGoOn disk request b slot u rows (λ text. IsTrue sink → Sends out text new)
Gives given_end disk sink request slot v out u new =
    (new ≡ out) × ((b : Begun) (rows : List Row) (steps : List Step) → Listed disk b slot v rows [] 0 steps
    → (later : List Step) × Listed disk b slot u rows (end_call slot ∷ []) 0 later)
Gives (Line line) disk sink request slot v out u new =
    (new ≡ out) × ((b : Begun) (rows : List Row) (steps : List Step) → Listed disk b slot v rows [] 0 steps
    → BreaksAt disk request b slot u rows line)
Gives Sink disk sink request slot v out u new =
    (b : Begun) (rows : List Row) (steps : List Step) → Listed disk b slot v rows [] 0 steps
    → RowsGoOn disk request b slot u rows (λ text. IsTrue sink → Stops out text new)

-- the fold is closed, by one step more
abbrev pub Closes : Bool → ℕ → Shown → Shown → Type 0
Closes disk slot v u =
    (b : Begun) (given : List Row) (behind : List Said) (quiet : ℕ) (steps : List Step)
    → Listed disk b slot v given behind quiet steps
    → (step : Step) × Listed disk b slot u given (behind ++ closing_call slot ∷ []) quiet (steps ++ step ∷ [])

-- ---- all rows

-- the text of the rows
abbrev pub rows_text : Request → List Row → List ℕ
rows_text request rows = flat_map reply_text (row_lines request rows)

-- so many rows so far
pub record Rows (disk sink : Bool) (request : Request) (b : Begun) (slot count : ℕ) (out : Outgoing) (v : Shown)
    (new : Outgoing) : Type 0 where
  pub rows : List Row
  pub steps : List Step
  pub many : length rows ≡ count
  pub listed : Listed disk b slot v rows [] 0 steps
  pub sent : IsTrue sink → Sends out (rows_text request rows) new

-- The listing has ended, by its last line or with the session.
pub record Ended (disk sink : Bool) (request : Request) (onward : Onward) (b : Begun) (out : Outgoing) (v : Shown)
    (new : Outgoing) : Type 0 where
  pub x : Exchange
  pub asked : x.request ≡ request
  pub moment : x.now ≡ Some b.now
  pub is : IsServedAs onward (own_context b.opening) (point_of b.opening b.before) x
  pub own : IsOwn (own_context b.opening) x
  pub follows : Follows disk v b.opening (b.before ++ x.steps) b.tried
  pub unmoved : IsTrue disk → IsUnmoved b.told v.files.told
  pub since : IsTrue disk → AllByRecursion (IsSince (clock b.told)) x.steps
  pub writes : IsTrue sink → SendsAs onward out (flat_map reply_text x.replies) new

abbrev pub EndsAll : Bool → Bool → Request → Onward → ℕ → Shown → Outgoing → Shown → Outgoing → Type 0
EndsAll disk sink request onward slot v out u new =
    (b : Begun) (steps : List Step) → Listed disk b slot v [] [] 0 steps → Ended disk sink request onward b out u new
