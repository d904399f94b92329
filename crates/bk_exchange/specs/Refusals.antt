-- Refusals: which line may stand in the place of an answer, after which calls, and what has to have caused
-- it. Memory alone may be out at any time.
use Rattle.std.specs.Prelude.{◌≡◌, ◌≢◌, ◌⊎◌, ℕ, ◌+◌, ◌<◌, ◌≤◌, ◌==◌, Bool, true, false, ◌&&◌, not, nat_lt, nat_le, List}
use Rattle.std.specs.Prelude.{[], ◌∷◌, ◌++◌, length, Option, None, Some}
use Rattle.bk_base.specs.declared.calls.Answer.TheVariants.{Found}
use Rattle.bk_base.specs.declared.calls.Call.TheVariants.{Get as get_call}
use Rattle.bk_base.specs.declared.limits.TheConstants.{LAST_FILE, LAST_SEQ, MOST_FOLDS, RECORD_HEADER}
use Rattle.bk_base.specs.declared.numbers.Moment.{Moment}
use Rattle.bk_base.specs.declared.numbers.Seq.{Seq}
use Rattle.bk_base.specs.declared.requests.Full.{Full}
use Rattle.bk_base.specs.declared.requests.Full.TheVariants.{Seq as full_seq, Files as full_files, Folds as full_folds}
use Rattle.bk_base.specs.declared.requests.Full.TheVariants.{Turns as full_turns}
use Rattle.bk_base.specs.declared.requests.Reply.{Reply}
use Rattle.bk_base.specs.declared.requests.Reply.TheVariants.{Memory, Disk, Read, Damaged, Full as full_line}
use Rattle.bk_base.specs.declared.requests.Request.{Request}
use Rattle.bk_base.specs.declared.requests.Request.TheVariants.{Get, Put, Delete, Fold, Keys, Sync, Quit}
use Rattle.bk_base.specs.declared.rows.Row.{Row as FileRow}
use Rattle.bk_base.specs.declared.rows.RowState.{RowState}
use Rattle.bk_base.specs.declared.rows.RowState.TheVariants.{Active}
use Rattle.bk_laws.specs.History.{State, is_open}
use Rattle.bk_laws.specs.Log.{last_seq}
use Rattle.bk_exchange.specs.Points.{Event, Said, said, own, AtOne}
use Rattle.bk_exchange.specs.Listings.{Row, listing_calls, end_call, closing_call, row_lines}
use Rattle.bk_exchange.specs.Answers.{Context, own_calls}

-- ---- a new file is due

-- the known bytes of the active file, where there is one
abbrev pub active_or : FileRow → RowState → Option ℕ → Option ℕ
active_or row Active later = Some row.len
active_or row state later = later

abbrev pub active_len : List FileRow → Option ℕ
active_len [] = None
active_len (row ∷ rows) = active_or row row.state (active_len rows)

-- a record of this size needs a new file: there is no active one, or it has bytes and the record doesn't fit
abbrev pub needs_file : ℕ → ℕ → Option ℕ → Bool
needs_file size limit None = true
needs_file size limit (Some len) = not (len == 0) && nat_lt limit (len + size)

-- the size of the record that a request asks for; 0 where it asks for none
abbrev pub size_asked : Request → ℕ
size_asked (Put key value) = RECORD_HEADER + length key + length value
size_asked (Delete key) = RECORD_HEADER + length key
size_asked request = 0

pub record HasNoFile (c : Context) (request : Request) (e : Event) : Type 0 where
  pub due : needs_file (size_asked request) c.opening.settings.max_file (active_len e.before.snapshot.rows) ≡ true
  pub last : LAST_FILE ≤ e.before.snapshot.last_file.0

-- ---- causes

abbrev pub NoSlotIsFree : State → Type 0
NoSlotIsFree s = (slot : ℕ) → slot < MOST_FOLDS → is_open slot s ≡ true

abbrev pub FullCause : Context → Request → Full → List Event → Type 0
FullCause c request full_seq es = AtOne (λ (e : Event). LAST_SEQ ≤ last_seq e.before.state.log) es
FullCause c request full_files es = AtOne (HasNoFile c request) es
FullCause c request full_folds es = AtOne (λ (e : Event). NoSlotIsFree e.before.state) es
FullCause c request full_turns es = c.spent ≡ true

-- What a refusal line says has happened, at one of the caller's own events in this exchange.
abbrev pub Cause : Context → Request → Reply → List Event → Type 0
Cause c request Memory es = Unit {0}
Cause c request Disk es = AtOne (λ (e : Event). 1 ≤ e.step.faults) (own c.who es)
Cause c request Read es = AtOne (λ (e : Event). 1 ≤ e.step.views) (own c.who es)
Cause c request (Damaged d) es = (d.kept ≢ d.found) × (c.opening.whole ≡ false)
Cause c request (full_line full) es = FullCause c request full (own c.who es)
Cause c request line es = ⊥

-- the lines that refuse
abbrev pub is_refusal : Reply → Bool
is_refusal Memory = true
is_refusal Disk = true
is_refusal Read = true
is_refusal (Damaged d) = true
is_refusal (full_line full) = true
is_refusal line = false

-- ---- refused before any call was answered

abbrev pub is_writing : Request → Bool
is_writing (Put key value) = true
is_writing (Delete key) = true
is_writing request = false

abbrev pub is_listing : Request → Bool
is_listing Fold = true
is_listing Keys = true
is_listing request = false

abbrev pub is_quit : Request → Bool
is_quit Quit = true
is_quit request = false

-- the requests whose one call goes to the disk
abbrev pub asks_disk : Request → Bool
asks_disk (Get key) = true
asks_disk (Put key value) = true
asks_disk (Delete key) = true
asks_disk Sync = true
asks_disk request = false

abbrev pub may_be_full : Request → Full → Bool
may_be_full request full_seq = is_writing request
may_be_full request full_files = is_writing request
may_be_full request full_folds = is_listing request
may_be_full request full_turns = not (is_quit request)

abbrev pub may_refuse : Request → Reply → Bool
may_refuse request Memory = not (is_quit request)
may_refuse request Disk = asks_disk request
may_refuse request (full_line full) = may_be_full request full
may_refuse request line = false

pub record Refuses (c : Context) (request : Request) (es : List Event) (replies : List Reply) : Type 0 where
  pub line : Reply
  pub called : own_calls c es ≡ []
  pub lines : replies ≡ line ∷ []
  pub may : may_refuse request line ≡ true
  pub cause : Cause c request line es

-- ---- a value that was found and couldn't be read or sent

abbrev pub may_spoil : Reply → Bool
may_spoil Read = true
may_spoil (Damaged d) = true
may_spoil Memory = true
may_spoil line = false

pub record Spoils (c : Context) (key : List ℕ) (now : Moment) (es : List Event) (replies : List Reply) : Type 0 where
  pub value : List ℕ
  pub line : Reply
  pub called : own_calls c es ≡ said (get_call key now) (Found value) ∷ []
  pub lines : replies ≡ line ∷ []
  pub may : may_spoil line ≡ true
  pub cause : Cause c (Get key) line es

-- ---- a listing that breaks off

-- How many pairs were given without a row: the value of the last one couldn't be read, which FOLD alone
-- reads, or there was no memory for its row.
abbrev pub may_drop : Request → Reply → ℕ → Bool
may_drop request Disk n = n == 0
may_drop Fold Read n = n == 1
may_drop Fold (Damaged d) n = n == 1
may_drop request Memory n = nat_le n 1
may_drop request (full_line full_turns) n = nat_le n 1
may_drop request line n = false

-- Behind the pairs the fold is closed. After FULL turns that may be missing, also behind the fold's end, which
-- comes where no pair was dropped.
abbrev pub ClosesIf : Bool → ℕ → List Row → List Said → Type 0
ClosesIf true slot dropped behind = behind ≡ closing_call slot ∷ []
ClosesIf false slot dropped behind =
    (behind ≡ closing_call slot ∷ []) ⊎ ((behind ≡ []) ⊎ ((behind ≡ end_call slot ∷ []) × (dropped ≡ [])))

abbrev pub closes_after : Reply → Bool
closes_after (full_line full_turns) = false
closes_after line = true

pub record Breaks (c : Context) (request : Request) (now : Moment) (es : List Event)
    (replies : List Reply) : Type 0 where
  pub epoch : Seq
  pub slot : ℕ
  pub rows : List Row
  pub dropped : List Row
  pub behind : List Said
  pub line : Reply
  pub called : own_calls c es ≡ listing_calls now epoch slot (rows ++ dropped) behind
  pub lines : replies ≡ row_lines request rows ++ line ∷ []
  pub may : may_drop request line (length dropped) ≡ true
  pub closes : ClosesIf (closes_after line) slot dropped behind
  pub cause : Cause c request line es

-- a request that fails after a call was answered
abbrev pub Fails : Context → Request → Moment → List Event → List Reply → Type 0
Fails c (Get key) now es replies = Spoils c key now es replies
Fails c Fold now es replies = Breaks c Fold now es replies
Fails c Keys now es replies = Breaks c Keys now es replies
Fails c request now es replies = ⊥
