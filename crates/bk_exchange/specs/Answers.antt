-- Which calls and replies serve a request: one line for each request.
use Rattle.std.specs.Prelude.{◌≡◌, ℕ, ◌+◌, true, Bool, List, [], ◌∷◌, ◌++◌, length, sum_by, Option, None}
use Rattle.bk_base.specs.declared.calls.Answer.{Answer}
use Rattle.bk_base.specs.declared.calls.Answer.TheVariants.{Nothing, Found, Numbered as numbered_answer}
use Rattle.bk_base.specs.declared.calls.Call.{Call}
use Rattle.bk_base.specs.declared.calls.Call.TheVariants.{Get as get_call, Put as put_call, Delete as delete_call}
use Rattle.bk_base.specs.declared.calls.Call.TheVariants.{Sync as sync_call, Quiet}
use Rattle.bk_base.specs.declared.histories.Opening.{Opening}
use Rattle.bk_base.specs.declared.numbers.Moment.{Moment}
use Rattle.bk_base.specs.declared.numbers.Seq.{Seq}
use Rattle.bk_base.specs.declared.requests.Reply.{Reply}
use Rattle.bk_base.specs.declared.requests.Reply.TheVariants.{Value, Absent, Numbered, End, Synced, Stat as stat_line}
use Rattle.bk_base.specs.declared.requests.Reply.TheVariants.{Bye}
use Rattle.bk_base.specs.declared.requests.Request.{Request}
use Rattle.bk_base.specs.declared.requests.Request.TheVariants.{Get, Put, Delete, Fold, Keys, Sync, Stat, Quit}
use Rattle.bk_base.specs.declared.rows.Row.{Row as FileRow}
use Rattle.bk_base.specs.declared.writes.Body.{Body}
use Rattle.bk_base.specs.declared.writes.Body.TheVariants.{Put as put_body}
use Rattle.bk_base.specs.declared.writes.Write.{Write}
use Rattle.bk_laws.specs.Log.{winner}
use Rattle.bk_exchange.specs.Points.{Event, Said, said, own, calls_of, AtOne}
use Rattle.bk_exchange.specs.Listings.{Row, listing_calls, end_call, closing_call, row_lines}

-- whose session it is, and over which history
pub record Context : Type 0 where
  pub who : ℕ
  pub opening : Opening
  -- the tickets of the turn were used up. A session of one thread takes none.
  pub spent : Bool

-- the calls of the session's caller
abbrev pub own_calls : Context → List Event → List Said
own_calls c es = calls_of (own c.who es)

-- exactly one call, whose answer exactly one reply shows
pub record OneCall (call : Call) (Shows : Answer → Reply
    → Type 0) (calls : List Said) (replies : List Reply) : Type 0 where
  pub answer : Answer
  pub reply : Reply
  pub called : calls ≡ said call answer ∷ []
  pub lines : replies ≡ reply ∷ []
  pub shows : Shows answer reply

abbrev pub ShowsGet : Answer → Reply → Type 0
ShowsGet (Found value) (Value shown) = value ≡ shown
ShowsGet Nothing Absent = Unit {0}
ShowsGet answer reply = ⊥

abbrev pub ShowsPut : Answer → Reply → Type 0
ShowsPut (numbered_answer seq) (Numbered shown) = seq ≡ shown
ShowsPut answer reply = ⊥

abbrev pub ShowsDelete : Answer → Reply → Type 0
ShowsDelete (numbered_answer seq) (Numbered shown) = seq ≡ shown
ShowsDelete Nothing Absent = Unit {0}
ShowsDelete answer reply = ⊥

abbrev pub ShowsSync : Answer → Reply → Type 0
ShowsSync (numbered_answer seq) (Synced shown) = seq ≡ shown
ShowsSync answer reply = ⊥

-- a whole listing: a row for each pair up to the fold's end, and then their number
pub record Lists (request : Request) (now : Moment) (calls : List Said) (replies : List Reply) : Type 0 where
  pub epoch : Seq
  pub slot : ℕ
  pub rows : List Row
  pub called : calls ≡ listing_calls now epoch slot rows (end_call slot ∷ closing_call slot ∷ [])
  pub lines : replies ≡ row_lines request rows ++ End (length rows) ∷ []

-- how many keys have a put as their winner
abbrev pub put_without : Body → Option Write → ℕ
put_without (put_body value) None = 1
put_without body later = 0

abbrev pub map_size : List Write → ℕ
map_size [] = 0
map_size (w ∷ ws) = put_without w.body (winner ws w.key) + map_size ws

-- The numbers are those of the files at a quiet call, which left them as they were. Where the store stood
-- for its opening in full, the number of keys is that of the log's map.
pub record IsCount (c : Context) (keys files total live : ℕ) (e : Event) : Type 0 where
  pub quiet : e.step.entry.call ≡ Quiet
  pub still : e.step.snapshot ≡ e.before.snapshot
  pub shows_keys : c.opening.whole ≡ true → keys ≡ map_size e.before.state.log
  pub shows_files : files ≡ length e.before.snapshot.rows
  pub shows_total : total ≡ sum_by (λ (r : FileRow). r.total) e.before.snapshot.rows
  pub shows_live : live ≡ sum_by (λ (r : FileRow). r.live) e.before.snapshot.rows

-- no call, and the store's numbers as they were at one quiet call of its own
pub record Counts (c : Context) (es : List Event) (replies : List Reply) : Type 0 where
  pub keys : ℕ
  pub files : ℕ
  pub total : ℕ
  pub live : ℕ
  pub called : own_calls c es ≡ []
  pub lines : replies ≡ stat_line keys files total live ∷ []
  pub counted : AtOne (IsCount c keys files total live) (own c.who es)

-- no call at all, and the last line
pub record Ends (c : Context) (es : List Event) (replies : List Reply) : Type 0 where
  pub called : own_calls c es ≡ []
  pub lines : replies ≡ Bye ∷ []

-- The table of answers. A request that is refused or fails stands in Refusals.
abbrev pub Answers : Context → Request → Moment → List Event → List Reply → Type 0
Answers c (Get key) now es replies = OneCall (get_call key now) ShowsGet (own_calls c es) replies
Answers c (Put key value) now es replies = OneCall (put_call key value now) ShowsPut (own_calls c es) replies
Answers c (Delete key) now es replies = OneCall (delete_call key now) ShowsDelete (own_calls c es) replies
Answers c Fold now es replies = Lists Fold now (own_calls c es) replies
Answers c Keys now es replies = Lists Keys now (own_calls c es) replies
Answers c Sync now es replies = OneCall sync_call ShowsSync (own_calls c es) replies
Answers c Stat now es replies = Counts c es replies
Answers c Quit now es replies = Ends c es replies
