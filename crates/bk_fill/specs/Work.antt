-- What a fill does to its store: the puts, and one sync behind them, whatever ended them.
use Rattle.std.specs.Prelude.{◌≡◌, ℕ, List, [], ◌∷◌, ◌++◌, length, Bool, IsTrue, None, sum_by}
use Rattle.std.specs.Prelude.{Result, Ok, Err, OnOk}
use Rattle.bk_base.specs.declared.calls.Answer.TheVariants.{Numbered as numbered_answer}
use Rattle.bk_base.specs.declared.calls.Call.TheVariants.{Sync as sync_call}
use Rattle.bk_base.specs.declared.histories.Opening.{Opening}
use Rattle.bk_base.specs.declared.histories.Step.{Step}
use Rattle.bk_base.specs.declared.numbers.Moment.{Moment}
use Rattle.bk_base.specs.declared.numbers.Seq.{Seq}
use Rattle.bk_base.specs.declared.requests.Reply.TheVariants.{Disk, Synced}
use Rattle.bk_base.specs.declared.requests.Request.TheVariants.{Sync}
use Rattle.bk_base.specs.declared.writes.Write.{Write}
use Rattle.bk_disk.specs.declared.errors.Failed.{Failed}
use Rattle.bk_disk.specs.Crashes.{MayLeaveNow}
use Rattle.bk_disk.specs.Told.{Image, Told}
use Rattle.bk_exchange.specs.Answers.{map_size}
use Rattle.bk_exchange.specs.Exchanges.{Exchange, steps_of}
use Rattle.bk_exchange.specs.Writes.{told_writes}
use Rattle.bk_fill.specs.declared.work.Work.{Work}
use Rattle.bk_fill.specs.Making.{AreMade}
use Rattle.bk_fill.specs.Putting.{ArePuts, EndsPuts, IsAnswered, IsRefused}
use Rattle.bk_image.specs.Prefix.{Prefix}
use Rattle.bk_laws.specs.History.{log_of}
use Rattle.bk_session.specs.Following.{Follows}
use Rattle.bk_store.specs.Shown.{Shown}
use Rattle.bk_store.specs.Sweeps.{has_put}

-- the sync was answered, or it was refused
abbrev pub EndsSync : Result Seq Failed → Exchange → Type 0
EndsSync (Ok seq) x = IsAnswered Sync None sync_call (numbered_answer seq) (Synced seq) x
EndsSync (Err e) x = IsRefused Sync None Disk x

-- A crash now takes nothing: what it leaves has exactly the map of this log.
abbrev pub IsAtRest : Told → List Write → Type 0
IsAtRest t log = (image : Image) → MayLeaveNow t image → Prefix image log (length log) []

-- The exchanges are the puts, the put that was refused, if one was, and the sync. The log gains the writes of these puts,
-- and no other. The number of keys is the store's, and where what it holds is known, that of the map of its log.
pub record HasWorked (known : Bool) (now : Moment) (count : ℕ) (work : Work) (old new : Shown) (o : Opening)
    (h : List Step) (first : List Write) : Type 0 where
  pub puts : List Exchange
  pub rest : List Exchange
  pub sync : Exchange
  pub are : ArePuts now 0 puts
  pub ends : EndsPuts work.puts now count puts rest
  pub syncs : EndsSync work.sync sync
  pub made : AreMade known old new o h first ((puts ++ rest) ++ sync ∷ [])
  pub log : log_of o (h ++ steps_of ((puts ++ rest) ++ sync ∷ [])) ≡ log_of o h ++ told_writes puts
  pub keys : work.keys ≡ sum_by has_put new.keys.entries
  pub map : IsTrue known → work.keys ≡ map_size (log_of o (h ++ steps_of ((puts ++ rest) ++ sync ∷ [])))
  pub at_rest : IsTrue known
      → OnOk work.sync (IsAtRest new.files.told (log_of o (h ++ steps_of ((puts ++ rest) ++ sync ∷ []))))

-- of each history that the store followed
abbrev pub HasWorkedFor : Bool → Moment → ℕ → Work → Shown → Shown → Type 0
HasWorkedFor known now count work old new = (o : Opening) (h : List Step) (first : List Write) → Follows known old o h first
    → HasWorked known now count work old new o h first
