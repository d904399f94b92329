-- What an actor's action does: its one step, and the line that it prints.
use Rattle.std.specs.Prelude.{◌≡◌, ◌≢◌, ◌⊎◌, ℕ, ◌+◌, ◌≤◌, Bool, true, false, IsTrue, List, [], ◌∷◌, ◌++◌, length, min}
use Rattle.std.specs.Prelude.{Option, None, Some, cond, replicate}
use Rattle.bk_base.specs.declared.calls.Answer.{Answer}
use Rattle.bk_base.specs.declared.calls.Answer.TheVariants.{Nothing, Found, Done, Numbered as numbered_answer}
use Rattle.bk_base.specs.declared.calls.Answer.TheVariants.{Fold as fold_answer, Pair as pair_answer, End as end_answer}
use Rattle.bk_base.specs.declared.calls.Call.{Call}
use Rattle.bk_base.specs.declared.calls.Call.TheVariants.{Put as put_call, Delete as delete_call, Reap as reap_call}
use Rattle.bk_base.specs.declared.calls.Call.TheVariants.{Get as get_call, Sync as sync_call, FoldOpen, FoldNext, FoldClose, Quiet}
use Rattle.bk_base.specs.declared.histories.OpenFold.{OpenFold}
use Rattle.bk_base.specs.declared.histories.Step.{Step}
use Rattle.bk_base.specs.declared.limits.TheConstants.{LAST_FILE, LAST_SEQ, RECORD_HEADER}
use Rattle.bk_base.specs.declared.numbers.Moment.{Moment}
use Rattle.bk_base.specs.declared.requests.Full.{Full}
use Rattle.bk_base.specs.declared.requests.Full.TheVariants.{Seq as full_seq, Files as full_files, Folds as full_folds}
use Rattle.bk_base.specs.declared.writes.Write.{Write}
use Rattle.bk_exchange.specs.OneThread.{IsAlone}
use Rattle.bk_exchange.specs.Refusals.{NoSlotIsFree, active_len, needs_file}
use Rattle.bk_exchange.specs.Writes.{written}
use Rattle.bk_laws.specs.History.{IsLegalHistory, IsOwn, State, is_slot}
use Rattle.bk_laws.specs.Log.{last_seq, next_seq}
use Rattle.bk_script.specs.declared.lines.Action.{Action}
use Rattle.bk_script.specs.declared.lines.Action.TheVariants.{Put, Big, Delete, Reap, Get, Read, Sync, Fold, Next, End}
use Rattle.bk_script.specs.declared.printed.Printed.{Printed}
use Rattle.bk_script.specs.declared.printed.Printed.TheVariants.{Numbered, Absent, Loan, Value, NoLoan, Synced, Pair, Closed}
use Rattle.bk_script.specs.declared.printed.Printed.TheVariants.{Fold as fold_line, End as end_line, Memory, Disk, Full as full_line}
use Rattle.bk_script.specs.declared.printed.Printed.TheVariants.{Read as read_line, Damaged, NoFold}
use Rattle.bk_store.specs.History.{last_snapshot}
use Rattle.bk_store.specs.Sweeps.{last_count}
use Rattle.bk_drill.specs.Between.{Between, Kept, log_at, state_at, with_kept}

-- ---- the call of an action

-- so many bytes `x`
abbrev pub xs : ℕ → List ℕ
xs n = replicate n 120

-- the call of an action at a moment; `read` makes none
abbrev pub call_of : Moment → Action → Option Call
call_of now (Put key value) = Some (put_call key value now)
call_of now (Big key len) = Some (put_call key (xs len) now)
call_of now (Delete key) = Some (delete_call key now)
call_of now (Reap key) = Some (reap_call key now)
call_of now (Get key) = Some (get_call key now)
call_of now Read = None
call_of now Sync = Some sync_call
call_of now Fold = Some (FoldOpen now)
call_of now (Next slot) = Some (FoldNext slot)
call_of now (End slot) = Some (FoldClose slot)

-- how many pairs the fold in a slot has listed; the count stands still at its last number
abbrev pub listed_by : List OpenFold → ℕ → ℕ
listed_by [] slot = 0
listed_by (f ∷ folds) slot = cond (is_slot slot f) (length f.listed) (listed_by folds slot)

-- The line that shows an answer.
abbrev pub line_of : State → Call → Answer → Option Printed
line_of s (put_call key value now) (numbered_answer seq) = Some (Numbered seq)
line_of s (delete_call key now) (numbered_answer seq) = Some (Numbered seq)
line_of s (delete_call key now) Nothing = Some Absent
line_of s (reap_call key now) (numbered_answer seq) = Some (Numbered seq)
line_of s (reap_call key now) Nothing = Some Absent
line_of s (get_call key now) (Found value) = Some Loan
line_of s (get_call key now) Nothing = Some Absent
line_of s sync_call (numbered_answer seq) = Some (Synced seq)
line_of s (FoldOpen now) (fold_answer epoch slot) = Some (fold_line slot epoch)
line_of s (FoldNext slot) (pair_answer key value) = Some (Pair key value)
line_of s (FoldNext slot) end_answer = Some (end_line (min (listed_by s.folds slot) last_count))
line_of s (FoldClose slot) Done = Some Closed
line_of s call reply = None

-- The call was answered, and the line shows the answer.
pub record IsAnswered (b : Between) (action : Action) (step : Step) (line : Printed) : Type 0 where
  pub call : call_of b.moment action ≡ Some step.entry.call
  pub shows : line_of (state_at b) step.entry.call step.entry.reply ≡ Some line

-- ---- refusals

abbrev pub is_writing : Action → Bool
is_writing (Put key value) = true
is_writing (Big key len) = true
is_writing (Delete key) = true
is_writing (Reap key) = true
is_writing action = false

abbrev pub asks_disk : Action → Bool
asks_disk (Get key) = true
asks_disk Sync = true
asks_disk (Next slot) = true
asks_disk action = is_writing action

-- the size of the record that an action asks for; 0 where it asks for none
abbrev pub size_asked : Action → ℕ
size_asked (Put key value) = RECORD_HEADER + length key + length value
size_asked (Big key len) = RECORD_HEADER + length key + len
size_asked (Delete key) = RECORD_HEADER + length key
size_asked (Reap key) = RECORD_HEADER + length key
size_asked action = 0

-- A new file is due, and the last number of a file is given out.
pub record HasNoFile (b : Between) (action : Action) : Type 0 where
  pub due : needs_file (size_asked action) b.opening.settings.max_file
      (active_len (last_snapshot b.opening b.steps).rows) ≡ true
  pub last : LAST_FILE ≤ (last_snapshot b.opening b.steps).last_file.0

abbrev pub IsFull : Between → Action → Full → Type 0
IsFull b action full_seq = (is_writing action ≡ true) × (LAST_SEQ ≤ last_seq (log_at b))
IsFull b action full_files = (is_writing action ≡ true) × HasNoFile b action
IsFull b Fold full_folds = NoSlotIsFree (state_at b)
IsFull b action full = ⊥

-- the actor has no fold in this slot
abbrev pub HasNoFold : Between → ℕ → ℕ → Type 0
HasNoFold b who slot = (f : OpenFold) → IsOwn who slot f (state_at b) → ⊥

abbrev pub IsNoFold : Between → ℕ → Action → ℕ → Type 0
IsNoFold b who (Next slot) n = (n ≡ slot) × (IsTrue b.sound → HasNoFold b who slot)
IsNoFold b who (End slot) n = (n ≡ slot) × (IsTrue b.sound → HasNoFold b who slot)
IsNoFold b who action n = ⊥

-- Why the call was refused. Memory alone may be out at any time, also before a call was made.
abbrev pub IsRefusedFor : Between → ℕ → Action → List Step → Printed → Type 0
IsRefusedFor b who action [] Memory = Unit {0}
IsRefusedFor b who action [] line = ⊥
IsRefusedFor b who action (step ∷ []) Memory = Unit {0}
IsRefusedFor b who action (step ∷ []) Disk = (asks_disk action ≡ true) × (1 ≤ step.faults)
IsRefusedFor b who action (step ∷ []) (full_line full) = IsFull b action full
IsRefusedFor b who action (step ∷ []) (NoFold slot) = IsNoFold b who action slot
IsRefusedFor b who action steps line = ⊥

abbrev pub AreQuiet : List Step → Type 0
AreQuiet [] = Unit {0}
AreQuiet (step ∷ steps) = (step.entry.call ≡ Quiet) × (step.entry.reply ≡ Done) × AreQuiet steps

pub record IsRefused (b : Between) (who : ℕ) (action : Action) (steps : List Step) (line : Printed) : Type 0 where
  pub call : action ≢ Read
  pub quiet : AreQuiet steps
  pub cause : IsRefusedFor b who action steps line

-- ---- values that are read

-- Why a value couldn't be read. No record is damaged while the history is sound.
abbrev pub IsUnread : Between → Bool → Printed → Type 0
IsUnread b fallible Memory = Unit {0}
IsUnread b fallible read_line = fallible ≡ true
IsUnread b fallible (Damaged d) = (d.kept ≢ d.found) × (b.sound ≡ false)
IsUnread b fallible line = ⊥

-- The fold's next pair was given, and its value couldn't be read.
pub record IsSpoilt (b : Between) (action : Action) (step : Step) (line : Printed) : Type 0 where
  pub slot : ℕ
  pub is_next : action ≡ Next slot
  pub key : List ℕ
  pub value : List ℕ
  pub call : step.entry.call ≡ FoldNext slot
  pub reply : step.entry.reply ≡ pair_answer key value
  pub fallible : Bool
  pub cause : IsUnread b fallible line
  pub views : fallible ≡ true → 1 ≤ step.views

-- `read` prints what the actor keeps.
abbrev pub Reads : Between → Option Kept → Printed → Type 0
Reads b None line = line ≡ NoLoan
Reads b (Some kept) line = (line ≡ Value kept.value) ⊎ IsUnread b kept.fallible line

-- ---- the whole

-- how an action comes to its line
abbrev pub Does : Between → ℕ → Action → List Step → Printed → Type 0
Does b who Read steps line = (steps ≡ []) × Reads b (b.kept who) line
Does b who action steps line =
    ((step : Step) × (steps ≡ step ∷ []) × (IsAnswered b action step line ⊎ IsSpoilt b action step line))
    ⊎ IsRefused b who action steps line

-- What is kept behind it. What `get` found stays until it is read, or another is found.
abbrev pub KeepsFound : List Step → (value : List ℕ) → Bool → Type 0
KeepsFound [] value fallible = ⊥
KeepsFound (step ∷ steps) value fallible = (step.entry.reply ≡ Found value) × (fallible ≡ true → 1 ≤ step.views)

abbrev pub Keeps : ℕ → Action → List Step → Printed → (ℕ → Option Kept) → (ℕ → Option Kept) → Type 0
Keeps who (Get key) steps Loan old new = (k : Kept) × KeepsFound steps k.value k.fallible
    × ((actor : ℕ) → new actor ≡ with_kept who (Some k) old actor)
Keeps who Read steps line old new = (actor : ℕ) → new actor ≡ with_kept who None old actor
Keeps who action steps line old new = (actor : ℕ) → new actor ≡ old actor

-- the write that an action asks for, behind a log
abbrev pub write_of : Option Call → List Write → List Write
write_of None log = []
write_of (Some call) log = written call (numbered_answer (record { 0 = next_seq log }))

abbrev pub write_asked : Between → Action → List Write
write_asked b action = write_of (call_of b.moment action) (log_at b)

abbrev pub is_numbered : Printed → Bool
is_numbered (Numbered seq) = true
is_numbered line = false

-- What may be tried then: nothing; or what was, where no write was made; or the action's own write, where it
-- was answered DISK.
abbrev pub Tries : Between → Action → Printed → List Write → Type 0
Tries b action line left =
    (left ≡ []) ⊎ (((left ≡ b.tried) × (is_numbered line ≡ false))
    ⊎ ((line ≡ Disk) × (left ≡ write_asked b action)))

-- An action of this actor printed this line. Which calls of the disk fail stands beside it.
pub record Acts (b : Between) (who : ℕ) (action : Action) (line : Printed) (later : Between) : Type 0 where
  pub steps : List Step
  pub own : IsAlone who steps
  pub does : Does b who action steps line
  pub history : later.steps ≡ b.steps ++ steps
  pub opening : later.opening ≡ b.opening
  pub sound : later.sound ≡ b.sound
  pub moment : later.moment ≡ b.moment
  pub plan : later.plan ≡ b.plan
  pub kept : Keeps who action steps line b.kept later.kept
  pub tries : Tries b action line later.tried
  pub legal : IsTrue b.sound → IsLegalHistory later.opening later.steps
