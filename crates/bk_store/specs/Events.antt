-- What an event does to a store that stood for a history. It is said of every history for which the
-- store stood, and of every step that tells what the event did: there is always one.
use Rattle.std.specs.Prelude.{◌≡◌, ◌⊎◌, ℕ, ◌+◌, ◌≤◌, Bool, false, List, [], ◌∷◌, ◌++◌, cond, Option, None, Some}
use Rattle.bk_base.specs.declared.calls.Answer.{Answer}
use Rattle.bk_base.specs.declared.calls.Answer.TheVariants.{Done}
use Rattle.bk_base.specs.declared.calls.Call.{Call}
use Rattle.bk_base.specs.declared.calls.Call.TheVariants.{Quiet}
use Rattle.bk_base.specs.declared.calls.Entry.{Entry}
use Rattle.bk_base.specs.declared.histories.Opening.{Opening}
use Rattle.bk_base.specs.declared.histories.Step.{Step}
use Rattle.bk_base.specs.declared.numbers.Moment.{Moment}
use Rattle.bk_base.specs.declared.writes.Body.{Body}
use Rattle.bk_base.specs.declared.writes.Write.{Write}
use Rattle.bk_disk.specs.Counts.{Counted}
use Rattle.bk_disk.specs.Crashes.{AtEach, fronts_at}
use Rattle.bk_disk.specs.Told.{Told, clock}
use Rattle.bk_image.specs.Prefix.{MeetsEither}
use Rattle.bk_laws.specs.History.{log_of}
use Rattle.bk_store.specs.History.{kept_of}
use Rattle.bk_store.specs.Shown.{Shown, snapshot_of}
use Rattle.bk_store.specs.Standing.{StandsFor}

-- the entry of a call
abbrev pub entry_by : ℕ → Call → Answer → Entry
entry_by who call reply = record { caller = who; call = call; reply = reply }

-- the entry of a call that changed nothing that a reply depends on
abbrev pub quiet_by : ℕ → Entry
quiet_by who = entry_by who Quiet Done

-- the disk's clock, where it tells
abbrev pub clock_of : Bool → Told → Option ℕ
clock_of tells t = cond tells (Some (clock t)) None

-- The step tells what an event did to the store: by how much the disk's counts rose, its clock, and a
-- snapshot of the files. It ended no merge.
pub record IsStepOf (tells : Bool) (v w : Shown) (s : Step) : Type 0 where
  pub faults : Counted false v.files.faults s.faults w.files.faults
  pub views : Counted false v.files.fallible_views s.views w.files.fallible_views
  pub outs : Counted false v.files.fallible_outs s.outs w.files.fallible_outs
  pub at : s.at ≡ clock_of tells w.files.told
  pub snapshot : s.snapshot ≡ snapshot_of w
  pub clean : s.clean ≡ false

-- The store stands for one step more, with this entry, and nothing is tried any more.
abbrev pub GoesOn : Bool → Entry → Shown → Shown → Type 0
GoesOn tells e v w = (o : Opening) (h : List Step) (tried : List Write) (s : Step) → StandsFor v o h tried
    → IsStepOf tells v w s → s.entry ≡ e → StandsFor w o (h ++ s ∷ []) []

-- The store stands for one step more, and what was tried stays so.
abbrev pub Keeps : Bool → Entry → Shown → Shown → Type 0
Keeps tells e v w = (o : Opening) (h : List Step) (tried : List Write) (s : Step) → StandsFor v o h tried
    → IsStepOf tells v w s → s.entry ≡ e → StandsFor w o (h ++ s ∷ []) tried

-- What is tried after a refused call: what was before, nothing, or just what the call tried.
abbrev pub IsLeft : List Write → List Write → List Write → Type 0
IsLeft tried more left = (left ≡ tried) ⊎ ((left ≡ []) ⊎ (left ≡ more))

-- The call was refused: the store stands for a quiet step more.
abbrev pub Refuses : Bool → ℕ → List Write → Shown → Shown → Type 0
Refuses tells who more v w = (o : Opening) (h : List Step) (tried : List Write) (s : Step) → StandsFor v o h tried
    → IsStepOf tells v w s → s.entry ≡ quiet_by who
    → (left : List Write) × IsLeft tried more left × StandsFor w o (h ++ s ∷ []) left

-- At each moment since the event began a crash meets the prefix, with what was tried before or with
-- what this event tries.
abbrev pub CrashMeets : List Write → Shown → Shown → Type 0
CrashMeets more v w = (o : Opening) (h : List Step) (tried : List Write) → StandsFor v o h tried
    → AtEach w.files.told (clock v.files.told) (MeetsEither (log_of o h) (kept_of o h) tried more)

-- the write that an event tries, behind those that have a seq so far
abbrev pub next_write : Shown → Moment → List ℕ → Body → Write
next_write v now key body = record { seq = record { 0 = v.seq + 1 }; moment = now; key = key; body = body }

-- The disk's clock went on, and what it told of each moment so far it tells still.
pub record KeepsPast (t u : Told) : Type 0 where
  pub later : clock t ≤ clock u
  pub same : (k : ℕ) → k ≤ clock t → fronts_at u k ≡ fronts_at t k
