-- What there is between two lines of a script.
use Rattle.std.specs.Prelude.{◌≡◌, ℕ, ◌==◌, Bool, true, List, [], Option, None, cond}
use Rattle.bk_base.specs.declared.histories.Opening.{Opening}
use Rattle.bk_base.specs.declared.histories.Step.{Step}
use Rattle.bk_base.specs.declared.histories.StoreSettings.{StoreSettings}
use Rattle.bk_base.specs.declared.numbers.Moment.{Moment}
use Rattle.bk_base.specs.declared.writes.Write.{Write}
use Rattle.bk_laws.specs.History.{State, log_of, state_after}
use Rattle.bk_memdisk.specs.Plans.{Planned, counted_to, nothing_chosen}

-- a value that was located for an actor and isn't read yet, and whether the read may fail
pub record Kept : Type 0 where
  pub value : List ℕ
  pub fallible : Bool

pub record Between : Type 0 where
  -- the history since the last stop, and what may have been tried behind its log
  pub opening : Opening
  pub steps : List Step
  pub tried : List Write
  -- No stop so far met a chance match. What is said of the history's replies is said only then.
  pub sound : Bool
  -- the moment that each action has
  pub moment : Moment
  -- what each actor keeps to be read
  pub kept : ℕ → Option Kept
  -- how many calls of the disk were made since the last stop, and which were chosen to fail
  pub plan : Planned

abbrev pub state_at : Between → State
state_at b = state_after b.opening b.steps

abbrev pub log_at : Between → List Write
log_at b = log_of b.opening b.steps

-- with this kept by this actor
abbrev pub with_kept : ℕ → Option Kept → (ℕ → Option Kept) → ℕ → Option Kept
with_kept who k kept actor = cond (actor == who) k (kept actor)

-- the calls were chosen so
abbrev pub with_plan : Planned → Between → Between
with_plan plan b = record b { plan = plan }

-- A history begins: no step, no fold, nothing tried, nothing kept, and no call of the disk is chosen to fail.
pub record Begins (b : Between) : Type 0 where
  pub steps : b.steps ≡ []
  pub folds : b.opening.folds ≡ []
  pub tried : b.tried ≡ []
  pub kept : (actor : ℕ) → b.kept actor ≡ None
  pub plan : b.plan ≡ counted_to b.plan.calls nothing_chosen

-- a store without any write and any file, with these settings
pub record IsEmpty (given : StoreSettings) (b : Between) : Type 0 where
  pub begins : Begins b
  pub log : b.opening.log ≡ []
  pub last_file : b.opening.snapshot.last_file.0 ≡ 0
  pub settings : b.opening.settings ≡ given
  pub sound : b.sound ≡ true
  pub moment : b.moment.0 ≡ 0
