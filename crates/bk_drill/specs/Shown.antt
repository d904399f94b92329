-- When a drill stands between two lines as is said of it.
use Rattle.std.specs.Prelude.{◌≡◌, ℕ, ◌<◌, Bool, IsTrue, drop, length, min, Option, None, Some}
use Rattle.bk_base.specs.declared.limits.TheConstants.{MOST_FOLDS}
use Rattle.bk_session.specs.Following.{Follows}
use Rattle.bk_store.specs.Loans.{Lent, check_of}
use Rattle.bk_store.specs.Sweeps.{last_count}
use Rattle.bk_drill.specs.declared.drills.Drill.{Drill}
use Rattle.bk_drill.specs.Actions.{listed_by}
use Rattle.bk_drill.specs.Loans.{loan_in, tally_in}
use Rattle.bk_drill.specs.Between.{Between, Kept, state_at}

-- The loan is what the actor keeps. Its record is whole while the history is sound.
pub record IsLoanOf (sound : Bool) (l : Lent) (k : Kept) : Type 0 where
  pub value : k.value ≡ drop l.value_at l.left
  pub fallible : k.fallible ≡ l.fallible
  pub whole : IsTrue sound → check_of l.left ≡ l.crc

abbrev pub LoanIs : Bool → Option Lent → Option Kept → Type 0
LoanIs sound None None = Unit {0}
LoanIs sound None (Some k) = ⊥
LoanIs sound (Some l) None = ⊥
LoanIs sound (Some l) (Some k) = IsLoanOf sound l k

pub record IsAt (d : Drill) (b : Between) : Type 0 where
  pub follows : Follows b.sound d.store b.opening b.steps b.tried
  pub moment : b.moment ≡ d.now
  pub plan : b.plan ≡ d.plan
  pub settings : d.store.settings ≡ d.settings
  pub slots : length d.store.keys.slots ≡ MOST_FOLDS
  pub loans : (actor : ℕ) → LoanIs b.sound (loan_in d.loans actor) (b.kept actor)
  pub listed : (slot : ℕ) → slot < MOST_FOLDS → tally_in d.tallies slot ≡ min (listed_by (state_at b).folds slot) last_count
