-- What the events of folds answer.
use Rattle.std.specs.Prelude.{◌≡◌, ◌≢◌, ℕ, ◌<◌, List, [], slice_set, drop, Option, None, Some}
use Rattle.bk_base.specs.declared.calls.Answer.{Answer}
use Rattle.bk_base.specs.declared.calls.Answer.TheVariants.{End, Pair}
use Rattle.bk_base.specs.declared.limits.TheConstants.{MOST_FOLDS}
use Rattle.bk_base.specs.declared.numbers.Moment.{Moment}
use Rattle.bk_base.specs.declared.writes.Write.{Write}
use Rattle.bk_disk.specs.Causes.{Rose}
use Rattle.bk_keydir.specs.declared.slots.Slot.{Slot}
use Rattle.bk_keydir.specs.Folds.{IsNextPair, still_lists}
use Rattle.bk_keydir.specs.Slots.{first_free, opened, past, slot_at, who_of}
use Rattle.bk_laws.specs.Log.{cut_at, winner}
use Rattle.bk_store.specs.declared.errors.FoldError.{FoldError}
use Rattle.bk_store.specs.declared.errors.FoldError.TheVariants.{NoFold, Disk, Memory}
use Rattle.bk_store.specs.declared.folds.Fold.{Fold}
use Rattle.bk_store.specs.declared.folds.Row2.{Row2}
use Rattle.bk_store.specs.Loans.{Lent, LendsRecord, LendsVersion}
use Rattle.bk_store.specs.Shown.{Shown}

-- a fold was opened in the least free slot, of the log as it is
pub record IsOpened (who : ℕ) (now : Moment) (v u : Shown) (f : Fold) : Type 0 where
  pub slot : first_free v.keys.slots ≡ Some f.slot
  pub within : f.slot < MOST_FOLDS
  pub epoch : f.epoch.0 ≡ v.seq
  pub moment : f.now ≡ now
  pub keys : u ≡ record v { keys = record v.keys { slots = slice_set v.keys.slots f.slot (Some (opened who f.epoch now)) } }

abbrev pub IsClosed : ℕ → Shown → Shown → Type 0
IsClosed slot v u = u ≡ record v { keys = record v.keys { slots = slice_set v.keys.slots slot None } }

-- what was lent of a pair
abbrev pub lent_of : {V : Type 0} → Option (Row2 V) → Option Lent
lent_of None = None
lent_of (Some row) = Some row.loan

-- the answer to the next of a fold: the key, and the value that stands in the record
abbrev pub next_reply : {V : Type 0} → Option (Row2 V) → Answer
next_reply None = End
next_reply (Some row) = Pair row.key (drop row.loan.value_at row.loan.left)

-- The fold's next pair is this one: its record is lent, and the cursor stands behind it.
pub record ListsPair (slot : ℕ) (s : Slot) (v u : Shown) (key : List ℕ) (l : Lent) : Type 0 where
  pub position : ℕ
  pub next : IsNextPair v.settings.ttl s v.keys.entries position
  pub is_key : next.key ≡ key
  pub lends : LendsVersion key next.version l
  pub keys : u.keys ≡ record v.keys { slots = slice_set v.keys.slots slot (Some (past position s)) }

abbrev pub ListsIn : {V : Type 0} → ℕ → Option Slot → Shown → Shown → Option (Row2 V) → Type 0
ListsIn slot None v u found = ⊥
ListsIn slot (Some s) v u None = (still_lists v.settings.ttl s v.keys.entries ≡ []) × (u ≡ v)
ListsIn slot (Some s) v u (Some row) = ListsPair slot s v u row.key row.loan

-- the slot is open by this caller, and the fold's next pair was given, or it has listed all
abbrev pub ListsNext : {V : Type 0} → ℕ → ℕ → Shown → Shown → Option (Row2 V) → Type 0
ListsNext who slot v u found = (who_of (slot_at v.keys.slots slot) ≡ Some who)
    × (u.seq ≡ v.seq) × (u.settings ≡ v.settings) × (u.files.catalog ≡ v.files.catalog)
    × ListsIn slot (slot_at v.keys.slots slot) v u found

-- Why no pair was given; the fold is as before.
abbrev pub IsFoldError : ℕ → ℕ → Shown → Shown → FoldError → Type 0
IsFoldError who slot v u (NoFold n) = (n ≡ slot) × (who_of (slot_at v.keys.slots slot) ≢ Some who) × (u ≡ v)
IsFoldError who slot v u Disk = (who_of (slot_at v.keys.slots slot) ≡ Some who)
    × (u ≡ record v { files = u.files }) × (u.files.catalog ≡ v.files.catalog) × Rose v.files.faults u.files.faults
IsFoldError who slot v u Memory = (who_of (slot_at v.keys.slots slot) ≡ Some who)
    × (u ≡ record v { files = u.files }) × (u.files.catalog ≡ v.files.catalog)

-- what is lent is the record of the key's winner in the log that the fold lists
abbrev pub LendsPairOf : {V : Type 0} → Option Slot → List Write → Option (Row2 V) → Type 0
LendsPairOf slot log None = Unit {0}
LendsPairOf None log (Some row) = ⊥
LendsPairOf (Some s) log (Some row) =
    (w : Write) × (winner (cut_at s.epoch.0 log) row.key ≡ Some w) × LendsRecord row.loan w

abbrev pub LendsPair : {V : Type 0} → ℕ → Shown → List Write → Option (Row2 V) → Type 0
LendsPair slot v log found = LendsPairOf (slot_at v.keys.slots slot) log found
