-- What the fields of a pass, a holding and a turn keep.
use Rattle.std.specs.Prelude.{◌≡◌, ◌==◌, ℕ, Bool, true, false, List, [], ◌∷◌, Option, Some, None}
use Rattle.atomic_table.specs.Seated.{TableId}
use Rattle.bk_turn.specs.declared.seats.Seated.{Seated}
use Rattle.bk_turn.specs.declared.seats.Stage.{Stage}
use Rattle.bk_turn.specs.declared.seats.Stage.TheVariants.{Idle, Holding}
use Rattle.bk_turn.specs.Seats.{spent}

-- the table has the two words and the slot
abbrev pub IsSized : TableId → Type 0
IsSized table = (table.words ≡ 2) × (table.slots ≡ 1)

-- the seat of a badge that has one
abbrev pub seat_of : List Seated → Seated
seat_of [] = spent
seat_of (seat ∷ seats) = seat

abbrev pub is_idle : Stage → Bool
is_idle Idle = true
is_idle _ = false

abbrev pub holds_turn : ℕ → Stage → Bool
holds_turn t (Holding ticket) = ticket == t
holds_turn t _ = false

-- the one slot is held, and empty
abbrev pub has_empty_slot : {S : Type 0} → List (ℕ × Option S) → Bool
has_empty_slot [] = false
has_empty_slot ((slot, Some x) ∷ slots) = false
has_empty_slot ((slot, None) ∷ []) = slot == 0
has_empty_slot ((slot, None) ∷ (x ∷ slots)) = false
