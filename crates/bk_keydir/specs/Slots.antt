-- The folds that are open, and which version of a key one sees.
use Rattle.std.specs.Prelude.{◌≡◌, ℕ, ◌+◌, ◌==◌, Bool, false, ◌&&◌, cond, is_some, is_none, nat_le, nat_lt, List, slice_index_or, position, Option, None, Some}
use Rattle.std.specs.List.{find, fold, list_any}
use Rattle.bk_base.specs.declared.numbers.Moment.{Moment}
use Rattle.bk_base.specs.declared.numbers.Seq.{Seq}
use Rattle.bk_base.specs.declared.writes.Version.{Version}
use Rattle.bk_keydir.specs.declared.slots.Slot.{Slot}

-- what stands in a slot; past the last one nothing does
abbrev pub slot_at : List (Option Slot) → ℕ → Option Slot
slot_at slots n = slice_index_or slots n None

-- a fold that is open in one of the slots
abbrev pub IsOpen : List (Option Slot) → Slot → Type 0
IsOpen slots s = (n : ℕ) × (slot_at slots n ≡ Some s)

abbrev pub has_open : List (Option Slot) → Bool
has_open slots = list_any is_some slots

-- the first slot that is free
abbrev pub first_free : List (Option Slot) → Option ℕ
first_free slots = position is_none slots

-- a fold that was just opened, and one whose cursor has moved past a position
abbrev pub opened : ℕ → Seq → Moment → Slot
opened who epoch now = record { who = who; cursor = 0; epoch = epoch; now = now }

abbrev pub past : ℕ → Slot → Slot
past position s = record s { cursor = position + 1 }

abbrev pub stepped : ℕ → Option Slot → Option Slot
stepped position None = None
stepped position (Some s) = Some (past position s)

abbrev pub who_of : Option Slot → Option ℕ
who_of None = None
who_of (Some s) = Some s.who

-- of versions, newest first, the newest with a seq of at most the epoch
abbrev pub at_epoch : ℕ → List Version → Option Version
at_epoch epoch vs = find (λ (v : Version). nat_le v.seq.0 epoch) vs

-- the version that a fold sees of a key is the one with this seq
abbrev pub has_seq : ℕ → Option Version → Bool
has_seq seq None = false
has_seq seq (Some v) = v.seq.0 == seq

abbrev pub sees : List Version → ℕ → Option Slot → Bool
sees vs seq None = false
sees vs seq (Some s) = has_seq seq (at_epoch s.epoch.0 vs)

-- Of these versions of a key, some open fold sees the one with this seq.
abbrev pub is_seen : List (Option Slot) → List Version → ℕ → Bool
is_seen slots vs seq = list_any (sees vs seq) slots

-- What the slots are asked: whether an open fold has an epoch of at least `seq`, or one from `low` on
-- and below `high`; and the greatest epoch of an open fold.
abbrev pub reaches_in : ℕ → Option Slot → Bool
reaches_in seq None = false
reaches_in seq (Some s) = nat_le seq s.epoch.0

abbrev pub reaches : List (Option Slot) → ℕ → Bool
reaches slots seq = list_any (reaches_in seq) slots

abbrev pub lies_in : ℕ → ℕ → Option Slot → Bool
lies_in low high None = false
lies_in low high (Some s) = nat_le low s.epoch.0 && nat_lt s.epoch.0 high

abbrev pub within : List (Option Slot) → ℕ → ℕ → Bool
within slots low high = list_any (lies_in low high) slots

abbrev pub higher : Option Seq → Option Slot → Option Seq
higher epoch None = epoch
higher None (Some s) = Some s.epoch
higher (Some a) (Some s) = Some (cond (nat_lt a.0 s.epoch.0) s.epoch a)

abbrev pub highest_of : List (Option Slot) → Option Seq
highest_of slots = fold higher None slots

abbrev pub is_up_to : ℕ → Option Seq → Bool
is_up_to seq None = false
is_up_to seq (Some epoch) = nat_le seq epoch.0
