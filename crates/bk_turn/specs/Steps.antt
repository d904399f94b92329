-- What each step on the table tells the seat that makes it.
use Rattle.std.specs.Prelude.{◌≡◌, ℕ, ◌+◌, true, false, List, [], ◌∷◌, ◌++◌, length, Option, Some, None}
use mathlib.Core.List.{IsPrefix}
use Rattle.atomic_table.specs.Table as table
use Rattle.atomic_table.specs.Table.{Me}
use Rattle.bk_base.specs.declared.histories.Opening.{Opening}
use Rattle.bk_base.specs.declared.histories.Step.{Step}
use Rattle.bk_turn.specs.declared.views.View.{View}
use Rattle.bk_turn.specs.declared.seats.Seated.{Seated}
use Rattle.bk_turn.specs.declared.seats.Stage.{Stage}
use Rattle.bk_turn.specs.declared.seats.Stage.TheVariants.{Filling, Idle, Waiting, Holding}
use Rattle.bk_turn.specs.History.{own, own_of, number_at}
use Rattle.bk_turn.specs.Seats.{seated, IsNoted}

-- a seat, and the slot if it has it
abbrev pub Sat : Type 0 → Type 0
Sat S = Me (Option S) Seated

abbrev pub with_stage : Stage → Seated → Seated
with_stage stage seat = record seat { stage = stage }

abbrev pub found_full : Seated → Seated
found_full seat = record seat { view = record seat.view { full = true } }

module _ {S : Type 0} where
  -- the first seat has the slot, which is empty
  abbrev pub begun : Opening → table.Step (Option S) → Sat S → ℕ → Sat S → Type 0
  begun opening st m n m' = m' ≡ (seated Filling (record m.0.view { opening = opening }), (0, None) ∷ m.1)

  -- the first seat has given the slot back
  abbrev pub filled : table.Step (Option S) → Sat S → ℕ → Sat S → Type 0
  filled st m n m' = m' ≡ (seated Idle m.0.view, [])

  -- the ticket was drawn where the word was found as expected; the seat is full where the last one was found
  pub record Drawn (t : ℕ) (m : Sat S) (n : ℕ) (m' : Sat S) : Type 0 where
    pub hit : n ≡ t → (m' ≡ (with_stage (Waiting t) m.0, m.1)) × (m.0.view.full ≡ false)
    pub full : (n ≡ t → ⊥) → n ≡ 18446744073709551615 → m' ≡ (found_full m.0, m.1)
    pub miss : (n ≡ t → ⊥) → (n ≡ 18446744073709551615 → ⊥) → m' ≡ m

  abbrev pub drawn : table.Step (Option S) → Sat S → ℕ → Sat S → Type 0
  drawn st m n m' = Drawn st.first m n m'

  -- the seat has the turn by the ticket t: its value stands for the history, which goes on after what the seat had seen by no step of its own
  pub record TakesTurn (stands : S → ℕ → Opening → List Step → Type 0) (t : ℕ) (m m' : Sat S) : Type 0 where
    pub value : S
    pub longest : List Step
    pub seat : m' ≡ (seated (Holding t) (record m.0.view { seen = longest }), (0, Some value) ∷ m.1)
    pub seen : IsPrefix m.0.view.seen longest
    pub value_stands : stands value m.0.view.first m.0.view.opening longest
    pub placed : t ≡ m.0.view.first + length longest
    pub own_kept : own (number_at m.0.view.number t) longest ≡ own_of m.0.view.number m.0.view.seen

  -- the slot was taken where the word is the seat's ticket
  abbrev pub looked : (S → ℕ → Opening → List Step → Type 0) → table.Step (Option S) → Sat S → ℕ → Sat S → Type 0
  looked stands st m n m' = (t : ℕ) → m.0.stage ≡ Waiting t → (n ≡ t → TakesTurn stands t m m') × ((n ≡ t → ⊥) → m' ≡ m)

  -- the holding's step was added, and the slot given back
  abbrev pub served : Step → table.Step (Option S) → Sat S → ℕ → Sat S → Type 0
  served added st m n m' = (t : ℕ) → m.0.stage ≡ Holding t
      → m' ≡ (
        seated Idle
            (record m.0.view {
              seen = m.0.view.seen ++ added ∷ [];
              number =
                  Some (number_at m.0.view.number t);
            }),
        [],
      )

  abbrev pub compared : table.Step (Option S) → Sat S → ℕ → Sat S → Type 0
  compared st m n m' = (m' ≡ m) × IsNoted m.0.view m.0.note

  -- what a seat knows that has waited for its turn and has taken the value out of the slot
  pub record TookTurn (stands : S → ℕ → Opening → List Step → Type 0) (t : ℕ) (old : View) (value : S)
      (m : Sat S) : Type 0 where
    pub seat : m ≡ (seated (Holding t) (record old { seen = m.0.view.seen }), (0, None) ∷ [])
    pub seen : IsPrefix old.seen m.0.view.seen
    pub value_stands : stands value old.first old.opening m.0.view.seen
    pub placed : t ≡ old.first + length m.0.view.seen
    pub own_kept : own (number_at old.number t) m.0.view.seen ≡ own_of old.number old.seen
