-- The rule that every step of every seat keeps, in six points.
-- Word 0 is the ticket that is served, and word 1 the next ticket to be drawn. The one slot has the value.
use Rattle.std.specs.Prelude.{◌≡◌, ℕ, ◌+◌, ◌-◌, ◌≤◌, ◌<◌, true, false, List, [], ◌∷◌, length, slice_get, Option, Some, None}
use mathlib.Core.List.{IsPrefix}
use mathlib.Core.Option as maybe
use mathlib.Core.Option.{some, none}
use lib.ListN.{get_elem?}
use Rattle.atomic_table.specs.Table.{State}
use Rattle.bk_base.specs.declared.histories.Opening.{Opening}
use Rattle.bk_base.specs.declared.histories.Step.{Step}
use Rattle.bk_turn.specs.declared.seats.Seated.{Seated}
use Rattle.bk_turn.specs.declared.seats.Stage.TheVariants.{Fresh, Holding}
use Rattle.bk_turn.specs.History.{own}
use Rattle.bk_turn.specs.Seats.{is_live, is_new, has_slot, tickets, numbers, weights, busy, Each, EachLive, IsNoted}

-- 1. The tickets out are those from `serving` to before `ticket`, each with one seat. A seat that is full has seen the last ticket gone.
pub record TicketsInOrder (first serving ticket : ℕ) (seats : List Seated) : Type 0 where
  pub begun : first ≤ serving
  pub ordered : serving ≤ ticket
  pub fits : ticket < 18446744073709551616
  pub served : (t : ℕ) → t < serving → tickets t seats ≡ 0
  pub out : (t : ℕ) → serving ≤ t → t < ticket → tickets t seats ≡ 1
  pub ahead : (t : ℕ) → ticket ≤ t → tickets t seats ≡ 0
  pub full : Each seats (λ seat. seat.view.full ≡ true → ticket ≡ 18446744073709551615)

-- 2. What each seat has seen begins the longest list, which has a step for each place served, and which some seat has seen.
pub record SeenFromTheFront (first serving : ℕ) (opening : Opening) (longest : List Step)
    (seats : List Seated) : Type 0 where
  pub long : first + length longest ≡ serving
  pub one_turn : EachLive seats (λ seat. (seat.view.first ≡ first) × (seat.view.opening ≡ opening))
  pub seen : EachLive seats (λ seat. IsPrefix seat.view.seen longest)
  pub noted : EachLive seats (λ seat. IsNoted seat.view seat.note)
  pub known : (k : ℕ) × (seat : Seated) × (get_elem? seats k ≡ some seat)
      × (is_live seat.stage ≡ true) × (seat.view.seen ≡ longest)

-- 3. The slot is away exactly while the first seat fills it or the seat whose ticket is served has it.
-- Until it was filled there is no other seat, no ticket is out and it is empty.
pub record SlotHasItsPlace {S : Type 0} (first serving ticket : ℕ)
    (homes : List (maybe.Option (Option S))) (seats : List Seated) : Type 0 where
  pub turns : (k : ℕ) (seat : Seated) → get_elem? seats k ≡ some seat → (t : ℕ) → seat.stage ≡ Holding t → t ≡ serving
  pub away : Each seats (λ seat. has_slot seat.stage ≡ true → homes ≡ none ∷ [])
  pub empty : Each seats (λ seat. seat.stage ≡ Fresh → homes ≡ some None ∷ [])
  pub alone : Each seats (λ seat. is_new seat.stage ≡ true → (length seats ≡ 1) × (ticket ≡ first))

-- 4. At rest in the slot is a value that stands for the longest list, and a seat that has the slot has seen that list.
pub record ValueStandsForTheLongest {S : Type 0} (stands : S → ℕ → Opening → List Step → Type 0)
    (first : ℕ) (opening : Opening) (longest : List Step) (homes : List (maybe.Option (Option S)))
    (seats : List Seated) : Type 0 where
  pub home : busy seats ≡ 0 → (value : S) × (homes ≡ some (Some value) ∷ []) × stands value first opening longest
  pub holders : Each seats (λ seat. has_slot seat.stage ≡ true → seat.view.seen ≡ longest)

-- the number of a seat that has seen these steps is the place of its first one, and it has seen all of its own
pub record IsNumber (first : ℕ) (longest seen : List Step) (n : ℕ) : Type 0 where
  pub begun : first ≤ n
  pub entry : (step : Step) × (slice_get seen (n - first) ≡ Some step) × (step.entry.caller ≡ n)
  pub all : own n longest ≡ own n seen

-- 5. No two seats have one number, a seat without a step has none, and a number in a step is at most its place.
pub record NumbersAreApart (first serving : ℕ) (longest : List Step) (seats : List Seated) : Type 0 where
  pub apart : (n : ℕ) → numbers n seats ≤ 1
  pub unborn : (n : ℕ) → serving ≤ n → numbers n seats ≡ 0
  pub placed : (k : ℕ) (step : Step) → slice_get longest k ≡ Some step → step.entry.caller ≤ first + k
  pub numbered : (k : ℕ) (seat : Seated) → get_elem? seats k ≡ some seat → (n : ℕ)
      → seat.view.number ≡ Some n → IsNumber first longest seat.view.seen n

-- 6. Each seat has a weight, and all weights together are 4,294,967,296. A seat that was joined away has neither weight nor number.
pub record WeightsAreWhole (seats : List Seated) : Type 0 where
  pub heavy : EachLive seats (λ seat. 1 ≤ seat.view.weight)
  pub whole : weights seats ≡ 4294967296
  pub gone : Each seats (λ seat. is_live seat.stage ≡ false → (seat.view.weight ≡ 0) × (seat.view.number ≡ None))

pub record Orderly {S : Type 0} (stands : S → ℕ → Opening → List Step → Type 0) (first : ℕ)
    (s : State (Option S) Seated) : Type 0 where
  pub serving : ℕ
  pub ticket : ℕ
  pub opening : Opening
  pub longest : List Step
  pub words : s.words ≡ serving ∷ ticket ∷ []
  pub tickets_in_order : TicketsInOrder first serving ticket s.views
  pub seen_from_the_front : SeenFromTheFront first serving opening longest s.views
  pub slot_has_its_place : SlotHasItsPlace first serving ticket s.homes s.views
  pub value_stands_for_the_longest : ValueStandsForTheLongest stands first opening longest s.homes s.views
  pub numbers_are_apart : NumbersAreApart first serving longest s.views
  pub weights_are_whole : WeightsAreWhole s.views
