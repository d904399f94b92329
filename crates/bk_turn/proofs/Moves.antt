-- The parts of the rule after one seat has changed from v to w, where the other parts of its view and the other seats stay.
use Rattle.std.proofs.Common.{◌≡◌, ℕ, ◌+◌, ◌≤◌, true, false, List, [], ◌∷◌, length, set, Option, Some, None, ap, sym, ◌∙◌, subst, arith}
use mathlib.Core.List.{IsPrefix}
use mathlib.Core.Option.{some, none}
use mathlib.Core.Option as maybe
use mathlib.Core.Logic.{dite}
use native.Mathlib.Decide.{ℕ_discrete}
use lib.ListN.{get_elem?}
use Rattle.atomic_table.specs.Table.{State, keeps, stepped, carried_after, Valid, Act}
use Rattle.atomic_table.proofs.Lists.{set_else, set_again}
use Rattle.bk_base.specs.declared.histories.Opening.{Opening}
use Rattle.bk_base.specs.declared.histories.Step.{Step}
use Rattle.bk_turn.specs.declared.seats.Seated.{Seated}
use Rattle.bk_turn.specs.declared.seats.Stage.TheVariants.{Fresh, Holding}
use Rattle.bk_turn.specs.Seats.{is_live, is_new, has_slot, has_ticket, is_number, is_busy, IsNoted}
use Rattle.bk_turn.specs.Rule.{TicketsInOrder, SeenFromTheFront, SlotHasItsPlace, ValueStandsForTheLongest, IsNumber, NumbersAreApart, WeightsAreWhole, Orderly}
use Rattle.bk_turn.specs.Steps.{Sat}
use Rattle.bk_turn.proofs.Beginnings.{prefix_trans}
use Rattle.bk_turn.proofs.Totals.{total-set, at_once, set_at, each_set, each_live_set, new_busy, slot_busy, one_place}

-- some live seat has seen these steps
abbrev pub IsKnown : List Step → List Seated → Type 0
IsKnown steps seats = (k : ℕ) × (seat : Seated) × (get_elem? seats k ≡ some seat)
    × (is_live seat.stage ≡ true) × (seat.view.seen ≡ steps)

-- one that has seen as much keeps the longest list known
pub known_kept : (l : List Seated) (id : ℕ) (v w : Seated) (longest : List Step)
    → get_elem? l id ≡ some v → is_live w.stage ≡ true → w.view.seen ≡ v.view.seen → IsKnown longest l
    → IsKnown longest (set l id w)
known_kept l id v w longest at live same known = dite (ℕ_discrete known.0 id)
    (λ e. let is : known.1 ≡ v =
    at_once l known.0 id known.1 v known.2
    at e in (
      id,
      w,
      set_at l id v w at,
      live,
      same
          ∙ (ap (λ (s : Seated). s.view.seen) (sym is) ∙ known.4),
    ))
    (λ ne. (known.0, known.1, set_else l id known.0 w ne ∙ known.2, known.3, known.4))

-- the changed seat may have seen more, by which the history may have grown
pub seen_moved : (first serving serving' : ℕ) (opening : Opening) (longest longest' : List Step)
    (l : List Seated) (id : ℕ) (v w : Seated) → SeenFromTheFront first serving opening longest l
    → first + length longest' ≡ serving' → IsPrefix longest longest' → (w.view.first ≡ first)
    × (w.view.opening ≡ opening) → IsPrefix w.view.seen longest' → IsNoted w.view w.note
    → IsKnown longest' (set l id w)
    → SeenFromTheFront first serving' opening longest' (set l id w)
seen_moved first serving serving' opening longest longest' l id v w r long grows turn seen noted known = record {
  long = long;
  one_turn = each_live_set (λ seat. (seat.view.first ≡ first) × (seat.view.opening ≡ opening)) l id w r.one_turn turn;
  seen = each_live_set (λ seat. IsPrefix seat.view.seen longest') l id w
      (λ k seat at live. prefix_trans seat.view.seen longest longest' (r.seen k seat at live) grows) seen;
  noted = each_live_set (λ seat. IsNoted seat.view seat.note) l id w r.noted noted;
  known = known;
}

-- the changed seat has the same number, and the history is the same
pub numbers_moved : (first serving : ℕ) (longest : List Step) (l : List Seated) (id : ℕ)
    (v w : Seated) → NumbersAreApart first serving longest l → get_elem? l id ≡ some v
    → w.view.number ≡ v.view.number
    → ((n : ℕ) → w.view.number ≡ Some n → IsNumber first longest w.view.seen n)
    → NumbersAreApart first serving longest (set l id w)
numbers_moved first serving longest l id v w r at same is = record {
  apart = λ n. let t =
      total-set (λ (s : Seated). is_number n s.view.number) l id v w at in let e : is_number n
      w.view.number ≡ is_number n v.view.number = ap (is_number n) same in let b = r.apart n in omega arith;
  unborn = λ n le. let t =
      total-set (λ (s : Seated). is_number n s.view.number) l id v w at in let e : is_number n
      w.view.number ≡ is_number n v.view.number = ap (is_number n) same in let b =
      r.unborn n le in omega arith;
  placed = r.placed;
  numbered =
      each_set (λ seat. (n : ℕ) → seat.view.number ≡ Some n → IsNumber first longest seat.view.seen n)
      l id w (λ k seat ne at'. r.numbered k seat at') is;
}

-- the changed seat has the same weight
pub weights_moved : (l : List Seated) (id : ℕ) (v w : Seated) → WeightsAreWhole l
    → get_elem? l id ≡ some v → is_live v.stage ≡ true → is_live w.stage ≡ true
    → w.view.weight ≡ v.view.weight → WeightsAreWhole (set l id w)
weights_moved l id v w r at live live' same = record {
  heavy = each_live_set (λ seat. 1 ≤ seat.view.weight) l id w r.heavy (let h = r.heavy id v at live in omega arith);
  whole = let t = total-set (λ (s : Seated). s.view.weight) l id v w at in let b = r.whole in omega arith;
  gone = each_set (λ seat. is_live seat.stage ≡ false → (seat.view.weight ≡ 0)
      × (seat.view.number ≡ None)) l id w (λ k seat ne at'. r.gone k seat at') (λ dead. absurd cc);
}

-- the changed seat has as many tickets, and is full only where the last ticket is gone
pub tickets_kept : (first serving ticket : ℕ) (l : List Seated) (id : ℕ) (v w : Seated)
    → TicketsInOrder first serving ticket l → get_elem? l id ≡ some v
    → ((u : ℕ) → has_ticket u w.stage ≡ has_ticket u v.stage)
    → (w.view.full ≡ true → ticket ≡ 18446744073709551615) → TicketsInOrder first serving ticket (set l id w)
tickets_kept first serving ticket l id v w r at same full = let t =
    λ (u : ℕ). total-set (λ (x : Seated). has_ticket u x.stage) l id v w at in record {
      begun = r.begun;
      ordered = r.ordered;
      fits = r.fits;
      served = λ u lt. let s = t u in let b = r.served u lt in let e = same u in omega arith;
      out = λ u le lt. let s = t u in let b = r.out u le lt in let e = same u in omega arith;
      ahead = λ u le. let s = t u in let b = r.ahead u le in let e = same u in omega arith;
      full = each_set (λ seat. seat.view.full ≡ true → ticket ≡ 18446744073709551615) l id w
          (λ k seat ne at'. r.full k seat at') full;
    }

-- a seat that isn't new and doesn't come to have the slot leaves the slot as it is
pub slot_stays : {S : Type 0} (first serving ticket ticket' : ℕ)
    (homes : List (maybe.Option (Option S))) (l : List Seated) (id : ℕ) (v w : Seated)
    → SlotHasItsPlace first serving ticket homes l → get_elem? l id ≡ some v
    → is_busy w.stage ≡ 0 → SlotHasItsPlace first serving ticket' homes (set l id w)
slot_stays {S} first serving ticket ticket' homes l id v w r at idle = record {
  turns = each_set (λ seat. (t : ℕ) → seat.stage ≡ Holding t → t ≡ serving) l id w
      (λ k seat ne at'. r.turns k seat at') (λ t e. let b : is_busy w.stage ≡ 1 =
      ap is_busy e in absurd (omega arith));
  away = each_set (λ seat. has_slot seat.stage ≡ true → homes ≡ none ∷ []) l id w
      (λ k seat ne at'. r.away k seat at') (λ e. let b = slot_busy w.stage e in absurd (omega arith));
  empty = each_set (λ seat. seat.stage ≡ Fresh → homes ≡ some None ∷ []) l id w
      (λ k seat ne at'. r.empty k seat at') (λ e. let b : is_busy w.stage ≡ 1 =
      ap is_busy e in absurd (omega arith));
  alone = each_set (λ seat. is_new seat.stage ≡ true → (length (set l id w) ≡ 1) × (ticket' ≡ first))
      l id w (λ k seat ne at' e. absurd
      (ne (one_place l k id seat v (r.alone k seat at' e).0 at' at)))
      (λ e. let b = new_busy w.stage e in absurd (omega arith));
}

-- the value stays at rest, or out with another seat
pub value_stays : {S : Type 0} (stands : S → ℕ → Opening → List Step → Type 0) (first : ℕ)
    (opening : Opening) (longest : List Step) (homes : List (maybe.Option (Option S)))
    (l : List Seated) (id : ℕ) (v w : Seated)
    → ValueStandsForTheLongest stands first opening longest homes l → get_elem? l id ≡ some v
    → is_busy v.stage ≡ 0 → is_busy w.stage ≡ 0
    → ValueStandsForTheLongest stands first opening longest homes (set l id w)
value_stays stands first opening longest homes l id v w r at idle idle' = record {
  home = λ none_busy. let t = total-set (λ (x : Seated). is_busy x.stage) l id v w at in r.home (omega arith);
  holders =
      each_set (λ seat. has_slot seat.stage ≡ true → seat.view.seen ≡ longest) l id w
      (λ k seat ne at'. r.holders k seat at') (λ e. let b = slot_busy w.stage e in absurd (omega arith));
}

module _ {S : Type 0} (stands : S → ℕ → Opening → List Step → Type 0) (first : ℕ) where
  -- what a step on a word has to show, where the word becomes new
  abbrev pub Goes : State (Option S) Seated → ℕ → ℕ → Sat S → (Sat S → Type 0) → ℕ → Type 0
  Goes s i id me told new = (w : Seated) × (a : Act (Option S)) × Valid s.homes me.1 a
      × Orderly stands first (stepped s i new id me.1 w a) × told (w, carried_after me.1 a)

  -- a step that changes nothing
  pub nothing_changes : (s : State (Option S) Seated) → Orderly stands first s
      → (i n id : ℕ) (me : Sat S) (told : Sat S → Type 0) → get_elem? s.views id ≡ some me.0
      → set s.words i n ≡ s.words → told me → Goes s i id me told n
  nothing_changes s r i n id me told at same t = (
    me.0,
    keeps,
    tt,
    subst (λ (z : List ℕ × List Seated). Orderly stands first record {
      words = z.0;
      homes =
          s.homes;
      views = z.1;
    }) (λ k. (sym same k, sym (set_again s.views id me.0 at) k)) r,
    t,
  )
