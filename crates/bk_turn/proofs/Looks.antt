-- The load that looks whether a seat's ticket is served keeps the rule, and takes the slot where it is.
use Rattle.std.proofs.Common.{◌≡◌, ℕ, ◌+◌, ◌-◌, ◌≤◌, true, false, List, [], ◌∷◌, length, set, get_or, Option, Some, None, slice_get, refl, ap, sym, ◌∙◌, subst, arith}
use mathlib.Core.List.{IsPrefix}
use mathlib.Core.Option.{some, none}
use mathlib.Core.Option as maybe
use mathlib.Core.Logic.{dite}
use native.Mathlib.Decide.{ℕ_discrete, dec_le}
use lib.ListN.{get_elem?}
use Rattle.atomic_table.specs.Table.{State, step, takes, Allows}
use Rattle.bk_base.specs.declared.histories.Opening.{Opening}
use Rattle.bk_base.specs.declared.histories.Step.{Step}
use Rattle.bk_turn.specs.declared.views.View.{View}
use Rattle.bk_turn.specs.declared.seats.Seated.{Seated}
use Rattle.bk_turn.specs.declared.seats.Stage.{Stage}
use Rattle.bk_turn.specs.declared.seats.Stage.TheVariants.{Fresh, Filling, Idle, Waiting, Holding, Gone}
use Rattle.bk_turn.specs.History.{own, own_of, number_at, IsApart}
use Rattle.bk_turn.specs.Seats.{is_live, is_new, has_slot, has_ticket, is_busy, busy, tickets, seated, IsNoted, plain_note}
use Rattle.bk_turn.specs.Rule.{TicketsInOrder, SlotHasItsPlace, ValueStandsForTheLongest, IsNumber, Orderly}
use Rattle.bk_turn.specs.Steps.{Sat, TakesTurn, TookTurn, looked}
use Rattle.bk_turn.proofs.Beginnings.{prefix_self, prefix_get, get_below, own_none}
use Rattle.bk_turn.proofs.Totals.{total-set, total-one, total-two, total-zero, at_once, set_at, one_if_same, each_set, new_busy, slot_busy, one_place}
use Rattle.bk_turn.proofs.Moves.{Goes, nothing_changes, tickets_kept, seen_moved, numbers_moved, weights_moved}

-- a seat that isn't new and doesn't hold the turn isn't busy
pub not_busy : (st : Stage) → (is_new st ≡ true → ⊥) → ((u : ℕ) → st ≡ Holding u → ⊥) → is_busy st ≡ 0
not_busy Fresh new holds = absurd (new refl)
not_busy Filling new holds = absurd (new refl)
not_busy Idle new holds = refl
not_busy (Waiting u) new holds = refl
not_busy (Holding u) new holds = absurd (holds u refl)
not_busy Gone new holds = refl

pub apart_none : (number : Option ℕ) → IsApart number None
apart_none None = tt
apart_none (Some n) = tt

-- a seat that has joined nobody since it last saw the history has a true note
pub plainly_noted : (view : View) → IsNoted view (plain_note view)
plainly_noted view =
    record {
      one_turn = (refl, refl);
      left_seen = prefix_self view.seen;
      right_seen =
          prefix_self view.seen;
      left_own = refl;
      right_own = refl;
      apart = apart_none view.number;
    }

-- no later step of the history is the seat's own
pub own_goes_on : (first t : ℕ) (longest seen : List Step) (number : Option ℕ)
    → first + length longest ≡ t
    → ((k : ℕ) (step : Step) → slice_get longest k ≡ Some step → step.entry.caller ≤ first + k)
    → ((n : ℕ) → number ≡ Some n → IsNumber first longest seen n)
    → own (number_at number t) longest ≡ own_of number seen
own_goes_on first t longest seen None long placed numbered =
    own_none t longest (λ k step at e. let le = placed k step at in let lt =
    get_below longest k step at in omega arith)
own_goes_on first t longest seen (Some n) long placed numbered = (numbered n refl).all

-- a ticket is had at most once
pub one_ticket : (first serving ticket t : ℕ) (l : List Seated)
    → TicketsInOrder first serving ticket l → tickets t l ≤ 1
one_ticket first serving ticket t l r = dite (dec_le serving t)
    (λ le. dite (dec_le ticket t) (λ past. let b = r.ahead t past in omega arith)
    (λ lt. let b = r.out t le (omega arith) in omega arith))
    (λ lt. let b = r.served t (omega arith) in omega arith)

-- the value is out with the changed seat, and nobody else was busy
slot_taken : {S : Type 0} (first serving ticket t : ℕ) (homes homes' : List (maybe.Option (Option S)))
    (l : List Seated) (id : ℕ) (v w : Seated) → SlotHasItsPlace first serving ticket homes l
    → get_elem? l id ≡ some v
    → busy l ≡ 0 → w.stage ≡ Holding t → t ≡ serving → homes' ≡ none ∷ []
    → SlotHasItsPlace first serving ticket homes' (set l id w)
slot_taken first serving ticket t homes homes' l id v w r at free holds hit out =
    let idle : (k : ℕ) (seat : Seated) → get_elem? l k ≡ some seat → is_busy seat.stage ≡ 0 =
    λ k seat at'. let o =
    total-one (λ (x : Seated). is_busy x.stage) l k seat at' in omega arith in record {
      turns = each_set (λ seat. (u : ℕ) → seat.stage ≡ Holding u → u ≡ serving) l id w
          (λ k seat ne at'. r.turns k seat at') (λ u e. let same : Holding u ≡ Holding t =
          sym e ∙ holds in let is : u ≡ t = cc (same) in is ∙ hit);
      away = each_set (λ seat. has_slot seat.stage ≡ true → homes' ≡ none ∷ []) l id w (λ k seat ne at' e. out) (λ e. out);
      empty = each_set (λ seat. seat.stage ≡ Fresh → homes' ≡ some None ∷ []) l id w
          (λ k seat ne at' e. let i = idle k seat at' in let b : is_busy seat.stage ≡ 1 =
          ap is_busy e in absurd (omega arith)) (λ e. let same : Fresh ≡ Holding t =
          sym e ∙ holds in absurd (cc (same)));
      alone = each_set (λ seat. is_new seat.stage ≡ true → (length (set l id w) ≡ 1) × (ticket ≡ first)) l
          id w (λ k seat ne at' e. let i = idle k seat at' in let b =
          new_busy seat.stage e in absurd (omega arith)) (λ e. let f : is_new w.stage ≡ false =
          ap is_new holds in absurd (cc (e, f)));
    }

value_taken : {S : Type 0} (stands : S → ℕ → Opening → List Step → Type 0) (first t : ℕ)
    (opening : Opening) (longest : List Step) (homes homes' : List (maybe.Option (Option S)))
    (l : List Seated) (id : ℕ) (v w : Seated)
    → ValueStandsForTheLongest stands first opening longest homes l → get_elem? l id ≡ some v
    → busy l ≡ 0 → w.stage ≡ Holding t → w.view.seen ≡ longest
    → ValueStandsForTheLongest stands first opening longest homes' (set l id w)
value_taken stands first t opening longest homes homes' l id v w r at free holds seen = record {
  home = λ none_busy. let s = total-set (λ (x : Seated). is_busy x.stage) l id v w at in let o =
      total-one (λ (x : Seated). is_busy x.stage) l id v at in let b : is_busy w.stage ≡ 1 =
      ap is_busy holds in absurd (omega arith);
  holders =
      each_set (λ seat. has_slot seat.stage ≡ true → seat.view.seen ≡ longest) l id w
      (λ k seat ne at' e. let o = total-one (λ (x : Seated). is_busy x.stage) l k seat at' in let b =
      slot_busy seat.stage e in absurd (omega arith)) (λ e. seen);
}

-- what is in the slot that was taken last
abbrev last_out : {S : Type 0} → List (ℕ × Option S) → Option S
last_out [] = None
last_out (slot ∷ slots) = slot.1

module _ {S : Type 0} (stands : S → ℕ → Opening → List Step → Type 0) (first : ℕ) where
  -- while the seat whose ticket is served waits, nobody is at the slot
  nobody_busy : (s : State (Option S) Seated) (r : Orderly stands first s) (id : ℕ) (v : Seated)
      (t : ℕ) → get_elem? s.views id ≡ some v → v.stage ≡ Waiting t → r.serving ≡ t → busy s.views ≡ 0
  nobody_busy s r id v t at waits hit =
      total-zero (λ (x : Seated). is_busy x.stage) s.views (λ k seat at'. not_busy seat.stage
      (λ new. let same =
      one_place s.views k id seat v (r.slot_has_its_place.alone k seat at' new).0 at' at in let is
      : seat ≡ v = at_once s.views k id seat v at' at same in
      let e : is_new v.stage ≡ true = ap (λ (x : Seated). is_new x.stage) (sym is)
      ∙ new in let f : is_new v.stage ≡ false = ap is_new waits in absurd (cc (e, f)))
      (λ u holds. let here : u ≡ r.serving = r.slot_has_its_place.turns k seat at' u holds in dite (ℕ_discrete k id)
      (λ same. let is : seat ≡ v =
      at_once s.views k id seat v at' at same in let e : Holding u ≡ Waiting t =
      sym holds ∙ (ap (λ (x : Seated). x.stage) is ∙ waits) in absurd (cc (e)))
      (λ other. let two =
      total-two (λ (x : Seated). has_ticket t x.stage) s.views k id seat v other at' at in let a
      : has_ticket t seat.stage ≡ 1 = ap (has_ticket t) holds ∙ one_if_same u t (here ∙ hit) in
      let b : has_ticket t v.stage ≡ 1 = ap (has_ticket t) waits ∙ one_if_same t t refl in let m =
      one_ticket first r.serving r.ticket t s.views r.tickets_in_order in absurd (omega arith))))

  look_hit : (s : State (Option S) Seated) (r : Orderly stands first s) (id : ℕ) (me : Sat S) (t : ℕ)
      → get_elem? s.views id ≡ some me.0 → me.0.stage ≡ Waiting t → r.serving ≡ t → busy s.views ≡ 0
      → Goes stands first s 0 id me (λ m. TakesTurn stands t me m) (get_or s.words 0 0)
  look_hit s r id me t at waits hit free = let v : Seated = me.0 in let w : Seated =
      seated (Holding t) (record v.view { seen = r.longest }) in let live : is_live v.stage ≡ true =
      ap is_live waits in
      let two = r.seen_from_the_front in let five = r.numbers_are_apart in let home =
      r.value_stands_for_the_longest.home free in let turn =
      two.one_turn id v at live in let seen = two.seen id v at live in (
        w,
        takes 0 (Some home.0),
        ap (λ (hs : List (maybe.Option (Option S))). get_elem? hs 0) home.1,
        record {
          serving = r.serving;
          ticket = r.ticket;
          opening = r.opening;
          longest = r.longest;
          words = ap (λ (ws : List ℕ). set ws 0 (get_or ws 0 0)) r.words;
          tickets_in_order =
              tickets_kept first r.serving r.ticket s.views id v w r.tickets_in_order
              at (λ u. ap (has_ticket u) (sym waits)) (r.tickets_in_order.full id v at);
          seen_from_the_front =
              seen_moved first r.serving r.serving r.opening r.longest r.longest s.views id v w two
              two.long (prefix_self r.longest) turn (prefix_self r.longest) (plainly_noted w.view)
              (id, w, set_at s.views id v w at, refl, refl);
          slot_has_its_place =
              slot_taken first r.serving r.ticket t s.homes (set s.homes 0 none) s.views id v w
              r.slot_has_its_place at free refl (sym hit)
              (ap (λ (hs : List (maybe.Option (Option S))). set hs 0 none) home.1);
          value_stands_for_the_longest =
              value_taken stands first t r.opening r.longest s.homes (set s.homes 0 none) s.views id v
              w r.value_stands_for_the_longest at free refl refl;
          numbers_are_apart =
              numbers_moved first r.serving r.longest s.views id v w five at refl
              (λ n e. let is = five.numbered id v at n e in record {
                begun = is.begun;
                entry = (is.entry.0, prefix_get v.view.seen r.longest (n - first) is.entry.0 seen is.entry.1, is.entry.2);
                all = refl;
              });
          weights_are_whole = weights_moved s.views id v w r.weights_are_whole at live refl refl;
        },
        record {
          value = home.0;
          longest = r.longest;
          seat = refl;
          seen = seen;
          value_stands =
              subst (λ (z : ℕ × Opening). stands home.0 z.0 z.1 r.longest)
              (λ k. (sym turn.0 k, sym turn.1 k)) home.2;
          placed = sym hit ∙ (sym two.long ∙ ap (λ (n : ℕ). n + length r.longest) (sym turn.0));
          own_kept =
              own_goes_on first t r.longest v.view.seen v.view.number (two.long ∙ hit) five.placed
              (five.numbered id v at);
        },
      )

  pub looks : (slots id : ℕ) (me : Sat S) (t : ℕ) → me.0.stage ≡ Waiting t
      → Allows (Orderly stands first) slots id me 0 (λ n. n) (looked stands (step slots 0 0 0 none) me)
  looks slots id me t waits s r wide at small = let n : ℕ =
      get_or s.words 0 0 in let is : n ≡ r.serving = ap (λ (ws : List ℕ). get_or ws 0 0) r.words in
      let mine : (u : ℕ) → me.0.stage ≡ Waiting u → t ≡ u = λ u e. let same : Waiting t ≡ Waiting u =
      sym waits ∙ e in cc (same) in
      dite (ℕ_discrete n t)
      (λ hit. let free = nobody_busy s r id me.0 t at waits (sym is ∙ hit) in let g =
      look_hit s r id me t at waits (sym is ∙ hit) free in (
        g.0,
        g.1,
        g.2,
        g.3,
        λ u e. (
          (λ _.
              subst (λ (z : ℕ). TakesTurn stands z me
              (g.0, Rattle.atomic_table.specs.Table.carried_after me.1 g.1)) (mine u e) g.4),
          λ miss. absurd (miss (hit ∙ mine u e)),
        ),
      ))
      (λ miss. nothing_changes stands first s r 0 n id me (looked stands (step slots 0 0 0 none) me n)
      at (ap (λ (ws : List ℕ). set ws 0 (get_or ws 0 0)) r.words ∙ sym r.words)
      (λ u e. ((λ hit. absurd (miss (hit ∙ sym (mine u e)))), λ _. refl)))

  -- a seat that took the slot knows as much once the value was moved out of it
  pub took : (t : ℕ) (m found emptied : Sat S) (x : S) → TakesTurn stands t m found
      → found.1 ≡ (0, Some x) ∷ [] → emptied ≡ (found.0, (0, None) ∷ [])
      → TookTurn stands t m.0.view x emptied
  took t m found emptied x takes_it has_x left = let old : View =
      m.0.view in let now : emptied.0 ≡ seated (Holding t) (record old { seen = takes_it.longest }) =
      ap (λ (z : Sat S). z.0) left ∙ ap (λ (z : Sat S). z.0) takes_it.seat in
      let seen : emptied.0.view.seen ≡ takes_it.longest =
      ap (λ (z : Seated). z.view.seen) now in let slots : (0, Some takes_it.value)
      ∷ m.1 ≡ (0, Some x) ∷ [] = sym (ap (λ (z : Sat S). z.1) takes_it.seat) ∙ has_x in
      let inner : Some takes_it.value ≡ Some x = ap last_out slots in let same : takes_it.value ≡ x =
      cc (inner) in record {
        seat = λ k. (
          (now ∙ ap (λ (xs : List Step). seated (Holding t) (record old { seen = xs })) (sym seen))
              k,
          ap (λ (z : Sat S). z.1) left k,
        );
        seen = subst (IsPrefix old.seen) (sym seen) takes_it.seen;
        value_stands =
            subst (λ (z : S × List Step). stands z.0 old.first old.opening z.1)
            (λ k. (same k, sym seen k)) takes_it.value_stands;
        placed = takes_it.placed ∙ ap (λ (xs : List Step). old.first + length xs) (sym seen);
        own_kept = ap (own (number_at old.number t)) seen ∙ takes_it.own_kept;
      }

  -- the same in a later look, where nothing has changed
  pub looks_again : (slots id : ℕ) (me began : Sat S) (t : ℕ) → me ≡ began → began.0.stage ≡ Waiting t
      → Allows (Orderly stands first) slots id me 0 (λ n. n) (looked stands (step slots 0 0 0 none) me)
  looks_again slots id me began t same waits = looks slots id me t (ap (λ (m : Sat S). m.0.stage) same ∙ waits)

  -- a look that found the ticket, and one that did not
  pub found_turn : (slots n t : ℕ) (me began after : Sat S) → me ≡ began → began.0.stage ≡ Waiting t
      → looked stands (step slots 0 0 0 none) me n after → n ≡ t → TakesTurn stands t me after
  found_turn slots n t me began after same waits told hit = (told t (ap (λ (m : Sat S). m.0.stage) same ∙ waits)).0 hit

  pub found_other : (slots n t : ℕ) (me began after : Sat S) → me ≡ began → began.0.stage ≡ Waiting t
      → looked stands (step slots 0 0 0 none) me n after → (n ≡ t → ⊥) → after ≡ began
  found_other slots n t me began after same waits told miss =
      (told t (ap (λ (m : Sat S). m.0.stage) same ∙ waits)).1 miss ∙ same

  -- the slot is with the seat that has the turn
  pub slot_found : (t : ℕ) (me began after : Sat S) → me ≡ began → began.1 ≡ []
      → TakesTurn stands t me after → (value : S) × (after.1 ≡ (0, Some value) ∷ [])
  slot_found t me began after same empty takes_it = (
    takes_it.value,
    ap (λ (m : Sat S). m.1) takes_it.seat
        ∙ ap (λ (slots : List (ℕ × Option S)). (0, Some takes_it.value) ∷ slots)
        (ap (λ (m : Sat S). m.1) same ∙ empty),
  )

  pub took_again : (t : ℕ) (me began found emptied : Sat S) (x : S) → me ≡ began
      → TakesTurn stands t me found → found.1 ≡ (0, Some x) ∷ [] → emptied ≡ (found.0, (0, None) ∷ [])
      → TookTurn stands t began.0.view x emptied
  took_again t me began found emptied x same takes_it has_x left =
      subst (λ (m : Sat S). TookTurn stands t m.0.view x emptied) same
      (took t me found emptied x takes_it has_x left)
