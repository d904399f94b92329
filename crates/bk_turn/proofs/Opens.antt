-- The table as it is made, and the two loads by which the first seat fills the slot, keep the rule.
use Rattle.std.proofs.Common.{◌≡◌, ℕ, ◌+◌, ◌<◌, ◌≤◌, true, false, List, [], ◌∷◌, length, set, get_or, Option, Some, None, refl, ap, sym, ◌∙◌, subst, arith, length-set}
use mathlib.Core.List.{IsPrefix}
use mathlib.Core.Option.{some, none, some-injective, some-ne-none}
use mathlib.Core.Option as maybe
use lib.ListN.{get_elem?}
use Rattle.atomic_table.specs.Table.{State, step, takes, gives, rest, put_back, Allows, opening}
use Rattle.bk_base.specs.declared.histories.Opening.{Opening}
use Rattle.bk_base.specs.declared.histories.Step.{Step}
use Rattle.bk_turn.specs.declared.views.View.{View}
use Rattle.bk_turn.specs.declared.seats.Seated.{Seated}
use Rattle.bk_turn.specs.declared.seats.Stage.TheVariants.{Fresh, Filling, Idle, Holding}
use Rattle.bk_turn.specs.Seats.{is_live, is_new, has_slot, has_ticket, is_busy, seated, fresh, IsNoted}
use Rattle.bk_turn.specs.Rule.{Orderly}
use Rattle.bk_turn.specs.Steps.{Sat, begun, filled}
use Rattle.bk_turn.proofs.Beginnings.{prefix_self, prefix_length, no_length}
use Rattle.bk_turn.proofs.Totals.{total-one, set_at, each_set, each_only, one_place, new_lives}
use Rattle.bk_turn.proofs.Moves.{tickets_kept, numbers_moved, weights_moved}
use Rattle.bk_turn.proofs.Looks.{plainly_noted}

module _ {S : Type 0} (stands : S → ℕ → Opening → List Step → Type 0) (first : ℕ) where
  -- the table as it is made: an empty slot, no ticket, and one seat
  pub made : first < 18446744073709551616
      → Orderly stands first (opening (first ∷ first ∷ []) (None ∷ []) (fresh first))
  made fits = let seat : Seated = fresh first in record {
    serving = first;
    ticket = first;
    opening = seat.view.opening;
    longest = [];
    words = refl;
    tickets_in_order =
        record {
          begun = omega arith;
          ordered = omega arith;
          fits = fits;
          served = λ t lt. refl;
          out =
              λ t le lt. absurd (omega arith);
          ahead = λ t le. refl;
          full =
              each_only (λ x. x.view.full ≡ true → first ≡ 18446744073709551615) seat (λ e. absurd (cc (e)));
        };
    seen_from_the_front = record {
      long = omega arith;
      one_turn =
          λ k x at live. each_only
          (λ x. (x.view.first ≡ first) × (x.view.opening ≡ seat.view.opening)) seat (refl, refl) k x at;
      seen = λ k x at live. each_only (λ x. IsPrefix x.view.seen []) seat (prefix_self []) k x at;
      noted = λ k x at live. each_only (λ x. IsNoted x.view x.note) seat (plainly_noted seat.view) k x at;
      known = (0, seat, refl, refl, refl);
    };
    slot_has_its_place = record {
      turns = each_only (λ x. (t : ℕ) → x.stage ≡ Holding t → t ≡ first) seat (λ t e. absurd (cc (e)));
      away = each_only (λ x. has_slot x.stage ≡ true → some None ∷ [] ≡ none ∷ []) seat (λ e. absurd (cc (e)));
      empty = each_only (λ x. x.stage ≡ Fresh → some None ∷ [] ≡ some None ∷ []) seat (λ e. refl);
      alone = each_only (λ x. is_new x.stage ≡ true → (length (seat ∷ []) ≡ 1) × (first ≡ first)) seat
          (λ e. (refl, refl));
    };
    value_stands_for_the_longest =
        record {
          home = λ free. absurd (omega arith);
          holders =
              each_only (λ x. has_slot x.stage ≡ true → x.view.seen ≡ []) seat (λ e. refl);
        };
    numbers_are_apart = record {
      apart = λ n. omega arith;
      unborn = λ n le. refl;
      placed = λ k step e. absurd (cc (e));
      numbered = λ k x at n e. absurd (cc (each_only (λ x. x.view.number ≡ None) seat refl k x at, e));
    };
    weights_are_whole = record {
      heavy = λ k x at live. each_only (λ x. 1 ≤ x.view.weight) seat (omega arith) k x at;
      whole = refl;
      gone = each_only (λ x. is_live x.stage ≡ false → (x.view.weight ≡ 0) × (x.view.number ≡ None))
          seat (λ e. absurd (cc (e)));
    };
  }

  -- a new seat is the only one, and nothing has been seen
  nothing_yet : (s : State (Option S) Seated) (r : Orderly stands first s) (id : ℕ) (v : Seated)
      → get_elem? s.views id ≡ some v → is_new v.stage ≡ true → (r.longest ≡ []) × (v.view.seen ≡ [])
  nothing_yet s r id v at new = let a = (r.slot_has_its_place.alone id v at new).1 in let one =
      r.tickets_in_order in let b : first ≤ r.serving = one.begun in let c : r.serving ≤ r.ticket =
      one.ordered in let d : first + length r.longest ≡ r.serving = r.seen_from_the_front.long in
      let none_seen : r.longest ≡ [] =
      no_length r.longest (omega arith) in let live : is_live v.stage ≡ true = new_lives v.stage new in
      let p = prefix_length v.view.seen r.longest (r.seen_from_the_front.seen id v at live)
      in (none_seen, no_length v.view.seen (omega arith))

  pub begins : (o : Opening) (slots id : ℕ) (me : Sat S) → me.0.stage ≡ Fresh
      → Allows (Orderly stands first) slots id me 0 (λ n. n) (begun o (step slots 0 0 0 none) me)
  begins o slots id me is_fresh s r wide at small = let v : Seated = me.0 in let w : Seated =
      seated Filling (record v.view { opening = o }) in let new : is_new v.stage ≡ true =
      ap is_new is_fresh in let live : is_live v.stage ≡ true = ap is_live is_fresh in
      let three = r.slot_has_its_place in let alone = three.alone id v at new in let nothing =
      nothing_yet s r id v at new in let here : s.homes ≡ some None ∷ [] =
      three.empty id v at is_fresh in let two = r.seen_from_the_front in
      let taken : set s.homes 0 none ≡ none ∷ [] =
      ap (λ (hs : List (maybe.Option (Option S))). set hs 0 none) here in let only =
      λ (P : Seated → Type 0) (p : P w). each_set P s.views id w
      (λ k seat ne at'. absurd (ne (one_place s.views k id seat v alone.0 at' at))) p in (
        w,
        takes 0 None,
        ap (λ (hs : List (maybe.Option (Option S))). get_elem? hs 0) here,
        record {
          serving = r.serving;
          ticket = r.ticket;
          opening = o;
          longest = r.longest;
          words = ap (λ (ws : List ℕ). set ws 0 (get_or ws 0 0)) r.words;
          tickets_in_order =
              tickets_kept first r.serving r.ticket s.views id v w r.tickets_in_order
              at (λ u. ap (has_ticket u) (sym is_fresh)) (r.tickets_in_order.full id v at);
          seen_from_the_front = record {
            long = two.long;
            one_turn =
                λ k x at' l. only (λ x. (x.view.first ≡ first) × (x.view.opening ≡ o))
                ((two.one_turn id v at live).0, refl) k x at';
            seen = λ k x at' l. only (λ x. IsPrefix x.view.seen r.longest) (two.seen id v at live) k x at';
            noted = λ k x at' l. only (λ x. IsNoted x.view x.note) (plainly_noted w.view) k x at';
            known = (id, w, set_at s.views id v w at, refl, nothing.1 ∙ sym nothing.0);
          };
          slot_has_its_place = record {
            turns = only (λ x. (t : ℕ) → x.stage ≡ Holding t → t ≡ r.serving) (λ t e. absurd (cc (e)));
            away = only (λ x. has_slot x.stage ≡ true → set s.homes 0 none ≡ none ∷ []) (λ e. taken);
            empty = only (λ x. x.stage ≡ Fresh → set s.homes 0 none ≡ some None ∷ []) (λ e. absurd (cc (e)));
            alone = only (λ x. is_new x.stage ≡ true → (length (set s.views id w) ≡ 1)
                × (r.ticket ≡ first)) (λ e. (length-set s.views id w ∙ alone.0, alone.1));
          };
          value_stands_for_the_longest = record {
            home = λ free. let b =
                total-one (λ (x : Seated). is_busy x.stage) (set s.views id w) id w
                (set_at s.views id v w at) in absurd (omega arith);
            holders = only (λ x. has_slot x.stage ≡ true → x.view.seen ≡ r.longest) (λ e. nothing.1 ∙ sym nothing.0);
          };
          numbers_are_apart =
              numbers_moved first r.serving r.longest s.views id v w r.numbers_are_apart at refl
              (r.numbers_are_apart.numbered id v at);
          weights_are_whole = weights_moved s.views id v w r.weights_are_whole at live refl refl;
        },
        refl,
      )

  pub fills : (slots id : ℕ) (me : Sat S) (x : S) → me.0.stage ≡ Filling → me.1 ≡ (0, Some x) ∷ []
      → stands x me.0.view.first me.0.view.opening []
      → Allows (Orderly stands first) slots id me 0 (λ n. n) (filled (step slots 0 0 0 none) me)
  fills slots id me x filling has_x value s r wide at small = let v : Seated =
      me.0 in let w : Seated = seated Idle v.view in let new : is_new v.stage ≡ true =
      ap is_new filling in let live : is_live v.stage ≡ true = ap is_live filling in
      let three = r.slot_has_its_place in let alone = three.alone id v at new in let nothing =
      nothing_yet s r id v at new in let two = r.seen_from_the_front in let turn =
      two.one_turn id v at live in
      let homes' : put_back s.homes me.1 ≡ some (Some x) ∷ [] = ap (put_back s.homes) has_x
      ∙ ap (λ (hs : List (maybe.Option (Option S))). set hs 0 (some (Some x)))
      (three.away id v at (ap has_slot filling)) in
      let only =
      λ (P : Seated → Type 0) (p : P w). each_set P s.views id w
      (λ k seat ne at'. absurd (ne (one_place s.views k id seat v alone.0 at' at))) p in (
        w,
        gives,
        tt,
        record {
          serving = r.serving;
          ticket = r.ticket;
          opening = r.opening;
          longest = r.longest;
          words = ap (λ (ws : List ℕ). set ws 0 (get_or ws 0 0)) r.words;
          tickets_in_order =
              tickets_kept first r.serving r.ticket s.views id v w r.tickets_in_order
              at (λ u. ap (has_ticket u) (sym filling)) (r.tickets_in_order.full id v at);
          seen_from_the_front = record {
            long = two.long;
            one_turn = λ k x at' l. only (λ x. (x.view.first ≡ first) × (x.view.opening ≡ r.opening)) turn k x at';
            seen = λ k x at' l. only (λ x. IsPrefix x.view.seen r.longest) (two.seen id v at live) k x at';
            noted = λ k x at' l. only (λ x. IsNoted x.view x.note) (plainly_noted w.view) k x at';
            known = (id, w, set_at s.views id v w at, refl, nothing.1 ∙ sym nothing.0);
          };
          slot_has_its_place = record {
            turns = only (λ x. (t : ℕ) → x.stage ≡ Holding t → t ≡ r.serving) (λ t e. absurd (cc (e)));
            away = only (λ x. has_slot x.stage ≡ true → put_back s.homes me.1 ≡ none ∷ []) (λ e. absurd (cc (e)));
            empty = only (λ x. x.stage ≡ Fresh → put_back s.homes me.1 ≡ some None ∷ []) (λ e. absurd (cc (e)));
            alone = only (λ x. is_new x.stage ≡ true → (length (set s.views id w) ≡ 1)
                × (r.ticket ≡ first)) (λ e. absurd (cc (e)));
          };
          value_stands_for_the_longest = record {
            home = λ free. (
              x,
              homes',
              subst (λ (z : ℕ × Opening × List Step). stands x z.0 z.1 z.2)
                  (λ k. (turn.0 k, turn.1 k, sym nothing.0 k)) value,
            );
            holders = only (λ x. has_slot x.stage ≡ true → x.view.seen ≡ r.longest) (λ e. absurd (cc (e)));
          };
          numbers_are_apart =
              numbers_moved first r.serving r.longest s.views id v w r.numbers_are_apart at refl
              (r.numbers_are_apart.numbered id v at);
          weights_are_whole = weights_moved s.views id v w r.weights_are_whole at live refl refl;
        },
        λ k. (w, ap rest has_x k),
      )

  -- the same after the value was put into the slot
  pub fills_put : (slots id : ℕ) (before after : Sat S) (v : View) (x : S)
      → before ≡ (seated Filling v, (0, None) ∷ []) → after ≡ (before.0, (0, Some x) ∷ [])
      → stands x v.first v.opening []
      → Allows (Orderly stands first) slots id after 0 (λ n. n) (filled (step slots 0 0 0 none) after)
  fills_put slots id before after v x was put value = let same : after.0 ≡ seated Filling v =
      ap (λ (m : Sat S). m.0) put ∙ ap (λ (m : Sat S). m.0) was in
      fills slots id after x (ap (λ (seat : Seated). seat.stage) same) (ap (λ (m : Sat S). m.1) put)
      (subst (λ (seat : Seated). stands x seat.view.first seat.view.opening []) (sym same) value)
