-- The addition that ends a holding keeps the rule: the history has one step more, and the next ticket is served.
use Rattle.std.proofs.Common.{◌≡◌, ◌≢◌, ℕ, ◌+◌, ◌-◌, ◌%◌, ◌^◌, ◌<◌, ◌≤◌, true, List, [], ◌∷◌, ◌++◌, length, set, get_or, Option, Some, None, slice_get, refl, ap, sym, ◌∙◌, subst, arith, length-append, ⊎_elim}
use Rattle.std.proofs.lemmas.List.{append-nil}
use mathlib.Core.List.{IsPrefix}
use mathlib.Core.Option.{some, none}
use mathlib.Core.Option as maybe
use mathlib.Core.Logic.{dite}
use native.Mathlib.Decide.{ℕ_discrete, dec_le}
use lib.ListN.{get_elem?}
use Rattle.atomic_table.specs.Table.{step, gives, rest, put_back, Allows}
use Rattle.bk_base.specs.declared.histories.Opening.{Opening}
use Rattle.bk_base.specs.declared.histories.Step.{Step}
use Rattle.bk_turn.specs.declared.seats.Seated.{Seated}
use Rattle.bk_turn.specs.declared.seats.Stage.TheVariants.{Fresh, Idle, Holding}
use Rattle.bk_turn.specs.History.{own, number_at}
use Rattle.bk_turn.specs.Seats.{is_live, is_new, has_slot, has_ticket, is_number, is_busy, numbers, seated}
use Rattle.bk_turn.specs.Rule.{TicketsInOrder, SlotHasItsPlace, IsNumber, NumbersAreApart, Orderly}
use Rattle.bk_turn.specs.Steps.{Sat, served}
use Rattle.bk_turn.proofs.Beginnings.{prefix_self, prefix_get, get_below, get_snoc, get_last, own-append, own_other}
use Rattle.bk_turn.proofs.Totals.{total-set, total-one, total-two, set_at, one_if_same, one_if_not, each_set, new_busy, slot_busy, one_place}
use Rattle.bk_turn.proofs.Moves.{seen_moved, weights_moved}
use Rattle.bk_turn.proofs.Looks.{not_busy, one_ticket, plainly_noted}

-- the ticket t is had no more, and the next one is served
tickets_served : (first serving ticket : ℕ) (l : List Seated) (id : ℕ) (v w : Seated)
    → TicketsInOrder first serving ticket l → get_elem? l id ≡ some v → v.stage ≡ Holding serving
    → w.stage ≡ Idle → w.view.full ≡ v.view.full
    → TicketsInOrder first (serving + 1) ticket (set l id w) × (serving < ticket)
tickets_served first serving ticket l id v w r at holds idle full =
    let has : (u : ℕ) → has_ticket u v.stage ≡ has_ticket u (Holding serving) =
    λ u. ap (has_ticket u) holds in let none_left : (u : ℕ) → has_ticket u w.stage ≡ 0 =
    λ u. ap (has_ticket u) idle in
    let t = λ (u : ℕ). total-set (λ (x : Seated). has_ticket u x.stage) l id v w at in let begun
    : first ≤ serving = r.begun in let ordered : serving ≤ ticket = r.ordered in
    let more : serving < ticket =
    dite (dec_le ticket serving) (λ le. let b = r.ahead serving le in let o =
    total-one (λ (x : Seated). has_ticket serving x.stage) l id v at in let h =
    has serving ∙ one_if_same serving serving refl in absurd (omega arith)) (λ lt. omega arith) in (
      record {
        begun = omega arith;
        ordered = omega arith;
        fits = r.fits;
        served = λ u lt. let s = t u in let z = none_left u in dite (ℕ_discrete serving u)
            (λ e. let b = r.out u (omega arith) (omega arith) in let h = has u ∙ one_if_same serving u e in omega arith)
            (λ ne. let b = r.served u (omega arith) in omega arith);
        out = λ u le lt. let s = t u in let z = none_left u in let b =
            r.out u (omega arith) lt in let h =
            has u ∙ one_if_not serving u (λ e. omega arith) in omega arith;
        ahead = λ u le. let s = t u in let z = none_left u in let b = r.ahead u le in omega arith;
        full = each_set (λ seat. seat.view.full ≡ true → ticket ≡ 18446744073709551615) l id w
            (λ k seat ne at'. r.full k seat at') (λ h. r.full id v at (sym full ∙ h));
      },
      more,
    )

-- beside the seat that holds the turn nobody is at the slot
others_idle : {S : Type 0} (first serving ticket : ℕ) (homes : List (maybe.Option (Option S)))
    (l : List Seated) (id : ℕ) (v : Seated) → TicketsInOrder first serving ticket l
    → SlotHasItsPlace first serving ticket homes l → get_elem? l id ≡ some v → v.stage ≡ Holding serving
    → (k : ℕ) (seat : Seated) → k ≢ id → get_elem? l k ≡ some seat → is_busy seat.stage ≡ 0
others_idle first serving ticket homes l id v one three at holds k seat ne at' = not_busy seat.stage
    (λ new. ne (one_place l k id seat v (three.alone k seat at' new).0 at' at))
    (λ u e. let here : u ≡ serving = three.turns k seat at' u e in let two =
    total-two (λ (x : Seated). has_ticket serving x.stage) l k id seat v ne at' at in
    let a : has_ticket serving seat.stage ≡ 1 = ap (has_ticket serving) e
    ∙ one_if_same u serving here in let b : has_ticket serving v.stage ≡ 1 =
    ap (has_ticket serving) holds ∙ one_if_same serving serving refl in
    let m = one_ticket first serving ticket serving l one in absurd (omega arith))

slot_served : {S : Type 0} (first serving ticket : ℕ) (homes homes' : List (maybe.Option (Option S)))
    (l : List Seated) (id : ℕ) (w : Seated)
    → ((k : ℕ) (seat : Seated) → k ≢ id → get_elem? l k ≡ some seat → is_busy seat.stage ≡ 0)
    → w.stage ≡ Idle → SlotHasItsPlace first (serving + 1) ticket homes' (set l id w)
slot_served first serving ticket homes homes' l id w others idle = let rests : is_busy w.stage ≡ 0 =
    ap is_busy idle in record {
      turns = each_set (λ seat. (u : ℕ) → seat.stage ≡ Holding u → u ≡ serving + 1) l id w
          (λ k seat ne at' u e. let b = others k seat ne at' in let c : is_busy seat.stage ≡ 1 =
          ap is_busy e in absurd (omega arith)) (λ u e. let c : is_busy w.stage ≡ 1 =
          ap is_busy e in absurd (omega arith));
      away = each_set (λ seat. has_slot seat.stage ≡ true → homes' ≡ none ∷ []) l id w
          (λ k seat ne at' e. let b = others k seat ne at' in let c =
          slot_busy seat.stage e in absurd (omega arith))
          (λ e. let c = slot_busy w.stage e in absurd (omega arith));
      empty = each_set (λ seat. seat.stage ≡ Fresh → homes' ≡ some None ∷ []) l id w
          (λ k seat ne at' e. let b = others k seat ne at' in let c : is_busy seat.stage ≡ 1 =
          ap is_busy e in absurd (omega arith)) (λ e. let c : is_busy w.stage ≡ 1 =
          ap is_busy e in absurd (omega arith));
      alone = each_set (λ seat. is_new seat.stage ≡ true → (length (set l id w) ≡ 1) × (ticket ≡ first)) l
          id w (λ k seat ne at' e. let b = others k seat ne at' in let c =
          new_busy seat.stage e in absurd (omega arith))
          (λ e. let c = new_busy w.stage e in absurd (omega arith));
    }

-- the number n fits the step that is added: no other seat has it, and its first step stands at its place
record NewNumber (first serving : ℕ) (now : List Step) (l : List Seated) (id : ℕ) (v : Seated) (n : ℕ) : Type 0 where
  begun : first ≤ n
  below : n ≤ serving
  apart : (m : ℕ) → numbers m l + is_number m (Some n) ≤ 1 + is_number m v.view.number
  unborn : (m : ℕ) → serving + 1 ≤ m → is_number m (Some n) ≡ is_number m v.view.number
  others : (k : ℕ) (seat : Seated) → k ≢ id → get_elem? l k ≡ some seat → (m : ℕ) → seat.view.number ≡ Some m → n ≢ m
  entry : (step : Step) × (slice_get now (n - first) ≡ Some step) × (step.entry.caller ≡ n)

new_number : (first serving : ℕ) (longest : List Step) (l : List Seated) (id : ℕ) (v : Seated)
    (a : Step) → NumbersAreApart first serving longest l → get_elem? l id ≡ some v
    → first + length longest ≡ serving → v.view.seen ≡ longest
    → (number : Option ℕ) → v.view.number ≡ number → a.entry.caller ≡ number_at number serving
    → NewNumber first serving (longest ++ a ∷ []) l id v (number_at number serving)
new_number first serving longest l id v a r at long seen None is calls =
    let none_yet : (m : ℕ) → is_number m v.view.number ≡ 0 = λ m. ap (is_number m) is in record {
      begun = omega arith;
      below = omega arith;
      apart = λ m. let z =
          none_yet m in dite (ℕ_discrete serving m) (λ e. let b = r.unborn m (omega arith) in let o =
          one_if_same serving m e in omega arith) (λ ne. let b = r.apart m in let o =
          one_if_not serving m ne in omega arith);
      unborn = λ m le. let z = none_yet m in let o = one_if_not serving m (λ e. omega arith) in omega arith;
      others = λ k seat ne at' m e same. let b = r.unborn m (omega arith) in let o =
          total-one (λ (x : Seated). is_number m x.view.number) l k seat at' in let h : is_number m
          seat.view.number ≡ 1 = ap (is_number m) e ∙ one_if_same m m refl in absurd (omega arith);
      entry = (
        a,
        ap (slice_get (longest ++ a ∷ [])) (let e : serving - first ≡ length longest = omega arith in e)
            ∙ get_last longest a,
        calls,
      );
    }
new_number first serving longest l id v a r at long seen (Some n) is calls = let its =
    r.numbered id v at n is in let same : (m : ℕ) → is_number m v.view.number ≡ is_number m (Some n) =
    λ m. ap (is_number m) is in
    let here : slice_get longest (n - first) ≡ Some its.entry.0 =
    ap (λ (xs : List Step). slice_get xs (n - first)) (sym seen) ∙ its.entry.1 in let low =
    get_below longest (n - first) its.entry.0 here in let begun = its.begun in record {
      begun = begun;
      below = omega arith;
      apart = λ m. let e = same m in let b = r.apart m in omega arith;
      unborn = λ m le. sym (same m);
      others = λ k seat ne at' m e hit. let two =
          total-two (λ (x : Seated). is_number m x.view.number) l k id seat v ne at' at in let b =
          r.apart m in let g : is_number m seat.view.number ≡ 1 =
          ap (is_number m) e ∙ one_if_same m m refl in
          let h : is_number m v.view.number ≡ 1 = same m ∙ one_if_same n m hit in absurd (omega arith);
      entry = (
        its.entry.0,
        prefix_get longest (longest ++ a ∷ []) (n - first) its.entry.0
            (a ∷ [], refl) here,
        its.entry.2,
      );
    }

numbers_served : (first serving : ℕ) (longest : List Step) (l : List Seated) (id : ℕ) (v w : Seated)
    (a : Step) (n : ℕ) → NumbersAreApart first serving longest l → get_elem? l id ≡ some v
    → first + length longest ≡ serving
    → NewNumber first serving (longest ++ a ∷ []) l id v n → a.entry.caller ≡ n
    → w.view.number ≡ Some n → w.view.seen ≡ longest ++ a ∷ []
    → NumbersAreApart first (serving + 1) (longest ++ a ∷ []) (set l id w)
numbers_served first serving longest l id v w a n r at long its calls number seen =
    let now : List Step = longest ++ a ∷ [] in let has : (m : ℕ)
    → is_number m w.view.number ≡ is_number m (Some n) = λ m. ap (is_number m) number in record {
      apart = λ m. let t = total-set (λ (x : Seated). is_number m x.view.number) l id v w at in let h =
          has m in let b = its.apart m in omega arith;
      unborn = λ m le. let t =
          total-set (λ (x : Seated). is_number m x.view.number) l id v w at in let h = has m in let u =
          its.unborn m le in let b = r.unborn m (omega arith) in omega arith;
      placed = λ k step at'.
          ⊎_elim (λ old. r.placed k step old) (λ new. let e : step.entry.caller ≡ n =
          ap (λ (x : Step). x.entry.caller) (sym new.1) ∙ calls in let b =
          its.below in let p : k ≡ length longest = new.0 in omega arith) (get_snoc longest k a step at');
      numbered = each_set (λ seat. (m : ℕ) → seat.view.number ≡ Some m → IsNumber first now seat.view.seen m) l id w
          (λ k seat ne at' m e. let old = r.numbered k seat at' m e in record {
            begun = old.begun;
            entry = old.entry;
            all = own-append m longest (a ∷ [])
                ∙ (ap (λ (xs : List Step). own m longest ++ xs)
                (own_other m a (λ same. its.others k seat ne at' m e (sym calls ∙ same)))
                ∙ (append-nil (own m longest) ∙ old.all));
          })
          (λ m e. let same : n ≡ m = let both : Some n ≡ Some m =
          sym number ∙ e in cc (both) in subst (IsNumber first now w.view.seen) same record {
            begun = its.begun;
            entry = (its.entry.0, ap (λ (xs : List Step). slice_get xs (n - first)) seen ∙ its.entry.1, its.entry.2);
            all = ap (own n) (sym seen);
          });
    }

module _ {S : Type 0} (stands : S → ℕ → Opening → List Step → Type 0) (first : ℕ) where
  pub serves : (slots id : ℕ) (me : Sat S) (t : ℕ) (x : S) (a : Step) → me.0.stage ≡ Holding t
      → me.1 ≡ (0, Some x) ∷ []
      → stands x me.0.view.first me.0.view.opening (me.0.view.seen ++ a ∷ [])
      → a.entry.caller ≡ number_at me.0.view.number t
      → Allows (Orderly stands first) slots id me 0 (λ n. (n + 1) % 2 ^ 64) (served a (step slots 0 1 0 none) me)
  serves slots id me t x a holds has_x value calls s r wide at small = let v : Seated =
      me.0 in let n : ℕ = number_at v.view.number t in let w : Seated =
      seated Idle (record v.view { seen = v.view.seen ++ a ∷ []; number = Some n }) in
      let two = r.seen_from_the_front in let live : is_live v.stage ≡ true =
      ap is_live holds in let turn = two.one_turn id v at live in let here : t ≡ r.serving =
      r.slot_has_its_place.turns id v at t holds in
      let holds' : v.stage ≡ Holding r.serving =
      holds ∙ ap Holding here in let all : v.view.seen ≡ r.longest =
      r.value_stands_for_the_longest.holders id v at (ap has_slot holds) in
      let one =
      tickets_served first r.serving r.ticket s.views id v w r.tickets_in_order at holds' refl
      refl in let fits : r.ticket < 18446744073709551616 =
      r.tickets_in_order.fits in let more : r.serving < r.ticket = one.1 in
      let next : (r.serving + 1) % 18446744073709551616 ≡ r.serving + 1 = omega arith in let others =
      others_idle first r.serving r.ticket s.homes s.views id v r.tickets_in_order
      r.slot_has_its_place at holds' in
      let calls' : a.entry.caller ≡ number_at v.view.number r.serving =
      calls ∙ ap (number_at v.view.number) here in let now : v.view.seen ++ a ∷ [] ≡ r.longest
      ++ a ∷ [] = ap (λ (xs : List Step). xs ++ a ∷ []) all in
      let homes' : put_back s.homes me.1 ≡ some (Some x) ∷ [] = ap (put_back s.homes) has_x
      ∙ ap (λ (hs : List (maybe.Option (Option S))). set hs 0 (some (Some x)))
      (r.slot_has_its_place.away id v at (ap has_slot holds)) in
      let number =
      subst (NewNumber first r.serving (r.longest ++ a ∷ []) s.views id v)
      (ap (number_at v.view.number) (sym here))
      (new_number first r.serving r.longest s.views id v a r.numbers_are_apart at two.long all
      v.view.number refl calls') in (
        w,
        gives,
        tt,
        record {
          serving = r.serving + 1;
          ticket = r.ticket;
          opening = r.opening;
          longest = r.longest ++ a ∷ [];
          words = ap (λ (ws : List ℕ). set ws 0 ((get_or ws 0 0 + 1) % 18446744073709551616)) r.words
              ∙ ap (λ (k : ℕ). k ∷ r.ticket ∷ []) next;
          tickets_in_order = one.0;
          seen_from_the_front =
              seen_moved first r.serving (r.serving + 1) r.opening r.longest (r.longest ++ a ∷ [])
              s.views id v w two (let l = two.long in omega (arith, length-append r.longest (a ∷ [])))
              (a ∷ [], refl) turn
              (subst (λ (xs : List Step). IsPrefix xs (r.longest ++ a ∷ [])) (sym now)
              (prefix_self (r.longest ++ a ∷ []))) (plainly_noted w.view)
              (id, w, set_at s.views id v w at, refl, now);
          slot_has_its_place =
              slot_served first r.serving r.ticket s.homes (put_back s.homes me.1) s.views id w others refl;
          value_stands_for_the_longest = record {
            home = λ free. (
              x,
              homes',
              subst (λ (z : ℕ × Opening × List Step). stands x z.0 z.1 z.2)
                  (λ k. (turn.0 k, turn.1 k, now k)) value,
            );
            holders =
                each_set (λ seat. has_slot seat.stage ≡ true → seat.view.seen ≡ r.longest ++ a ∷ [])
                s.views id w (λ k seat ne at' e. let b = others k seat ne at' in let c =
                slot_busy seat.stage e in absurd (omega arith)) (λ e. absurd (cc (e)));
          };
          numbers_are_apart =
              numbers_served first r.serving r.longest s.views id v w a n r.numbers_are_apart
              at two.long number calls refl now;
          weights_are_whole = weights_moved s.views id v w r.weights_are_whole at live refl refl;
        },
        λ u e. let same : t ≡ u = let both : Holding t ≡ Holding u = sym holds ∙ e in cc (both) in
            λ k. (
              seated Idle
                  (record v.view {
                    seen = v.view.seen ++ a ∷ [];
                    number =
                        Some (number_at v.view.number (same k));
                  }),
              ap rest has_x k,
            ),
      )

  -- the same after the value was put into the slot
  pub serves_put : (slots id : ℕ) (before after : Sat S) (t : ℕ) (x : S) (a : Step)
      → before.0.stage ≡ Holding t → after ≡ (before.0, (0, Some x) ∷ [])
      → stands x before.0.view.first before.0.view.opening (before.0.view.seen ++ a ∷ [])
      → a.entry.caller ≡ number_at before.0.view.number t
      → Allows (Orderly stands first) slots id after 0 (λ n. (n + 1) % 2 ^ 64) (served a (step slots 0 1 0 none) after)
  serves_put slots id before after t x a holds put value calls = let same : after.0 ≡ before.0 =
      ap (λ (m : Sat S). m.0) put in
      serves slots id after t x a (ap (λ (seat : Seated). seat.stage) same ∙ holds)
      (ap (λ (m : Sat S). m.1) put)
      (subst (λ (seat : Seated). stands x seat.view.first seat.view.opening
      (seat.view.seen ++ a ∷ [])) (sym same) value)
      (calls ∙ ap (λ (seat : Seated). number_at seat.view.number t) (sym same))
