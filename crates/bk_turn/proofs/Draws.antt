-- The exchange that draws a ticket keeps the rule.
use Rattle.std.proofs.Common.{◌≡◌, eqb, ◌≢◌, ℕ, ◌+◌, ◌<◌, ◌≤◌, true, List, [], ◌∷◌, set, slice_index, get_or, Option, refl, ap, sym, ◌∙◌, subst, arith}
use Rattle.std.proofs.lemmas.Bool.{false_from_ne_true}
use mathlib.Core.Option.{some, none}
use mathlib.Core.Logic.{dite}
use native.Mathlib.Decide.{ℕ_discrete}
use lib.ListN.{get_elem?}
use prog.Atomic.{either}
use Rattle.atomic_table.specs.Table.{State, step, keeps, Allows}
use Rattle.atomic_table.proofs.Lists.{exchanged}
use Rattle.bk_base.specs.declared.histories.Opening.{Opening}
use Rattle.bk_base.specs.declared.histories.Step.{Step}
use Rattle.bk_turn.specs.declared.seats.Seated.{Seated}
use Rattle.bk_turn.specs.declared.seats.Stage.TheVariants.{Idle, Waiting}
use Rattle.bk_turn.specs.Seats.{is_live, has_ticket, is_busy}
use Rattle.bk_turn.specs.Rule.{TicketsInOrder, Orderly}
use Rattle.bk_turn.specs.Steps.{Sat, with_stage, found_full, drawn}
use Rattle.bk_turn.proofs.Beginnings.{prefix_self}
use Rattle.bk_turn.proofs.Totals.{total-set, one_if_same, one_if_not, each_set}
use Rattle.bk_turn.proofs.Moves.{Goes, nothing_changes, tickets_kept, slot_stays, value_stays, known_kept, seen_moved, numbers_moved, weights_moved}

-- the ticket t goes to a seat that had none
tickets_drawn : (first serving t : ℕ) (l : List Seated) (id : ℕ) (v : Seated)
    → TicketsInOrder first serving t l → get_elem? l id ≡ some v → v.stage ≡ Idle → t ≢ 18446744073709551615
    → TicketsInOrder first serving (t + 1) (set l id (with_stage (Waiting t) v))
tickets_drawn first serving t l id v r at idle more = let w : Seated =
    with_stage (Waiting t) v in let none_yet : (u : ℕ) → has_ticket u v.stage ≡ 0 =
    λ u. ap (has_ticket u) idle in
    let ordered : serving ≤ t = r.ordered in let fits : t < 18446744073709551616 = r.fits in record {
      begun = r.begun;
      ordered = omega arith;
      fits = omega arith;
      served = λ u lt. let s = total-set (λ (x : Seated). has_ticket u x.stage) l id v w at in let b =
          r.served u lt in let z = none_yet u in let o = one_if_not t u (λ e. omega arith) in omega arith;
      out = λ u le lt. let s = total-set (λ (x : Seated). has_ticket u x.stage) l id v w at in let z =
          none_yet u in dite (ℕ_discrete t u)
          (λ e. let b = r.ahead u (omega arith) in let o = one_if_same t u e in omega arith)
          (λ ne. let b = r.out u le (omega arith) in let o = one_if_not t u ne in omega arith);
      ahead = λ u le. let s = total-set (λ (x : Seated). has_ticket u x.stage) l id v w at in let z =
          none_yet u in let b = r.ahead u (omega arith) in let o =
          one_if_not t u (λ e. omega arith) in omega arith;
      full = each_set (λ seat. seat.view.full ≡ true → t + 1 ≡ 18446744073709551615) l id w
          (λ k seat ne at' h. absurd (more (r.full k seat at' h))) (λ h. absurd (more (r.full id v at h)));
    }

module _ {S : Type 0} (stands : S → ℕ → Opening → List Step → Type 0) (first : ℕ) where
  drawn_hit : (s : State (Option S) Seated) → Orderly stands first s → (id : ℕ) (me : Sat S) (old : ℕ)
      → get_elem? s.views id ≡ some me.0 → me.0.stage ≡ Idle → old ≢ 18446744073709551615
      → slice_index s.words 1 ≡ old
      → Orderly stands first record {
        words = set s.words 1 (old + 1);
        homes = s.homes;
        views =
            set s.views id (with_stage (Waiting old) me.0);
      }
  drawn_hit s r id me old at idle more hit = let v : Seated = me.0 in let w : Seated =
      with_stage (Waiting old) v in let is : r.ticket ≡ old =
      ap (λ (ws : List ℕ). slice_index ws 1) (sym r.words) ∙ hit in
      let live : is_live v.stage ≡ true = ap is_live idle in let resting : is_busy v.stage ≡ 0 =
      ap is_busy idle in let two = r.seen_from_the_front in record {
        serving = r.serving;
        ticket = old + 1;
        opening = r.opening;
        longest = r.longest;
        words = ap (λ (ws : List ℕ). set ws 1 (old + 1)) r.words;
        tickets_in_order =
            tickets_drawn first r.serving old s.views id v
            (subst (λ (t : ℕ). TicketsInOrder first r.serving t s.views) is r.tickets_in_order)
            at idle more;
        seen_from_the_front =
            seen_moved first r.serving r.serving r.opening r.longest r.longest s.views id v w two
            two.long (prefix_self r.longest) (two.one_turn id v at live) (two.seen id v at live)
            (two.noted id v at live)
            (known_kept s.views id v w r.longest at refl refl two.known);
        slot_has_its_place =
            slot_stays first r.serving r.ticket (old + 1) s.homes s.views id v w r.slot_has_its_place
            at refl;
        value_stands_for_the_longest =
            value_stays stands first r.opening r.longest s.homes s.views id v w
            r.value_stands_for_the_longest at resting refl;
        numbers_are_apart =
            numbers_moved first r.serving r.longest s.views id v w r.numbers_are_apart at refl
            (r.numbers_are_apart.numbered id v at);
        weights_are_whole = weights_moved s.views id v w r.weights_are_whole at live refl refl;
      }

  drawn_full : (s : State (Option S) Seated) → Orderly stands first s → (id : ℕ) (me : Sat S) (n : ℕ)
      → get_elem? s.views id ≡ some me.0 → me.0.stage ≡ Idle → slice_index s.words 1 ≡ n
      → n ≡ 18446744073709551615
      → Orderly stands first record {
        words = set s.words 1 n;
        homes = s.homes;
        views =
            set s.views id (found_full me.0);
      }
  drawn_full s r id me n at idle is last = let v : Seated = me.0 in let w : Seated =
      found_full v in let here : r.ticket ≡ n = ap (λ (ws : List ℕ). slice_index ws 1) (sym r.words) ∙ is in
      let live : is_live v.stage ≡ true = ap is_live idle in let resting : is_busy v.stage ≡ 0 =
      ap is_busy idle in let two = r.seen_from_the_front in record {
        serving = r.serving;
        ticket = r.ticket;
        opening = r.opening;
        longest = r.longest;
        words = ap (λ (ws : List ℕ). set ws 1 n) r.words ∙ ap (λ (t : ℕ). r.serving ∷ t ∷ []) (sym here);
        tickets_in_order =
            tickets_kept first r.serving r.ticket s.views id v w r.tickets_in_order at (λ u. refl)
            (λ _. here ∙ last);
        seen_from_the_front =
            seen_moved first r.serving r.serving r.opening r.longest r.longest s.views id v w two
            two.long (prefix_self r.longest) (two.one_turn id v at live) (two.seen id v at live)
            (let n = two.noted id v at live in record {
              one_turn = n.one_turn;
              left_seen =
                  n.left_seen;
              right_seen = n.right_seen;
              left_own = n.left_own;
              right_own =
                  n.right_own;
              apart = n.apart;
            })
            (known_kept s.views id v w r.longest at live refl two.known);
        slot_has_its_place =
            slot_stays first r.serving r.ticket r.ticket s.homes s.views id v w r.slot_has_its_place
            at resting;
        value_stands_for_the_longest =
            value_stays stands first r.opening r.longest s.homes s.views id v w
            r.value_stands_for_the_longest at resting resting;
        numbers_are_apart =
            numbers_moved first r.serving r.longest s.views id v w r.numbers_are_apart at refl
            (r.numbers_are_apart.numbered id v at);
        weights_are_whole = weights_moved s.views id v w r.weights_are_whole at live live refl;
      }

  pub draws : (slots id : ℕ) (me : Sat S) (old : ℕ) → me.0.stage ≡ Idle → old ≢ 18446744073709551615
      → Allows (Orderly stands first) slots id me 1 (λ n. either (eqb n old) (old + 1) n)
      (drawn (step slots 1 old (old + 1) none) me)
  draws slots id me old idle more s r wide at small = let n : ℕ =
      get_or s.words 1 0 in let is : n ≡ r.ticket =
      ap (λ (ws : List ℕ). get_or ws 1 0) r.words in let told : Sat S → Type 0 =
      drawn (step slots 1 old (old + 1) none) me n in
      exchanged n old (old + 1) (Goes stands first s 1 id me told)
      (λ hit. (
        with_stage (Waiting old) me.0,
        keeps,
        tt,
        drawn_hit s r id me old at idle more hit,
        record {
          hit =
              λ _. (
                refl,
                false_from_ne_true me.0.view.full
                    (λ h. more (sym hit ∙ (is ∙ r.tickets_in_order.full id me.0 at h))),
              );
          full =
              λ miss. absurd (miss hit);
          miss = λ miss. absurd (miss hit);
        },
      ))
      (λ miss. dite (ℕ_discrete n 18446744073709551615)
      (λ last. (
        found_full me.0,
        keeps,
        tt,
        drawn_full s r id me n at idle refl last,
        record { hit = λ hit. absurd (miss hit); full = λ _ _. refl; miss = λ _ not. absurd (not last) },
      ))
      (λ other. nothing_changes stands first s r 1 n id me told
      at (ap (λ (ws : List ℕ). set ws 1 (get_or ws 1 0)) r.words ∙ sym r.words)
      record {
        hit = λ hit. absurd (miss hit);
        full = λ _ last. absurd (other last);
        miss =
            λ _ _. refl;
      }))

  -- the same in a later try, where nothing has changed
  pub draws_again : (slots id : ℕ) (me began : Sat S) (old : ℕ) → me ≡ began → began.0.stage ≡ Idle
      → old ≢ 18446744073709551615
      → Allows (Orderly stands first) slots id me 1 (λ n. either (eqb n old) (old + 1) n)
      (drawn (step slots 1 old (old + 1) none) me)
  draws_again slots id me began old same idle = draws slots id me old (ap (λ (m : Sat S). m.0.stage) same ∙ idle)
