-- What the last state of the table says to a pass that has all the weight.
use Rattle.std.proofs.Common.{◌≡◌, ◌≢◌, ℕ, false, List, Option, Some, None, refl, ap, sym, ◌∙◌, subst, arith}
use Rattle.std.proofs.lemmas.Bool.{false_from_ne_true}
use mathlib.Core.Option.{some, none, some-injective, some-ne-none}
use mathlib.Core.Option as maybe
use mathlib.Core.Logic.{dite}
use native.Mathlib.Decide.{ℕ_discrete}
use lib.ListN.{get_elem?}
use Rattle.atomic_table.specs.Table.{Final, Seen}
use Rattle.bk_base.specs.declared.histories.Opening.{Opening}
use Rattle.bk_base.specs.declared.histories.Step.{Step}
use Rattle.bk_turn.specs.declared.seats.Seated.{Seated}
use Rattle.bk_turn.specs.declared.seats.Stage.{Stage}
use Rattle.bk_turn.specs.declared.seats.Stage.TheVariants.{Fresh, Filling, Idle, Waiting, Holding, Gone}
use Rattle.bk_turn.specs.Seats.{is_live, is_busy, busy}
use Rattle.bk_turn.specs.Rule.{WeightsAreWhole, Orderly}
use Rattle.bk_turn.proofs.Totals.{total-two, total-zero, at_once}

-- a seat that was joined away isn't busy
gone_idle : (st : Stage) → is_live st ≡ false → is_busy st ≡ 0
gone_idle Fresh e = absurd cc
gone_idle Filling e = absurd cc
gone_idle Idle e = refl
gone_idle (Waiting t) e = refl
gone_idle (Holding t) e = absurd cc
gone_idle Gone e = refl

-- beside a seat with all the weight each seat was joined away
all_gone : (l : List Seated) (id : ℕ) (v : Seated) → WeightsAreWhole l → get_elem? l id ≡ some v
    → v.view.weight ≡ 4294967296 → (k : ℕ) (seat : Seated) → k ≢ id → get_elem? l k ≡ some seat
    → is_live seat.stage ≡ false
all_gone l id v r at all k seat ne at' =
    false_from_ne_true (is_live seat.stage)
    (λ live. let two = total-two (λ (x : Seated). x.view.weight) l k id seat v ne at' at in let h =
    r.heavy k seat at' live in let w = r.whole in omega arith)

module _ {S : Type 0} (stands : S → ℕ → Opening → List Step → Type 0) (first : ℕ) where
  -- the value at rest stands for what the seat has seen
  pub closes : (id : ℕ) (v : Seated) (words : List ℕ) (slots : List (Option S)) → v.stage ≡ Idle
      → v.view.weight ≡ 4294967296 → Final (Seen (Orderly stands first) id v) words slots
      → (x : S) × (get_elem? slots 0 ≡ some (Some x)) × stands x v.view.first v.view.opening v.view.seen
  closes id v words slots idle all final = let s = final.0 in let r = final.1.0 in let at =
      final.1.1 in let two = r.seen_from_the_front in let turn = two.one_turn id v at (ap is_live idle) in
      let others = all_gone s.views id v r.weights_are_whole at all in let free : busy s.views ≡ 0 =
      total-zero (λ (x : Seated). is_busy x.stage) s.views (λ k seat at'. dite (ℕ_discrete k id)
      (λ e. let is : seat ≡ v =
      at_once s.views k id seat v at' at e in ap (λ (x : Seated). is_busy x.stage) is
      ∙ ap is_busy idle) (λ ne. gone_idle seat.stage (others k seat ne at'))) in
      let home = r.value_stands_for_the_longest.home free in let known =
      two.known in let all_seen : v.view.seen ≡ r.longest = dite (ℕ_discrete known.0 id)
      (λ e. let is : known.1 ≡ v =
      at_once s.views known.0 id known.1 v known.2 at e in ap (λ (x : Seated). x.view.seen)
      (sym is) ∙ known.4)
      (λ ne. let d = others known.0 known.1 ne known.2 in absurd (cc (d, known.3))) in (
        home.0,
        final.4 0 (Some home.0) (ap (λ (hs : List (maybe.Option (Option S))). get_elem? hs 0) home.1),
        subst (λ (z : ℕ × Opening × List Step). stands home.0 z.0 z.1 z.2)
            (λ k. (sym turn.0 k, sym turn.1 k, sym all_seen k)) home.2,
      )

  -- the slot is found with a value, and that value stands for what the seat has seen
  pub closes_some : (id : ℕ) (v : Seated) (words : List ℕ) (slots : List (Option S))
      (found : Option S) → v.stage ≡ Idle → v.view.weight ≡ 4294967296
      → Final (Seen (Orderly stands first) id v) words slots → get_elem? slots 0 ≡ some found
      → found ≡ None → ⊥
  closes_some id v words slots found idle all final at none_there = let c =
      closes id v words slots idle all final in let e : Some c.0 ≡ None =
      sym (some-injective found (Some c.0) (sym at ∙ c.1)) ∙ none_there in cc (e)

  pub closes_with : (id : ℕ) (v : Seated) (words : List ℕ) (slots : List (Option S))
      (found : Option S) (value : S) → v.stage ≡ Idle → v.view.weight ≡ 4294967296
      → Final (Seen (Orderly stands first) id v) words slots → get_elem? slots 0 ≡ some found
      → found ≡ Some value
      → stands value v.view.first v.view.opening v.view.seen
  closes_with id v words slots found value idle all final at is = let c =
      closes id v words slots idle all final in let e : Some c.0 ≡ Some value =
      sym (some-injective found (Some c.0) (sym at ∙ c.1)) ∙ is in let same : c.0 ≡ value = cc (e) in
      subst (λ (y : S). stands y v.view.first v.view.opening v.view.seen) same c.2
