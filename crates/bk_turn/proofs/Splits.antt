-- Cutting a seat in two keeps the rule.
use Rattle.std.proofs.Common.{◌≡◌, ℕ, ◌≤◌, true, false, List, [], ◌∷◌, ◌++◌, length, set, Option, Some, None, refl, ap, sym, ◌∙◌, arith}
use mathlib.Core.List.{IsPrefix}
use mathlib.Core.Option.{some, none, some-injective, some-ne-none}
use mathlib.Core.Option as maybe
use lib.ListN.{get_elem?}
use Rattle.atomic_table.specs.Table.{Splits}
use Rattle.bk_base.specs.declared.histories.Opening.{Opening}
use Rattle.bk_base.specs.declared.histories.Step.{Step}
use Rattle.bk_turn.specs.declared.seats.Seated.{Seated}
use Rattle.bk_turn.specs.declared.seats.Stage.TheVariants.{Fresh, Idle, Holding}
use Rattle.bk_turn.specs.Seats.{is_live, is_new, has_slot, has_ticket, is_number, is_busy, tickets, numbers, total, Each, EachLive, IsNoted, cut_left, cut_right}
use Rattle.bk_turn.specs.Rule.{TicketsInOrder, SeenFromTheFront, SlotHasItsPlace, ValueStandsForTheLongest, IsNumber, NumbersAreApart, WeightsAreWhole, Orderly}
use Rattle.bk_turn.proofs.Totals.{total-set, total-snoc, at_once, each_set, each_snoc, each_live_set, each_live_snoc, one_place}
use Rattle.bk_turn.proofs.Moves.{known_kept}
use Rattle.bk_turn.proofs.Looks.{plainly_noted}
use Rattle.atomic_table.proofs.Lists.{at_longer}

module _ (l : List Seated) (id : ℕ) (v : Seated) (at : get_elem? l id ≡ some v) (idle : v.stage ≡ Idle) where
  abbrev a : Seated
  a = cut_left v

  abbrev b : Seated
  b = cut_right v

  abbrev after : List Seated
  after = set l id a ++ b ∷ []

  -- nothing is added up otherwise where the left one counts for as much and the right one for nothing
  sums : (f : Seated → ℕ) → f a ≡ f v → f b ≡ 0 → total f after ≡ total f l
  sums f same none_more = let s = total-set f l id v a at in let t = total-snoc f (set l id a) b in omega arith

  every : (P : Seated → Type 0) → ((k : ℕ) (seat : Seated) → get_elem? l k ≡ some seat → P seat) → P a
      → P b → Each after P
  every P others left right =
      each_snoc P (set l id a) b (each_set P l id a (λ k seat ne at'. others k seat at') left) right

  every_live : (P : Seated → Type 0) → EachLive l P → P a → P b → EachLive after P
  every_live P others left right = each_live_snoc P (set l id a) b (each_live_set P l id a others left) right

  tickets_split : (first serving ticket : ℕ) → TicketsInOrder first serving ticket l
      → TicketsInOrder first serving ticket after
  tickets_split first serving ticket r = let t : (u : ℕ) → tickets u after ≡ tickets u l =
      λ u. sums (λ x. has_ticket u x.stage) refl refl in record {
        begun = r.begun;
        ordered = r.ordered;
        fits = r.fits;
        served = λ u lt. t u ∙ r.served u lt;
        out = λ u le lt. t u ∙ r.out u le lt;
        ahead = λ u le. t u ∙ r.ahead u le;
        full = every (λ x. x.view.full ≡ true → ticket ≡ 18446744073709551615) r.full (r.full id v at)
            (λ e. absurd (cc (e)));
      }

  seen_split : (first serving : ℕ) (o : Opening) (longest : List Step)
      → SeenFromTheFront first serving o longest l → SeenFromTheFront first serving o longest after
  seen_split first serving o longest r = let live : is_live v.stage ≡ true =
      ap is_live idle in let turn = r.one_turn id v at live in let seen =
      r.seen id v at live in let n = r.noted id v at live in
      let known = known_kept l id v a longest at live refl r.known in record {
        long = r.long;
        one_turn = every_live (λ x. (x.view.first ≡ first) × (x.view.opening ≡ o)) r.one_turn turn turn;
        seen = every_live (λ x. IsPrefix x.view.seen longest) r.seen seen seen;
        noted = every_live (λ x. IsNoted x.view x.note) r.noted
            record {
              one_turn = n.one_turn;
              left_seen = n.left_seen;
              right_seen =
                  n.right_seen;
              left_own = n.left_own;
              right_own = n.right_own;
              apart = n.apart;
            }
            (plainly_noted b.view);
        known = (known.0, known.1, at_longer (set l id a) (b ∷ []) known.0 known.1 known.2, known.3, known.4);
      }

  slot_split : {S : Type 0} (first serving ticket : ℕ) (homes : List (maybe.Option (Option S)))
      → SlotHasItsPlace first serving ticket homes l → SlotHasItsPlace first serving ticket homes after
  slot_split first serving ticket homes r = record {
    turns = every (λ x. (t : ℕ) → x.stage ≡ Holding t → t ≡ serving) r.turns (r.turns id v at) (λ t e. absurd (cc (e)));
    away = every (λ x. has_slot x.stage ≡ true → homes ≡ none ∷ []) r.away (r.away id v at) (λ e. absurd (cc (e)));
    empty = every (λ x. x.stage ≡ Fresh → homes ≡ some None ∷ []) r.empty (r.empty id v at) (λ e. absurd (cc (e)));
    alone = let old : is_new v.stage ≡ false = ap is_new idle in let never =
        λ (k : ℕ) (seat : Seated) (at' : get_elem? l k ≡ some seat) (e : is_new seat.stage ≡ true).
        let same = one_place l k id seat v (r.alone k seat at' e).0 at' at in let is : seat ≡ v =
        at_once l k id seat v at' at same in let f : is_new seat.stage ≡ false =
        ap (λ (x : Seated). is_new x.stage) is
        ∙ old in absurd {A = (length after ≡ 1) × (ticket ≡ first)} (cc (e, f)) in
        every (λ x. is_new x.stage ≡ true → (length after ≡ 1) × (ticket ≡ first)) never
        (never id v at) (λ e. absurd (cc (e)));
  }

  value_split : {S : Type 0} (stands : S → ℕ → Opening → List Step → Type 0) (first : ℕ) (o : Opening)
      (longest : List Step) (homes : List (maybe.Option (Option S)))
      → ValueStandsForTheLongest stands first o longest homes l
      → ValueStandsForTheLongest stands first o longest homes after
  value_split stands first o longest homes r = record {
    home = λ free. r.home (sym (sums (λ x. is_busy x.stage) refl refl) ∙ free);
    holders =
        every (λ x. has_slot x.stage ≡ true → x.view.seen ≡ longest) r.holders (r.holders id v at)
        (λ e. absurd (cc (e)));
  }

  numbers_split : (first serving : ℕ) (longest : List Step) → NumbersAreApart first serving longest l
      → NumbersAreApart first serving longest after
  numbers_split first serving longest r = let t : (n : ℕ) → numbers n after ≡ numbers n l =
      λ n. sums (λ x. is_number n x.view.number) refl refl in record {
        apart = λ n. let s = t n in let m = r.apart n in omega arith;
        unborn = λ n le. t n ∙ r.unborn n le;
        placed = r.placed;
        numbered =
            every (λ x. (n : ℕ) → x.view.number ≡ Some n → IsNumber first longest x.view.seen n)
            r.numbered (r.numbered id v at) (λ n e. absurd (cc (e)));
      }

  weights_split : 2 ≤ v.view.weight → WeightsAreWhole l → WeightsAreWhole after
  weights_split enough r = let live : is_live v.stage ≡ true = ap is_live idle in record {
    heavy = every_live (λ x. 1 ≤ x.view.weight) r.heavy (omega arith) (omega arith);
    whole = let s = total-set (λ (x : Seated). x.view.weight) l id v a at in let t =
        total-snoc (λ (x : Seated). x.view.weight) (set l id a) b in let m = r.whole in omega arith;
    gone = every (λ x. is_live x.stage ≡ false → (x.view.weight ≡ 0) × (x.view.number ≡ None)) r.gone
        (λ e. absurd (cc (live, e))) (λ e. absurd (cc (e)));
  }

pub splits : {S : Type 0} (stands : S → ℕ → Opening → List Step → Type 0) (first id : ℕ) (v : Seated)
    → v.stage ≡ Idle → 2 ≤ v.view.weight → Splits (Orderly stands first) id v (cut_left v) (cut_right v)
splits stands first id v idle enough s r at = record {
  serving = r.serving;
  ticket = r.ticket;
  opening = r.opening;
  longest = r.longest;
  words = r.words;
  tickets_in_order = tickets_split s.views id v at idle first r.serving r.ticket r.tickets_in_order;
  seen_from_the_front = seen_split s.views id v at idle first r.serving r.opening r.longest r.seen_from_the_front;
  slot_has_its_place = slot_split s.views id v at idle first r.serving r.ticket s.homes r.slot_has_its_place;
  value_stands_for_the_longest =
      value_split s.views id v at idle stands first r.opening r.longest s.homes
      r.value_stands_for_the_longest;
  numbers_are_apart = numbers_split s.views id v at idle first r.serving r.longest r.numbers_are_apart;
  weights_are_whole = weights_split s.views id v at idle enough r.weights_are_whole;
}
