-- Making two seats one keeps the rule, and what the load after it tells.
use Rattle.std.proofs.Common.{◌≡◌, ◌≢◌, ℕ, ◌+◌, ◌-◌, ◌≤◌, Bool, true, false, ◌||◌, List, [], ◌∷◌, ◌++◌, length, set, get_or, Option, Some, None, refl, ap, sym, ◌∙◌, arith, length-append}
use mathlib.Core.List.{IsPrefix}
use mathlib.Core.Option.{some, none, some-injective, some-ne-none}
use mathlib.Core.Option as maybe
use mathlib.Core.Logic.{dite}
use native.Mathlib.Decide.{ℕ_discrete}
use lib.ListN.{get_elem?}
use Rattle.atomic_table.specs.Table.{step, Allows, Joins}
use Rattle.bk_base.specs.declared.histories.Opening.{Opening}
use Rattle.bk_base.specs.declared.histories.Step.{Step}
use Rattle.bk_turn.specs.declared.seats.Seated.{Seated}
use Rattle.bk_turn.specs.declared.seats.Stage.TheVariants.{Fresh, Idle, Holding}
use Rattle.bk_turn.specs.History.{own, own_of, IsApart, longer}
use Rattle.bk_turn.specs.Seats.{is_live, is_new, has_slot, has_ticket, is_number, is_busy, tickets, numbers, total, spent, joined, Each, EachLive, IsNoted}
use Rattle.bk_turn.specs.Rule.{TicketsInOrder, SeenFromTheFront, SlotHasItsPlace, ValueStandsForTheLongest, IsNumber, NumbersAreApart, WeightsAreWhole, Orderly}
use Rattle.bk_turn.specs.Steps.{Sat, compared}
use Rattle.bk_turn.proofs.Beginnings.{prefix_get, prefix_whole, prefix_length, longer_prefix, own-append}
use Rattle.bk_turn.proofs.Totals.{total-set, total-two, set_at, at_once, one_if_same, each_set, each_live_set, one_place}
use Rattle.bk_turn.proofs.Moves.{IsKnown, nothing_changes}
use Rattle.atomic_table.proofs.Lists.{set_else}

-- where the own steps of a beginning are those of the whole, so are those of all in between
own_between : (n : ℕ) (xs ys zs : List Step) → IsPrefix xs ys → IsPrefix ys zs → own n zs ≡ own n xs
    → own n zs ≡ own n ys
own_between n xs ys zs p q e =
    let lower : own n ys ≡ own n xs ++ own n p.0 =
    ap (own n) (sym p.1) ∙ own-append n xs p.0 in let upper : own n zs ≡ own n ys ++ own n q.0 =
    ap (own n) (sym q.1) ∙ own-append n ys q.0 in
    let a = ap length lower ∙ length-append (own n xs) (own n p.0) in let b =
    ap length upper ∙ length-append (own n ys) (own n q.0) in let c = ap length e in
    sym (prefix_whole (own n ys) (own n zs) (own n q.0, sym upper) (omega arith))

own_of_longer : (first : ℕ) (longest xs ys : List Step) (number : Option ℕ) → IsPrefix xs ys
    → IsPrefix ys longest → ((n : ℕ) → number ≡ Some n → IsNumber first longest xs n)
    → own_of number ys ≡ own_of number xs
own_of_longer first longest xs ys None p q numbered = refl
own_of_longer first longest xs ys (Some n) p q numbered = let all =
    (numbered n refl).all in sym (own_between n xs ys longest p q all) ∙ all

-- two seats don't have one number
numbers_apart : (l : List Seated) (k j : ℕ) (v w : Seated) → ((n : ℕ) → numbers n l ≤ 1) → k ≢ j
    → get_elem? l k ≡ some v → get_elem? l j ≡ some w → (a b : Option ℕ) → v.view.number ≡ a
    → w.view.number ≡ b → IsApart a b
numbers_apart l k j v w once ne at at' None b is is' = tt
numbers_apart l k j v w once ne at at' (Some n) None is is' = tt
numbers_apart l k j v w once ne at at' (Some n) (Some m) is is' = λ same. let two =
    total-two (λ (x : Seated). is_number n x.view.number) l k j v w ne at at' in let most = once n in
    let a : is_number n v.view.number ≡ 1 =
    ap (is_number n) is ∙ one_if_same n n refl in let b : is_number n w.view.number ≡ 1 =
    ap (is_number n) is' ∙ one_if_same m n (sym same) in absurd (omega arith)

found_by : (a b : Bool) (P : Type 0) → (a ≡ true → P) → (b ≡ true → P) → (a || b) ≡ true → P
found_by true b P left right e = left refl
found_by false b P left right e = right e

module _ (l : List Seated) (id other : ℕ) (v w : Seated) (at : get_elem? l id ≡ some v)
    (at' : get_elem? l other ≡ some w) (ne : other ≢ id) (idle : v.stage ≡ Idle)
    (idle' : w.stage ≡ Idle) where
  abbrev both : Seated
  both = joined v w

  abbrev half : List Seated
  half = set l id both

  abbrev after : List Seated
  after = set half other spent

  at_half : get_elem? half other ≡ some w
  at_half = set_else l id other both ne ∙ at'

  -- what is added up is the same where the two count together for as much as the one and the spent one
  sums : (f : Seated → ℕ) → f both + f spent ≡ f v + f w → total f after ≡ total f l
  sums f same = let s = total-set f l id v both at in let t = total-set f half other w spent at_half in omega arith

  every : (P : Seated → Type 0) → ((k : ℕ) (seat : Seated) → get_elem? l k ≡ some seat → P seat)
      → P both → P spent → Each after P
  every P others one gone =
      each_set P half other spent
      (λ k seat n at''. each_set P l id both (λ k seat n at''. others k seat at'') one k seat at'') gone

  every_live : (P : Seated → Type 0) → EachLive l P → P both → EachLive after P
  every_live P others one =
      each_set (λ seat. is_live seat.stage ≡ true → P seat) half other spent
      (λ k seat n at'' live. each_live_set P l id both others one k seat at'' live) (λ e. absurd (cc (e)))

  tickets_joined : (first serving ticket : ℕ) → TicketsInOrder first serving ticket l
      → TicketsInOrder first serving ticket after
  tickets_joined first serving ticket r = let none_had : (u : ℕ) → has_ticket u w.stage ≡ 0 =
      λ u. ap (has_ticket u) idle' in
      let t : (u : ℕ) → tickets u after ≡ tickets u l =
      λ u. sums (λ x. has_ticket u x.stage) (let z = none_had u in omega arith) in record {
        begun = r.begun;
        ordered = r.ordered;
        fits = r.fits;
        served = λ u lt. t u ∙ r.served u lt;
        out = λ u le lt. t u ∙ r.out u le lt;
        ahead = λ u le. t u ∙ r.ahead u le;
        full = every (λ x. x.view.full ≡ true → ticket ≡ 18446744073709551615) r.full
            (found_by v.view.full w.view.full (ticket ≡ 18446744073709551615) (r.full id v at)
            (r.full other w at')) (λ e. absurd (cc (e)));
      }

  known_joined : (longest : List Step) → IsPrefix (longer v.view.seen w.view.seen) longest
      → IsPrefix v.view.seen (longer v.view.seen w.view.seen)
      → IsPrefix w.view.seen (longer v.view.seen w.view.seen) → IsKnown longest l → IsKnown longest after
  known_joined longest all left right known = let seen : List Step =
      longer v.view.seen w.view.seen in let here : get_elem? after id ≡ some both =
      set_else half other id spent (λ e. ne (sym e)) ∙ set_at l id v both at in
      let live : is_live both.stage ≡ true = ap is_live idle in let enough =
      λ (x : List Step) (p : IsPrefix x seen) (e : x ≡ longest). prefix_whole seen longest all
      (let m = prefix_length x seen p in let n = ap length e in omega arith) in
      dite (ℕ_discrete known.0 id)
      (λ e. let is : known.1 ≡ v =
      at_once l known.0 id known.1 v known.2
      at e in (
        id,
        both,
        here,
        live,
        enough v.view.seen left (ap (λ (x : Seated). x.view.seen) (sym is) ∙ known.4),
      ))
      (λ n. dite (ℕ_discrete known.0 other)
      (λ e. let is : known.1 ≡ w =
      at_once l known.0 other known.1 w known.2 at'
      e in (
        id,
        both,
        here,
        live,
        enough w.view.seen right (ap (λ (x : Seated). x.view.seen) (sym is) ∙ known.4),
      ))
      (λ n'. (
        known.0,
        known.1,
        set_else half other known.0 spent n'
            ∙ (set_else l id known.0 both n ∙ known.2),
        known.3,
        known.4,
      )))

  seen_joined : (first serving : ℕ) (o : Opening) (longest : List Step)
      → SeenFromTheFront first serving o longest l → NumbersAreApart first serving longest l
      → SeenFromTheFront first serving o longest after
  seen_joined first serving o longest r five = let live : is_live v.stage ≡ true =
      ap is_live idle in let live' : is_live w.stage ≡ true = ap is_live idle' in let turn =
      r.one_turn id v at live in let turn' = r.one_turn other w at' live' in
      let long =
      longer_prefix v.view.seen w.view.seen longest (r.seen id v at live)
      (r.seen other w at' live') in record {
        long = r.long;
        one_turn = every_live (λ x. (x.view.first ≡ first) × (x.view.opening ≡ o)) r.one_turn turn;
        seen = every_live (λ x. IsPrefix x.view.seen longest) r.seen long.0;
        noted = every_live (λ x. IsNoted x.view x.note) r.noted record {
          one_turn = (turn'.0 ∙ sym turn.0, turn'.1 ∙ sym turn.1);
          left_seen = long.1;
          right_seen = long.2;
          left_own =
              own_of_longer first longest v.view.seen (longer v.view.seen w.view.seen) v.view.number
              long.1 long.0 (five.numbered id v at);
          right_own =
              own_of_longer first longest w.view.seen (longer v.view.seen w.view.seen) w.view.number
              long.2 long.0 (five.numbered other w at');
          apart = numbers_apart l id other v w five.apart (λ e. ne (sym e)) at at' v.view.number
              w.view.number refl refl;
        };
        known = known_joined longest long.0 long.1 long.2 r.known;
      }

  slot_joined : {S : Type 0} (first serving ticket : ℕ) (homes : List (maybe.Option (Option S)))
      → SlotHasItsPlace first serving ticket homes l → SlotHasItsPlace first serving ticket homes after
  slot_joined first serving ticket homes r = record {
    turns = every (λ x. (t : ℕ) → x.stage ≡ Holding t → t ≡ serving) r.turns (r.turns id v at) (λ t e. absurd (cc (e)));
    away = every (λ x. has_slot x.stage ≡ true → homes ≡ none ∷ []) r.away (r.away id v at) (λ e. absurd (cc (e)));
    empty = every (λ x. x.stage ≡ Fresh → homes ≡ some None ∷ []) r.empty (r.empty id v at) (λ e. absurd (cc (e)));
    alone = let never =
        λ (k : ℕ) (seat : Seated) (at'' : get_elem? l k ≡ some seat) (e : is_new seat.stage ≡ true).
        let one = (r.alone k seat at'' e).0 in
        absurd {A = (length after ≡ 1) × (ticket ≡ first)} (ne (one_place l other id w v one at' at))
        in every (λ x. is_new x.stage ≡ true → (length after ≡ 1) × (ticket ≡ first)) never
        (never id v at) (λ e. absurd (cc (e)));
  }

  value_joined : {S : Type 0} (stands : S → ℕ → Opening → List Step → Type 0) (first : ℕ)
      (o : Opening) (longest : List Step) (homes : List (maybe.Option (Option S)))
      → ValueStandsForTheLongest stands first o longest homes l
      → ValueStandsForTheLongest stands first o longest homes after
  value_joined stands first o longest homes r = let rests : is_busy w.stage ≡ 0 = ap is_busy idle' in record {
    home = λ free. r.home (sym (sums (λ x. is_busy x.stage) (omega arith)) ∙ free);
    holders =
        every (λ x. has_slot x.stage ≡ true → x.view.seen ≡ longest) r.holders
        (λ e. let f : has_slot v.stage ≡ false = ap has_slot idle in absurd (cc (e, f)))
        (λ e. absurd (cc (e)));
  }

  numbers_joined : (first serving : ℕ) (longest : List Step) → NumbersAreApart first serving longest l
      → IsPrefix (longer v.view.seen w.view.seen) longest
      → IsPrefix v.view.seen (longer v.view.seen w.view.seen)
      → NumbersAreApart first serving longest after
  numbers_joined first serving longest r all left =
      let fewer : (n : ℕ) → numbers n after ≤ numbers n l = λ n. let f : Seated → ℕ =
      λ x. is_number n x.view.number in let s = total-set f l id v both at in let t =
      total-set f half other w spent at_half in omega arith in record {
        apart = λ n. let s = fewer n in let m = r.apart n in omega arith;
        unborn = λ n le. let s = fewer n in let m = r.unborn n le in omega arith;
        placed = r.placed;
        numbered = every (λ x. (n : ℕ) → x.view.number ≡ Some n → IsNumber first longest x.view.seen n) r.numbered
            (λ n e. let its = r.numbered id v at n e in record {
              begun = its.begun;
              entry = (
                its.entry.0,
                prefix_get v.view.seen (longer v.view.seen w.view.seen) (n - first)
                    its.entry.0 left its.entry.1,
                its.entry.2,
              );
              all = own_between n v.view.seen (longer v.view.seen w.view.seen) longest left all its.all;
            })
            (λ n e. absurd (cc (e)));
      }

  weights_joined : WeightsAreWhole l → WeightsAreWhole after
  weights_joined r = let live : is_live v.stage ≡ true = ap is_live idle in let heavy = r.heavy id v at live in record {
    heavy = every_live (λ x. 1 ≤ x.view.weight) r.heavy (omega arith);
    whole = sums (λ x. x.view.weight) (omega arith) ∙ r.whole;
    gone = every (λ x. is_live x.stage ≡ false → (x.view.weight ≡ 0) × (x.view.number ≡ None)) r.gone
        (λ e. absurd (cc (live, e))) (λ e. (refl, refl));
  }

pub joins : {S : Type 0} (stands : S → ℕ → Opening → List Step → Type 0) (first id : ℕ) (v : Seated)
    (other : ℕ) (w : Seated) → v.stage ≡ Idle → w.stage ≡ Idle
    → Joins (Orderly stands first) id v other w (joined v w) spent
joins stands first id v other w idle idle' s r at ne at_set' =
    let at' : get_elem? s.views other ≡ some w = sym (set_else s.views id other (joined v w) ne)
    ∙ at_set' in let two = r.seen_from_the_front in
    let long =
    longer_prefix v.view.seen w.view.seen r.longest (two.seen id v at (ap is_live idle))
    (two.seen other w at' (ap is_live idle')) in record {
      serving = r.serving;
      ticket = r.ticket;
      opening = r.opening;
      longest = r.longest;
      words = r.words;
      tickets_in_order =
          tickets_joined s.views id other v w at at' ne idle idle' first r.serving r.ticket
          r.tickets_in_order;
      seen_from_the_front =
          seen_joined s.views id other v w at at' ne idle idle' first r.serving r.opening r.longest
          two r.numbers_are_apart;
      slot_has_its_place =
          slot_joined s.views id other v w at at' ne idle idle' first r.serving r.ticket s.homes
          r.slot_has_its_place;
      value_stands_for_the_longest =
          value_joined s.views id other v w at at' ne idle idle' stands first r.opening r.longest
          s.homes r.value_stands_for_the_longest;
      numbers_are_apart =
          numbers_joined s.views id other v w at at' ne idle idle' first r.serving r.longest
          r.numbers_are_apart long.0 long.1;
      weights_are_whole = weights_joined s.views id other v w at at' ne idle idle' r.weights_are_whole;
    }

pub compares : {S : Type 0} (stands : S → ℕ → Opening → List Step → Type 0) (first slots id : ℕ)
    (me : Sat S) → me.0.stage ≡ Idle
    → Allows (Orderly stands first) slots id me 0 (λ n. n) (compared (step slots 0 0 0 none) me)
compares stands first slots id me idle s r wide at small =
    nothing_changes stands first s r 0 (get_or s.words 0 0) id me
    (compared (step slots 0 0 0 none) me (get_or s.words 0 0)) at
    (ap (λ (ws : List ℕ). set ws 0 (get_or ws 0 0)) r.words ∙ sym r.words)
    (refl, r.seen_from_the_front.noted id me.0 at (ap is_live idle))
