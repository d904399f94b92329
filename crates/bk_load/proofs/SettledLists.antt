-- The swap lists that stand, as they are settled one after the other.
use Rattle.std.proofs.Common.{◌≡◌, ◌⊎◌, ℕ, ◌+◌, ◌≤◌, true, false, not, List, [], ◌∷◌, ◌++◌, length, Option, Some, None, Result, Ok, Err, refl, sym, ap, subst, ◌∙◌, inl, inr, arith}
use Rattle.std.specs.Prelude.{OnOk}
use Rattle.std.specs.Option.{is_some}
use Rattle.std.proofs.lemmas.Bool.{false_from_ne_true, cases_Bool, cases_eq}
use Rattle.bk_base.specs.declared.names.Kind.TheVariants.{Swap}
use Rattle.bk_base.specs.declared.names.Name.{Name}
use Rattle.bk_disk.specs.Names.{same}
use Rattle.bk_disk.proofs.Names.{same_eq}
use Rattle.bk_image.proofs.Lists.{in-append, in-append_left, in-append_right}
use Rattle.bk_laws.specs.SwapList.{SwapList}
use Rattle.bk_swap.specs.Lists.{list_of, numbers}
use Rattle.bk_image.specs.Readings.{In, IsThere, Reading, hint, main, main_temp, swap}
use Rattle.bk_image.specs.CountedFiles.{HasList, HasNoList, IsInput, IsOutput}
use Rattle.bk_image.proofs.Places.{input_kept, one_swap, output_kept}
use Rattle.bk_load.specs.declared.lists.Standing.{Standing}
use Rattle.bk_load.specs.Lists.{AreLists, IsInputOf, RiseAbove, StandsIn}
use Rattle.bk_load.specs.Steps.{HasTakenName, HaveTakenNames, IsKeptOr, LacksOnly, LosesInputs, MayGo, MayTakeName}
use Rattle.bk_load.proofs.Tidied.{IsDone, apart_ids, apart_kinds, done_may_go, lacks_lists, lacks_some}

pub has_list : (r : Reading) (x : Standing) → StandsIn r x → HasList r (list_of x.list)
has_list r x s = record { id = x.id; bytes = s.bytes; there = s.there; whole = s.whole }

-- what its lists name
pub names_input : (r : Reading) (x : Standing) (id : ℕ) → StandsIn r x → In id (numbers x.list.inputs.items) → IsInput r id
names_input r x id s is_in = (list_of x.list, has_list r x s, is_in)

pub names_output : (r : Reading) (x : Standing) (id : ℕ) → StandsIn r x → In id (numbers x.list.outputs.items) → IsOutput r id
names_output r x id s is_in = (list_of x.list, has_list r x s, is_in)

pub input_of_is : (r : Reading) (xs : List Standing) (id : ℕ) → AreLists r xs → IsInputOf xs id → IsInput r id
input_of_is r xs id are (x, there, is_in) = names_input r x id (are.each x there) is_in

pub is_input_of : (r : Reading) (xs : List Standing) (id : ℕ) → AreLists r xs → IsInput r id → IsInputOf xs id
unfolding has_list
is_input_of r xs id are (l, has, is_in) =
    let (x, there, same_id) = are.all l has in
    let is : list_of x.list ≡ l = one_swap r (list_of x.list) l (has_list r x (are.each x there)) has same_id in
    (x, there, subst (λ (y : SwapList). In id y.inputs) (sym is) is_in)

pub lists_kept : (r s : Reading) (xs : List Standing) → ((id : ℕ) → s (swap id) ≡ r (swap id)) → AreLists r xs → AreLists s xs
lists_kept r s xs kept are = record {
  low = are.low;
  rise = are.rise;
  each = λ x is_in. let e = are.each x is_in in
      record { bytes = e.bytes; there = kept x.id ∙ e.there; whole = e.whole };
  all = λ l h. are.all l (record { id = h.id; bytes = h.bytes; there = sym (kept h.id) ∙ h.there; whole = h.whole });
}

pub no_more_lists : (r : Reading) → AreLists r [] → HasNoList r
no_more_lists r are l has = let (x, there, is) = are.all l has in there

-- the list was removed

rises_above : (low : ℕ) (xs : List Standing) (x : Standing) → RiseAbove low xs → In x xs → low ≤ x.id
rises_above low [] x rise is_in = absurd is_in
rises_above low (y ∷ ys) x rise (inl is) =
    let id : x.id ≡ y.id = ap (λ (z : Standing). z.id) is in let p = rise.0 in omega (arith, id, p)
rises_above low (y ∷ ys) x rise (inr later) =
    let p = rise.0 in let q = rises_above (y.id + 1) ys x rise.1 later in omega (arith, p, q)

pub lists_less : (r s : Reading) (x : Standing) (xs : List Standing) → AreLists r (x ∷ xs) → LacksOnly (swap x.id) r s
    → AreLists s xs
lists_less r s x xs are lacks = record {
  low = x.id + 1;
  rise = are.rise.1;
  each = λ y is_in.
      let e = are.each y (inr is_in) in
      let above = rises_above (x.id + 1) xs y are.rise.1 is_in in
      let apart : y.id ≡ x.id → ⊥ = λ is. absurd (omega (arith, is, above)) in
      record {
        bytes = e.bytes;
        there = lacks.others (swap y.id) (apart_ids (swap y.id) (swap x.id) apart) ∙ e.there;
        whole = e.whole;
      };
  all = λ l h.
      let was : HasList r l = record {
        id = h.id;
        bytes = h.bytes;
        there = lacks_some (swap x.id) r s (swap h.id) h.bytes lacks h.there;
        whole = h.whole;
      } in
      let (y, there, same_id) = are.all l was in
      elim there [
        | inl is ↦
            let id : h.id ≡ x.id = sym same_id ∙ ap (λ (z : Standing). z.id) is in
            let gone : s (swap h.id) ≡ None = ap (λ (k : ℕ). s (swap k)) id ∙ lacks.gone in
            let never : None ≡ Some h.bytes = sym gone ∙ h.there in
            absurd (cc never)
        | inr later ↦ (y, later, same_id)
      ];
}

-- The first list is done once its outputs have their names and its inputs are gone

there_before : (ids : List ℕ) (r s : Reading) (n : Name) → IsKeptOr ids (r n) (s n) n → IsThere s n → IsThere r n
there_before ids r s n (inl kept) there = ap is_some (sym kept) ∙ there
there_before ids r s n (inr lost) there = let never : true ≡ false = sym there ∙ ap is_some lost.0 in absurd (cc never)

pub lists_after : (ids : List ℕ) (r s : Reading) → LosesInputs ids r s → (id : ℕ) → s (swap id) ≡ r (swap id)
lists_after ids r s lost id = elim (lost.kept (swap id)) [ inl kept ↦ kept | inr gone ↦ absurd (gone.2 refl) ]

pub list_done : (q r s : Reading) (x : Standing) → StandsIn s x → HaveTakenNames (numbers x.list.outputs.items) q r
    → LosesInputs (numbers x.list.inputs.items) r s → IsDone s (list_of x.list)
unfolding has_list
list_done q r s x stands named lost = record {
  list = has_list s x stands;
  no_main = lost.mains;
  no_temp = lost.temps;
  named = λ id is_in there.
      let before = there_before (numbers x.list.inputs.items) r s (main_temp id) (lost.kept (main_temp id)) there in
      go id (lost.kept (main id)) (named.named id is_in before);
} where
  go : (id : ℕ) → IsKeptOr (numbers x.list.inputs.items) (r (main id)) (s (main id)) (main id)
      → IsThere r (main id) ⊎ IsInput r id → IsThere s (main id) ⊎ IsInput s id
  go id kept (inr input) = inr (input_kept r s id (λ k. sym (lists_after (numbers x.list.inputs.items) r s lost k)) input)
  go id (inl kept) (inl there) = inl (ap is_some kept ∙ there)
  go id (inr gone) (inl there) = inr (names_input s x id stands gone.1)

-- Inputs go one after the other

in_one : (x : ℕ) (y : ℕ) → In x (y ∷ []) → x ≡ y
in_one x y (inl is) = is
in_one x y (inr none) = absurd none

pub loses_none : (r : Reading) → LosesInputs [] r r
loses_none r = record { kept = λ n. inl refl; mains = λ id is_in. absurd is_in; temps = λ id is_in. absurd is_in }

kept_both : (xs ys : List ℕ) (q r s : Option (List ℕ)) (n : Name) → IsKeptOr xs q r n → IsKeptOr ys r s n → IsKeptOr (xs ++ ys) q s n
kept_both xs ys q r s n (inl a) (inl b) = inl (b ∙ a)
kept_both xs ys q r s n (inr a) (inl b) = inr (b ∙ a.0, in-append_left n.id xs ys a.1, a.2)
kept_both xs ys q r s n a (inr b) = inr (b.0, in-append_right n.id xs ys b.1, b.2)

none_after : (ys : List ℕ) (r s : Option (List ℕ)) (n : Name) → IsKeptOr ys r s n → r ≡ None → s ≡ None
none_after ys r s n (inl kept) none = kept ∙ none
none_after ys r s n (inr lost) none = lost.0

pub loses_both : (xs ys : List ℕ) (q r s : Reading) → LosesInputs xs q r → LosesInputs ys r s → LosesInputs (xs ++ ys) q s
loses_both xs ys q r s a b = record {
  kept = λ n. kept_both xs ys (q n) (r n) (s n) n (a.kept n) (b.kept n);
  mains = λ id is_in. elim (in-append id xs ys is_in) [
    | inl first ↦ none_after ys (r (main id)) (s (main id)) (main id) (b.kept (main id)) (a.mains id first)
    | inr second ↦ b.mains id second
  ];
  temps = λ id is_in. elim (in-append id xs ys is_in) [
    | inl first ↦ none_after ys (r (main_temp id)) (s (main_temp id)) (main_temp id) (b.kept (main_temp id)) (a.temps id first)
    | inr second ↦ b.temps id second
  ];
}

-- one file of an input is gone
lost_one : (id : ℕ) (n : Name) (r s : Reading) → n.id ≡ id → (n.kind ≡ Swap → ⊥) → LacksOnly n r s → (m : Name)
    → IsKeptOr (id ∷ []) (r m) (s m) m
lost_one id n r s is never lacks m =
    elim (cases_Bool (same m n)) [
      | inl p ↦
          let e : m ≡ n = same_eq m n p in
          inr (ap s e ∙ lacks.gone, inl (ap (λ (x : Name). x.id) e ∙ is), λ k. never (ap (λ (x : Name). x.kind) (sym e) ∙ k))
      | inr p ↦ inl (lacks.others m p)
    ]

pub kept_twice : (ids : List ℕ) (q r s : Option (List ℕ)) (n : Name) → IsKeptOr ids q r n → IsKeptOr ids r s n → IsKeptOr ids q s n
kept_twice ids q r s n (inl a) (inl b) = inl (b ∙ a)
kept_twice ids q r s n (inr a) (inl b) = inr (b ∙ a.0, a.1, a.2)
kept_twice ids q r s n a (inr b) = inr b

-- the hint, the temporary file and the data file of an input are gone
pub loses_input : (id : ℕ) (o p q r : Reading) → LacksOnly (hint id) o p → LacksOnly (main_temp id) p q
    → LacksOnly (main id) q r → LosesInputs (id ∷ []) o r
loses_input id o p q r a b c = record {
  kept = λ n. kept_twice (id ∷ []) (o n) (q n) (r n) n
      (kept_twice (id ∷ []) (o n) (p n) (q n) n
      (lost_one id (hint id) o p refl (λ e. cc e) a n)
      (lost_one id (main_temp id) p q refl (λ e. cc e) b n))
      (lost_one id (main id) q r refl (λ e. cc e) c n);
  mains = λ k is_in. subst (λ (j : ℕ). r (main j) ≡ None) (sym (in_one k id is_in)) c.gone;
  temps = λ k is_in. subst (λ (j : ℕ). r (main_temp j) ≡ None) (sym (in_one k id is_in))
      (c.others (main_temp id) (apart_kinds (main_temp id) (main id) (λ e. cc e)) ∙ b.gone);
}

-- Outputs take their names one after the other

-- as at the beginning, or with its own name alone
abbrev pub IsPair : Reading → Reading → ℕ → Type 0
IsPair r s id = ((s (main_temp id) ≡ r (main_temp id)) × (s (main id) ≡ r (main id)))
    ⊎ ((s (main_temp id) ≡ None) × IsThere s (main id))

pub record Naming (ids : List ℕ) (r s : Reading) : Type 0 where
  pub lists : (id : ℕ) → s (swap id) ≡ r (swap id)
  pub pairs : (id : ℕ) → IsPair r s id
  pub named : (id : ℕ) → In id ids → IsThere s (main_temp id) → IsThere s (main id) ⊎ IsInput s id

pub naming_none : (r : Reading) → Naming [] r r
naming_none r = record { lists = λ id. refl; pairs = λ id. inl (refl, refl); named = λ id is_in. absurd is_in }

pub naming_done : (ids : List ℕ) (r s : Reading) → Naming ids r s → HaveTakenNames ids r s
naming_done ids r s n = record { lists = n.lists; named = n.named }

-- one that keeps what it has
pub naming_kept : (ids : List ℕ) (id : ℕ) (r s : Reading) → Naming ids r s
    → (IsThere r (main_temp id) → IsThere r (main id) ⊎ IsInput r id) → Naming (ids ++ id ∷ []) r s
naming_kept ids id r s n fine = record {
  lists = n.lists;
  pairs = n.pairs;
  named = λ k is_in there. elim (in-append k ids (id ∷ []) is_in) [
    | inl before ↦ n.named k before there
    | inr here ↦ subst (λ (j : ℕ). IsThere s (main j) ⊎ IsInput s j) (sym (in_one k id here))
        (go (n.pairs id) (subst (λ (j : ℕ). IsThere s (main_temp j)) (in_one k id here) there))
  ];
} where
  go : IsPair r s id → IsThere s (main_temp id) → IsThere s (main id) ⊎ IsInput s id
  go (inr taken) there = inl taken.1
  go (inl same) there =
      elim (fine (ap is_some (sym same.0) ∙ there)) [
        | inl has ↦ inl (ap is_some same.1 ∙ has)
        | inr input ↦ inr (input_kept r s id (λ k. sym (n.lists k)) input)
      ]

-- one that may take its name
pub may_take : (ids : List ℕ) (id : ℕ) (r s : Reading) → Naming ids r s → IsThere r (main_temp id) → (IsThere r (main id) → ⊥)
    → IsOutput r id → (IsInput r id → ⊥) → MayTakeName id s
may_take ids id r s n temp no_main output no_input = record {
  one = go (n.pairs id);
  output = λ there. output_kept r s id (λ k. sym (n.lists k)) output;
  no_input = λ there input. no_input (input_kept s r id n.lists input);
} where
  go : IsPair r s id → is_some (s (main_temp id)) ≡ not (is_some (s (main id)))
  go (inl same) =
      let absent : is_some (s (main id)) ≡ false = ap is_some same.1 ∙ false_from_ne_true (is_some (r (main id))) no_main in
      ap is_some same.0 ∙ temp ∙ sym (ap not absent)
  go (inr taken) = ap is_some taken.0 ∙ sym (ap not taken.1)

-- it took it
pub naming_taken : (ids : List ℕ) (id : ℕ) (r s t : Reading) → Naming ids r s → HasTakenName id s t → Naming (ids ++ id ∷ []) r t
naming_taken ids id r s t n took = record {
  lists = λ k. lists_same k ∙ n.lists k;
  pairs = λ k. elim (cases_eq k id) [
    | inl e ↦ inr (ap (λ (j : ℕ). t (main_temp j)) e ∙ took.gone, ap (λ (j : ℕ). is_some (t (main j))) e ∙ took.there)
    | inr ne ↦ pair_kept k ne (n.pairs k)
  ];
  named = λ k is_in there. elim (cases_eq k id) [
    | inl e ↦ inl (ap (λ (j : ℕ). is_some (t (main j))) e ∙ took.there)
    | inr ne ↦ elim (in-append k ids (id ∷ []) is_in) [
      | inl before ↦ still k ne (n.named k before (ap is_some (sym (other (main_temp k) ne)) ∙ there))
      | inr here ↦ absurd (ne (in_one k id here))
    ]
  ];
} where
  other : (m : Name) → (m.id ≡ id → ⊥) → t m ≡ s m
  other m ne = took.others m (apart_ids m (main_temp id) ne) (apart_ids m (main id) ne)

  lists_same : (k : ℕ) → t (swap k) ≡ s (swap k)
  lists_same k = took.others (swap k) (apart_kinds (swap k) (main_temp id) (λ e. cc e)) (apart_kinds (swap k) (main id) (λ e. cc e))

  pair_kept : (k : ℕ) → (k ≡ id → ⊥) → IsPair r s k → IsPair r t k
  pair_kept k ne (inl same) = inl (other (main_temp k) ne ∙ same.0, other (main k) ne ∙ same.1)
  pair_kept k ne (inr taken) = inr (other (main_temp k) ne ∙ taken.0, ap is_some (other (main k) ne) ∙ taken.1)

  still : (k : ℕ) → (k ≡ id → ⊥) → IsThere s (main k) ⊎ IsInput s k → IsThere t (main k) ⊎ IsInput t k
  still k ne (inl there) = inl (ap is_some (other (main k) ne) ∙ there)
  still k ne (inr input) = inr (input_kept s t k (λ j. sym (lists_same j)) input)

-- an input is one without another of its files
pub still_input : (n m : Name) (id : ℕ) (r s : Reading) → n ≡ m → (m.kind ≡ Swap → ⊥) → LacksOnly n r s → IsInput r id → IsInput s id
still_input n m id r s is never lacks input =
    let lacks_m : LacksOnly m r s = subst (λ (x : Name). LacksOnly x r s) is lacks in
    input_kept r s id (λ k. sym (lacks_lists m r s lacks_m never k)) input

-- what holds after an Ok follows from another such fact
pub on_ok_map : {T E : Type 0} (r : Result T E) (P Q : Type 0) → (P → Q) → OnOk r P → OnOk r Q
on_ok_map (Ok x) P Q f p = f p
on_ok_map (Err e) P Q f p = tt

pub swap_may_go : (q r s : Reading) (x : Standing) → StandsIn s x → HaveTakenNames (numbers x.list.outputs.items) q r
    → LosesInputs (numbers x.list.inputs.items) r s → MayGo (swap x.id) s
unfolding list_done has_list
swap_may_go q r s x stands named lost = done_may_go s (list_of x.list) (list_done q r s x stands named lost)

pub no_items : (xs : List Standing) → length xs ≡ 0 → xs ≡ []
no_items [] none = refl
no_items (x ∷ xs) none = absurd (omega (arith, none))
