-- Steps that leave which bytes count for each id, and the hints beside them.
use Rattle.std.proofs.Common.{◌≡◌, ◌⊎◌, ℕ, ◌≤◌, true, false, List, length, Option, Some, None, refl, sym, ap, subst, ◌∙◌, inl, inr}
use Rattle.std.specs.Option.{is_some}
use Rattle.std.proofs.lemmas.Bool.{cases_Bool, cases_eq}
use Rattle.bk_base.specs.declared.names.Kind.{Kind}
use Rattle.bk_base.specs.declared.names.Kind.TheVariants.{Main, MainTemp, Hint, Swap}
use Rattle.bk_base.specs.declared.names.Name.{Name}
use Rattle.bk_disk.specs.Names.{same}
use Rattle.bk_disk.proofs.Names.{same_eq}
use Rattle.bk_laws.specs.SwapList.{SwapList}
use Rattle.bk_image.specs.Readings.{In, IsThere, Reading, hint, main, main_temp, swap}
use Rattle.bk_image.specs.CountedFiles.{CountsAs, HasList, HasNoList, IsInput, IsOutput}
use Rattle.bk_image.proofs.Places.{counts_first, input_kept, one_swap, output_kept}
use Rattle.bk_load.specs.Tidying.{CountsWith, CoversAll, NeedsScan, Tidied}
use Rattle.bk_load.specs.Steps.{LacksOnly, MayGo}

-- Names

pub apart_ids : (m n : Name) → (m.id ≡ n.id → ⊥) → same m n ≡ false
apart_ids m n never =
    elim (cases_Bool (same m n)) [ inl p ↦ absurd (never (ap (λ (x : Name). x.id) (same_eq m n p))) | inr p ↦ p ]

pub apart_kinds : (m n : Name) → (m.kind ≡ n.kind → ⊥) → same m n ≡ false
apart_kinds m n never =
    elim (cases_Bool (same m n)) [ inl p ↦ absurd (never (ap (λ (x : Name). x.kind) (same_eq m n p))) | inr p ↦ p ]

pub not_there : (o : Option (List ℕ)) → o ≡ None → is_some o ≡ true → ⊥
not_there o none there =
    let never : true ≡ false = sym there ∙ ap is_some none in cc never

-- Nothing changed, and one step after the other

pub tidied_refl : (r : Reading) → Tidied r r
tidied_refl r = record {
  was = λ id bytes c. c;
  is = λ id bytes c. c;
  hints = λ id bytes c. refl;
  lists = λ id bytes is. is;
  ids = λ n there. (n, there, refl);
}

pub tidied_trans : (r s t : Reading) → Tidied r s → Tidied s t → Tidied r t
tidied_trans r s t a b = record {
  was = λ id bytes c. a.was id bytes (b.was id bytes c);
  is = λ id bytes c. b.is id bytes (a.is id bytes c);
  hints = λ id bytes c. b.hints id bytes c ∙ a.hints id bytes (b.was id bytes c);
  lists = λ id bytes is. a.lists id bytes (b.lists id bytes is);
  ids = λ n there.
      let (m, was, one) = b.ids n there in let (k, first, two) = a.ids m was in (k, first, two ∙ one);
}

-- a data file that has to be read had to be before
pub needs_before : (r s : Reading) (id : ℕ) → Tidied r s → NeedsScan s id → NeedsScan r id
needs_before r s id t (bytes, counts, never) =
    let P : Option (List ℕ) → Type 0 = λ o. CoversAll o (length bytes) in
    (bytes, t.was id bytes counts, λ covers. never (subst P (sym (t.hints id bytes counts)) covers))

-- Where lists and data names are the same, the same bytes count

pub counts_with : (r s : Reading) (k : ℕ) → ((id : ℕ) → r (swap id) ≡ s (swap id)) → r (main k) ≡ s (main k)
    → r (main_temp k) ≡ s (main_temp k) → (bytes : List ℕ) → CountsWith r k bytes → CountsWith s k bytes
counts_with r s k lists m t bytes (kind, c, is) = go kind c is where
  go : (kind : Kind) → CountsAs kind r k → r (record { id = k; kind = kind }) ≡ Some bytes → CountsWith s k bytes
  go Main c is =
      (Main, (ap is_some (sym m) ∙ c.0, λ i. c.1 (input_kept s r k (λ j. sym (lists j)) i), c.2), sym m ∙ is)
  go MainTemp c is = (
    MainTemp,
    (
      ap is_some (sym t) ∙ c.0,
      output_kept r s k lists c.1,
      λ i. c.2 (input_kept s r k (λ j. sym (lists j)) i),
      λ there. c.3 (ap is_some m ∙ there),
      c.4,
    ),
    sym t ∙ is,
  )
  go kind c is = absurd c

-- an input doesn't count
pub input_is_none : (r : Reading) (k : ℕ) (bytes : List ℕ) → IsInput r k → CountsWith r k bytes → ⊥
input_is_none r k bytes input (kind, c, is) = go kind c where
  go : (kind : Kind) → CountsAs kind r k → ⊥
  go Main c = c.1 input
  go MainTemp c = c.2 input
  go kind c = c

-- without a list only data files under their own names count
pub own_name : (r : Reading) (k : ℕ) (bytes : List ℕ) → HasNoList r → CountsWith r k bytes → r (main k) ≡ Some bytes
own_name r k bytes none (kind, c, is) = go kind c is where
  go : (kind : Kind) → CountsAs kind r k → r (record { id = k; kind = kind }) ≡ Some bytes → r (main k) ≡ Some bytes
  go Main c is = is
  go MainTemp c is = let (l, has, is_in) = c.1 in absurd (none l has)
  go kind c is = absurd c

pub counts_own : (r : Reading) (k : ℕ) (bytes : List ℕ) → 1 ≤ k → HasNoList r → r (main k) ≡ Some bytes → CountsWith r k bytes
counts_own r k bytes first none is =
    (Main, (ap is_some is, λ input. let (l, has, is_in) = input in none l has, first), is)

pub with_first : (r : Reading) (k : ℕ) (bytes : List ℕ) → CountsWith r k bytes → 1 ≤ k
with_first r k bytes (kind, c, is) = counts_first r (record { id = k; kind = kind }) c

-- One file is gone

pub lacks_same : (n : Name) (r s : Reading) (m : Name) → LacksOnly n r s → (m.kind ≡ n.kind → ⊥) → s m ≡ r m
lacks_same n r s m lacks never = lacks.others m (apart_kinds m n never)

pub lacks_some : (n : Name) (r s : Reading) (m : Name) (bytes : List ℕ) → LacksOnly n r s → s m ≡ Some bytes → r m ≡ Some bytes
lacks_some n r s m bytes lacks is =
    elim (cases_Bool (same m n)) [
      | inl p ↦
          let gone : s m ≡ None = ap s (same_eq m n p) ∙ lacks.gone in
          let never : None ≡ Some bytes = sym gone ∙ is in
          absurd (cc never)
      | inr p ↦ sym (lacks.others m p) ∙ is
    ]

pub lacks_there : (n : Name) (r s : Reading) (m : Name) → LacksOnly n r s → IsThere s m → IsThere r m
lacks_there n r s m lacks there =
    elim (cases_Bool (same m n)) [
      | inl p ↦ absurd (not_there (s m) (ap s (same_eq m n p) ∙ lacks.gone) there)
      | inr p ↦ ap is_some (sym (lacks.others m p)) ∙ there
    ]

pub lacks_lists : (n : Name) (r s : Reading) → LacksOnly n r s → (n.kind ≡ Swap → ⊥) → (id : ℕ) → s (swap id) ≡ r (swap id)
lacks_lists n r s lacks never id = lacks_same n r s (swap id) lacks (λ e. never (sym e))

-- a file of an input
pub input_may_go : (r : Reading) (n : Name) → IsInput r n.id → (n.kind ≡ Swap → ⊥) → MayGo n r
input_may_go r n input never s lacks =
    let lists : (id : ℕ) → s (swap id) ≡ r (swap id) = lacks_lists n r s lacks never in
    let back : (id : ℕ) → r (swap id) ≡ s (swap id) = λ id. sym (lists id) in
    let still : IsInput s n.id = input_kept r s n.id back input in
    let other : (m : Name) → (m.id ≡ n.id → ⊥) → s m ≡ r m = λ m apart. lacks.others m (apart_ids m n apart) in
    record {
      was = λ k bytes c. elim (cases_eq k n.id) [
        | inl e ↦ absurd (input_is_none s k bytes (subst (λ (j : ℕ). IsInput s j) (sym e) still) c)
        | inr ne ↦ counts_with s r k lists (other (main k) ne) (other (main_temp k) ne) bytes c
      ];
      is = λ k bytes c. elim (cases_eq k n.id) [
        | inl e ↦ absurd (input_is_none r k bytes (subst (λ (j : ℕ). IsInput r j) (sym e) input) c)
        | inr ne ↦ counts_with r s k back (sym (other (main k) ne)) (sym (other (main_temp k) ne)) bytes c
      ];
      hints = λ k bytes c. elim (cases_eq k n.id) [
        | inl e ↦ absurd (input_is_none s k bytes (subst (λ (j : ℕ). IsInput s j) (sym e) still) c)
        | inr ne ↦ other (hint k) ne
      ];
      lists = λ id bytes is. back id ∙ is;
      ids = λ m there. (m, lacks_there n r s m lacks there, refl);
    }

-- a file that nothing needs, where no list stands
pub record IsLoose (r : Reading) (n : Name) : Type 0 where
  pub no_main : n.kind ≡ Main → ⊥
  pub no_swap : n.kind ≡ Swap → ⊥
  pub no_data : n.kind ≡ Hint → 1 ≤ n.id → IsThere r (main n.id) → ⊥

pub list_was : (r s : Reading) → ((id : ℕ) (bytes : List ℕ) → s (swap id) ≡ Some bytes → r (swap id) ≡ Some bytes)
    → (l : SwapList) → HasList s l → HasList r l
list_was r s lists l has =
    record { id = has.id; bytes = has.bytes; there = lists has.id has.bytes has.there; whole = has.whole }

pub no_list_still : (r s : Reading) → Tidied r s → HasNoList r → HasNoList s
no_list_still r s t none l has = none l (list_was r s t.lists l has)

pub loose_may_go : (r : Reading) (n : Name) → HasNoList r → IsLoose r n → MayGo n r
loose_may_go r n none loose s lacks =
    let lists : (id : ℕ) → s (swap id) ≡ r (swap id) = lacks_lists n r s lacks loose.no_swap in
    let back : (id : ℕ) → r (swap id) ≡ s (swap id) = λ id. sym (lists id) in
    let no_list : HasNoList s = λ l has. none l (list_was r s (λ id bytes is. back id ∙ is) l has) in
    let data_file : (k : ℕ) → s (main k) ≡ r (main k) = λ k. lacks_same n r s (main k) lacks (λ e. loose.no_main (sym e)) in
    record {
      was = λ k bytes c. counts_own r k bytes (with_first s k bytes c) none (sym (data_file k) ∙ own_name s k bytes no_list c);
      is = λ k bytes c. counts_own s k bytes (with_first r k bytes c) no_list (data_file k ∙ own_name r k bytes none c);
      hints = λ k bytes c.
          let there : IsThere r (main k) = ap is_some (sym (data_file k) ∙ own_name s k bytes no_list c) in
          elim (cases_Bool (same (hint k) n)) [
            | inl p ↦
                let e : hint k ≡ n = same_eq (hint k) n p in
                let kind : n.kind ≡ Hint = ap (λ (x : Name). x.kind) (sym e) in
                let id : k ≡ n.id = ap (λ (x : Name). x.id) e in
                absurd (loose.no_data kind (subst (λ (j : ℕ). 1 ≤ j) id (with_first s k bytes c))
                (subst (λ (j : ℕ). IsThere r (main j)) id there))
            | inr p ↦ lacks.others (hint k) p
          ];
      lists = λ id bytes is. back id ∙ is;
      ids = λ m there. (m, lacks_there n r s m lacks there, refl);
    }

-- a list whose inputs are gone, and whose outputs have their names or don't count
pub record IsDone (r : Reading) (l : SwapList) : Type 0 where
  pub list : HasList r l
  pub no_main : (id : ℕ) → In id l.inputs → r (main id) ≡ None
  pub no_temp : (id : ℕ) → In id l.inputs → r (main_temp id) ≡ None
  pub named : (id : ℕ) → In id l.outputs → IsThere r (main_temp id) → IsThere r (main id) ⊎ IsInput r id

list_is : (r s : Reading) (l k : SwapList) (done : IsDone r l) → LacksOnly (swap done.list.id) r s → HasList r k
    → HasList s k ⊎ (k ≡ l)
list_is r s l k done lacks has =
    elim (cases_eq has.id done.list.id) [
      | inl e ↦ inr (one_swap r k l has done.list e)
      | inr ne ↦ inl (record {
        id = has.id;
        bytes = has.bytes;
        there = lacks.others (swap has.id) (apart_ids (swap has.id) (swap done.list.id) ne) ∙ has.there;
        whole = has.whole;
      })
    ]

input_stays : (r s : Reading) (l : SwapList) (done : IsDone r l) → LacksOnly (swap done.list.id) r s → (k : ℕ)
    → IsInput r k → IsInput s k ⊎ In k l.inputs
input_stays r s l done lacks k (x, has, is_in) =
    elim (list_is r s l x done lacks has) [
      | inl still ↦ inl (x, still, is_in)
      | inr e ↦ inr (subst (λ (y : SwapList). In k y.inputs) e is_in)
    ]

output_stays : (r s : Reading) (l : SwapList) (done : IsDone r l) → LacksOnly (swap done.list.id) r s → (k : ℕ)
    → IsOutput r k → IsOutput s k ⊎ In k l.outputs
output_stays r s l done lacks k (x, has, is_in) =
    elim (list_is r s l x done lacks has) [
      | inl still ↦ inl (x, still, is_in)
      | inr e ↦ inr (subst (λ (y : SwapList). In k y.outputs) e is_in)
    ]

module _ (r s : Reading) (l : SwapList) (done : IsDone r l) (lacks : LacksOnly (swap done.list.id) r s) where
  beside : (m : Name) → (m.kind ≡ Swap → ⊥) → s m ≡ r m
  beside m never = lacks_same (swap done.list.id) r s m lacks never

  fewer : (id : ℕ) (bytes : List ℕ) → s (swap id) ≡ Some bytes → r (swap id) ≡ Some bytes
  fewer id bytes there = lacks_some (swap done.list.id) r s (swap id) bytes lacks there

  main_is : (k : ℕ) → s (main k) ≡ r (main k)
  main_is k = beside (main k) (λ e. cc e)

  temp_is : (k : ℕ) → s (main_temp k) ≡ r (main_temp k)
  temp_is k = beside (main_temp k) (λ e. cc e)

  input_was : (k : ℕ) → IsInput s k → IsInput r k
  input_was k (x, has, is_in) = (x, list_was r s fewer x has, is_in)

  output_was : (k : ℕ) → IsOutput s k → IsOutput r k
  output_was k (x, has, is_in) = (x, list_was r s fewer x has, is_in)

  done_was : (k : ℕ) (bytes : List ℕ) (kind : Kind) → CountsAs kind s k → s (record { id = k; kind = kind }) ≡ Some bytes
      → CountsWith r k bytes
  done_was k bytes Main c is = (
    Main,
    (
      ap is_some (sym (main_is k)) ∙ c.0,
      λ input. elim (input_stays r s l done lacks k input) [
        | inl still ↦ c.1 still
        | inr is_in ↦ not_there (s (main k)) (main_is k ∙ done.no_main k is_in) c.0
      ],
      c.2,
    ),
    sym (main_is k) ∙ is,
  )
  done_was k bytes MainTemp c is = (
    MainTemp,
    (
      ap is_some (sym (temp_is k)) ∙ c.0,
      output_was k c.1,
      λ input. elim (input_stays r s l done lacks k input) [
        | inl still ↦ c.2 still
        | inr is_in ↦ not_there (s (main_temp k)) (temp_is k ∙ done.no_temp k is_in) c.0
      ],
      λ there. c.3 (ap is_some (main_is k) ∙ there),
      c.4,
    ),
    sym (temp_is k) ∙ is,
  )
  done_was k bytes kind c is = absurd c

  done_is : (k : ℕ) (bytes : List ℕ) (kind : Kind) → CountsAs kind r k → r (record { id = k; kind = kind }) ≡ Some bytes
      → CountsWith s k bytes
  done_is k bytes Main c is =
      (Main, (ap is_some (main_is k) ∙ c.0, λ input. c.1 (input_was k input), c.2), main_is k ∙ is)
  done_is k bytes MainTemp c is = (
    MainTemp,
    (
      ap is_some (temp_is k) ∙ c.0,
      elim (output_stays r s l done lacks k c.1) [
        | inl still ↦ still
        | inr is_in ↦ elim (done.named k is_in c.0) [ inl there ↦ absurd (c.3 there) | inr input ↦ absurd (c.2 input) ]
      ],
      λ input. c.2 (input_was k input),
      λ there. c.3 (ap is_some (sym (main_is k)) ∙ there),
      c.4,
    ),
    temp_is k ∙ is,
  )
  done_is k bytes kind c is = absurd c

pub done_may_go : (r : Reading) (l : SwapList) (done : IsDone r l) → MayGo (swap done.list.id) r
done_may_go r l done s lacks = record {
  was = λ k bytes c. let (kind, counts, is) = c in done_was r s l done lacks k bytes kind counts is;
  is = λ k bytes c. let (kind, counts, is) = c in done_is r s l done lacks k bytes kind counts is;
  hints = λ k bytes c. beside r s l done lacks (hint k) (λ e. cc e);
  lists = λ id bytes there. fewer r s l done lacks id bytes there;
  ids = λ m there. (m, lacks_there (swap done.list.id) r s m lacks there, refl);
}

-- An output took its own name

pub record Takes (r s : Reading) (id : ℕ) : Type 0 where
  pub was_there : IsThere r (main_temp id)
  pub output : IsOutput r id
  pub no_input : IsInput r id → ⊥
  pub no_main : IsThere r (main id) → ⊥
  pub moved : s (main id) ≡ r (main_temp id)
  pub gone : s (main_temp id) ≡ None
  pub others : (m : Name) → same m (main_temp id) ≡ false → same m (main id) ≡ false → s m ≡ r m

module _ (r s : Reading) (id : ℕ) (takes : Takes r s id) where
  by_kind : (m : Name) → (m.kind ≡ Main → ⊥) → (m.kind ≡ MainTemp → ⊥) → s m ≡ r m
  by_kind m no_main no_temp = takes.others m (apart_kinds m (main_temp id) no_temp) (apart_kinds m (main id) no_main)

  by_id : (m : Name) → (m.id ≡ id → ⊥) → s m ≡ r m
  by_id m never = takes.others m (apart_ids m (main_temp id) never) (apart_ids m (main id) never)

  swaps : (k : ℕ) → s (swap k) ≡ r (swap k)
  swaps k = by_kind (swap k) (λ e. cc e) (λ e. cc e)

  takes_was : (bytes : List ℕ) (kind : Kind) → CountsAs kind s id → s (record { id = id; kind = kind }) ≡ Some bytes
      → CountsWith r id bytes
  takes_was bytes Main c is =
      (MainTemp, (takes.was_there, takes.output, takes.no_input, takes.no_main, c.2), sym takes.moved ∙ is)
  takes_was bytes MainTemp c is = absurd (not_there (s (main_temp id)) takes.gone c.0)
  takes_was bytes kind c is = absurd c

  takes_is : (bytes : List ℕ) (kind : Kind) → CountsAs kind r id → r (record { id = id; kind = kind }) ≡ Some bytes
      → CountsWith s id bytes
  takes_is bytes Main c is = absurd (takes.no_main c.0)
  takes_is bytes MainTemp c is = (
    Main,
    (
      ap is_some takes.moved ∙ takes.was_there,
      λ input. takes.no_input (input_kept s r id swaps input),
      c.4,
    ),
    takes.moved ∙ is,
  )
  takes_is bytes kind c is = absurd c

pub takes_tidied : (r s : Reading) (id : ℕ) → Takes r s id → Tidied r s
takes_tidied r s id takes = record {
  was = λ k bytes c. elim (cases_eq k id) [
    | inl e ↦
        let here : CountsWith s id bytes = subst (λ (j : ℕ). CountsWith s j bytes) e c in
        let (kind, counts, is) = here in
        subst (λ (j : ℕ). CountsWith r j bytes) (sym e) (takes_was r s id takes bytes kind counts is)
    | inr ne ↦ counts_with s r k (swaps r s id takes) (by_id r s id takes (main k) ne)
        (by_id r s id takes (main_temp k) ne) bytes c
  ];
  is = λ k bytes c. elim (cases_eq k id) [
    | inl e ↦
        let here : CountsWith r id bytes = subst (λ (j : ℕ). CountsWith r j bytes) e c in
        let (kind, counts, is) = here in
        subst (λ (j : ℕ). CountsWith s j bytes) (sym e) (takes_is r s id takes bytes kind counts is)
    | inr ne ↦ counts_with r s k (λ j. sym (swaps r s id takes j)) (sym (by_id r s id takes (main k) ne))
        (sym (by_id r s id takes (main_temp k) ne)) bytes c
  ];
  hints = λ k bytes c. by_kind r s id takes (hint k) (λ e. cc e) (λ e. cc e);
  lists = λ k bytes there. sym (swaps r s id takes k) ∙ there;
  ids = λ m there. elim (cases_Bool (same m (main id))) [
    | inl p ↦ (main_temp id, takes.was_there, sym (ap (λ (x : Name). x.id) (same_eq m (main id) p)))
    | inr p ↦ elim (cases_Bool (same m (main_temp id))) [
      | inl q ↦ absurd (not_there (s m) (ap s (same_eq m (main_temp id) q) ∙ takes.gone) there)
      | inr q ↦ (m, ap is_some (sym (takes.others m q p)) ∙ there, refl)
    ]
  ];
}

-- of one data file it is known that it has to be read, and others aren't
pub data_needed : (r : Reading) (file : ℕ) → NeedsScan r file → (id : ℕ) → (same (main id) (main file) ≡ false) ⊎ NeedsScan r id
data_needed r file needs id =
    elim (cases_eq id file) [
      | inl e ↦ inr (subst (NeedsScan r) (sym e) needs)
      | inr ne ↦ inl (apart_ids (main id) (main file) ne)
    ]

-- a file of another kind is no data file
pub none_needed : (r : Reading) (n : Name) → (n.kind ≡ Main → ⊥) → (id : ℕ) → (same (main id) n ≡ false) ⊎ NeedsScan r id
none_needed r n never id = inl (apart_kinds (main id) n (λ e. never (sym e)))
