-- Files that are made, renamed or removed beside those that hold a log.
use Rattle.std.proofs.Common.{◌≡◌, ℕ, ◌⊎◌, Bool, true, false, cond, List, [], Option, Some, None}
use Rattle.std.proofs.Common.{refl, sym, ap, subst, ◌∙◌, inl, inr}
use Rattle.std.specs.Option.{is_some, unwrap_or}
use Rattle.std.proofs.lemmas.Bool.{cases_Bool, true≢false}
use Rattle.bk_base.specs.declared.names.Kind.{Kind}
use Rattle.bk_base.specs.declared.names.Kind.TheVariants.{Main, MainTemp}
use Rattle.bk_base.specs.declared.names.Name.{Name}
use Rattle.bk_base.specs.declared.writes.Write.{Write}
use Rattle.bk_disk.specs.Names.{same}
use Rattle.bk_disk.proofs.Names.{same_eq, same_refl}
use Rattle.bk_laws.specs.Record.{AreRecords}
use Rattle.bk_laws.specs.SwapList.{SwapList}
use Rattle.bk_record.proofs.FileRecords.{one_list}
use Rattle.bk_image.specs.Readings.{Books, In, IsThere, Reading, bytes_in, hint, main, main_temp}
use Rattle.bk_image.specs.Readings.{placed, swap}
use Rattle.bk_image.specs.CountedFiles.{Counts, CountsAs, HasList, IsInput, IsOutput}
use Rattle.bk_image.specs.RecoveredLog.{Safe}
use Rattle.bk_image.proofs.BookEdits.{placed_here, placed_other}
use Rattle.bk_image.proofs.Chances.{all_records}
use Rattle.bk_image.proofs.Places.{input_kept, main_same, one_swap, other_kind, output_kept}
use Rattle.bk_image.proofs.SafeMoves.{Comes, IsBlank, safe_frame, safe_moved}

-- Each name but one reads as before.
abbrev pub AllBut : Name → Reading → Reading → Type 0
AllBut n r s = (m : Name) → same m n ≡ false → s m ≡ r m

pub all_but_sym : (n : Name) (r s : Reading) → AllBut n r s → AllBut n s r
all_but_sym n r s others m other = sym (others m other)

bytes_other : (n m : Name) (r s : Reading) → AllBut n r s → same m n ≡ false
    → bytes_in s m ≡ bytes_in r m
bytes_other n m r s others other = ap (λ (o : Option (List ℕ)). unwrap_or o []) (others m other)

there_other : (n m : Name) (r s : Reading) → AllBut n r s → same m n ≡ false → IsThere r m
    → IsThere s m
there_other n m r s others other there = ap is_some (others m other) ∙ there

pub lists_kept : (id : ℕ) (r s : Reading) → AllBut (main id) r s → (k : ℕ) → r (swap k) ≡ s (swap k)
lists_kept id r s others k = sym (others (swap k) (other_kind (swap k) (main id) refl))

absent_there : (r : Reading) (n : Name) → r n ≡ None → IsThere r n → ⊥
absent_there r n none there = true≢false (sym there ∙ ap is_some none)

-- A new data file that is empty

-- an id that no list has as an output: the other data files count as before
beside_as : (id : ℕ) (r s : Reading) (kind : Kind) (k : ℕ) → AllBut (main id) r s
    → (IsOutput s id → ⊥)
    → same (record { id = k; kind = kind }) (main id) ≡ false → CountsAs kind r k
    → CountsAs kind s k
beside_as id r s Main k others unlisted other c = (
  there_other (main id) (main k) r s others other c.0,
  λ is. c.1 (input_kept s r k (λ j. sym (lists_kept id r s others j)) is),
  c.2,
)
beside_as id r s MainTemp k others unlisted other c =
    let output : IsOutput s k = output_kept r s k (lists_kept id r s others) c.1 in
    let no_main : IsThere s (main k) → ⊥ = λ there.
    elim (cases_Bool (same (main k) (main id))) [
      | inl p ↦ unlisted (subst (λ (j : ℕ). IsOutput s j) (main_same k id p) output)
      | inr p ↦ c.3 (there_other (main id) (main k) s r (all_but_sym (main id) r s others) p there)
    ] in (
      there_other (main id) (main_temp k) r s others (other_kind (main_temp k) (main id) refl) c.0,
      output,
      λ is. c.2 (input_kept s r k (λ j. sym (lists_kept id r s others j)) is),
      no_main,
      c.4,
    )
beside_as id r s kind k others unlisted other c = absurd c

pub beside : (id : ℕ) (r s : Reading) (n : Name) → AllBut (main id) r s → (IsOutput s id → ⊥)
    → same n (main id) ≡ false
    → Counts r n → Counts s n
beside id r s n others unlisted other c = beside_as id r s n.kind n.id others unlisted other c

-- a data file without bytes has no writes
no_writes : (bytes : List ℕ) (ws : List Write) → bytes ≡ [] → AreRecords bytes ws → ws ≡ []
no_writes bytes ws none are =
    one_list ws [] [] (subst (λ (b : List ℕ). AreRecords b ws) none are) (all_records [] tt)

pub record IsNew (r s : Reading) (id : ℕ) : Type 0 where
  pub was_empty : bytes_in r (main id) ≡ []
  pub no_input : IsInput r id → ⊥
  pub no_output : IsOutput r id → ⊥
  pub reads : s (main id) ≡ Some []
  pub others : AllBut (main id) r s

new_came : (r s : Reading) (books : Books) (id : ℕ) (n : Name) → IsNew r s id → Counts s n
    → Comes r s books (placed (main id) [] books) n n ⊎ IsBlank s (placed (main id) [] books) n
new_came r s books id n new c =
    let unlisted : IsOutput r id → ⊥ = new.no_output in
    elim (cases_Bool (same n (main id))) [
      | inl p ↦
          let is : n ≡ main id = same_eq n (main id) p in
          inr (record {
            bytes = ap (λ (m : Name). bytes_in s m) is
                ∙ ap (λ (o : Option (List ℕ)). unwrap_or o []) new.reads;
            book = ap (λ (b : Bool). cond b [] (books n)) p;
          })
      | inr p ↦
          inl (record {
            was = beside id s r n (all_but_sym (main id) r s new.others) unlisted p c;
            bytes = bytes_other (main id) n r s new.others p;
            book = placed_other (main id) n [] books p;
            hints = λ b is. inl
                (sym (new.others (hint n.id) (other_kind (hint n.id) (main id) refl)) ∙ is);
          })
    ]

new_stays : (r s : Reading) (books : Books) (id : ℕ) (m : Name) (w : Write) → IsNew r s id
    → ((n : Name) → Counts r n → AreRecords (bytes_in r n) (books n)) → Counts r m → In w (books m)
    → (n : Name) × Counts s n × In w (placed (main id) [] books n)
new_stays r s books id m w new reads c is_in =
    let unlisted : IsOutput s id → ⊥ =
    λ is. new.no_output (output_kept s r id (λ j. sym (lists_kept id r s new.others j)) is) in
    elim (cases_Bool (same m (main id))) [
      | inl p ↦
          let empty : bytes_in r m ≡ [] = ap (λ (k : Name). bytes_in r k) (same_eq m (main id) p)
          ∙ new.was_empty in
          absurd (subst (λ (ws : List Write). In w ws)
          (no_writes (bytes_in r m) (books m) empty (reads m c)) is_in)
      | inr p ↦ (
        m,
        beside id r s m new.others unlisted p c,
        subst (λ (ws : List Write). In w ws) (sym (placed_other (main id) m [] books p)) is_in,
      )
    ]

pub safe_new : (r s : Reading) (books : Books) (log : List Write) (id : ℕ) → IsNew r s id
    → Safe r books log
    → Safe s (placed (main id) [] books) log
safe_new r s books log id new safe =
    safe_moved r s books (placed (main id) [] books) (λ n. n) log
    (record {
      came = λ n c. new_came r s books id n new c;
      one = λ n k c d is. is;
      stays = λ m w c is_in. new_stays r s books id m w new safe.recovers.reads c is_in;
    }) safe

-- An output gets its name

-- It counted under its temporary name, and now it counts under its own.
pub record IsSettled (r s : Reading) (id : ℕ) : Type 0 where
  pub counted : Counts r (main_temp id)
  pub reads : s (main id) ≡ r (main_temp id)
  pub gone : s (main_temp id) ≡ None
  pub others : (n : Name) → same n (main id) ≡ false → same n (main_temp id) ≡ false → s n ≡ r n

abbrev settled_from : ℕ → Name → Name
settled_from id n = cond (same n (main id)) (main_temp id) n

settled_lists : (r s : Reading) (id : ℕ) → IsSettled r s id → (k : ℕ) → r (swap k) ≡ s (swap k)
settled_lists r s id is k =
    sym (is.others (swap k) (other_kind (swap k) (main id) refl)
    (other_kind (swap k) (main_temp id) refl))

temp_same : (k id : ℕ) → same (main_temp k) (main_temp id) ≡ true → k ≡ id
temp_same k id h = ap (λ (n : Name). n.id) (same_eq (main_temp k) (main_temp id) h)

-- the others count as before
settled_as : (r s : Reading) (id : ℕ) (kind : Kind) (k : ℕ) → IsSettled r s id
    → same (record { id = k; kind = kind }) (main id) ≡ false
    → CountsAs kind s k → CountsAs kind r k
settled_as r s id Main k is other c =
    let kept = is.others (main k) other (other_kind (main k) (main_temp id) refl) in (
      ap is_some (sym kept) ∙ c.0,
      λ input. c.1 (input_kept r s k (settled_lists r s id is) input),
      c.2,
    )
settled_as r s id MainTemp k is other c =
    let far : same (main_temp k) (main_temp id) ≡ false =
    elim (cases_Bool (same (main_temp k) (main_temp id))) [
      | inl p ↦ absurd
          (absent_there s (main_temp k)
          (ap (λ (j : ℕ). s (main_temp j)) (temp_same k id p) ∙ is.gone) c.0)
      | inr p ↦ p
    ] in
    let kept = is.others (main_temp k) other far in
    let no_main : IsThere r (main k) → ⊥ = λ there.
    elim (cases_Bool (same (main k) (main id))) [
      | inl p ↦ is.counted.3 (subst (λ (j : ℕ). IsThere r (main j)) (main_same k id p) there)
      | inr p ↦ c.3
          (ap is_some (is.others (main k) p (other_kind (main k) (main_temp id) refl)) ∙ there)
    ] in (
      ap is_some (sym kept) ∙ c.0,
      output_kept s r k (λ j. sym (settled_lists r s id is j)) c.1,
      λ input. c.2 (input_kept r s k (settled_lists r s id is) input),
      no_main,
      c.4,
    )
settled_as r s id kind k is other c = absurd c

-- and go on to do so
settles_as : (r s : Reading) (id : ℕ) (kind : Kind) (k : ℕ) → IsSettled r s id
    → same (record { id = k; kind = kind }) (main_temp id) ≡ false → CountsAs kind r k
    → CountsAs kind s k
settles_as r s id Main k is far c =
    let other : same (main k) (main id) ≡ false =
    elim (cases_Bool (same (main k) (main id))) [
      | inl p ↦ absurd (is.counted.3 (subst (λ (j : ℕ). IsThere r (main j)) (main_same k id p) c.0))
      | inr p ↦ p
    ] in (
      ap is_some (is.others (main k) other far) ∙ c.0,
      λ input. c.1 (input_kept s r k (λ j. sym (settled_lists r s id is j)) input),
      c.2,
    )
settles_as r s id MainTemp k is far c =
    let other = other_kind (main_temp k) (main id) refl in
    let no_main : IsThere s (main k) → ⊥ = λ there.
    elim (cases_Bool (same (main k) (main id))) [
      | inl p ↦
          let id_is : k ≡ id = main_same k id p in
          absurd (true≢false
          (sym (ap (λ (j : ℕ). same (main_temp j) (main_temp id)) id_is
          ∙ same_refl (main_temp id)) ∙ far))
      | inr p ↦ c.3
          (ap is_some (sym (is.others (main k) p (other_kind (main k) (main_temp id) refl)))
          ∙ there)
    ] in (
      ap is_some (is.others (main_temp k) other far) ∙ c.0,
      output_kept r s k (settled_lists r s id is) c.1,
      λ input. c.2 (input_kept s r k (λ j. sym (settled_lists r s id is j)) input),
      no_main,
      c.4,
    )
settles_as r s id kind k is far c = absurd c

settled_hint : (r s : Reading) (id k : ℕ) → IsSettled r s id → s (hint k) ≡ r (hint k)
settled_hint r s id k is =
    is.others (hint k) (other_kind (hint k) (main id) refl)
    (other_kind (hint k) (main_temp id) refl)

-- the output's own name
settled_here : (r s : Reading) (books : Books) (id : ℕ) (n : Name) → IsSettled r s id → n ≡ main id
    → Comes r s books (placed (main id) (books (main_temp id)) books) (main_temp id) n
settled_here r s books id n is here =
    let now = placed (main id) (books (main_temp id)) books in
    subst (λ (m : Name). Comes r s books now (main_temp id) m) (sym here)
    (record {
      was = is.counted;
      bytes = ap (λ (o : Option (List ℕ)). unwrap_or o []) is.reads;
      book = placed_here (main id) (books (main_temp id)) books;
      hints = λ b h. inl (sym (settled_hint r s id id is) ∙ h);
    })

not_temp : (r s : Reading) (id : ℕ) (n : Name) → IsSettled r s id → Counts s n
    → same n (main_temp id) ≡ false
not_temp r s id n is c =
    elim (cases_Bool (same n (main_temp id))) [
      | inl p ↦
          let counts : Counts s (main_temp id) =
          subst (λ (m : Name). Counts s m) (same_eq n (main_temp id) p) c in
          absurd (absent_there s (main_temp id) is.gone counts.0)
      | inr p ↦ p
    ]

settled_came : (r s : Reading) (books : Books) (id : ℕ) (n : Name) → IsSettled r s id → Counts s n
    → Comes r s books (placed (main id) (books (main_temp id)) books) (settled_from id n) n
settled_came r s books id n is c =
    let now = placed (main id) (books (main_temp id)) books in
    elim (cases_Bool (same n (main id))) [
      | inl p ↦
          subst (λ (b : Bool). Comes r s books now (cond b (main_temp id) n) n) (sym p)
          (settled_here r s books id n is (same_eq n (main id) p))
      | inr p ↦
          subst (λ (b : Bool). Comes r s books now (cond b (main_temp id) n) n) (sym p)
          (record {
            was = settled_as r s id n.kind n.id is p c;
            bytes = ap (λ (o : Option (List ℕ)). unwrap_or o [])
                (is.others n p (not_temp r s id n is c));
            book = placed_other (main id) n (books (main_temp id)) books p;
            hints = λ b h. inl (sym (settled_hint r s id n.id is) ∙ h);
          })
    ]

settled_one : (r s : Reading) (id : ℕ) (n k : Name) → IsSettled r s id → Counts s n → Counts s k
    → settled_from id n ≡ settled_from id k → n ≡ k
settled_one r s id n k is c d from = go (same n (main id)) refl (same k (main id)) refl where
  go : (a : Bool) → same n (main id) ≡ a → (b : Bool) → same k (main id) ≡ b → n ≡ k
  go true p true q = same_eq n (main id) p ∙ sym (same_eq k (main id) q)
  go false p false q =
      sym (ap (λ (x : Bool). cond x (main_temp id) n) p) ∙ from
      ∙ ap (λ (x : Bool). cond x (main_temp id) k) q
  go true p false q =
      let temp : main_temp id ≡ k = sym (ap (λ (x : Bool). cond x (main_temp id) n) p) ∙ from
      ∙ ap (λ (x : Bool). cond x (main_temp id) k) q in
      absurd (absent_there s (main_temp id) is.gone
      (subst (λ (m : Name). Counts s m) (sym temp) d).0)
  go false p true q =
      let temp : n ≡ main_temp id = sym (ap (λ (x : Bool). cond x (main_temp id) n) p) ∙ from
      ∙ ap (λ (x : Bool). cond x (main_temp id) k) q in
      absurd (absent_there s (main_temp id) is.gone (subst (λ (m : Name). Counts s m) temp c).0)

settled_counts : (r s : Reading) (id : ℕ) → IsSettled r s id → Counts s (main id)
settled_counts r s id is = (
  ap is_some is.reads ∙ is.counted.0,
  λ input. is.counted.2 (input_kept s r id (λ j. sym (settled_lists r s id is j)) input),
  is.counted.4,
)

settled_stays : (r s : Reading) (books : Books) (id : ℕ) (m : Name) (w : Write) → IsSettled r s id
    → Counts r m
    → In w (books m)
    → (n : Name) × Counts s n × In w (placed (main id) (books (main_temp id)) books n)
settled_stays r s books id m w is c is_in =
    elim (cases_Bool (same m (main_temp id))) [
      | inl p ↦ (
        main id,
        settled_counts r s id is,
        subst (λ (ws : List Write). In w ws)
            (sym (placed_here (main id) (books (main_temp id)) books))
            (subst (λ (k : Name). In w (books k)) (same_eq m (main_temp id) p) is_in),
      )
      | inr p ↦
          let other : same m (main id) ≡ false =
          elim (cases_Bool (same m (main id))) [
            | inl q ↦ absurd
                (is.counted.3 ((subst (λ (k : Name). Counts r k) (same_eq m (main id) q) c).0))
            | inr q ↦ q
          ] in (
            m,
            settles_as r s id m.kind m.id is p c,
            subst (λ (ws : List Write). In w ws)
                (sym (placed_other (main id) m (books (main_temp id)) books other)) is_in,
          )
    ]

pub safe_settled : (r s : Reading) (books : Books) (log : List Write) (id : ℕ) → IsSettled r s id
    → Safe r books log
    → Safe s (placed (main id) (books (main_temp id)) books) log
safe_settled r s books log id is safe =
    safe_moved r s books (placed (main id) (books (main_temp id)) books) (settled_from id) log
    (record {
      came = λ n c. inl (settled_came r s books id n is c);
      one = λ n k c d from. settled_one r s id n k is c d from;
      stays = λ m w c is_in. settled_stays r s books id m w is c is_in;
    }) safe

-- A swap list is removed

-- Its inputs are gone, and each output has its name or is gone.
pub record Unlists (r s : Reading) (l : SwapList) : Type 0 where
  pub list : HasList r l
  pub gone : s (swap list.id) ≡ None
  pub others : AllBut (swap list.id) r s
  pub no_main : (id : ℕ) → In id l.inputs → IsThere r (main id) → ⊥
  pub no_temp : (id : ℕ) → In id l.inputs → IsThere r (main_temp id) → ⊥
  pub named : (id : ℕ) → In id l.outputs → IsThere r (main_temp id) → IsThere r (main id)

swap_same : (k id : ℕ) → same (swap k) (swap id) ≡ true → k ≡ id
swap_same k id h = ap (λ (n : Name). n.id) (same_eq (swap k) (swap id) h)

-- a list that stands now stood before, and one that stood before stands now or is the removed one
list_was : (r s : Reading) (l k : SwapList) → Unlists r s l → HasList s k → HasList r k
list_was r s l k u has =
    elim (cases_Bool (same (swap has.id) (swap u.list.id))) [
      | inl p ↦
          let none : s (swap has.id) ≡ None =
          ap (λ (j : ℕ). s (swap j)) (swap_same has.id u.list.id p) ∙ u.gone in
          let differ : None ≡ Some has.bytes = sym none ∙ has.there in
          absurd (cc differ)
      | inr p ↦
          record {
            id = has.id;
            bytes = has.bytes;
            there = sym (u.others (swap has.id) p) ∙ has.there;
            whole = has.whole;
          }
    ]

list_is : (r s : Reading) (l k : SwapList) → Unlists r s l → HasList r k → HasList s k ⊎ (k ≡ l)
list_is r s l k u has =
    elim (cases_Bool (same (swap has.id) (swap u.list.id))) [
      | inl p ↦ inr (one_swap r k l has u.list (swap_same has.id u.list.id p))
      | inr p ↦
          inl (record {
            id = has.id;
            bytes = has.bytes;
            there = u.others (swap has.id) p ∙ has.there;
            whole = has.whole;
          })
    ]

input_was : (r s : Reading) (l : SwapList) (id : ℕ) → Unlists r s l → IsInput s id → IsInput r id
input_was r s l id u (k, has, is_in) = (k, list_was r s l k u has, is_in)

output_was : (r s : Reading) (l : SwapList) (id : ℕ) → Unlists r s l → IsOutput s id → IsOutput r id
output_was r s l id u (k, has, is_in) = (k, list_was r s l k u has, is_in)

input_is : (r s : Reading) (l : SwapList) (id : ℕ) → Unlists r s l → IsInput r id
    → IsInput s id ⊎ In id l.inputs
input_is r s l id u (k, has, is_in) =
    elim (list_is r s l k u has) [
      | inl stands ↦ inl (k, stands, is_in)
      | inr is ↦ inr
          (subst (λ (m : SwapList). In id m.inputs) is is_in)
    ]

output_is : (r s : Reading) (l : SwapList) (id : ℕ) → Unlists r s l → IsOutput r id
    → IsOutput s id ⊎ In id l.outputs
output_is r s l id u (k, has, is_in) =
    elim (list_is r s l k u has) [
      | inl stands ↦ inl (k, stands, is_in)
      | inr is ↦ inr
          (subst (λ (m : SwapList). In id m.outputs) is is_in)
    ]

main_kept : (r s : Reading) (l : SwapList) (id : ℕ) → Unlists r s l → s (main id) ≡ r (main id)
main_kept r s l id u = u.others (main id) (other_kind (main id) (swap u.list.id) refl)

temp_kept : (r s : Reading) (l : SwapList) (id : ℕ) → Unlists r s l
    → s (main_temp id) ≡ r (main_temp id)
temp_kept r s l id u = u.others (main_temp id) (other_kind (main_temp id) (swap u.list.id) refl)

unlisted_was : (r s : Reading) (l : SwapList) (kind : Kind) (id : ℕ) → Unlists r s l
    → CountsAs kind s id → CountsAs kind r id
unlisted_was r s l Main id u c =
    let there : IsThere r (main id) = ap is_some (sym (main_kept r s l id u)) ∙ c.0 in (
      there,
      λ input. elim (input_is r s l id u input)
          [ inl stands ↦ c.1 stands | inr own ↦ u.no_main id own there ],
      c.2,
    )
unlisted_was r s l MainTemp id u c =
    let there : IsThere r (main_temp id) = ap is_some (sym (temp_kept r s l id u)) ∙ c.0 in (
      there,
      output_was r s l id u c.1,
      λ input. elim (input_is r s l id u input)
          [ inl stands ↦ c.2 stands | inr own ↦ u.no_temp id own there ],
      λ main_there. c.3 (ap is_some (main_kept r s l id u) ∙ main_there),
      c.4,
    )
unlisted_was r s l kind id u c = absurd c

unlisted_is : (r s : Reading) (l : SwapList) (kind : Kind) (id : ℕ) → Unlists r s l
    → CountsAs kind r id → CountsAs kind s id
unlisted_is r s l Main id u c =
    (ap is_some (main_kept r s l id u) ∙ c.0, λ input. c.1 (input_was r s l id u input), c.2)
unlisted_is r s l MainTemp id u c =
    let output : IsOutput s id =
    elim (output_is r s l id u c.1)
    [ inl stands ↦ stands | inr own ↦ absurd (c.3 (u.named id own c.0)) ] in (
      ap is_some (temp_kept r s l id u) ∙ c.0,
      output,
      λ input. c.2 (input_was r s l id u input),
      λ main_there. c.3 (ap is_some (sym (main_kept r s l id u)) ∙ main_there),
      c.4,
    )
unlisted_is r s l kind id u c = absurd c

-- a counted file is none of the lists
not_list : (r : Reading) (k : ℕ) (kind : Kind) (id : ℕ) → CountsAs kind r id
    → same (record { id = id; kind = kind }) (swap k) ≡ false
not_list r k Main id c = other_kind (main id) (swap k) refl
not_list r k MainTemp id c = other_kind (main_temp id) (swap k) refl
not_list r k kind id c = absurd c

pub safe_unlisted : (r s : Reading) (books : Books) (log : List Write) (l : SwapList)
    → Unlists r s l → Safe r books log
    → Safe s books log
safe_unlisted r s books log l u safe =
    safe_frame r s books log
    (record {
      counted = λ n c. unlisted_was r s l n.kind n.id u c;
      counts = λ n c. unlisted_is r s l n.kind n.id u c;
      bytes = λ n c. bytes_other (swap u.list.id) n r s u.others
          (not_list r u.list.id n.kind n.id c);
      hints = λ n b c is. sym (u.others (hint n.id) (other_kind (hint n.id) (swap u.list.id) refl))
          ∙ is;
    }) safe
