-- Files that come, change or go and don't count: temporary ones, inputs, hints.
use Rattle.std.proofs.Common.{◌≡◌, ◌==◌, ℕ, Bool, true, false, List, [], Option, Some, None, refl}
use Rattle.std.proofs.Common.{sym, ap, subst, ◌∙◌, inl, inr}
use Rattle.std.specs.Option.{is_some, unwrap_or}
use Rattle.std.proofs.lemmas.Bool.{cases_Bool}
use Rattle.bk_base.specs.declared.names.Kind.{Kind}
use Rattle.bk_base.specs.declared.names.Kind.TheVariants.{Main, MainTemp, HintTemp, SwapTemp}
use Rattle.bk_base.specs.declared.names.Kind.TheVariants.{Settings}
use Rattle.bk_base.specs.declared.names.Name.{Name}
use Rattle.bk_base.specs.declared.writes.Write.{Write}
use Rattle.bk_disk.specs.Names.{kind_number, same}
use Rattle.bk_disk.proofs.Names.{same_eq}
use Rattle.bk_image.specs.Readings.{Books, Reading, bytes_in, hint, main, main_temp, swap}
use Rattle.bk_image.specs.CountedFiles.{Counts, CountsAs, IsInput, SamePlaces}
use Rattle.bk_image.specs.RecoveredLog.{Safe}
use Rattle.bk_image.proofs.Places.{counts_same, input_kept, main_same, other_kind, output_kept}
use Rattle.bk_image.proofs.Places.{places_sym}
use Rattle.bk_image.proofs.SafeFiles.{AllBut}
use Rattle.bk_image.proofs.SafeMoves.{safe_frame}

-- A file of another kind: no data file, no swap list, and no hint that came or changed

pub record IsBeside (r s : Reading) (n : Name) : Type 0 where
  pub others : AllBut n r s
  pub no_main : (id : ℕ) → same (main id) n ≡ false
  pub no_temp : (id : ℕ) → same (main_temp id) n ≡ false
  pub no_list : (id : ℕ) → same (swap id) n ≡ false
  pub hints : (id : ℕ) (b : List ℕ) → s (hint id) ≡ Some b → r (hint id) ≡ Some b

beside_places : (r s : Reading) (n : Name) → IsBeside r s n → SamePlaces r s
beside_places r s n is = record {
  mains = λ id. ap is_some (sym (is.others (main id) (is.no_main id)));
  temps = λ id. ap is_some (sym (is.others (main_temp id) (is.no_temp id)));
  lists = λ id. sym (is.others (swap id) (is.no_list id));
}

beside_bytes : (r s : Reading) (n : Name) → IsBeside r s n → (kind : Kind) (id : ℕ)
    → CountsAs kind r id
    → bytes_in s (record { id = id; kind = kind }) ≡ bytes_in r (record { id = id; kind = kind })
beside_bytes r s n is Main id c =
    ap (λ (o : Option (List ℕ)). unwrap_or o []) (is.others (main id) (is.no_main id))
beside_bytes r s n is MainTemp id c =
    ap (λ (o : Option (List ℕ)). unwrap_or o []) (is.others (main_temp id) (is.no_temp id))
beside_bytes r s n is kind id c = absurd c

pub safe_beside : (r s : Reading) (books : Books) (log : List Write) (n : Name) → IsBeside r s n
    → Safe r books log
    → Safe s books log
safe_beside r s books log n is safe =
    let places = beside_places r s n is in
    safe_frame r s books log
    (record {
      counted = λ m c. counts_same s r m (places_sym r s places) c;
      counts = λ m c. counts_same r s m places c;
      bytes = λ m c. beside_bytes r s n is m.kind m.id c;
      hints = λ m b c h. is.hints m.id b h;
    }) safe

-- the kinds of which no clause on the log speaks
abbrev pub is_loose : Kind → Bool
is_loose HintTemp = true
is_loose SwapTemp = true
is_loose Settings = true
is_loose kind = false

loose_apart : (m n : Name) (kind : Kind) → n.kind ≡ kind → is_loose kind ≡ true
    → (kind_number m.kind == kind_number kind) ≡ false
    → same m n ≡ false
loose_apart m n kind is loose differs =
    other_kind m n (ap (λ (k : Kind). kind_number m.kind == kind_number k) is ∙ differs)

loose_beside : (r s : Reading) (n : Name) (kind : Kind) → n.kind ≡ kind → is_loose kind ≡ true
    → AllBut n r s → IsBeside r s n
loose_beside r s n HintTemp is loose others = record {
  others = others;
  no_main = λ id. loose_apart (main id) n HintTemp is loose refl;
  no_temp = λ id. loose_apart (main_temp id) n HintTemp is loose refl;
  no_list = λ id. loose_apart (swap id) n HintTemp is loose refl;
  hints = λ id b h. sym (others (hint id) (loose_apart (hint id) n HintTemp is loose refl)) ∙ h;
}
loose_beside r s n SwapTemp is loose others = record {
  others = others;
  no_main = λ id. loose_apart (main id) n SwapTemp is loose refl;
  no_temp = λ id. loose_apart (main_temp id) n SwapTemp is loose refl;
  no_list = λ id. loose_apart (swap id) n SwapTemp is loose refl;
  hints = λ id b h. sym (others (hint id) (loose_apart (hint id) n SwapTemp is loose refl)) ∙ h;
}
loose_beside r s n Settings is loose others = record {
  others = others;
  no_main = λ id. loose_apart (main id) n Settings is loose refl;
  no_temp = λ id. loose_apart (main_temp id) n Settings is loose refl;
  no_list = λ id. loose_apart (swap id) n Settings is loose refl;
  hints = λ id b h. sym (others (hint id) (loose_apart (hint id) n Settings is loose refl)) ∙ h;
}
loose_beside r s n kind is loose others = absurd (cc loose)

pub safe_loose : (r s : Reading) (books : Books) (log : List Write) (n : Name)
    → is_loose n.kind ≡ true → AllBut n r s
    → Safe r books log → Safe s books log
safe_loose r s books log n loose others safe =
    safe_beside r s books log n (loose_beside r s n n.kind refl loose others) safe

-- a hint is gone

pub safe_hint_gone : (r s : Reading) (books : Books) (log : List Write) (id : ℕ)
    → s (hint id) ≡ None → AllBut (hint id) r s
    → Safe r books log → Safe s books log
safe_hint_gone r s books log id gone others safe =
    safe_beside r s books log (hint id)
    (record {
      others = others;
      no_main = λ k. other_kind (main k) (hint id) refl;
      no_temp = λ k. other_kind (main_temp k) (hint id) refl;
      no_list = λ k. other_kind (swap k) (hint id) refl;
      hints = λ k b h.
          elim (cases_Bool (same (hint k) (hint id))) [
            | inl p ↦
                let none : s (hint k) ≡ None = ap s (same_eq (hint k) (hint id) p) ∙ gone in
                let differ : None ≡ Some b = sym none ∙ h in
                absurd (cc differ)
            | inr p ↦ sym (others (hint k) p) ∙ h
          ];
    }) safe

-- A data file that counted neither before nor after

lists_beside : (n : Name) (r s : Reading) → ((id : ℕ) → same (swap id) n ≡ false) → AllBut n r s
    → (id : ℕ) → r (swap id) ≡ s (swap id)
lists_beside n r s apart others id = sym (others (swap id) (apart id))

-- under its temporary name

temp_stays : (r s : Reading) (id : ℕ) (kind : Kind) (k : ℕ) → AllBut (main_temp id) r s
    → same (record { id = k; kind = kind }) (main_temp id) ≡ false → CountsAs kind r k
    → CountsAs kind s k
temp_stays r s id Main k others far c =
    let lists = lists_beside (main_temp id) r s
    (λ j. other_kind (swap j) (main_temp id) refl) others in
    (ap is_some (others (main k) far) ∙ c.0, λ i. c.1 (input_kept s r k (λ j. sym (lists j)) i), c.2)
temp_stays r s id MainTemp k others far c =
    let lists = lists_beside (main_temp id) r s
    (λ j. other_kind (swap j) (main_temp id) refl) others in
    let main_is : s (main k) ≡ r (main k) =
    others (main k) (other_kind (main k) (main_temp id) refl) in (
      ap is_some (others (main_temp k) far) ∙ c.0,
      output_kept r s k lists c.1,
      λ i. c.2 (input_kept s r k (λ j. sym (lists j)) i),
      λ there. c.3 (ap is_some (sym main_is) ∙ there),
      c.4,
    )
temp_stays r s id kind k others far c = absurd c

apart_from : (r : Reading) (n m : Name) → (Counts r n → ⊥) → Counts r m → same m n ≡ false
apart_from r n m none c =
    elim (cases_Bool (same m n))
    [ inl p ↦ absurd (none (subst (λ (k : Name). Counts r k) (same_eq m n p) c)) | inr p ↦ p ]

pub safe_temporary : (r s : Reading) (books : Books) (log : List Write) (id : ℕ)
    → AllBut (main_temp id) r s
    → (Counts r (main_temp id) → ⊥) → (Counts s (main_temp id) → ⊥) → Safe r books log
    → Safe s books log
safe_temporary r s books log id others before now safe =
    safe_frame r s books log
    (record {
      counted = λ m c. temp_stays s r id m.kind m.id (λ k far. sym (others k far))
          (apart_from s (main_temp id) m now c) c;
      counts = λ m c. temp_stays r s id m.kind m.id others
          (apart_from r (main_temp id) m before c) c;
      bytes = λ m c. ap (λ (o : Option (List ℕ)). unwrap_or o [])
          (others m (apart_from r (main_temp id) m before c));
      hints = λ m b c h. sym (others (hint m.id) (other_kind (hint m.id) (main_temp id) refl)) ∙ h;
    }) safe

-- one that is gone doesn't count
pub safe_dropped_temp : (r s : Reading) (books : Books) (log : List Write) (id : ℕ)
    → AllBut (main_temp id) r s
    → (Counts r (main_temp id) → ⊥) → s (main_temp id) ≡ None → Safe r books log → Safe s books log
safe_dropped_temp r s books log id others before gone safe =
    safe_temporary r s books log id others before
    (λ c. let no : true ≡ false = sym c.0 ∙ ap is_some gone in absurd (cc no)) safe

-- an input of some list, under its own name

input_stays : (r s : Reading) (id : ℕ) (kind : Kind) (k : ℕ) → AllBut (main id) r s → IsInput r id
    → CountsAs kind r k
    → CountsAs kind s k
input_stays r s id Main k others input c =
    let lists = lists_beside (main id) r s (λ j. other_kind (swap j) (main id) refl) others in
    let far : same (main k) (main id) ≡ false =
    elim (cases_Bool (same (main k) (main id))) [
      | inl p ↦ absurd
          (c.1 (subst (λ (j : ℕ). IsInput r j) (sym (main_same k id p)) input))
      | inr p ↦ p
    ] in
    (ap is_some (others (main k) far) ∙ c.0, λ i. c.1 (input_kept s r k (λ j. sym (lists j)) i), c.2)
input_stays r s id MainTemp k others input c =
    let lists = lists_beside (main id) r s (λ j. other_kind (swap j) (main id) refl) others in
    let far : same (main k) (main id) ≡ false =
    elim (cases_Bool (same (main k) (main id))) [
      | inl p ↦ absurd
          (c.2 (subst (λ (j : ℕ). IsInput r j) (sym (main_same k id p)) input))
      | inr p ↦ p
    ] in (
      ap is_some (others (main_temp k) (other_kind (main_temp k) (main id) refl)) ∙ c.0,
      output_kept r s k lists c.1,
      λ i. c.2 (input_kept s r k (λ j. sym (lists j)) i),
      λ there. c.3 (ap is_some (sym (others (main k) far)) ∙ there),
      c.4,
    )
input_stays r s id kind k others input c = absurd c

input_apart : (r : Reading) (id : ℕ) (m : Name) → IsInput r id → Counts r m
    → same m (main id) ≡ false
input_apart r id m input c = apart_from r (main id) m (λ here. here.1 input) c

pub safe_dropped_input : (r s : Reading) (books : Books) (log : List Write) (id : ℕ)
    → AllBut (main id) r s → IsInput r id
    → Safe r books log → Safe s books log
safe_dropped_input r s books log id others input safe =
    let lists = lists_beside (main id) r s (λ j. other_kind (swap j) (main id) refl) others in
    let now : IsInput s id = input_kept r s id lists input in
    safe_frame r s books log
    (record {
      counted = λ m c. input_stays s r id m.kind m.id (λ k far. sym (others k far)) now c;
      counts = λ m c. input_stays r s id m.kind m.id others input c;
      bytes = λ m c. ap (λ (o : Option (List ℕ)). unwrap_or o [])
          (others m (input_apart r id m input c));
      hints = λ m b c h. sym (others (hint m.id) (other_kind (hint m.id) (main id) refl)) ∙ h;
    }) safe
