-- What a listing says, file by file.
use Rattle.std.proofs.Common.{◌≡◌, ℕ, ◌+◌, ◌<◌, Bool, true, false, cond, max, List, [], ◌∷◌, ◌++◌, length, get_or, take, Option, Some, refl, sym, ap, ◌∙◌, arith, inl, inr}
use Rattle.std.proofs.lemmas.Bool.{cases_Bool, cases_lt}
use Rattle.std.specs.Ordering.{is_eq, is_lt, nat_cmp, ord_max}
use Rattle.std.specs.declared.cmp.Ordering.{Ordering}
use Rattle.std.specs.declared.cmp.Ordering.TheVariants.{Less, Equal, Greater}
use Rattle.std.specs.Cmp.{nat_cmp_is}
use Rattle.std.proofs.lemmas.List.{take_more}
use Rattle.bk_base.specs.declared.names.Kind.{Kind}
use Rattle.bk_base.specs.declared.names.Name.{Name}
use Rattle.bk_disk.specs.declared.disks.Listed.{Listed}
use Rattle.bk_disk.specs.Names.{same}
use Rattle.bk_disk.proofs.Names.{same_eq, same_refl}
use Rattle.bk_load.specs.Directory.{greatest_in, len_in}
use Rattle.bk_load.proofs.Tidied.{apart_ids}

greatest_behind : (xs : List Listed) (f : Listed) → greatest_in (xs ++ f ∷ []) ≡ max (greatest_in xs) f.name.id
greatest_behind [] f = omega arith
greatest_behind (x ∷ xs) f = let e = greatest_behind xs f in omega (arith, e)

pub greatest_more : (xs : List Listed) (i : ℕ) (d : Listed) → i < length xs
    → greatest_in (take (i + 1) xs) ≡ max (greatest_in (take i xs)) (get_or xs i d).name.id
greatest_more xs i d low = ap greatest_in (take_more xs i d low) ∙ greatest_behind (take i xs) (get_or xs i d)

max_is : (a b : ℕ) → ord_max nat_cmp a b ≡ max a b
max_is a b =
    elim (cases_lt b a) [
      | inl lt ↦ ap (λ (o : Ordering). cond (is_lt o) a b) (sym (nat_cmp_is b a Less lt)) ∙ omega (arith, lt)
      | inr ge ↦ elim (cases_lt a b) [
        | inl lt ↦ ap (λ (o : Ordering). cond (is_lt o) a b) (sym (nat_cmp_is b a Greater lt)) ∙ omega (arith, lt)
        | inr le ↦
            let is : b ≡ a = omega (arith, ge, le) in
            ap (λ (o : Ordering). cond (is_lt o) a b) (sym (nat_cmp_is b a Equal is)) ∙ omega (arith, ge)
      ]
    ]

pub greatest_put : (xs : List Listed) (i : ℕ) (d : Listed) (before : ℕ) → i < length xs → before ≡ greatest_in (take i xs)
    → ord_max nat_cmp before (get_or xs i d).name.id ≡ greatest_in (take (i + 1) xs)
greatest_put xs i d before low is =
    max_is before (get_or xs i d).name.id
    ∙ ap (λ (n : ℕ). max n (get_or xs i d).name.id) is
    ∙ sym (greatest_more xs i d low)

-- the last one that is listed counts
len_behind : (xs : List Listed) (f : Listed) (n : Name) (b : Bool) → same n f.name ≡ b
    → len_in (xs ++ f ∷ []) n ≡ cond b (Some f.len) (len_in xs n)
len_behind [] f n true is = rw is refl
len_behind [] f n false is = rw is refl
len_behind (x ∷ xs) f n true is = rw (len_behind xs f n true is) refl
len_behind (x ∷ xs) f n false is = rw (len_behind xs f n false is) refl

pub len_more : (xs : List Listed) (i : ℕ) (d : Listed) (n : Name) → i < length xs
    → len_in (take (i + 1) xs) n ≡ cond (same n (get_or xs i d).name) (Some (get_or xs i d).len) (len_in (take i xs) n)
len_more xs i d n low =
    ap (λ (fs : List Listed). len_in fs n) (take_more xs i d low)
    ∙ len_behind (take i xs) (get_or xs i d) n (same n (get_or xs i d).name) refl

-- The length of a file by its id

abbrev pub record_name : ℕ → Kind → Name
record_name id kind = record { id = id; kind = kind }

pub at_same : (k q : ℕ) (kind : Kind) → is_eq (nat_cmp k q) ≡ same (record { id = q; kind = kind }) (record { id = k; kind = kind })
at_same k q kind =
    elim (cases_lt k q) [
      | inl lt ↦ ap is_eq (sym (nat_cmp_is k q Less lt))
          ∙ sym (apart_ids (record { id = q; kind = kind }) (record { id = k; kind = kind }) (λ e. absurd (omega (arith, e, lt))))
      | inr ge ↦ elim (cases_lt q k) [
        | inl lt ↦ ap is_eq (sym (nat_cmp_is k q Greater lt))
            ∙ sym (apart_ids (record { id = q; kind = kind }) (record { id = k; kind = kind }) (λ e. absurd (omega (arith, e, lt))))
        | inr le ↦
            let is : k ≡ q = omega (arith, ge, le) in
            ap is_eq (sym (nat_cmp_is k q Equal is))
            ∙ sym (ap (λ (n : ℕ). same (record { id = q; kind = kind }) (record { id = n; kind = kind })) is
            ∙ same_refl (record { id = q; kind = kind }))
      ]
    ]

pub len_put : (files : List Listed) (i : ℕ) (d : Listed) (kind : Kind) → i < length files
    → same (record { id = (get_or files i d).name.id; kind = kind }) (get_or files i d).name ≡ true → (before after : Option ℕ) (q : ℕ)
    → before ≡ len_in (take i files) (record { id = q; kind = kind })
    → after ≡ cond (is_eq (nat_cmp (get_or files i d).name.id q)) (Some (get_or files i d).len) before
    → after ≡ len_in (take (i + 1) files) (record { id = q; kind = kind })
len_put files i d kind low named before after q was is =
    let f = get_or files i d in
    let name : record_name f.name.id kind ≡ f.name = same_eq (record_name f.name.id kind) f.name named in
    is
    ∙ ap (λ (b : Bool). cond b (Some f.len) before) (at_same f.name.id q kind ∙ ap (same (record { id = q; kind = kind })) name)
    ∙ ap (cond (same (record { id = q; kind = kind }) f.name) (Some f.len)) was
    ∙ sym (len_more files i d (record { id = q; kind = kind }) low)

pub len_skip : (files : List Listed) (i : ℕ) (d : Listed) (kind : Kind) → i < length files
    → same (record { id = (get_or files i d).name.id; kind = kind }) (get_or files i d).name ≡ false → (before : Option ℕ) (q : ℕ)
    → before ≡ len_in (take i files) (record { id = q; kind = kind })
    → before ≡ len_in (take (i + 1) files) (record { id = q; kind = kind })
len_skip files i d kind low other before q was =
    let f = get_or files i d in
    let apart : same (record { id = q; kind = kind }) f.name ≡ false =
    elim (cases_Bool (same (record { id = q; kind = kind }) f.name)) [
      | inl p ↦
          let e : record_name q kind ≡ f.name = same_eq (record_name q kind) f.name p in
          let k : kind ≡ f.name.kind = ap (λ (n : Name). n.kind) e in
          let this : same (record_name f.name.id kind) f.name ≡ true =
          ap (λ (x : Kind). same (record_name f.name.id x) f.name) k ∙ same_refl f.name in
          let never : true ≡ false = sym this ∙ other in
          absurd (cc never)
      | inr p ↦ p
    ] in
    was ∙ sym (len_more files i d (record { id = q; kind = kind }) low
    ∙ ap (λ (b : Bool). cond b (Some f.len) (len_in (take i files) (record { id = q; kind = kind }))) apart)

-- The length of one name

pub len_here : (files : List Listed) (i : ℕ) (d : Listed) (n : Name) → i < length files → same n (get_or files i d).name ≡ true
    → Some (get_or files i d).len ≡ len_in (take (i + 1) files) n
len_here files i d n low named =
    sym (len_more files i d n low
    ∙ ap (λ (b : Bool). cond b (Some (get_or files i d).len) (len_in (take i files) n)) named)

pub len_elsewhere : (files : List Listed) (i : ℕ) (d : Listed) (n : Name) (before : Option ℕ) → i < length files
    → same n (get_or files i d).name ≡ false → before ≡ len_in (take i files) n → before ≡ len_in (take (i + 1) files) n
len_elsewhere files i d n before low other was =
    was ∙ sym (len_more files i d n low
    ∙ ap (λ (b : Bool). cond b (Some (get_or files i d).len) (len_in (take i files) n)) other)
