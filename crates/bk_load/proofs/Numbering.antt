-- The files of a kind in order of id, from a map of their lengths.
use Rattle.std.proofs.Common.{◌≡◌, ℕ, suc, ◌+◌, ◌<◌, ◌≤◌, Bool, true, false, cond, nat_lt, List, [], ◌∷◌, ◌++◌, length, get_or, Some, refl, sym, ap, subst, ◌∙◌, inl, inr, arith}
use Rattle.std.proofs.lemmas.Bool.{cases_lt}
use Rattle.std.proofs.lemmas.List.{append-nil}
use Rattle.std.proofs.lemmas.Map.Keys.{below_from_sorted, sorted_tail}
use Rattle.std.specs.List.{All}
use Rattle.std.specs.List.Sorted.{IsStrictlySortedBy}
use Rattle.std.specs.Map.{keys_of, lookup}
use Rattle.std.specs.Option.{option_map}
use Rattle.std.specs.Ordering.{is_eq, nat_cmp}
use Rattle.bk_base.specs.declared.names.Kind.{Kind}
use Rattle.bk_base.specs.declared.names.Kind.TheVariants.{Main}
use Rattle.bk_base.specs.declared.names.Name.{Name}
use Rattle.bk_disk.specs.declared.disks.Listed.{Listed}
use Rattle.bk_disk.proofs.Names.{same_eq}
use Rattle.bk_disk.specs.Told.{Image, IsOnce, at, listing, names}
use Rattle.bk_image.specs.Readings.{In}
use Rattle.bk_load.specs.declared.directory.Numbered.{Numbered}
use Rattle.bk_load.specs.Directory.{AreNumbered, RiseFrom, len_in}
use Rattle.bk_load.specs.Steps.{MayView}
use Rattle.bk_load.proofs.Items.{in_get}
use Rattle.bk_load.proofs.Learned.{lt_is, lt_not}
use Rattle.bk_load.proofs.Listings.{len_at, map_some, whole_view}
use Rattle.bk_load.proofs.Lengths.{at_same, record_name}

abbrev pub Lengths : Type 0
Lengths = List (ℕ × ℕ)

abbrev pub numbered : ℕ × ℕ → Numbered
numbered e = record { len = e.1; id = e.0 }

-- those whose ids are at least `least`
abbrev pub numbered_of : ℕ → Lengths → List Numbered
numbered_of least [] = []
numbered_of least (e ∷ es) = cond (nat_lt e.0 least) (numbered_of least es) (numbered e ∷ numbered_of least es)

-- Their ids rise

abbrev KeysRise : ℕ → Lengths → Type 0
KeysRise low [] = Unit {0}
KeysRise low (e ∷ es) = (low ≤ e.0) × KeysRise (e.0 + 1) es

rise_tail : (e : ℕ × ℕ) (es : Lengths) → IsStrictlySortedBy nat_cmp (keys_of (e ∷ es)) → KeysRise (e.0 + 1) es
rise_tail e [] sorted = tt
rise_tail e (f ∷ fs) sorted =
    let lt : e.0 < f.0 = below_from_sorted (e.0 ∷ f.0 ∷ keys_of fs) 0 1 0 sorted (omega arith) (omega arith) in
    (omega (arith, lt), rise_tail f fs (sorted_tail nat_cmp e.0 (f.0 ∷ keys_of fs) sorted))

keys_rise : (es : Lengths) → IsStrictlySortedBy nat_cmp (keys_of es) → KeysRise 0 es
keys_rise [] sorted = tt
keys_rise (e ∷ es) sorted = (omega arith, rise_tail e es sorted)

rise_lower : (a b : ℕ) (fs : List Numbered) → a ≤ b → RiseFrom b fs → RiseFrom a fs
rise_lower a b [] le rise = tt
rise_lower a b (f ∷ fs) le rise = (let p = rise.0 in omega (arith, le, p), rise.1)

rise_above : (least low : ℕ) (es : Lengths) → KeysRise low es → RiseFrom low (numbered_of least es)
rise_above least low [] rise = tt
rise_above least low (e ∷ es) rise =
    go (nat_lt e.0 least) (rise_above least (e.0 + 1) es rise.1) where
      go : (b : Bool) → RiseFrom (e.0 + 1) (numbered_of least es)
          → RiseFrom low (cond b (numbered_of least es) (numbered e ∷ numbered_of least es))
      go true later = rise_lower low (e.0 + 1) (numbered_of least es) (let p = rise.0 in omega (arith, p)) later
      go false later = (rise.0, later)

rise_least : (least low : ℕ) (es : Lengths) → KeysRise low es → RiseFrom least (numbered_of least es)
rise_least least low [] rise = tt
rise_least least low (e ∷ es) rise =
    elim (cases_lt e.0 least) [
      | inl lt ↦ rw (lt_is e.0 least lt) (rise_least least (e.0 + 1) es rise.1)
      | inr ge ↦ rw (lt_not e.0 least ge) (ge, rise_above least (e.0 + 1) es rise.1)
    ]

-- Each is an entry of the map, and each entry is among them

behind_entry : (e : ℕ × ℕ) (es : Lengths) (f : Numbered) → (x : ℕ × ℕ) × In x es × (f ≡ numbered x)
    → (x : ℕ × ℕ) × In x (e ∷ es) × (f ≡ numbered x)
behind_entry e es f (x, found, is) = (x, inr found, is)

was_entry : (least : ℕ) (es : Lengths) (f : Numbered) → In f (numbered_of least es) → (e : ℕ × ℕ) × In e es × (f ≡ numbered e)
was_entry least [] f is_in = absurd is_in
was_entry least (e ∷ es) f is_in = go (nat_lt e.0 least) (λ there. was_entry least es f there) is_in where
  go : (b : Bool) → (In f (numbered_of least es) → (x : ℕ × ℕ) × In x es × (f ≡ numbered x))
      → In f (cond b (numbered_of least es) (numbered e ∷ numbered_of least es))
      → (x : ℕ × ℕ) × In x (e ∷ es) × (f ≡ numbered x)
  go true later there = behind_entry e es f (later there)
  go false later (inl is) = (e, inl refl, is)
  go false later (inr there) = behind_entry e es f (later there)

is_among : (least : ℕ) (es : Lengths) (e : ℕ × ℕ) → least ≤ e.0 → In e es → In (numbered e) (numbered_of least es)
is_among least [] e low is_in = absurd is_in
is_among least (x ∷ es) e low (inl is) =
    let low_x : least ≤ x.0 = subst (λ (y : ℕ × ℕ). least ≤ y.0) is low in
    rw (lt_not x.0 least low_x) (inl (ap numbered is))
is_among least (x ∷ es) e low (inr later) =
    go (nat_lt x.0 least) (is_among least es e low later) where
      go : (b : Bool) → In (numbered e) (numbered_of least es)
          → In (numbered e) (cond b (numbered_of least es) (numbered x ∷ numbered_of least es))
      go true there = there
      go false there = inr there

all_in : {X : Type 0} (P : X → Type 0) (xs : List X) (x : X) → All P xs → In x xs → P x
all_in P [] x all is_in = absurd is_in
all_in P (y ∷ ys) x all (inl is) = subst P (sym is) (all 0 x (omega arith))
all_in P (y ∷ ys) x all (inr later) = all_in P ys x (λ k d low. all (suc k) d (omega (arith, low))) later

eq_is : (k q : ℕ) → is_eq (nat_cmp k q) ≡ true → k ≡ q
eq_is k q is =
    sym (ap (λ (n : Name). n.id) (same_eq (record_name q Main) (record_name k Main) (sym (at_same k q Main) ∙ is)))

found_entry : (id len : ℕ) (es : Lengths) → lookup (λ q. is_eq (nat_cmp id q)) es ≡ Some len
    → (e : ℕ × ℕ) × In e es × (e.0 ≡ id) × (e.1 ≡ len)
found_entry id len [] is = absurd (cc is)
found_entry id len (e ∷ es) is =
    go (is_eq (nat_cmp id e.0)) refl (λ later. found_entry id len es later) is where
      go : (b : Bool) → is_eq (nat_cmp id e.0) ≡ b
          → (lookup (λ q. is_eq (nat_cmp id q)) es ≡ Some len → (x : ℕ × ℕ) × In x es × (x.0 ≡ id) × (x.1 ≡ len))
          → cond b (Some e.1) (lookup (λ q. is_eq (nat_cmp id q)) es) ≡ Some len
          → (x : ℕ × ℕ) × In x (e ∷ es) × (x.0 ≡ id) × (x.1 ≡ len)
      go true same found here = let long : e.1 ≡ len = cc here in (e, inl refl, sym (eq_is id e.0 same), long)
      go false other found later = let (x, there, id_is, long) = found later in (x, inr there, id_is, long)

pub are_numbered : (files : List Listed) (kind : Kind) (least : ℕ) (es : Lengths) → IsStrictlySortedBy nat_cmp (keys_of es)
    → All (λ (e : ℕ × ℕ). lookup (λ q. is_eq (nat_cmp e.0 q)) es ≡ Some e.1) es
    → ((id : ℕ) → lookup (λ q. is_eq (nat_cmp id q)) es ≡ len_in files (record { id = id; kind = kind }))
    → AreNumbered files kind least (numbered_of least es)
are_numbered files kind least es sorted found lengths = record {
  rise = rise_least least 0 es (keys_rise es sorted);
  each = λ f is_in.
      let (e, there, is) = was_entry least es f is_in in
      ap (λ (x : Numbered). len_in files (record { id = x.id; kind = kind })) is
      ∙ sym (lengths e.0)
      ∙ all_in (λ (x : ℕ × ℕ). lookup (λ q. is_eq (nat_cmp x.0 q)) es ≡ Some x.1) es e found there
      ∙ ap (λ (x : Numbered). Some x.len) (sym is);
  all = λ id len low is.
      let (e, there, at, long) = found_entry id len es (lengths id ∙ is) in
      let name : numbered e ≡ record { len = len; id = id } = λ i. record { len = long i; id = at i } in
      subst (λ (f : Numbered). In f (numbered_of least es)) name
      (is_among least es e (subst (λ (n : ℕ). least ≤ n) (sym at) low) there);
}

-- all entries were taken
pub order_done : (files : List Listed) (kind : Kind) (least : ℕ) (es start rest : Lengths) (items : List Numbered)
    → numbered_of least start ≡ items ++ numbered_of least rest → rest ≡ [] → start ≡ es → IsStrictlySortedBy nat_cmp (keys_of es)
    → All (λ (e : ℕ × ℕ). lookup (λ q. is_eq (nat_cmp e.0 q)) es ≡ Some e.1) es
    → ((id : ℕ) → lookup (λ q. is_eq (nat_cmp id q)) es ≡ len_in files (record { id = id; kind = kind }))
    → AreNumbered files kind least items
order_done files kind least es start rest items taken none is sorted found lengths =
    let items_are : numbered_of least es ≡ items =
    ap (numbered_of least) (sym is) ∙ taken ∙ ap (λ (r : Lengths). items ++ numbered_of least r) none ∙ append-nil items in
    subst (AreNumbered files kind least) items_are (are_numbered files kind least es sorted found lengths)

-- What is listed of one kind, in order
pub record Numbers (image : Image) (kind : Kind) (low : ℕ) (ns : List Numbered) : Type 0 where
  pub rise : RiseFrom low ns
  pub there : (i : ℕ) (d : Numbered) → i < length ns
      → option_map length (at image (record_name (get_or ns i d).id kind)) ≡ Some (get_or ns i d).len
  pub all : (id : ℕ) (bytes : List ℕ) → low ≤ id → at image (record_name id kind) ≡ Some bytes
      → (p : Numbered) × In p ns × (p.id ≡ id)

pub are_numbers : (image : Image) (files : List Listed) (kind : Kind) (low : ℕ) (ns ms : List Numbered) → IsOnce (names image)
    → files ≡ listing image → AreNumbered files kind low ns → ms ≡ ns → Numbers image kind low ms
are_numbers image files kind low ns ms once listed are same_list =
    subst (Numbers image kind low) (sym same_list) (record {
      rise = are.rise;
      there = λ i d within.
          len_at image files (record_name (get_or ns i d).id kind) (Some (get_or ns i d).len) once listed
          (sym (are.each (get_or ns i d) (in_get ns i d within)));
      all = λ id bytes above is.
          let len : len_in files (record_name id kind) ≡ Some (length bytes) =
          sym (len_at image files (record_name id kind) (len_in files (record_name id kind)) once listed refl)
          ∙ ap (option_map length) is in
          (record { len = length bytes; id = id }, are.all id (length bytes) above len, refl);
    })

-- a file among them that isn't a data file may be viewed whole
pub number_view : (image : Image) (kind : Kind) (low : ℕ) (ns : List Numbered) (i : ℕ) (d : Numbered) → Numbers image kind low ns
    → (kind ≡ Main → ⊥) → i < length ns → MayView (record_name (get_or ns i d).id kind) 0 (get_or ns i d).len image
number_view image kind low ns i d numbers never within =
    let (bytes, is, long) = map_some (at image (record_name (get_or ns i d).id kind)) (get_or ns i d).len (numbers.there i d within) in
    whole_view image (record_name (get_or ns i d).id kind) bytes (get_or ns i d).len never is long

pub number_view_now : (image now : Image) (kind : Kind) (low : ℕ) (ns : List Numbered) (i : ℕ) (d : Numbered) (name : Name)
    → Numbers image kind low ns → (kind ≡ Main → ⊥) → i < length ns → name ≡ record_name (get_or ns i d).id kind → now ≡ image
    → MayView name 0 (get_or ns i d).len now
number_view_now image now kind low ns i d name numbers never within is same_image =
    subst (λ (x : Image). MayView name 0 (get_or ns i d).len x) (sym same_image)
    (subst (λ (n : Name). MayView n 0 (get_or ns i d).len image) (sym is)
    (number_view image kind low ns i d numbers never within))

pub number_len : (image now : Image) (kind : Kind) (low : ℕ) (ns : List Numbered) (i : ℕ) (d : Numbered) → Numbers image kind low ns
    → i < length ns → now ≡ image → option_map length (at now (record_name (get_or ns i d).id kind)) ≡ Some (get_or ns i d).len
number_len image now kind low ns i d numbers within same_image =
    ap (λ (x : Image). option_map length (at x (record_name (get_or ns i d).id kind))) same_image ∙ numbers.there i d within
