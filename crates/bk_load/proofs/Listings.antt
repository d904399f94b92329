-- What a listing says of the files.
use Rattle.std.proofs.Common.{◌≡◌, ℕ, ◌+◌, ◌-◌, ◌<◌, ◌≤◌, get_or, true, false, List, [], ◌∷◌, length, take, drop, Option, Some, None, refl, sym, ap, subst, ◌∙◌, inl, inr, arith}
use Rattle.std.specs.Option.{is_some, option_map, unwrap_or}
use Rattle.std.proofs.lemmas.Bool.{cases_Bool}
use Rattle.std.proofs.lemmas.Bool.Decides.{nat_tests}
use Rattle.std.proofs.lemmas.List.{length-drop, take_all}
use Rattle.bk_base.specs.declared.names.Kind.TheVariants.{Main}
use Rattle.bk_base.specs.declared.names.Name.{Name}
use Rattle.bk_disk.specs.declared.disks.Listed.{Listed}
use Rattle.bk_disk.specs.Names.{same}
use Rattle.bk_disk.specs.Told.{Image, IsOnce, IsWithin, at, bytes_of, listing, names, range_of}
use Rattle.bk_disk.proofs.Names.{same_eq, same_refl}
use Rattle.bk_disk.proofs.Tables.{at-not_in}
use Rattle.bk_image.specs.Readings.{In, IsThere}
use Rattle.bk_load.specs.Directory.{IsListed, len_in, or_len}
use Rattle.bk_load.specs.Steps.{MayView}
use Rattle.bk_load.proofs.Items.{in_get, in_more}
use Rattle.bk_load.proofs.Tidied.{none_needed}

-- each file that is listed is there, with its length
pub listed_is : (image : Image) (f : Listed) → IsOnce (names image) → In f (listing image)
    → (bytes : List ℕ) × (at image f.name ≡ Some bytes) × (length bytes ≡ f.len)
listed_is [] f once is_in = absurd is_in
listed_is (e ∷ es) f once (inl is) =
    let name : f.name ≡ e.0 = ap (λ (x : Listed). x.name) is in
    let here : at (e ∷ es) e.0 ≡ Some e.1 = rw same_refl refl in
    (e.1, ap (at (e ∷ es)) name ∙ here, sym (ap (λ (x : Listed). x.len) is))
listed_is (e ∷ es) f once (inr later) =
    let (bytes, there, long) = listed_is es f once.1 later in
    elim (cases_Bool (same f.name e.0)) [
      | inl p ↦
          let none : at es f.name ≡ None = ap (at es) (same_eq f.name e.0 p) ∙ at-not_in e.0 es once.0 in
          let never : None ≡ Some bytes = sym none ∙ there in
          absurd (cc never)
      | inr p ↦
          let here : at (e ∷ es) f.name ≡ at es f.name = rw p refl in
          (bytes, here ∙ there, long)
    ]

-- and each that is there is listed
pub is_listed : (image : Image) (n : Name) (bytes : List ℕ) → at image n ≡ Some bytes
    → In (record { name = n; len = length bytes }) (listing image)
is_listed [] n bytes is = absurd (cc is)
is_listed (e ∷ es) n bytes is =
    elim (cases_Bool (same n e.0)) [
      | inl p ↦
          let here : at (e ∷ es) n ≡ Some e.1 = rw p refl in
          let this : Some e.1 ≡ Some bytes = sym here ∙ is in
          let same_bytes : e.1 ≡ bytes = cc this in
          inl (ap (λ (m : Name). record { name = m; len = length bytes }) (same_eq n e.0 p)
          ∙ ap (λ (b : List ℕ). record { name = e.0; len = length b }) (sym same_bytes))
      | inr p ↦
          let here : at (e ∷ es) n ≡ at es n = rw p refl in
          inr (is_listed es n bytes (sym here ∙ is))
    ]

pub there_some : (o : Option (List ℕ)) → is_some o ≡ true → (bytes : List ℕ) × (o ≡ Some bytes)
there_some None there = absurd (cc there)
there_some (Some bytes) there = (bytes, refl)

pub listed_there : (image : Image) (files : List Listed) (n : Name) → IsOnce (names image) → files ≡ listing image
    → IsListed files n → IsThere (at image) n
listed_there image files n once is (f, is_in, name) =
    let (bytes, there, long) = listed_is image f once (subst (λ (fs : List Listed). In f fs) is is_in) in
    ap (λ (m : Name). is_some (at image m)) (sym name) ∙ ap is_some there

pub there_listed : (image : Image) (files : List Listed) (n : Name) → files ≡ listing image → IsThere (at image) n
    → IsListed files n
there_listed image files n is there =
    let (bytes, here) = there_some (at image n) there in
    let f : Listed = record { name = n; len = length bytes } in
    (f, subst (λ (fs : List Listed). In f fs) (sym is) (is_listed image n bytes here), refl)

-- the range that is the whole file

pub whole_within : (image : Image) (n : Name) (bytes : List ℕ) (len : ℕ) → at image n ≡ Some bytes → length bytes ≡ len
    → IsWithin n 0 len image
whole_within image n bytes len is long =
    let there : is_some (at image n) ≡ true = ap is_some is in
    let all : bytes_of n image ≡ bytes = ap (λ (o : Option (List ℕ)). unwrap_or o []) is in
    let size : length (bytes_of n image) ≡ len = ap length all ∙ long in
    rw (there, size) (grind (arith, nat_tests))

pub whole_range : (image : Image) (n : Name) (bytes : List ℕ) (len : ℕ) → at image n ≡ Some bytes → length bytes ≡ len
    → range_of n 0 len image ≡ bytes
whole_range image n bytes len is long =
    let all : bytes_of n image ≡ bytes = ap (λ (o : Option (List ℕ)). unwrap_or o []) is in
    ap (take len) all ∙ take_all len bytes (omega (arith, long))

-- what is left of it from a place on
pub rest_within : (image : Image) (n : Name) (bytes : List ℕ) (from len : ℕ) → at image n ≡ Some bytes → length bytes ≡ len
    → from ≤ len → IsWithin n from (len - from) image
rest_within image n bytes from len is long low =
    let there : is_some (at image n) ≡ true = ap is_some is in
    let all : bytes_of n image ≡ bytes = ap (λ (o : Option (List ℕ)). unwrap_or o []) is in
    let size : length (bytes_of n image) ≡ len = ap length all ∙ long in
    let sum : from + (len - from) ≡ len = omega (arith, low) in
    rw (there, size, sum) (grind (arith, nat_tests))

pub rest_range : (image : Image) (n : Name) (bytes : List ℕ) (from len : ℕ) → at image n ≡ Some bytes → length bytes ≡ len
    → range_of n from (len - from) image ≡ drop from bytes
rest_range image n bytes from len is long =
    let all : bytes_of n image ≡ bytes = ap (λ (o : Option (List ℕ)). unwrap_or o []) is in
    let size : length (drop from bytes) ≡ length bytes - from = length-drop from bytes in
    ap (λ (b : List ℕ). take (len - from) (drop from b)) all ∙ take_all (len - from) (drop from bytes) (omega (arith, size, long))

-- A loop that looks for a name

pub listed_at : (files : List Listed) (i : ℕ) (d : Listed) (n : Name) → i < length files → same n (get_or files i d).name ≡ true
    → IsListed files n
listed_at files i d n low is = (get_or files i d, in_get files i d low, sym (same_eq n (get_or files i d).name is))

pub not_listed_more : (files : List Listed) (i : ℕ) (d : Listed) (n : Name) → i < length files
    → same n (get_or files i d).name ≡ false → (IsListed (take i files) n → ⊥) → IsListed (take (i + 1) files) n → ⊥
not_listed_more files i d n low other before (f, is_in, name) =
    elim (in_more f files i d low is_in) [
      | inl earlier ↦ before (f, earlier, name)
      | inr here ↦
          let is : same n (get_or files i d).name ≡ true = ap (same n) (ap (λ (x : Listed). x.name) (sym here) ∙ name) ∙ same_refl n in
          let never : true ≡ false = sym is ∙ other in
          cc never
    ]

pub not_listed : (files : List Listed) (i : ℕ) (n : Name) → length files ≤ i → (IsListed (take i files) n → ⊥) → IsListed files n → ⊥
not_listed files i n all before listed =
    before (subst (λ (fs : List Listed). IsListed fs n) (sym (take_all i files all)) listed)

-- the length that is listed is the file's

or_none : (o : Option ℕ) → or_len o None ≡ o
or_none None = refl
or_none (Some n) = refl

pub len_listed : (image : Image) (n : Name) → IsOnce (names image) → len_in (listing image) n ≡ option_map length (at image n)
len_listed [] n once = refl
len_listed (e ∷ es) n once =
    elim (cases_Bool (same n e.0)) [
      | inl p ↦
          let none : at es n ≡ None = ap (at es) (same_eq n e.0 p) ∙ at-not_in e.0 es once.0 in
          let later : len_in (listing es) n ≡ None = len_listed es n once.1 ∙ ap (option_map length) none in
          rw (p, later) refl
      | inr p ↦ rw p (or_none (len_in (listing es) n) ∙ len_listed es n once.1)
    ]

pub len_at : (image : Image) (files : List Listed) (n : Name) (found : Option ℕ) → IsOnce (names image) → files ≡ listing image
    → found ≡ len_in files n → option_map length (at image n) ≡ found
len_at image files n found once listed is =
    sym (len_listed image n once) ∙ sym (is ∙ ap (λ (fs : List Listed). len_in fs n) listed)

pub map_some : (o : Option (List ℕ)) (len : ℕ) → option_map length o ≡ Some len
    → (bytes : List ℕ) × (o ≡ Some bytes) × (length bytes ≡ len)
map_some None len is = absurd (cc is)
map_some (Some bytes) len is = let same : length bytes ≡ len = cc is in (bytes, refl, same)

-- all of a file that isn't a data file may be viewed
pub whole_view : (image : Image) (n : Name) (bytes : List ℕ) (len : ℕ) → (n.kind ≡ Main → ⊥) → at image n ≡ Some bytes
    → length bytes ≡ len → MayView n 0 len image
whole_view image n bytes len never is long =
    record { within = whole_within image n bytes len is long; needed = none_needed (at image) n never }

pub len_at_now : (image now : Image) (files : List Listed) (n : Name) (found : Option ℕ) → IsOnce (names image)
    → files ≡ listing image → now ≡ image → found ≡ len_in files n → option_map length (at now n) ≡ found
len_at_now image now files n found once listed same_image is =
    ap (λ (i : Image). option_map length (at i n)) same_image ∙ len_at image files n found once listed is
