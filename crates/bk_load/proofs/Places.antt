-- Where the versions that are kept end.
use Rattle.std.proofs.Common.{◌≡◌, ◌==◌, ◌⊎◌, ℕ, ◌+◌, ◌≤◌, Bool, true, false, cond, List, [], ◌∷◌, ◌++◌, map, Option, Some, refl, sym, ap, subst, ◌∙◌, inl, inr, arith, eq-eqb}
use Rattle.std.specs.Str.{bytes_eq}
use Rattle.std.proofs.lemmas.Bool.Decides.{nat_tests}
use Rattle.bk_base.specs.declared.numbers.FileId.{FileId}
use Rattle.bk_base.specs.declared.writes.Version.{Version}
use Rattle.bk_files.specs.Catalog.{row_of}
use Rattle.bk_image.specs.Readings.{In}
use Rattle.bk_image.proofs.Lists.{in-append_left, in-append_right}
use Rattle.bk_keydir.specs.declared.slots.Slot.{Slot}
use Rattle.bk_keydir.specs.Keydir.{Entry, Shown, keeps_newest, older_of, put_over, with_version}
use Rattle.bk_load.specs.declared.files.FileFound.{FileFound}
use Rattle.bk_load.specs.Found.{EndsWithin, FilesRise, KeepsFound, found_row}
use Rattle.bk_load.specs.Learning.{IsKept, KeepsWithin}

-- ---- one version more

in_older : (w : Version) (vs : List Version) → In w (older_of vs) → In w vs
in_older w [] is_in = absurd is_in
in_older w (x ∷ xs) is_in = inr is_in

in_put : (slots : List (Option Slot)) (v w : Version) (vs : List Version) → In w (put_over slots v vs) → (w ≡ v) ⊎ In w vs
in_put slots v w vs (inl is) = inl is
in_put slots v w vs (inr later) = inr (go (keeps_newest slots vs) later) where
  go : (b : Bool) → In w (cond b vs (older_of vs)) → In w vs
  go true is_in = is_in
  go false is_in = in_older w vs is_in

first_kept : (w : Version) (e x : Entry) (xs : List Entry) → e ≡ x → In w e.1 → IsKept w (x ∷ xs)
first_kept w e x xs is there = (x, inl refl, subst (λ (y : Entry). In w y.1) is there)

later_kept : (w : Version) (x : Entry) (xs : List Entry) → IsKept w xs → IsKept w (x ∷ xs)
later_kept w x xs kept = (kept.0, inr kept.1, kept.2)

kept_with : (slots : List (Option Slot)) (key : List ℕ) (v w : Version) (es : List Entry)
    → IsKept w (with_version slots key v es) → IsKept w es ⊎ (w ≡ v)
kept_with slots key v w [] (e, is_in, there) = none is_in where
  only : In w (v ∷ []) → IsKept w [] ⊎ (w ≡ v)
  only (inl is) = inr is
  only (inr later) = absurd later

  none : In e ((key, v ∷ []) ∷ []) → IsKept w [] ⊎ (w ≡ v)
  none (inl is) = only (subst (λ (y : Entry). In w y.1) is there)
  none (inr later) = absurd later
kept_with slots key v w (x ∷ xs) (e, is_in, there) = go (bytes_eq key x.0) is_in (kept_with slots key v w xs) where
  put : (w ≡ v) ⊎ In w x.1 → IsKept w (x ∷ xs) ⊎ (w ≡ v)
  put (inl is) = inr is
  put (inr was) = inl (x, inl refl, was)

  behind : IsKept w xs ⊎ (w ≡ v) → IsKept w (x ∷ xs) ⊎ (w ≡ v)
  behind (inl kept) = inl (later_kept w x xs kept)
  behind (inr is) = inr is

  go : (b : Bool) → In e (cond b ((x.0, put_over slots v x.1) ∷ xs) (x ∷ with_version slots key v xs))
      → (IsKept w (with_version slots key v xs) → IsKept w xs ⊎ (w ≡ v)) → IsKept w (x ∷ xs) ⊎ (w ≡ v)
  go true (inl is) others = put (in_put slots v w x.1 (subst (λ (y : Entry). In w y.1) is there))
  go true (inr later) others = inl (later_kept w x xs (e, later, there))
  go false (inl is) others = inl (first_kept w e x xs is there)
  go false (inr later) others = behind (others (e, later, there))

-- ---- within a file

pub within_none : (file : FileId) (len : ℕ) (es : List Entry) → KeepsWithin file len es es
within_none file len es w kept = inl kept

pub within_at : (other file : FileId) (m n : ℕ) (es fs : List Entry) → other ≡ file → m ≤ n → KeepsWithin other m es fs
    → KeepsWithin file n es fs
within_at other file m n es fs is le within w kept = go (within w kept) where
  go : IsKept w es ⊎ ((w.file ≡ other) × (w.at + w.size ≤ m)) → IsKept w es ⊎ ((w.file ≡ file) × (w.at + w.size ≤ n))
  go (inl was) = inl was
  go (inr here) = inr (here.0 ∙ is, let p = here.1 in omega (arith, p, le))

pub within_more : (file : FileId) (n : ℕ) (es fs gs : List Entry) → KeepsWithin file n es fs → KeepsWithin file n fs gs
    → KeepsWithin file n es gs
within_more file n es fs gs before now w kept = go (now w kept) where
  go : IsKept w fs ⊎ ((w.file ≡ file) × (w.at + w.size ≤ n)) → IsKept w es ⊎ ((w.file ≡ file) × (w.at + w.size ≤ n))
  go (inl was) = before w was
  go (inr here) = inr here

pub within_put : (old mid : Shown) (key : List ℕ) (v : Version) (s n : ℕ) (es : List Entry)
    → mid ≡ record old { spare = s; chain = n } → es ≡ with_version mid.slots key v mid.entries
    → KeepsWithin v.file (v.at + v.size) old.entries es
within_put old mid key v s n es same_but is w kept =
    go (kept_with old.slots key v w old.entries (subst (IsKept w) put_is kept)) where
      put_is : es ≡ with_version old.slots key v old.entries
      put_is = is ∙ ap (λ (d : Shown). with_version d.slots key v d.entries) same_but

      go : IsKept w old.entries ⊎ (w ≡ v) → IsKept w old.entries ⊎ ((w.file ≡ v.file) × (w.at + w.size ≤ v.at + v.size))
      go (inl was) = inl was
      go (inr this) =
          let at : w.at ≡ v.at = ap (λ (x : Version). x.at) this in
          let size : w.size ≡ v.size = ap (λ (x : Version). x.size) this in
          inr (ap (λ (x : Version). x.file) this, omega (arith, at, size))

-- ---- within the files that were found

pub found_none : (es : List Entry) → KeepsFound [] es es
found_none es w kept = inl kept

pub found_one : (f : FileFound) (file : FileId) (len : ℕ) (es fs : List Entry) → f.row.id ≡ file → f.row.len ≡ len
    → KeepsWithin file len es fs → KeepsFound (f ∷ []) es fs
found_one f file len es fs id long within w kept = go (within w kept) where
  go : IsKept w es ⊎ ((w.file ≡ file) × (w.at + w.size ≤ len))
      → IsKept w es ⊎ ((g : FileFound) × In g (f ∷ []) × EndsWithin g w)
  go (inl was) = inl was
  go (inr here) =
      inr (f, inl refl, record { file = here.0 ∙ sym id; within = let p = here.1 in omega (arith, p, long) })

pub found_more : (found : List FileFound) (f : FileFound) (es fs gs : List Entry) → KeepsFound found es fs
    → KeepsFound (f ∷ []) fs gs → KeepsFound (found ++ f ∷ []) es gs
found_more found f es fs gs before now w kept = go (now w kept) where
  was : IsKept w es ⊎ ((g : FileFound) × In g found × EndsWithin g w)
      → IsKept w es ⊎ ((g : FileFound) × In g (found ++ f ∷ []) × EndsWithin g w)
  was (inl kept) = inl kept
  was (inr here) = inr (here.0, in-append_left here.0 found (f ∷ []) here.1, here.2)

  go : IsKept w fs ⊎ ((g : FileFound) × In g (f ∷ []) × EndsWithin g w)
      → IsKept w es ⊎ ((g : FileFound) × In g (found ++ f ∷ []) × EndsWithin g w)
  go (inl kept) = was (before w kept)
  go (inr here) = inr (here.0, in-append_right here.0 found (f ∷ []) here.1, here.2)

-- ---- their rows

pub above_low : (low : ℕ) (fs : List FileFound) (f : FileFound) → FilesRise low fs → In f fs → low ≤ f.row.id.0
above_low low [] f rise is_in = absurd is_in
above_low low (g ∷ gs) f rise (inl is) =
    let id : f.row.id.0 ≡ g.row.id.0 = ap (λ (x : FileFound). x.row.id.0) is in
    let p = rise.0 in omega (arith, id, p)
above_low low (g ∷ gs) f rise (inr later) =
    let p = above_low (g.row.id.0 + 1) gs f rise.1 later in
    let q = rise.0 in omega (arith, p, q)

pub row_of_found : (low : ℕ) (fs : List FileFound) (f : FileFound) → FilesRise low fs → In f fs
    → row_of f.row.id.0 (map found_row fs) ≡ Some f.row
row_of_found low [] f rise is_in = absurd is_in
row_of_found low (g ∷ gs) f rise (inl is) =
    let here : row_of g.row.id.0 (map found_row (g ∷ gs)) ≡ Some g.row =
    ap (λ (b : Bool). cond b (Some g.row) (row_of g.row.id.0 (map found_row gs))) (eq-eqb g.row.id.0 g.row.id.0 refl) in
    subst (λ (x : FileFound). row_of x.row.id.0 (map found_row (g ∷ gs)) ≡ Some x.row) (sym is) here
row_of_found low (g ∷ gs) f rise (inr later) =
    let above = above_low (g.row.id.0 + 1) gs f rise.1 later in
    let other : (g.row.id.0 == f.row.id.0) ≡ false = grind (arith, nat_tests, above) in
    ap (λ (b : Bool). cond b (Some g.row) (row_of f.row.id.0 (map found_row gs))) other
    ∙ row_of_found (g.row.id.0 + 1) gs f rise.1 later
