-- The entries of a listing are the files of the image.
use Rattle.std.proofs.Common.{◌≡◌, ℕ, zero, suc, ◌<◌, false, List, [], ◌∷◌, length, get_or, refl, sym, ◌∙◌, ap, arith, inl, inr}
use Rattle.std.specs.declared.option.Option.TheVariants.{Some}
use Rattle.std.proofs.lemmas.Bool.{cases_Bool}
use Rattle.bk_base.specs.declared.names.Name.{Name}
use Rattle.bk_disk.specs.declared.disks.Listed.{Listed}
use Rattle.bk_disk.specs.Names.{same}
use Rattle.bk_disk.specs.Told.{Image, at, names, IsNotIn, IsOnce, listing}
use Rattle.bk_disk.proofs.Names.{same_refl, same_eq}
use Rattle.bk_disk.proofs.Tables.{at-not_in}

-- a file of this name and length
abbrev pub IsFile : Image → Listed → Type 0
IsFile image l = (bytes : List ℕ) × (at image l.name ≡ Some bytes) × (length bytes ≡ l.len)

apart : (n m : Name) (image : Image) (bytes : List ℕ) → IsNotIn n (names image)
    → at image m ≡ Some bytes → same m n ≡ false
apart n m image bytes none there =
    elim (cases_Bool (same m n)) [
      | inl p ↦ absurd (cc (sym there ∙ ap (λ (k : Name). at image k) (same_eq m n p) ∙ at-not_in n image none))
      | inr p ↦ p
    ]

-- an entry of the listing is a file of the image
pub listed_there : (image : Image) (i : ℕ) (d : Listed) → IsOnce (names image) → i < length image
    → IsFile image (get_or (listing image) i d)
listed_there [] i d once below = absurd (omega arith)
listed_there (e ∷ es) zero d once below = (e.1, rw (same_refl e.0) refl, refl)
listed_there (e ∷ es) (suc i) d once below =
    let (bytes, there, long) = listed_there es i d once.1 (omega arith) in
    let other = apart e.0 (get_or (listing es) i d).name es bytes once.0 there in
    (bytes, rw other there, long)

-- and each file of the image has an entry
pub there_listed : (image : Image) (n : Name) (bytes : List ℕ) (d : Listed) → at image n ≡ Some bytes
    → (i : ℕ) × (i < length image) × (get_or (listing image) i d ≡ record { name = n; len = length bytes })
there_listed [] n bytes d is = absurd (cc is)
there_listed (e ∷ es) n bytes d is =
    elim (cases_Bool (same n e.0)) [
      | inl p ↦
          let here : at (e ∷ es) n ≡ Some e.1 = rw p refl in
          let this : e.1 ≡ bytes = cc (sym here ∙ is) in (
            0,
            omega arith,
            ap (λ (m : Name). record { name = m; len = length e.1 }) (sym (same_eq n e.0 p))
                ∙ ap (λ (b : List ℕ). record { name = n; len = length b }) this,
          )
      | inr p ↦
          let here : at (e ∷ es) n ≡ at es n = rw p refl in
          let (i, below, entry) = there_listed es n bytes d (sym here ∙ is) in
          (suc i, omega (arith, below), entry)
    ]

pub length-listing : (image : Image) → length (listing image) ≡ length image
length-listing [] = refl
length-listing (e ∷ es) = ap suc (length-listing es)
