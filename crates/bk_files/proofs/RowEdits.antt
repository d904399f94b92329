-- A row that is found by its place is the first of its file.
use Rattle.std.proofs.Common.{◌≡◌, ℕ, zero, suc, ◌+◌, ◌<◌, ◌≤◌, ◌==◌, List, [], ◌∷◌, slice_index_or, slice_set, length, refl, sym, ◌∙◌, ap, arith, inl, inr}
use Rattle.std.specs.List.{position, position_from}
use Rattle.std.specs.declared.option.Option.TheVariants.{None, Some}
use Rattle.std.proofs.lemmas.Bool.{cases_Bool}
use Rattle.std.proofs.lemmas.Iterator.Adapters.{position_from-zero}
use Rattle.bk_base.specs.declared.rows.Row.{Row}
use Rattle.bk_base.specs.Places.{IsFirstOf}
use Rattle.bk_base.proofs.Places.{found as first_found}
use Rattle.bk_files.specs.Catalog.{edited, edited_at, row_of}

-- the first row of a file stands at this place
abbrev IsFirst : ℕ → List Row → ℕ → Type 0
IsFirst id rows i = IsFirstOf (λ (r : Row). r.id.0 == id) rows i

found : (id : ℕ) (rows : List Row) (i : ℕ) → position (λ r. r.id.0 == id) rows ≡ Some i → IsFirst id rows i
found id rows i is = first_found (λ (r : Row). r.id.0 == id) rows i is

first_edited : (id : ℕ) (f : Row → Row) (rows : List Row) (i : ℕ) (x : Row) → IsFirst id rows i
    → x ≡ slice_index_or rows i x → slice_set rows i (f x) ≡ edited id f rows
first_edited id f [] i x h g = absurd h
first_edited id f (r ∷ rs) zero x h g = rw h (ap (λ y. f y ∷ rs) g)
first_edited id f (r ∷ rs) (suc i) x h g = rw h.0 (ap (λ t. r ∷ t) (first_edited id f rs i x h.1 g))

first_row : (id : ℕ) (rows : List Row) (i : ℕ) (x : Row) → IsFirst id rows i
    → x ≡ slice_index_or rows i x → Some x ≡ row_of id rows
first_row id [] i x h g = absurd h
first_row id (r ∷ rs) zero x h g = rw h (ap (λ y. Some y) g)
first_row id (r ∷ rs) (suc i) x h g = rw h.0 (first_row id rs i x h.1 g)

-- the row at the place that a search found, edited
pub edited_found : (id : ℕ) (f : Row → Row) (rows : List Row) (i : ℕ) (x : Row)
    → position (λ r. r.id.0 == id) rows ≡ Some i → x ≡ slice_index_or rows i x
    → slice_set rows i (f x) ≡ edited id f rows
edited_found id f rows i x is g = first_edited id f rows i x (found id rows i is) g

pub row_at : (id : ℕ) (rows : List Row) (i : ℕ) (x : Row) → position (λ r. r.id.0 == id) rows ≡ Some i
    → x ≡ slice_index_or rows i x → Some x ≡ row_of id rows
row_at id rows i x is g = first_row id rows i x (found id rows i is) g

none_from : (id j : ℕ) (f : Row → Row) (rows : List Row)
    → position_from (λ r. r.id.0 == id) j rows ≡ None → (edited id f rows ≡ rows) × (row_of id rows ≡ None)
none_from id j f [] h = (refl, refl)
none_from id j f (r ∷ rs) h =
    elim (cases_Bool (r.id.0 == id)) [
      | inl p ↦ let is : Some j ≡ None = rw p at h in absurd (cc is)
      | inr p ↦ let k = none_from id (j + 1) f rs (rw p at h) in (rw p (ap (λ t. r ∷ t) k.0), rw p k.1)
    ]

pub none_edited : (id : ℕ) (f : Row → Row) (rows : List Row)
    → position (λ r. r.id.0 == id) rows ≡ None → rows ≡ edited id f rows
none_edited id f rows is =
    sym (none_from id 0 f rows (sym (position_from-zero (λ (r : Row). r.id.0 == id) rows) ∙ is)).0

pub no_row : (id : ℕ) (rows : List Row) → position (λ r. r.id.0 == id) rows ≡ None → None ≡ row_of id rows
no_row id rows is =
    sym (none_from id 0 (λ r. r) rows (sym (position_from-zero (λ (r : Row). r.id.0 == id) rows) ∙ is)).1

-- the row at a place, edited
pub edited_at-set : (f : Row → Row) (rows : List Row) (i : ℕ) (x : Row) → i < length rows
    → x ≡ slice_index_or rows i x → slice_set rows i (f x) ≡ edited_at i f rows
edited_at-set f [] i x low g = absurd (omega (arith, low))
edited_at-set f (r ∷ rs) zero x low g = ap (λ y. f y ∷ rs) g
edited_at-set f (r ∷ rs) (suc i) x low g = ap (λ t. r ∷ t) (edited_at-set f rs i x (omega (arith, low)) g)

pub edited_at-past : (f : Row → Row) (rows : List Row) (i : ℕ) → length rows ≤ i → rows ≡ edited_at i f rows
edited_at-past f [] i high = refl
edited_at-past f (r ∷ rs) zero high = absurd (omega (arith, high))
edited_at-past f (r ∷ rs) (suc i) high = ap (λ t. r ∷ t) (edited_at-past f rs i (omega (arith, high)))
