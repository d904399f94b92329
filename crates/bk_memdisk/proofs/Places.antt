-- The files of a directory by their places.
use Rattle.std.proofs.Common.{◌≡◌, ℕ, zero, suc, ◌+◌, ◌<◌, List, [], ◌∷◌, ◌++◌, length, map, set, get_or, refl, sym, ◌∙◌, ap, arith, subst, inl, inr}
use Rattle.std.specs.List.{position, position_from, remove}
use Rattle.std.specs.declared.option.Option.{Option}
use Rattle.std.specs.declared.option.Option.TheVariants.{None, Some}
use Rattle.std.specs.Option.{IsSome}
use Rattle.std.proofs.lemmas.Bool.{cases_Bool}
use Rattle.std.proofs.lemmas.Iterator.Adapters.{position_from-zero}
use Rattle.bk_base.specs.declared.names.Name.{Name}
use Rattle.bk_base.proofs.Places.{found as first_found}
use Rattle.bk_disk.specs.Names.{same}
use Rattle.bk_disk.specs.Told.{Table, at, names, changed, without, renamed}
use Rattle.bk_disk.proofs.Names.{same_eq}
use Rattle.bk_memdisk.specs.declared.files.MemFile.{MemFile}
use Rattle.bk_memdisk.specs.Journal.{Kept}
use Rattle.bk_memdisk.specs.Fits.{IsFirst, Fits, Tied, image_of}

-- what a search found
pub found : (name : Name) (files : List MemFile) (i : ℕ)
    → position (λ f. same name f.name) files ≡ Some i → IsFirst name files i
found name files i is = first_found (λ (f : MemFile). same name f.name) files i is

pub first_below : (name : Name) (files : List MemFile) (i : ℕ) → IsFirst name files i → i < length files
first_below name [] i h = absurd h
first_below name (f ∷ fs) zero h = omega arith
first_below name (f ∷ fs) (suc i) h = let below = first_below name fs i h.1 in omega arith

pub first_name : (name : Name) (files : List MemFile) (i : ℕ) (d : MemFile) → IsFirst name files i
    → (get_or files i d).name ≡ name
first_name name [] i d h = absurd h
first_name name (f ∷ fs) zero d h = sym (same_eq name f.name h)
first_name name (f ∷ fs) (suc i) d h = first_name name fs i d h.1

-- a value of each file by its name
abbrev pub table_of : {X : Type 0} → (MemFile → X) → List MemFile → Table X
table_of v files = map (λ (f : MemFile). (f.name, v f)) files

pub at-first : {X : Type 0} (v : MemFile → X) (name : Name) (files : List MemFile) (i : ℕ) (d : MemFile)
    → IsFirst name files i → at (table_of v files) name ≡ Some (v (get_or files i d))
at-first v name [] i d h = absurd h
at-first v name (f ∷ fs) zero d h = rw h refl
at-first v name (f ∷ fs) (suc i) d h = rw h.0 (at-first v name fs i d h.1)

pub changed-first : {X : Type 0} (v : MemFile → X) (name : Name) (files : List MemFile) (i : ℕ) (d g : MemFile)
    (h : X → X) → IsFirst name files i → g.name ≡ (get_or files i d).name → v g ≡ h (v (get_or files i d))
    → table_of v (set files i g) ≡ changed name h (table_of v files)
changed-first v name [] i d g h first same_name is = absurd first
changed-first v name (f ∷ fs) zero d g h first same_name is = rw (is, first, same_name) refl
changed-first v name (f ∷ fs) (suc i) d g h first same_name is =
    rw first.0 (ap (λ t. (f.name, v f) ∷ t) (changed-first v name fs i d g h first.1 same_name is))

pub unchanged : {X : Type 0} (v : MemFile → X) (files : List MemFile) (i : ℕ) (d g : MemFile) → i < length files
    → g.name ≡ (get_or files i d).name → v g ≡ v (get_or files i d) → table_of v (set files i g) ≡ table_of v files
unchanged v [] i d g lt same_name is = absurd (omega arith)
unchanged v (f ∷ fs) zero d g lt same_name is = rw (is, same_name) refl
unchanged v (f ∷ fs) (suc i) d g lt same_name is =
    ap (λ t. (f.name, v f) ∷ t) (unchanged v fs i d g (omega arith) same_name is)

-- The files and the journal

pub tied_names : (files : List MemFile) (t : Table Kept) → Tied files t → names t ≡ names (image_of files)
tied_names [] [] h = refl
tied_names [] (e ∷ es) h = absurd h
tied_names (f ∷ fs) [] h = absurd h
tied_names (f ∷ fs) (e ∷ es) h = ap (λ n. n ∷ names es) (sym h.0) ∙ ap (λ ns. f.name ∷ ns) (tied_names fs es h.2)

-- the journal's word on the first file of a name
pub tied_first : (name : Name) (files : List MemFile) (t : Table Kept) (i : ℕ) (d : MemFile) → Tied files t
    → IsFirst name files i → (k : Kept) × (at t name ≡ Some k) × Fits (get_or files i d) k
tied_first name [] [] i d h first = absurd first
tied_first name [] (e ∷ es) i d h first = absurd first
tied_first name (f ∷ fs) [] i d h first = absurd h
tied_first name (f ∷ fs) (e ∷ es) zero d h first = (e.1, rw (← h.0, first) refl, h.1)
tied_first name (f ∷ fs) (e ∷ es) (suc i) d h first = rw (← h.0, first.0) (tied_first name fs es i d h.2 first.1)

pub tied_changed : (name : Name) (files : List MemFile) (t : Table Kept) (i : ℕ) (d g : MemFile) (step : Kept
    → Kept) → Tied files t → IsFirst name files i → g.name ≡ (get_or files i d).name
    → ((k : Kept) → Fits (get_or files i d) k → Fits g (step k)) → Tied (set files i g) (changed name step t)
tied_changed name [] t i d g step h first same_name fits = absurd first
tied_changed name (f ∷ fs) [] i d g step h first same_name fits = absurd h
tied_changed name (f ∷ fs) (e ∷ es) zero d g step h first same_name fits =
    rw (← h.0, first) (same_name, fits e.1 h.1, h.2)
tied_changed name (f ∷ fs) (e ∷ es) (suc i) d g step h first same_name fits =
    rw (← h.0, first.0) (refl, h.1, tied_changed name fs es i d g step h.2 first.1 same_name fits)

pub tied_set : (files : List MemFile) (t : Table Kept) (i : ℕ) (d g : MemFile) → Tied files t → i < length files
    → g.name ≡ (get_or files i d).name → ((k : Kept) → Fits (get_or files i d) k → Fits g k) → Tied (set files i g) t
tied_set [] t i d g h lt same_name fits = absurd (omega arith)
tied_set (f ∷ fs) [] i d g h lt same_name fits = absurd h
tied_set (f ∷ fs) (e ∷ es) zero d g h lt same_name fits = (same_name ∙ h.0, fits e.1 h.1, h.2)
tied_set (f ∷ fs) (e ∷ es) (suc i) d g h lt same_name fits =
    (h.0, h.1, tied_set fs es i d g h.2 (omega arith) same_name fits)

pub tied_append : (files : List MemFile) (t : Table Kept) (f : MemFile) (k : Kept) → Tied files t
    → Fits f k → Tied (files ++ f ∷ []) (t ++ (f.name, k) ∷ [])
tied_append [] [] f k h fits = (refl, fits, tt)
tied_append [] (e ∷ es) f k h fits = absurd h
tied_append (g ∷ gs) [] f k h fits = absurd h
tied_append (g ∷ gs) (e ∷ es) f k h fits = (h.0, h.1, tied_append gs es f k h.2 fits)

-- the file is under another name now
pub tied_renamed : (from to : Name) (files : List MemFile) (t : Table Kept) (i : ℕ) (d g : MemFile) → Tied files t
    → IsFirst from files i → g.name ≡ to → ((k : Kept) → Fits (get_or files i d) k → Fits g k)
    → Tied (set files i g) (renamed from to t)
tied_renamed from to [] t i d g h first is fits = absurd first
tied_renamed from to (f ∷ fs) [] i d g h first is fits = absurd h
tied_renamed from to (f ∷ fs) (e ∷ es) zero d g h first is fits = rw (← h.0, first) (is, fits e.1 h.1, h.2)
tied_renamed from to (f ∷ fs) (e ∷ es) (suc i) d g h first is fits =
    rw (← h.0, first.0) (refl, h.1, tied_renamed from to fs es i d g h.2 first.1 is fits)

pub renamed-first : {X : Type 0} (v : MemFile → X) (from to : Name) (files : List MemFile) (i : ℕ) (d g : MemFile)
    → IsFirst from files i → g.name ≡ to → v g ≡ v (get_or files i d)
    → table_of v (set files i g) ≡ renamed from to (table_of v files)
renamed-first v from to [] i d g first is same_value = absurd first
renamed-first v from to (f ∷ fs) zero d g first is same_value = rw (same_value, first, is) refl
renamed-first v from to (f ∷ fs) (suc i) d g first is same_value = rw first.0 (ap (λ t. (f.name, v f) ∷ t)
    (renamed-first v from to fs i d g first.1 is same_value))

pub tied_without : (name : Name) (files : List MemFile) (t : Table Kept) (i : ℕ) → Tied files t
    → IsFirst name files i → Tied (remove files i) (without name t)
tied_without name [] t i h first = absurd first
tied_without name (f ∷ fs) [] i h first = absurd h
tied_without name (f ∷ fs) (e ∷ es) zero h first = rw (← h.0, first) h.2
tied_without name (f ∷ fs) (e ∷ es) (suc i) h first =
    rw (← h.0, first.0) (refl, h.1, tied_without name fs es i h.2 first.1)

pub without-first : {X : Type 0} (v : MemFile → X) (name : Name) (files : List MemFile) (i : ℕ)
    → IsFirst name files i → table_of v (remove files i) ≡ without name (table_of v files)
without-first v name [] i first = absurd first
without-first v name (f ∷ fs) zero first = rw first refl
without-first v name (f ∷ fs) (suc i) first =
    rw first.0 (ap (λ t. (f.name, v f) ∷ t) (without-first v name fs i first.1))

pub table_of-append : {X : Type 0} (v : MemFile → X) (files : List MemFile) (f : MemFile)
    → table_of v (files ++ f ∷ []) ≡ table_of v files ++ (f.name, v f) ∷ []
table_of-append v [] f = refl
table_of-append v (g ∷ gs) f = ap (λ t. (g.name, v g) ∷ t) (table_of-append v gs f)

-- no file has the name
not_from : {X : Type 0} (v : MemFile → X) (name : Name) (i : ℕ) (files : List MemFile)
    → position_from (λ f. same name f.name) i files ≡ None → at (table_of v files) name ≡ None
not_from v name i [] h = refl
not_from v name i (f ∷ fs) h =
    elim (cases_Bool (same name f.name))
    [ inl p ↦ absurd (cc (rw p at h)) | inr p ↦ rw p (not_from v name (i + 1) fs (rw p at h)) ]

pub at-not_found : {X : Type 0} (v : MemFile → X) (name : Name) (files : List MemFile)
    → position (λ f. same name f.name) files ≡ None → at (table_of v files) name ≡ None
at-not_found v name files none =
    not_from v name 0 files (sym (position_from-zero (λ (f : MemFile). same name f.name) files) ∙ none)

pub there_found : (name : Name) (files : List MemFile) → IsSome (at (image_of files) name)
    → IsSome (position (λ f. same name f.name) files)
there_found name files there = go (position (λ f. same name f.name) files) refl where
  go : (o : Option ℕ) → position (λ f. same name f.name) files ≡ o → IsSome o
  go (Some i) h = refl
  go None h = subst (λ o. IsSome o) (at-not_found (λ f. f.bytes.items) name files h) there
