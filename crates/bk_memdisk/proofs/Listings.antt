-- A file is made, put there, renamed or removed.
use Rattle.std.proofs.Common.{◌≡◌, ◌⊎◌, ℕ, ◌+◌, ◌-◌, ◌<◌, ◌≤◌, Bool, true, false, cond, List, []}
use Rattle.std.proofs.Common.{◌∷◌, ◌++◌, length, map, set, get_or, sum_by, refl, sym, ◌∙◌, ap}
use Rattle.std.proofs.Common.{arith, subst, inl, inr}
use Rattle.std.specs.Prelude.{Vec, IfOk, Result, Ok, Err}
use Rattle.std.specs.declared.alloc.Global.{Global}
use Rattle.std.specs.List.{position, remove}
use Rattle.std.specs.declared.option.Option.{Option}
use Rattle.std.specs.declared.option.Option.TheVariants.{None, Some}
use Rattle.std.specs.Option.{is_some, unwrap_or}
use Rattle.std.proofs.lemmas.List.Sums.{sum_by-remove, sum_by-append}
use Rattle.bk_base.specs.declared.names.Name.{Name}
use Rattle.bk_disk.specs.declared.disks.Listed.{Listed}
use Rattle.bk_disk.specs.Names.{same}
use Rattle.bk_disk.specs.Told.{Table, Front, at, listing, changed, with_name, without, renamed}
use Rattle.bk_disk.specs.Calls.{Becomes, fresh}
use Rattle.bk_disk.proofs.Tables.{is_some-at, has, renamed-absent, at-renamed_other, at-without_other}
use Rattle.bk_memdisk.specs.declared.changes.Change.{Change}
use Rattle.bk_memdisk.specs.declared.files.MemFile.{MemFile}
use Rattle.bk_memdisk.specs.Contents.{placed}
use Rattle.bk_memdisk.specs.Journal.{Kept, after, after_all, fronts_of}
use Rattle.bk_memdisk.specs.Fits.{IsFirst, Fits, Tied, image_of, rooms_of, owed}
use Rattle.bk_memdisk.proofs.Entries.{after_all-append, told_of, becomes, becomes_untold}
use Rattle.bk_memdisk.proofs.Entries.{is_some-fronts_of, fronts-with_name, fronts-placed}
use Rattle.bk_memdisk.proofs.Entries.{fronts-without, fronts-renamed}
use Rattle.bk_memdisk.proofs.Edits
use Rattle.bk_memdisk.proofs.Places.{at-first, found, at-not_found, renamed-first, without-first}
use Rattle.bk_memdisk.proofs.Places.{tied_names, tied_append, tied_renamed, tied_without}
use Rattle.bk_memdisk.proofs.Places.{table_of-append}

without-absent : {X : Type 0} (n : Name) (t : Table X) → is_some (at t n) ≡ false → without n t ≡ t
without-absent n [] h = refl
without-absent n (e ∷ es) h = grind (arith, without-absent n es)

-- a file is there by the journal exactly where it is there
pub tied_there : (n : Name) (files : List MemFile) (t : Table Kept) → Tied files t
    → is_some (at t n) ≡ is_some (at (image_of files) n)
tied_there n files t tied = is_some-at n t ∙ ap (λ ns. has ns n) (tied_names files t tied)
    ∙ sym (is_some-at n (image_of files))

pub front_there : (n : Name) (files : List MemFile) (t : Table Kept) → Tied files t
    → is_some (at (fronts_of t) n) ≡ is_some (at (image_of files) n)
front_there n files t tied = is_some-fronts_of n t ∙ tied_there n files t tied

pub not_there : (n : Name) (files : List MemFile) → position (λ f. same n f.name) files ≡ None
    → is_some (at (image_of files) n) ≡ false
not_there n files none = ap is_some (at-not_found (λ f. f.bytes.items) n files none)

pub is_there : (n : Name) (files : List MemFile) (i : ℕ) → IsFirst n files i → is_some (at (image_of files) n) ≡ true
is_there n [] i first = absurd first
is_there n (f ∷ fs) i first = ap is_some (at-first (λ f. f.bytes.items) n (f ∷ fs) i f first)

-- a search finds a file exactly where one is there
pub same_there : (n : Name) (files : List MemFile)
    → is_some (position (λ f. same n f.name) files) ≡ is_some (at (image_of files) n)
same_there n files = go (position (λ f. same n f.name) files) refl where
  go : (o : Option ℕ) → position (λ f. same n f.name) files ≡ o
      → is_some (position (λ f. same n f.name) files) ≡ is_some (at (image_of files) n)
  go (Some i) h = ap is_some h ∙ sym (is_there n files i (found n files i h))
  go None h = ap is_some h ∙ sym (not_there n files h)

pub listing_of : (files : List MemFile)
    → listing (image_of files) ≡ map
    (λ (f : MemFile). record { name = f.name; len = length f.bytes.items }) files
listing_of [] = refl
listing_of (f ∷ fs) = ap (λ t. record { name = f.name; len = length f.bytes.items } ∷ t) (listing_of fs)

pub listed_all : {E : Type 0} (files : List MemFile) (r : Result (Vec Listed Global) E)
    → IfOk r (λ l. l.items ≡ map (λ (f : MemFile). record { name = f.name; len = length f.bytes.items }) files)
    → IfOk r (λ l. l.items ≡ listing (image_of files))
listed_all files (Ok l) h = h ∙ sym (listing_of files)
listed_all files (Err e) h = tt

pub one_at_most : (lent : Bool) → cond lent 1 0 ≤ 1
one_at_most lent = grind arith

module _ (files : List MemFile) (cs : List Change) (tied : Tied files (after_all [] cs))
    (asked : List Listed) (stray_views : ℕ) where
  -- the name is there already
  pub made_already : (n : Name) (lent : Bool) → is_some (at (image_of files) n) ≡ true
      → Becomes (with_name n []) (with_name n (fresh lent)) (told_of (image_of files) cs asked stray_views)
      (told_of (image_of files) cs asked stray_views)
  made_already n lent there =
      becomes_untold (with_name n []) (with_name n (fresh lent)) (image_of files) (image_of files) cs asked stray_views
      (rw there refl) (rw (front_there n files (after_all [] cs) tied ∙ there) refl)

  -- the name isn't there
  pub removed_already : (n : Name) → is_some (at (image_of files) n) ≡ false
      → Becomes (without n) (without n) (told_of (image_of files) cs asked stray_views) (told_of (image_of files)
      cs asked stray_views)
  removed_already n absent =
      becomes_untold (without n) (without n) (image_of files) (image_of files) cs asked stray_views
      (sym (without-absent n (image_of files) absent)) (sym (without-absent n (fronts_of (after_all [] cs))
      (front_there n files (after_all [] cs) tied ∙ absent)))

  pub renamed_already : (from to : Name) → is_some (at (image_of files) from) ≡ false
      → Becomes (renamed from to) (renamed from to) (told_of (image_of files) cs asked stray_views)
      (told_of (image_of files) cs asked stray_views)
  renamed_already from to absent =
      becomes_untold (renamed from to) (renamed from to) (image_of files) (image_of files) cs asked stray_views
      (sym (renamed-absent from to (image_of files) absent))
      (sym (renamed-absent from to (fronts_of (after_all [] cs)) (front_there from files (after_all [] cs) tied
      ∙ absent)))

-- a new file stands at the end
module _ (name : Name) (files : List MemFile) (cs ds : List Change) (f : MemFile) (k : Kept) (c : Change)
    (tied : Tied files (after_all [] cs)) (absent : is_some (at (image_of files) name) ≡ false)
    (more : ds ≡ cs ++ c ∷ []) (is : f.name ≡ name) (fits : Fits f k) where
  no_word : is_some (at (after_all [] cs) name) ≡ false
  no_word = tied_there name files (after_all [] cs) tied ∙ absent

  pub added_tied : (after (after_all [] cs) c ≡ with_name name k (after_all [] cs)) ⊎ (after (after_all [] cs) c ≡
      placed name k (after_all [] cs)) → Tied (files ++ f ∷ []) (after_all [] ds)
  added_tied change =
      let grown : after (after_all [] cs) c ≡ after_all [] cs ++ (f.name, k) ∷ [] = elim change [
        | inl h ↦ h
            ∙ rw (no_word, is) refl
        | inr h ↦ h ∙ rw (no_word, is) refl
      ] in
      subst (Tied (files ++ f ∷ [])) (sym (ap (after_all []) more ∙ after_all-append [] cs c ∙ grown))
      (tied_append files (after_all [] cs) f k tied fits)

  grown_image : image_of (files ++ f ∷ []) ≡ image_of files ++ (name, f.bytes.items) ∷ []
  grown_image = table_of-append (λ f. f.bytes.items) files f ∙ ap (λ n. image_of files ++ (n, f.bytes.items) ∷ []) is

  pub made_told : (asked : List Listed) (stray_views : ℕ) (lent : Bool)
      → after (after_all [] cs) c ≡ with_name name k (after_all [] cs) → f.bytes.items ≡ [] → k.front ≡ fresh lent
      → Becomes (with_name name []) (with_name name (fresh lent)) (told_of (image_of files) cs asked stray_views)
      (told_of (image_of (files ++ f ∷ [])) ds asked stray_views)
  made_told asked stray_views lent change empty front =
      becomes (with_name name []) (with_name name (fresh lent)) (image_of files)
      (image_of (files ++ f ∷ [])) cs ds c asked stray_views more
      (grown_image ∙ rw (absent, empty) refl)
      (ap fronts_of change ∙ fronts-with_name name k (after_all [] cs)
      ∙ ap (λ x. with_name name x (fronts_of (after_all [] cs))) front)

  pub put_told : (asked : List Listed) (stray_views : ℕ) (bytes : List ℕ) (front : Front)
      → after (after_all [] cs) c ≡ placed name k (after_all [] cs) → f.bytes.items ≡ bytes → k.front ≡ front
      → Becomes (placed name bytes) (placed name front) (told_of (image_of files) cs asked stray_views)
      (told_of (image_of (files ++ f ∷ [])) ds asked stray_views)
  put_told asked stray_views bytes front change same_bytes same_front =
      becomes (placed name bytes) (placed name front) (image_of files) (image_of (files ++ f ∷ [])) cs
      ds c asked stray_views more
      (grown_image ∙ rw (absent, same_bytes) refl)
      (ap fronts_of change ∙ fronts-placed name k (after_all [] cs)
      ∙ ap (λ x. placed name x (fronts_of (after_all [] cs))) same_front)

room_append : (t : Table ℕ) (e : Name × ℕ) (n : Name) → unwrap_or (at t n) 0 ≤ unwrap_or (at (t ++ e ∷ []) n) 0
room_append [] e n = omega arith
room_append (d ∷ ds) e n = grind (arith, room_append ds e n)

pub added_rooms : (files : List MemFile) (f : MemFile) (n : Name)
    → unwrap_or (at (rooms_of files) n) 0 ≤ unwrap_or (at (rooms_of (files ++ f ∷ [])) n) 0
added_rooms files f n =
    let grown = table_of-append (λ f. f.room) files f in
    subst (λ t. unwrap_or (at (rooms_of files) n) 0 ≤ unwrap_or (at t n) 0) (sym grown)
    (room_append (rooms_of files) (f.name, f.room) n)

-- the file has another name now
module _ (from to : Name) (files : List MemFile) (cs ds : List Change) (i : ℕ) (x g : MemFile) (c : Change)
    (tied : Tied files (after_all [] cs)) (first : IsFirst from files i)
    (same_file : x ≡ get_or files i x) (more : ds ≡ cs ++ c ∷ []) (is : g.name ≡ to)
    (fits : (k : Kept) → Fits x k → Fits g k)
    (change : after (after_all [] cs) c ≡ renamed from to (after_all [] cs)) where
  pub moved_tied : Tied (set files i g) (after_all [] ds)
  moved_tied =
      subst (Tied (set files i g)) (sym (ap (after_all []) more ∙ after_all-append [] cs c ∙ change))
      (tied_renamed from to files (after_all [] cs) i x g tied first is
      (λ k h. fits k (subst (λ y. Fits y k) (sym same_file) h)))

  pub moved_told : (asked : List Listed) (stray_views : ℕ) → g.bytes.items ≡ x.bytes.items
      → Becomes (renamed from to) (renamed from to) (told_of (image_of files) cs asked stray_views)
      (told_of (image_of (set files i g)) ds asked stray_views)
  moved_told asked stray_views bytes =
      becomes (renamed from to) (renamed from to) (image_of files) (image_of (set files i g)) cs ds c
      asked stray_views more
      (renamed-first (λ f. f.bytes.items) from to files i x g first is
      (bytes ∙ ap (λ (f : MemFile). f.bytes.items) same_file))
      (ap fronts_of change ∙ fronts-renamed from to (after_all [] cs))

  pub moved_rooms : g.room ≡ x.room → (n : Name) → same n from ≡ false → same n to ≡ false
      → unwrap_or (at (rooms_of (set files i g)) n) 0 ≡ unwrap_or (at (rooms_of files) n) 0
  moved_rooms room n one other =
      ap (λ t. unwrap_or (at t n) 0)
      (renamed-first (λ f. f.room) from to files i x g first is
      (room ∙ ap (λ (f : MemFile). f.room) same_file))
      ∙ ap (λ o. unwrap_or o 0) (at-renamed_other from to n (rooms_of files) one other)

-- the file is gone
module _ (name : Name) (files : List MemFile) (cs ds : List Change) (i : ℕ) (c : Change)
    (tied : Tied files (after_all [] cs)) (first : IsFirst name files i) (more : ds ≡ cs ++ c ∷ [])
    (change : after (after_all [] cs) c ≡ without name (after_all [] cs)) where
  pub gone_tied : Tied (remove files i) (after_all [] ds)
  gone_tied = subst (Tied (remove files i)) (sym (ap (after_all []) more ∙ after_all-append [] cs c ∙ change))
      (tied_without name files (after_all [] cs) i tied first)

  pub gone_told : (asked : List Listed) (stray_views : ℕ)
      → Becomes (without name) (without name) (told_of (image_of files) cs asked stray_views)
      (told_of (image_of (remove files i)) ds asked stray_views)
  gone_told asked stray_views =
      becomes (without name) (without name) (image_of files) (image_of (remove files i)) cs ds c asked stray_views more
      (without-first (λ f. f.bytes.items) name files i first)
      (ap fronts_of change ∙ fronts-without name (after_all [] cs))

  pub gone_rooms : (n : Name) → same n name ≡ false
      → unwrap_or (at (rooms_of (remove files i)) n) 0 ≡ unwrap_or (at (rooms_of files) n) 0
  gone_rooms n other =
      ap (λ t. unwrap_or (at t n) 0) (without-first (λ f. f.room) name files i first)
      ∙ ap (λ o. unwrap_or o 0) (at-without_other name n (rooms_of files) other)

-- The entries of the journal that are reserved

pub owed_removed : (files : List MemFile) (i : ℕ) (x : MemFile) (reserved : ℕ) → i < length files
    → x ≡ get_or files i x → reserved ≡ sum_by owed files → reserved - owed x ≡ sum_by owed (remove files i)
owed_removed files i x reserved below is all =
    let sums : sum_by owed (remove files i) + owed (get_or files i x) ≡ sum_by owed files =
    sum_by-remove owed files i x below in
    let this : owed (get_or files i x) ≡ owed x = ap owed (sym is) in
    omega (arith, sums, this, all)

pub owed_added : (files : List MemFile) (f : MemFile) (reserved : ℕ) → reserved ≡ sum_by owed files
    → reserved + owed f ≡ sum_by owed (files ++ f ∷ [])
owed_added files f reserved all = omega (arith, all, sum_by-append owed files (f ∷ []))

-- A file is put in the place of another
module _ (name : Name) (files : List MemFile) (cs ds : List Change) (i : ℕ) (x g : MemFile) (c : Change) (k : Kept)
    (tied : Tied files (after_all [] cs)) (first : IsFirst name files i) (is : x ≡ get_or files i x)
    (more : ds ≡ cs ++ c ∷ []) (named : g.name ≡ name) (fits : Fits g k) (change : after (after_all [] cs) c ≡
    placed name k (after_all [] cs)) where
  here : is_some (at (image_of files) name) ≡ true
  here = is_there name files i first

  same_name : g.name ≡ x.name
  same_name = named ∙ sym (Edits.name_is name files (after_all [] cs) i x tied first is)

  changed_word : after (after_all [] cs) c ≡ changed x.name (λ _. k) (after_all [] cs)
  changed_word =
      let word : is_some (at (after_all [] cs) name) ≡ true = tied_there name files (after_all [] cs) tied ∙ here in
      change ∙ rw word
      (ap (λ n. changed n (λ _. k) (after_all [] cs))
      (sym (Edits.name_is name files (after_all [] cs) i x tied first is)))

  pub replaced_tied : Tied (set files i g) (after_all [] ds)
  replaced_tied =
      Edits.edited_tied name files cs ds i x g c (λ _. k) tied first is more same_name (λ j h. fits)
      changed_word

  pub replaced_told : (asked : List Listed) (stray_views : ℕ) (bytes : List ℕ) (front : Front)
      → g.bytes.items ≡ bytes → k.front ≡ front
      → Becomes (placed name bytes) (placed name front) (told_of (image_of files) cs asked stray_views)
      (told_of (image_of (set files i g)) ds asked stray_views)
  replaced_told asked stray_views bytes front same_bytes same_front =
      let edit = Edits.edited_told name files cs ds i x g c (λ _. k) tied first is more same_name (λ j h. fits)
      changed_word (λ _. bytes) (λ _. front) asked stray_views same_bytes (λ j h. same_front) in
      record {
        passes = edit.passes;
        image = edit.image ∙ rw here refl;
        fronts = edit.fronts ∙ rw (front_there name files (after_all [] cs) tied ∙ here) refl;
        asked = edit.asked;
        stray_views = edit.stray_views;
      }
