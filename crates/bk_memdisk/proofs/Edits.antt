-- A file is edited in its place, and the journal says so by one entry.
use Rattle.std.proofs.Common.{◌≡◌, ◌==◌, ℕ, ◌+◌, ◌-◌, ◌<◌, ◌≤◌, max, Bool, true, false, List, []}
use Rattle.std.proofs.Common.{◌∷◌, ◌++◌, length, take, set, get_or, sum_by, refl, sym, ◌∙◌, ap}
use Rattle.std.proofs.Common.{arith, subst, inl, inr}
use Rattle.std.specs.declared.option.Option.TheVariants.{Some}
use Rattle.std.specs.Option.{option_map, IsSomeAnd, IfSome, unwrap_or}
use Rattle.std.proofs.lemmas.Bool.{cases_Bool}
use Rattle.std.proofs.lemmas.List.{take_all, length-take, set-get_or, append-nil}
use Rattle.std.proofs.lemmas.List.Sums.{sum_by-set, get_or-le-sum_by}
use Rattle.bk_base.specs.declared.names.Name.{Name}
use Rattle.bk_disk.specs.declared.disks.Listed.{Listed}
use Rattle.bk_disk.specs.Names.{same}
use Rattle.bk_disk.specs.Told.{Table, Front, at, changed, bytes_of}
use Rattle.bk_disk.specs.Calls.{Becomes, pending_more, all_synced, brought_back}
use Rattle.bk_disk.proofs.Names.{same_eq}
use Rattle.bk_disk.proofs.Tables.{at-changed, at-changed_other}
use Rattle.bk_memdisk.specs.declared.changes.Change.{Change}
use Rattle.bk_memdisk.specs.declared.files.MemFile.{MemFile}
use Rattle.bk_memdisk.specs.Journal.{Kept, after, after_all, fronts_of, handed, synced, returned}
use Rattle.bk_memdisk.specs.Fits.{IsFirst, Fits, Tied, image_of, rooms_of, owed}
use Rattle.bk_memdisk.proofs.Entries.{after_all-append, told_of, becomes, becomes_untold, at-fronts_of, fronts-changed}
use Rattle.bk_memdisk.proofs.Places.{at-first, changed-first, unchanged, tied_first, tied_changed, tied_set, first_name}

pub empty_from : (xs : List ℕ) (is : Bool) → is ≡ (length xs == 0) → is ≡ true → xs ≡ []
empty_from [] is h e = refl
empty_from (x ∷ xs) is h e = absurd (grind (arith, h, e))

pub some_from : (xs : List ℕ) (room : ℕ) (is : Bool) → is ≡ (length xs == 0) → is ≡ false → length xs ≤ room → 0 < room
some_from [] room is h e le = absurd (grind (arith, h, e))
some_from (x ∷ xs) room is h e le = omega (arith, le)

-- What the fronts and the image say of the file that stands first under a name

module _ (name : Name) (files : List MemFile) (t : Table Kept) (i : ℕ) (x : MemFile) (tied : Tied files t)
    (first : IsFirst name files i) (is : x ≡ get_or files i x) where
  -- the journal's word on it
  pub known : (k : Kept) × (at t name ≡ Some k) × Fits x k
  known = let h = tied_first name files t i x tied first in (h.0, h.1, subst (λ y. Fits y h.0) (sym is) h.2)

  pub front_is : (k : Kept) × (at (fronts_of t) name ≡ Some k.front) × Fits x k
  front_is = let h = known in (h.0, at-fronts_of name t ∙ ap (option_map (λ (k : Kept). k.front)) h.1, h.2)

  pub file_bytes : at (image_of files) name ≡ Some x.bytes.items
  file_bytes = at-first (λ f. f.bytes.items) name files i x first ∙ ap (λ (f : MemFile). Some f.bytes.items) (sym is)

  pub bytes_is : bytes_of name (image_of files) ≡ x.bytes.items
  bytes_is = ap (λ o. unwrap_or o []) file_bytes

  pub room_is : unwrap_or (at (rooms_of files) name) 0 ≡ x.room
  room_is =
      ap (λ o. unwrap_or o 0)
      (at-first (λ f. f.room) name files i x first ∙ ap (λ (f : MemFile). Some f.room) (sym is))

  pub name_is : x.name ≡ name
  name_is = ap (λ (f : MemFile). f.name) is ∙ first_name name files i x first

  pub lent_is : (lent : Bool) → IsSomeAnd (at (fronts_of t) name) (λ f. f.lent ≡ lent) → x.lent ≡ lent
  lent_is lent h = let k = front_is in sym k.2.lent ∙ subst (λ o. IsSomeAnd o (λ f. f.lent ≡ lent)) k.1 h

  pub safe_is : (len : ℕ) → IfSome (at (fronts_of t) name) (λ f. length f.synced ≤ len) → x.synced ≤ len
  safe_is len h =
      let k = front_is in
      let within : length (k.0).front.synced ≤ len = subst (λ o. IfSome o (λ f. length f.synced ≤ len)) k.1 h in
      let safe : length (k.0).front.synced ≡ x.synced =
      ap length k.2.synced ∙ length-take x.synced x.bytes.items
      ∙ (let le = k.2.within in omega arith) in
      omega (arith, within, safe)

-- The entries of the journal that are reserved

module _ (files : List MemFile) (i : ℕ) (x : MemFile) (below : i < length files) (is : x ≡ get_or files i x) where
  pub owed_within : owed x ≤ sum_by owed files
  owed_within = subst (λ (y : MemFile). owed y ≤ sum_by owed files) (sym is) (get_or-le-sum_by owed files i x below)

  -- the file is another now
  pub owed_set : (g : MemFile) (reserved : ℕ) → reserved ≡ sum_by owed files
      → (reserved - owed x) + owed g ≡ sum_by owed (set files i g)
  owed_set g reserved all =
      let sums : sum_by owed (set files i g) + owed (get_or files i x) ≡ sum_by owed files + owed g =
      sum_by-set owed files i g x below in
      let this : owed (get_or files i x) ≡ owed x = ap owed (sym is) in
      let within = owed_within in
      omega (arith, sums, this, within, all)

  pub same_owed : (g : MemFile) (reserved : ℕ) → owed g ≡ owed x → reserved ≡ sum_by owed files
      → reserved ≡ sum_by owed (set files i g)
  same_owed g reserved same_count all = let sums = owed_set g reserved all in let within =
      owed_within in omega (arith, sums, within, same_count, all)

  pub one_less : (g : MemFile) (reserved : ℕ) → owed g + 1 ≡ owed x → reserved ≡ sum_by owed files
      → reserved - 1 ≡ sum_by owed (set files i g)
  one_less g reserved less all = let sums = owed_set g reserved all in let within =
      owed_within in omega (arith, sums, within, less, all)

  -- the journal's word stays
  pub set_tied : (g : MemFile) (t : Table Kept) → Tied files t → g.name ≡ x.name
      → ((k : Kept) → Fits x k → Fits g k) → Tied (set files i g) t
  set_tied g t tied same_name fits =
      tied_set files t i x g tied below (same_name ∙ ap (λ (f : MemFile). f.name) is)
      (λ k h. fits k (subst (λ y. Fits y k) (sym is) h))

  pub set_image : (g : MemFile) → g.name ≡ x.name → g.bytes.items ≡ x.bytes.items
      → image_of (set files i g) ≡ image_of files
  set_image g same_name bytes = unchanged (λ f. f.bytes.items) files i x g below (same_name
      ∙ ap (λ (f : MemFile). f.name) is) (bytes ∙ ap (λ (f : MemFile). f.bytes.items) is)

pub fits_named : (x g : MemFile) (to : Name) → g ≡ record {
  name = to;
  bytes = x.bytes;
  spare = x.spare;
  room = x.room;
  synced = x.synced;
  dirty = x.dirty;
  lent = x.lent;
  spare_is_empty = x.spare_is_empty;
  spare_has_room = x.spare_has_room;
  bytes_have_room = x.bytes_have_room;
} → (k : Kept) → Fits x k → Fits g k
fits_named x g to e k h = subst (λ f. Fits f k) (sym e) (record {
  bytes = h.bytes;
  within = h.within;
  synced = h.synced;
  longest = h.longest;
  lent = h.lent;
  clean = h.clean;
  away = h.away;
})

pub owed_from : (x g : MemFile) → g.room ≡ x.room → (g.dirty ≡ x.dirty) × (g.lent ≡ x.lent) → owed g ≡ owed x
owed_from x g room others = rw (room, others.0, others.1) refl

pub owed_more : (x g : MemFile) → (g.dirty ≡ x.dirty) × (g.lent ≡ x.lent) → owed g ≤ owed x + 2
owed_more x g others = rw (others.0, others.1) (grind arith)

-- An edit of the file with an entry of the journal

module _ (name : Name) (files : List MemFile) (cs ds : List Change) (i : ℕ) (x g : MemFile)
    (c : Change) (step : Kept → Kept)
    (tied : Tied files (after_all [] cs)) (first : IsFirst name files i) (is : x ≡ get_or files i x)
    (more : ds ≡ cs ++ c ∷ []) (same_name : g.name ≡ x.name) (fits : (k : Kept) → Fits x k
    → Fits g (step k)) (change : after (after_all [] cs) c ≡ changed x.name step (after_all [] cs)) where
  after_is : after (after_all [] cs) c ≡ changed name step (after_all [] cs)
  after_is =
      change ∙ ap (λ n. changed n step (after_all [] cs))
      (name_is name files (after_all [] cs) i x tied first is)

  pub edited_tied : Tied (set files i g) (after_all [] ds)
  edited_tied =
      let edited : Tied (set files i g) (changed name step (after_all [] cs)) =
      tied_changed name files (after_all [] cs) i x g step tied first (same_name
      ∙ ap (λ (f : MemFile). f.name) is) (λ k h. fits k (subst (λ y. Fits y k) (sym is) h))
      in subst (Tied (set files i g)) (sym (ap (after_all []) more ∙ after_all-append [] cs c ∙ after_is)) edited

  pub edited_told : (edit : List ℕ → List ℕ) (front_step : Front → Front) (asked : List Listed) (stray_views : ℕ)
      → g.bytes.items ≡ edit x.bytes.items → ((k : Kept) → Fits x k → (step k).front ≡ front_step k.front)
      → Becomes (changed name edit) (changed name front_step) (told_of (image_of files) cs asked stray_views)
      (told_of (image_of (set files i g)) ds asked stray_views)
  edited_told edit front_step asked stray_views bytes fronts =
      let there = known name files (after_all [] cs) i x tied first is in
      becomes (changed name edit) (changed name front_step) (image_of files)
      (image_of (set files i g)) cs ds c asked stray_views more
      (changed-first (λ f. f.bytes.items) name files i x g edit first (same_name
      ∙ ap (λ (f : MemFile). f.name) is) (bytes ∙ ap (λ (f : MemFile). edit f.bytes.items) is))
      (ap fronts_of after_is ∙ fronts-changed name step front_step (after_all [] cs)
      (λ k found. fronts k (let same_word : there.0 ≡ k = cc (there.1, found) in subst (λ y. Fits x y)
      same_word there.2)))

-- The rooms after an edit

module _ (name : Name) (files : List MemFile) (i : ℕ) (x g : MemFile) (first : IsFirst name files i)
    (is : x ≡ get_or files i x) (same_name : g.name ≡ x.name) where
  pub other_rooms : (n : Name) → same n name ≡ false
      → unwrap_or (at (rooms_of (set files i g)) n) 0 ≡ unwrap_or (at (rooms_of files) n) 0
  other_rooms n other =
      ap (λ t. unwrap_or (at t n) 0)
      (changed-first (λ f. f.room) name files i x g (λ _. g.room) first
      (same_name ∙ ap (λ (f : MemFile). f.name) is) refl)
      ∙ ap (λ o. unwrap_or o 0) (at-changed_other name n (λ _. g.room) (rooms_of files) other)

  pub this_room : unwrap_or (at (rooms_of (set files i g)) name) 0 ≡ g.room
  this_room =
      ap (λ t. unwrap_or (at t name) 0)
      (changed-first (λ f. f.room) name files i x g (λ _. g.room) first
      (same_name ∙ ap (λ (f : MemFile). f.name) is) refl)
      ∙ ap (λ o. unwrap_or o 0) (at-changed name (λ _. g.room) (rooms_of files)
      ∙ ap (option_map (λ (r : ℕ). g.room)) (at-first (λ f. f.room) name files i x first))

  -- no room falls
  pub keeps_rooms : x.room ≤ g.room → (n : Name)
      → unwrap_or (at (rooms_of files) n) 0 ≤ unwrap_or (at (rooms_of (set files i g)) n) 0
  keeps_rooms more n =
      elim (cases_Bool (same n name)) [
        | inl p ↦
            let here : n ≡ name = same_eq n name p in
            let old : unwrap_or (at (rooms_of files) name) 0 ≡ x.room =
            ap (λ o. unwrap_or o 0)
            (at-first (λ f. f.room) name files i x first
            ∙ ap (λ (f : MemFile). Some f.room) (sym is)) in
            let new = this_room in
            subst (λ m. unwrap_or (at (rooms_of files) m) 0 ≤ unwrap_or
            (at (rooms_of (set files i g)) m) 0) (sym here) (omega (arith, old, new, more))
        | inr p ↦ let others = other_rooms n p in omega (arith, others)
      ]

-- The calls

-- an edit that changes nothing
changed_fixed : {X : Type 0} (n : Name) (f : X → X) (t : Table X)
    → ((v : X) → at t n ≡ Some v → f v ≡ v) → changed n f t ≡ t
changed_fixed n f [] h = refl
changed_fixed n f (e ∷ es) h =
    elim (cases_Bool (same n e.0)) [
      | inl p ↦ rw p (ap (λ v. (e.0, v) ∷ es) (h e.1 (rw p refl)))
      | inr p ↦ rw p (ap (λ t. e ∷ t) (changed_fixed n f es (λ v is. h v (rw p is))))
    ]

pub set_same : (files : List MemFile) (i : ℕ) (x : MemFile) → x ≡ get_or files i x → set files i x ≡ files
set_same files i x is = ap (set files i) is ∙ set-get_or files i x

module _ (name : Name) (files : List MemFile) (cs : List Change) (i : ℕ) (x : MemFile)
    (tied : Tied files (after_all [] cs)) (first : IsFirst name files i) (is : x ≡ get_or files i x)
    (asked : List Listed) (stray_views : ℕ) where
  word_of : (front : Front) → at (fronts_of (after_all [] cs)) name ≡ Some front → (k : Kept)
      × (k.front ≡ front) × Fits x k
  word_of front found =
      let there = front_is name files (after_all [] cs) i x tied first is in
      let word : (there.0).front ≡ front = cc (there.1, found) in
      (there.0, word, there.2)

  -- no byte is appended
  pub appended_nothing : (through : ℕ) → Becomes (changed name (λ b. b ++ take through []))
      (changed name (pending_more (length (bytes_of name (image_of files) ++ take through [])) []))
      (told_of (image_of files) cs asked stray_views) (told_of (image_of files) cs asked stray_views)
  appended_nothing through =
      let none : take {A = ℕ} through [] ≡ [] = take_all through [] (omega arith) in
      let kept_bytes : changed name (λ b. b ++ take through []) (image_of files) ≡ image_of files =
      changed_fixed name (λ b. b ++ take through []) (image_of files)
      (λ b found. ap (λ more. b ++ more) none ∙ append-nil b) in
      let same_len : length (bytes_of name (image_of files) ++ take through []) ≡ length x.bytes.items =
      ap length (ap (λ more. bytes_of name (image_of files) ++ more) none
      ∙ append-nil (bytes_of name (image_of files)) ∙ bytes_is name files (after_all [] cs) i x tied first is) in
      becomes_untold (changed name (λ b. b ++ take through []))
      (changed name (pending_more (length (bytes_of name (image_of files) ++ take through [])) []))
      (image_of files) (image_of files) cs asked stray_views
      (sym kept_bytes)
      (sym (changed_fixed name
      (pending_more (length (bytes_of name (image_of files) ++ take through [])) [])
      (fronts_of (after_all [] cs))
      (λ front found.
      let k = word_of front found in
      let reached : length x.bytes.items ≤ front.longest =
      subst (λ (f : Front). length x.bytes.items ≤ f.longest) k.1 k.2.longest in
      let reach : max front.longest (length (bytes_of name (image_of files) ++ take through []))
      ≡ front.longest = omega (arith, same_len, reached) in
      ap (λ r. record { synced = front.synced; longest = r; pending = front.pending ++ []; lent = front.lent }) reach
      ∙ ap (λ h. record {
        synced = front.synced;
        longest = front.longest;
        pending = h;
        lent = front.lent;
      }) (append-nil front.pending))))

  -- a sync with nothing to do
  pub synced_already : x.dirty ≡ false → Becomes (λ image. image)
      (changed name (all_synced (bytes_of name (image_of files)))) (told_of (image_of files) cs asked stray_views)
      (told_of (image_of files) cs asked stray_views)
  synced_already clean =
      becomes_untold (λ image. image) (changed name (all_synced (bytes_of name (image_of files))))
      (image_of files) (image_of files) cs asked stray_views refl
      (sym (changed_fixed name (all_synced (bytes_of name (image_of files))) (fronts_of (after_all [] cs))
      (λ front found.
      let k = word_of front found in
      let whole : front ≡ all_synced x.bytes.items front =
      subst (λ f. f ≡ all_synced x.bytes.items f) k.1 (k.2.clean clean) in
      ap (λ b. all_synced b front) (bytes_is name files (after_all [] cs) i x tied first is) ∙ sym whole)))

  -- a cut
  pub cut_told : (g : MemFile) (len : ℕ) → g.name ≡ x.name → g.bytes.items ≡ take len x.bytes.items
      → Becomes (changed name (λ b. take len b)) (λ fronts. fronts) (told_of (image_of files) cs asked stray_views)
      (told_of (image_of (set files i g)) cs asked stray_views)
  cut_told g len same_name bytes =
      becomes_untold (changed name (λ b. take len b)) (λ fronts. fronts) (image_of files)
      (image_of (set files i g)) cs asked stray_views
      (changed-first (λ f. f.bytes.items) name files i x g (λ b. take len b) first (same_name
      ∙ ap (λ (f : MemFile). f.name) is) (bytes ∙ ap (λ (f : MemFile). take len f.bytes.items) is))
      refl

  module _ (g : MemFile) (c : Change) (ds : List Change) (more : ds ≡ cs ++ c ∷ []) (same_name : g.name ≡ x.name) where
    pub appended_told : (through : ℕ) (piece : List ℕ)
        → ((k : Kept) → Fits x k → Fits g (handed (length x.bytes.items) through piece k))
        → ((t : Table Kept) → after t c ≡ changed x.name (handed (length x.bytes.items) through piece) t)
        → g.bytes.items ≡ x.bytes.items ++ take through piece
        → Becomes (changed name (λ b. b ++ take through piece))
        (changed name (pending_more (length (bytes_of name (image_of files) ++ take through piece)) piece))
        (told_of (image_of files) cs asked stray_views) (told_of (image_of (set files i g)) ds asked stray_views)
    appended_told through piece fits change bytes =
        edited_told name files cs ds i x g c (handed (length x.bytes.items) through piece) tied first is more
        same_name fits (change (after_all [] cs)) (λ b. b ++ take through piece)
        (pending_more (length (bytes_of name (image_of files) ++ take through piece)) piece) asked stray_views bytes
        (λ k h. ap (λ b. pending_more (length (b ++ take through piece)) piece k.front) (sym h.bytes
        ∙ sym (bytes_is name files (after_all [] cs) i x tied first is)))

    pub synced_told : ((k : Kept) → Fits x k → Fits g (synced (length x.bytes.items) k))
        → ((t : Table Kept) → after t c ≡ changed x.name (synced (length x.bytes.items)) t)
        → g.bytes.items ≡ x.bytes.items
        → Becomes (λ image. image) (changed name (all_synced (bytes_of name (image_of files))))
        (told_of (image_of files) cs asked stray_views) (told_of (image_of (set files i g)) ds asked stray_views)
    synced_told fits change bytes =
        let whole = edited_told name files cs ds i x g c (synced (length x.bytes.items)) tied first is more
        same_name fits (change (after_all [] cs)) (λ b. b) (all_synced (bytes_of name (image_of files))) asked
        stray_views bytes
        (λ k h. ap (λ b. all_synced b k.front)
        (sym h.bytes ∙ sym (bytes_is name files (after_all [] cs) i x tied first is))) in
        record {
          passes = whole.passes;
          image = whole.image ∙ changed_fixed name (λ b. b) (image_of files) (λ b found. refl);
          fronts = whole.fronts;
          asked = whole.asked;
          stray_views = whole.stray_views;
        }

    pub returned_told : (bytes : List ℕ) → ((k : Kept) → Fits x k → Fits g (returned bytes k))
        → ((t : Table Kept) → after t c ≡ changed x.name (returned bytes) t) → g.bytes.items ≡ bytes
        → Becomes (changed name (λ _. bytes)) (changed name (brought_back bytes)) (told_of (image_of files) cs
        asked stray_views) (told_of (image_of (set files i g)) ds asked stray_views)
    returned_told bytes fits change is_now =
        edited_told name files cs ds i x g c (returned bytes) tied first is more same_name fits
        (change (after_all [] cs)) (λ _. bytes) (brought_back bytes) asked stray_views is_now (λ k h. refl)
