-- What a crash leaves is what the files may leave.
use Rattle.std.proofs.Common.{◌≡◌, ℕ, zero, suc, ◌+◌, ◌-◌, ◌<◌, ◌≤◌, false, List, [], ◌∷◌}
use Rattle.std.proofs.Common.{◌++◌, length, take, drop, map, get_or, refl, sym, ◌∙◌, ap, arith}
use Rattle.std.proofs.Common.{subst, inl, inr}
use Rattle.std.specs.declared.option.Option.{Option}
use Rattle.std.specs.declared.option.Option.TheVariants.{None, Some}
use Rattle.std.specs.Option.{is_some}
use Rattle.std.proofs.lemmas.List.{length-append, length-take, length-drop, length-take-le, take_at}
use Rattle.std.proofs.lemmas.List.{take_more, drop_more, get_or_append_left, get_or_past}
use Rattle.std.proofs.lemmas.List.{get_or_push, take-append-drop, append_assoc}
use Rattle.std.proofs.lemmas.Bool.{cases_lt}
use Rattle.bk_base.specs.declared.names.Name.{Name}
use Rattle.bk_disk.specs.Names.{same}
use Rattle.bk_disk.specs.Told.{Table, Image, Told, at, names, IsOnce, IsNotIn}
use Rattle.bk_disk.specs.Crashes.{Keeps, MayLeave, front_of, IsSynced}
use Rattle.bk_disk.proofs.Names.{same_sym}
use Rattle.bk_disk.proofs.Tables.{has, is_some-at}
use Rattle.bk_disk.proofs.Leaves.{whole_fronts}
use Rattle.bk_base.specs.Bounds.{AreBytes}
use Rattle.bk_memdisk.specs.declared.files.MemFile.{MemFile}
use Rattle.bk_memdisk.specs.Contents.{Placed}
use Rattle.bk_memdisk.specs.Journal.{Kept, fronts_of}
use Rattle.bk_memdisk.specs.Fits.{Fits, Tied, image_of}
use Rattle.bk_memdisk.specs.Crash.{kept_part, flipped, all_flipped, left_of, crashed}

-- one byte more
all_flipped-append : (flips : List ℕ) (offset : ℕ) (bs : List ℕ) (b : ℕ)
    → all_flipped flips offset (bs ++ b ∷ []) ≡ all_flipped flips offset bs ++ flipped flips (offset + length bs) b ∷ []
all_flipped-append flips offset [] b = ap (λ o. flipped flips o b ∷ []) (omega arith)
all_flipped-append flips offset (c ∷ cs) b =
    ap (λ t. flipped flips offset c ∷ t) (all_flipped-append flips (offset + 1) cs b
    ∙ ap (λ o. all_flipped flips (offset + 1) cs ++ flipped flips o b ∷ []) (omega arith))

pub left_more : (flips front part : List ℕ) (i d : ℕ) → i < length part
    → front ++ all_flipped flips 0 (take (i + 1) part) ≡ front ++ all_flipped flips 0 (take i part) ++ flipped
    flips i (get_or part i d) ∷ []
left_more flips front part i d lt =
    let count : 0 + length (take i part) ≡ i = simp length-take (omega arith) in
    ap (λ bs. front ++ all_flipped flips 0 bs) (take_more part i d lt)
    ∙ ap (λ t. front ++ t) (all_flipped-append flips 0 (take i part) (get_or part i d)
    ∙ ap (λ o. all_flipped flips 0 (take i part) ++ flipped flips o (get_or part i d) ∷ []) count)
    ∙ sym (append_assoc front (all_flipped flips 0 (take i part)) (flipped flips i (get_or part i d) ∷ []))

length-all_flipped : (flips : List ℕ) (offset : ℕ) (bs : List ℕ) → length (all_flipped flips offset bs) ≡ length bs
length-all_flipped flips offset [] = refl
length-all_flipped flips offset (b ∷ bs) = ap suc (length-all_flipped flips (offset + 1) bs)

length-kept_part : (keep : Option ℕ) (part : List ℕ) → length (kept_part keep part) ≤ length part
length-kept_part None part = omega arith
length-kept_part (Some n) part = simp length-take (omega arith)

-- Bytes

pub bytes_push : (bytes : List ℕ) (b : ℕ) → AreBytes bytes → b < 256 → AreBytes (bytes ++ b ∷ [])
bytes_push bytes b h small i =
    elim (cases_lt i (length bytes)) [
      | inl lt ↦ rw get_or_append_left (h i)
      | inr ge ↦
          elim (cases_lt (length bytes) i) [
            | inl past ↦ let all : length (bytes ++ b ∷ []) ≤ i =
                simp length-append (omega arith) in rw get_or_past (omega arith)
            | inr le ↦ let here : length bytes ≡ i = omega (arith, ge, le) in rw get_or_push small
          ]
    ]

-- the bytes of the files that are left
abbrev pub image_left : Option ℕ → List ℕ → List MemFile → Image
image_left keep flips files = map (λ (f : MemFile). (f.name, left_of keep flips f.synced f.bytes.items)) files

abbrev pub AreAllBytes : Image → Type 0
AreAllBytes [] = Unit {0}
AreAllBytes (e ∷ es) = AreBytes e.1 × AreAllBytes es

pub all_bytes_append : (image : Image) (n : Name) (bytes : List ℕ) → AreAllBytes image
    → AreBytes bytes → AreAllBytes (image ++ (n, bytes) ∷ [])
all_bytes_append [] n bytes h b = (b, tt)
all_bytes_append (e ∷ es) n bytes h b = (h.0, all_bytes_append es n bytes h.1 b)

safe_length : (f : MemFile) (k : Kept) → Fits f k → length (k.front).synced ≡ f.synced
safe_length f k h = ap length h.synced ∙ length-take-le f.synced f.bytes.items h.within

pub crashed_is : (keep : Option ℕ) (flips : List ℕ) (files : List MemFile) (t : Table Kept) → Tied files t
    → image_left keep flips files ≡ crashed keep flips (fronts_of t) (image_of files)
crashed_is keep flips [] [] h = refl
crashed_is keep flips [] (e ∷ es) h = absurd h
crashed_is keep flips (f ∷ fs) [] h = absurd h
crashed_is keep flips (f ∷ fs) (e ∷ es) h =
    ap (λ n. (f.name, left_of keep flips n f.bytes.items) ∷ image_left keep flips fs) (sym (safe_length f e.1 h.1))
    ∙ ap (λ t. (f.name, left_of keep flips (length (e.1.front).synced) f.bytes.items) ∷ t)
    (crashed_is keep flips fs es h.2)

keeps_left : (keep : Option ℕ) (flips : List ℕ) (f : MemFile) (k : Kept) → Fits f k
    → Keeps k.front (left_of keep flips f.synced f.bytes.items)
keeps_left keep flips f k h =
    let safe = safe_length f k h in
    let front : length (take f.synced f.bytes.items) ≡ f.synced = length-take-le f.synced f.bytes.items h.within in
    let part : length (all_flipped flips 0 (kept_part keep (drop f.synced f.bytes.items))) ≤ length
    f.bytes.items - f.synced =
    let flipped_len = length-all_flipped flips 0 (kept_part keep (drop f.synced f.bytes.items)) in
    let kept_len = length-kept_part keep (drop f.synced f.bytes.items) in
    let rest_len = length-drop f.synced f.bytes.items in
    omega (arith, flipped_len, kept_len, rest_len)
    in
    let all : length (left_of keep flips f.synced f.bytes.items) ≡ length (take f.synced f.bytes.items) + length
    (all_flipped flips 0 (kept_part keep (drop f.synced f.bytes.items))) =
    length-append (take f.synced f.bytes.items) (all_flipped flips 0 (kept_part keep (drop f.synced f.bytes.items)))
    in
    record {
      synced = ap (λ n. take n (left_of keep flips f.synced f.bytes.items)) safe
          ∙ take_at (take f.synced f.bytes.items) (all_flipped flips 0
          (kept_part keep (drop f.synced f.bytes.items))) f.synced front ∙ sym h.synced;
      no_shorter = omega (arith, safe, front, all);
      no_longer = omega (arith, front, all, part, h.longest, h.within);
    }

pub may_leave : (keep : Option ℕ) (flips : List ℕ) (files : List MemFile) (t : Table Kept) → Tied files t
    → AreAllBytes (image_left keep flips files) → MayLeave (fronts_of t) (image_left keep flips files)
may_leave keep flips [] [] h small = tt
may_leave keep flips [] (e ∷ es) h small = absurd h
may_leave keep flips (f ∷ fs) [] h small = absurd h
may_leave keep flips (f ∷ fs) (e ∷ es) h small = (
  sym h.0,
  record { are_bytes = small.0; keeps = λ _. keeps_left keep flips f e.1 h.1 },
  may_leave keep flips fs es h.2 small.1,
)

-- The new files, one after the other

not_in_append : (l n : Name) (ls ns : List Name) → IsNotIn l (ls ++ n ∷ ns) → same l n ≡ false
not_in_append l n [] ns h = h.0
not_in_append l n (k ∷ ks) ns h = not_in_append l n ks ns h.1

has-append : (ms : List Name) (n : Name) (ns : List Name) → IsOnce (ms ++ n ∷ ns) → has ms n ≡ false
has-append [] n ns o = refl
has-append (l ∷ ls) n ns o =
    let other : same n l ≡ false = same_sym n l ∙ not_in_append l n ls ns o.0 in
    rw other (has-append ls n ns o.1)

names-left : (keep : Option ℕ) (flips : List ℕ) (files : List MemFile)
    → names (image_left keep flips files) ≡ names (image_of files)
names-left keep flips [] = refl
names-left keep flips (f ∷ fs) = ap (λ ns. f.name ∷ ns) (names-left keep flips fs)

names-append : (fs gs : List MemFile) → names (image_of (fs ++ gs)) ≡ names (image_of fs) ++ names (image_of gs)
names-append [] gs = refl
names-append (f ∷ fs) gs = ap (λ ns. f.name ∷ ns) (names-append fs gs)

split_at : (files : List MemFile) (i : ℕ) (x : MemFile) → i < length files → x ≡ get_or files i x
    → files ≡ take i files ++ x ∷ drop (i + 1) files
split_at files i x lt is =
    sym (take-append-drop i files)
    ∙ ap (λ rest. take i files ++ rest)
    (drop_more files i x lt ∙ ap (λ f. f ∷ drop (i + 1) files) (sym is))

-- the next file isn't there yet
pub next_absent : (keep : Option ℕ) (flips : List ℕ) (files : List MemFile) (i : ℕ) (x : MemFile)
    → IsOnce (names (image_of files)) → i < length files → x ≡ get_or files i x
    → is_some (at (image_left keep flips (take i files)) x.name) ≡ false
next_absent keep flips files i x once lt is =
    let parts : names (image_of files) ≡ names (image_of (take i files)) ++ x.name ∷ names
    (image_of (drop (i + 1) files)) =
    ap (λ fs. names (image_of fs)) (split_at files i x lt is) ∙ names-append (take i files) (x ∷ drop (i + 1) files)
    in
    is_some-at x.name (image_left keep flips (take i files))
    ∙ ap (λ ns. has ns x.name) (names-left keep flips (take i files))
    ∙ has-append (names (image_of (take i files))) x.name (names (image_of (drop (i + 1) files)))
    (subst IsOnce parts once)

image_left-append : (keep : Option ℕ) (flips : List ℕ) (files : List MemFile) (x : MemFile)
    → image_left keep flips (files ++ x ∷ []) ≡ image_left keep flips files ++ (
      x.name,
      left_of keep flips x.synced
          x.bytes.items,
    ) ∷ []
image_left-append keep flips [] x = refl
image_left-append keep flips (f ∷ fs) x =
    ap (λ t. (f.name, left_of keep flips f.synced f.bytes.items) ∷ t) (image_left-append keep flips fs x)

pub left_next : (keep : Option ℕ) (flips : List ℕ) (files : List MemFile) (i : ℕ) (x : MemFile) → i < length files
    → x ≡ get_or files i x → image_left keep flips (take (i + 1) files) ≡ image_left keep flips (take i files) ++
    (x.name, left_of keep flips x.synced x.bytes.items) ∷ []
left_next keep flips files i x lt is =
    ap (image_left keep flips) (take_more files i x lt ∙ ap (λ f. take i files ++ f ∷ []) (sym is))
    ∙ image_left-append keep flips (take i files) x

is_some-whole_fronts : (n : Name) (image : Image) → is_some (at (whole_fronts image) n) ≡ is_some (at image n)
is_some-whole_fronts n [] = refl
is_some-whole_fronts n (e ∷ es) = grind (arith, is_some-whole_fronts n es)

whole_fronts-append : (n : Name) (bytes : List ℕ) (image : Image)
    → whole_fronts (image ++ (n, bytes) ∷ []) ≡ whole_fronts image ++ (n, front_of bytes) ∷ []
whole_fronts-append n bytes [] = refl
whole_fronts-append n bytes (e ∷ es) = ap (λ t. (e.0, front_of e.1) ∷ t) (whole_fronts-append n bytes es)

-- a synced file more
pub placed_next : (n : Name) (bytes : List ℕ) (old new : Told) → is_some (at old.image n) ≡ false → IsSynced old
    → Placed n bytes old new → (new.image ≡ old.image ++ (n, bytes) ∷ []) × IsSynced new
placed_next n bytes old new absent synced b =
    let image : new.image ≡ old.image ++ (n, bytes) ∷ [] = b.image ∙ rw absent refl in
    let no_front : is_some (at old.fronts n) ≡ false = ap (λ t. is_some (at t n)) synced
    ∙ is_some-whole_fronts n old.image ∙ absent in (
      image,
      b.fronts ∙ rw no_front (ap (λ t. t ++ (n, front_of bytes) ∷ []) synced)
          ∙ sym (whole_fronts-append n bytes old.image) ∙ ap whole_fronts (sym image),
    )

-- each file stands for what the journal says of it
pub tied_synced : (files : List MemFile) (t : Table Kept) (i : ℕ) (x : MemFile) → Tied files t → i < length files
    → x ≡ get_or files i x → x.synced ≤ length x.bytes.items
tied_synced files t i x tied lt is =
    subst (λ (f : MemFile). f.synced ≤ length f.bytes.items) (sym is) (go files t i tied lt) where
      go : (fs : List MemFile) (t : Table Kept) (i : ℕ) → Tied fs t → i < length fs
          → (get_or fs i x).synced ≤ length (get_or fs i x).bytes.items
      go [] t i h lt = absurd (omega arith)
      go (f ∷ fs) [] i h lt = absurd h
      go (f ∷ fs) (e ∷ es) zero h lt = h.1.within
      go (f ∷ fs) (e ∷ es) (suc i) h lt = go fs es i h.2 (omega arith)
