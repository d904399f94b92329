-- One data file more behind those that were read.
use Rattle.std.proofs.Common.{◌≡◌, ◌==◌, cond, ℕ, ◌+◌, ◌<◌, ◌≤◌, List, [], ◌∷◌, ◌++◌, length, get_or, take, map, Option, None, Some, refl, sym, ap, subst, ◌∙◌, inl, inr, arith, append_assoc}
use Rattle.std.specs.List.{AllByRecursion}
use Rattle.std.proofs.lemmas.List.{append-nil, map-append, take_all, take_more}
use Rattle.bk_base.specs.declared.writes.Version.{Version}
use Rattle.bk_base.specs.declared.writes.Write.{Write}
use Rattle.std.specs.Option.{is_some, option_map, unwrap_or}
use Rattle.bk_base.specs.declared.names.Kind.TheVariants.{Main}
use Rattle.bk_base.specs.declared.names.Name.{Name}
use Rattle.bk_base.specs.declared.numbers.FileId.{FileId}
use Rattle.bk_disk.specs.Told.{Image, Told, at}
use Rattle.bk_files.specs.Rows.{AreSyncedIfSealed}
use Rattle.bk_load.specs.Steps.{IsSyncedFile, SyncsToo}
use Rattle.bk_image.specs.CountedFiles.{Counts, HasNoList}
use Rattle.bk_image.specs.Readings.{Books, In, Reading, bytes_in, hint, main}
use Rattle.bk_image.specs.RecoveredLog.{HintTrue, HintsTrue}
use Rattle.bk_keydir.specs.Counts.{live_of}
use Rattle.bk_keydir.specs.Keydir.{Entry}
use Rattle.bk_laws.specs.Record.{AreRecords, records_of}
use Rattle.bk_laws.specs.Version.{placed_from}
use Rattle.bk_load.specs.declared.directory.Numbered.{Numbered}
use Rattle.bk_load.specs.declared.files.FileFound.{FileFound}
use Rattle.bk_load.specs.Directory.{RiseFrom}
use Rattle.bk_load.specs.Found.{AreFound, FilesRise, HasTotal, HaveRead, IsFound, TrueIfThere, found_row, placed_in, total_of, writes_in}
use Rattle.bk_load.specs.Learning.{Known, Learns, greatest}
use Rattle.bk_load.specs.Scanning.{HasScanned}
use Rattle.bk_load.proofs.Listings.{map_some}
use Rattle.bk_load.proofs.Numbering.{Numbers}
use Rattle.bk_load.proofs.Learned.{greatest_more, learns_more, learns_none}
use Rattle.bk_hint.proofs.RowTexts.{AllByRecursion-push}

-- the ids, of numbered files and of those that were read
abbrev pub ids_of : List Numbered → List ℕ
ids_of fs = map (λ (f : Numbered). f.id) fs

abbrev pub found_ids : List FileFound → List ℕ
found_ids fs = map (λ (f : FileFound). f.row.id.0) fs

pub ids_more : (ns : List Numbered) (i : ℕ) (d : Numbered) (found : List FileFound) (f : FileFound) → i < length ns
    → found_ids found ≡ ids_of (take i ns) → f.row.id.0 ≡ (get_or ns i d).id → found_ids (found ++ f ∷ []) ≡ ids_of (take (i + 1) ns)
ids_more ns i d found f low before id =
    map-append (λ (x : FileFound). x.row.id.0) found (f ∷ [])
    ∙ ap (λ (xs : List ℕ). xs ++ f.row.id.0 ∷ []) before
    ∙ ap (λ (n : ℕ). ids_of (take i ns) ++ n ∷ []) id
    ∙ sym (map-append (λ (x : Numbered). x.id) (take i ns) (get_or ns i d ∷ []))
    ∙ ap ids_of (sym (take_more ns i d low))

pub rise_of : (low : ℕ) (ns : List Numbered) (found : List FileFound) → found_ids found ≡ ids_of ns → RiseFrom low ns → FilesRise low found
rise_of low [] [] is rise = tt
rise_of low [] (f ∷ fs) is rise = absurd (cc is)
rise_of low (n ∷ ns) [] is rise = absurd (cc is)
rise_of low (n ∷ ns) (f ∷ fs) is rise =
    let id : f.row.id.0 ≡ n.id = cc is in
    let others : found_ids fs ≡ ids_of ns = cc is in (
      subst (λ (k : ℕ). low ≤ k) (sym id) rise.0,
      subst (λ (k : ℕ). FilesRise (k + 1) fs) (sym id) (rise_of (n.id + 1) ns fs others rise.1),
    )

-- each numbered file was read
pub found_of : (ns : List Numbered) (found : List FileFound) (n : Numbered) → found_ids found ≡ ids_of ns → In n ns
    → (f : FileFound) × In f found × (f.row.id.0 ≡ n.id)
found_of [] found n is is_in = absurd is_in
found_of (m ∷ ms) [] n is is_in = absurd (cc is)
found_of (m ∷ ms) (f ∷ fs) n is (inl here) =
    let id : f.row.id.0 ≡ m.id = cc is in
    (f, inl refl, id ∙ ap (λ (x : Numbered). x.id) (sym here))
found_of (m ∷ ms) (f ∷ fs) n is (inr later) =
    let others : found_ids fs ≡ ids_of ms = cc is in
    let (g, there, id) = found_of ms fs n others later in
    (g, inr there, id)

-- what they say

placed-behind : (books : Books) (fs : List FileFound) (f : FileFound)
    → placed_in books (fs ++ f ∷ []) ≡ placed_in books fs ++ placed_from f.row.id 0 (books (main f.row.id.0))
placed-behind books [] f = append-nil (placed_from f.row.id 0 (books (main f.row.id.0)))
placed-behind books (g ∷ gs) f =
    ap (λ (ps : List (List ℕ × Version)). placed_from g.row.id 0 (books (main g.row.id.0)) ++ ps) (placed-behind books gs f)
    ∙ sym (append_assoc (placed_from g.row.id 0 (books (main g.row.id.0))) (placed_in books gs)
    (placed_from f.row.id 0 (books (main f.row.id.0))))

writes-behind : (books : Books) (fs : List FileFound) (f : FileFound)
    → writes_in books (fs ++ f ∷ []) ≡ writes_in books fs ++ books (main f.row.id.0)
writes-behind books [] f = append-nil (books (main f.row.id.0))
writes-behind books (g ∷ gs) f =
    ap (λ (ws : List Write). books (main g.row.id.0) ++ ws) (writes-behind books gs f)
    ∙ sym (append_assoc (books (main g.row.id.0)) (writes_in books gs) (books (main f.row.id.0)))

total_behind : (id : ℕ) (fs : List FileFound) (f : FileFound)
    → total_of id (fs ++ f ∷ []) ≡ total_of id fs + cond (id == f.row.id.0) f.row.total 0
total_behind id [] f = omega arith
total_behind id (g ∷ gs) f = let later = total_behind id gs f in omega (arith, later)

grows_behind : (id : ℕ) (fs : List FileFound) (f : FileFound) (size : ℕ) (es gs hs : List Entry)
    → live_of id gs ≤ live_of id es + total_of id fs → live_of id hs ≤ live_of id gs + cond (id == f.row.id.0) size 0
    → size ≡ f.row.total → live_of id hs ≤ live_of id es + total_of id (fs ++ f ∷ [])
grows_behind id fs f size es gs hs before more is =
    let total = total_behind id fs f in
    let here : live_of id hs ≤ live_of id gs + cond (id == f.row.id.0) f.row.total 0 =
    subst (λ (n : ℕ). live_of id hs ≤ live_of id gs + cond (id == f.row.id.0) n 0) is more in
    omega (arith, before, here, total)

pub have_read_none : (books : Books) (j : Known) → HaveRead books [] j j
have_read_none books j =
    record { totals = tt; learns = learns_none j.keys.entries; last = refl; grows = λ id. omega arith }

pub have_read_more : (books : Books) (fs : List FileFound) (f : FileFound) (j k l : Known) → HaveRead books fs j k
    → HasScanned f.row.id 0 (books (main f.row.id.0)) f.row.total k l → HaveRead books (fs ++ f ∷ []) j l
have_read_more books fs f j k l before scanned =
    let total : HasTotal books f = let p = scanned.ends in omega (arith, p) in
    record {
      totals = AllByRecursion-push (HasTotal books) fs f before.totals total;
      learns = subst (λ (ps : List (List ℕ × Version)). Learns ps j.keys.entries l.keys.entries) (sym (placed-behind books fs f))
          (learns_more (placed_in books fs) (placed_from f.row.id 0 (books (main f.row.id.0))) j.keys.entries k.keys.entries
          l.keys.entries before.learns scanned.learns);
      last = scanned.last ∙ ap (λ (n : ℕ). greatest n (books (main f.row.id.0))) before.last
          ∙ sym (greatest_more j.last (writes_in books fs) (books (main f.row.id.0)))
          ∙ ap (greatest j.last) (sym (writes-behind books fs f));
      grows = λ id.
          grows_behind id fs f (length (records_of (books (main f.row.id.0)))) j.keys.entries k.keys.entries l.keys.entries
          (before.grows id) (scanned.grows id) (sym total);
    }

-- One turn of the loop over the data files

-- the book of a data file, and what its hint tells of it
truth_of : (o : Option (List ℕ)) (len : ℕ) (ws : List Write) → ((b : List ℕ) → o ≡ Some b → HintTrue b len ws) → TrueIfThere o len ws
truth_of None len ws tell = tt
truth_of (Some b) len ws tell = tell b refl

own_counts : (r : Reading) (id : ℕ) (bytes : List ℕ) → 1 ≤ id → HasNoList r → r (main id) ≡ Some bytes → Counts r (main id)
own_counts r id bytes first none is = (ap is_some is, λ input. let (l, has, is_in) = input in none l has, first)

pub book_records : (r : Reading) (books : Books) (id : ℕ) (bytes : List ℕ) → 1 ≤ id → HasNoList r → r (main id) ≡ Some bytes
    → ((n : Name) → Counts r n → AreRecords (bytes_in r n) (books n)) → AreRecords bytes (books (main id))
book_records r books id bytes first none is reads =
    subst (λ (b : List ℕ). AreRecords b (books (main id))) (ap (λ (o : Option (List ℕ)). unwrap_or o []) is)
    (reads (main id) (own_counts r id bytes first none is))

pub book_hint : (r : Reading) (books : Books) (id : ℕ) (bytes : List ℕ) → 1 ≤ id → HasNoList r → r (main id) ≡ Some bytes
    → HintsTrue r books → TrueIfThere (r (hint id)) (length bytes) (books (main id))
book_hint r books id bytes first none is tell =
    truth_of (r (hint id)) (length bytes) (books (main id))
    (λ b there. subst (λ (x : List ℕ). HintTrue b (length x) (books (main id))) (ap (λ (o : Option (List ℕ)). unwrap_or o []) is)
    (tell (main id) b (own_counts r id bytes first none is) there))

-- what was read of a file, read in the image in which the loop began
pub scanned_in : (image now : Image) (books : Books) (file : FileId) (end : ℕ) (k l : Known) → 1 ≤ file.0
    → HasNoList (at image) → now ≡ image
    → (len : ℕ) → option_map length (at image (main file.0)) ≡ Some len
    → ((n : Name) → Counts (at image) n → AreRecords (bytes_in (at image) n) (books n)) → HintsTrue (at image) books
    → ((bytes : List ℕ) (writes : List Write) → at now (main file.0) ≡ Some bytes → AreRecords bytes writes
    → TrueIfThere (at now (hint file.0)) (length bytes) writes → HasScanned file 0 writes end k l)
    → HasScanned file 0 (books (main file.0)) end k l
scanned_in image now books file end k l first none same len long reads tell read =
    let (bytes, is, size) = map_some (at image (main file.0)) len long in
    read bytes (books (main file.0)) (ap (λ (i : Image). at i (main file.0)) same ∙ is)
    (book_records (at image) books file.0 bytes first none is reads)
    (subst (λ (i : Image). TrueIfThere (at i (hint file.0)) (length bytes) (books (main file.0))) (sym same)
    (book_hint (at image) books file.0 bytes first none is tell))

pub have_read_one : (books : Books) (found : List FileFound) (f : FileFound) (file : FileId) (j k l : Known) → f.row.id ≡ file
    → HaveRead books found j k → HasScanned file 0 (books (main file.0)) f.row.total k l → HaveRead books (found ++ f ∷ []) j l
have_read_one books found f file j k l id before scanned =
    have_read_more books found f j k l before
    (subst (λ (x : FileId). HasScanned x 0 (books (main x.0)) f.row.total k l) (sym id) scanned)

pub found_rise : (low : ℕ) (ns ms : List Numbered) (i : ℕ) (found : List FileFound) → RiseFrom low ns → ms ≡ ns → length ms ≤ i
    → found_ids found ≡ ids_of (take i ms) → FilesRise low found
found_rise low ns ms i found rise same all ids =
    rise_of low ms found (ids ∙ ap ids_of (take_all i ms all)) (subst (RiseFrom low) (sym same) rise)

pub found_all : (image : Image) (ms : List Numbered) (i : ℕ) (found : List FileFound) → Numbers image Main 1 ms → length ms ≤ i
    → found_ids found ≡ ids_of (take i ms) → AllByRecursion (IsFound (at image)) found → AreFound (at image) found
found_all image ms i found numbers all ids each = record {
  each = each;
  all = λ id bytes low is.
      let (n, is_in, same) = numbers.all id bytes low is in
      let (f, there, found_id) = found_of ms found n (ids ∙ ap ids_of (take_all i ms all)) is_in in
      (f, there, found_id ∙ same);
}

pub no_list_at : (image now : Image) → now ≡ image → HasNoList (at image) → HasNoList (at now)
no_list_at image now same none = subst (λ (i : Image). HasNoList (at i)) (sym same) none

-- the file that was read is synced too
pub synced_more : (t u : Told) (found : List FileFound) (f : FileFound) (file : FileId) → f.row.id ≡ file
    → SyncsToo (main file.0) t u → AllByRecursion (λ (x : FileFound). IsSyncedFile t (main x.row.id.0)) found
    → AllByRecursion (λ (x : FileFound). IsSyncedFile u (main x.row.id.0)) (found ++ f ∷ [])
synced_more t u [] f file id syncs all = (subst (λ (k : FileId). IsSyncedFile u (main k.0)) (sym id) syncs.this, tt)
synced_more t u (g ∷ gs) f file id syncs all =
    (syncs.kept (main g.row.id.0) all.0, synced_more t u gs f file id syncs all.1)

pub synced_rows : (t : Told) (found : List FileFound) → AllByRecursion (λ (x : FileFound). IsSyncedFile t (main x.row.id.0)) found
    → AreSyncedIfSealed (map found_row found) t
synced_rows t [] all = tt
synced_rows t (f ∷ fs) all = (λ is_sealed. all.0, synced_rows t fs all.1)
