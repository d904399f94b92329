-- The files through the calls that append a record: after each one the disk holds the log, and a crash at
-- each moment since the event began meets the prefix.
use Rattle.std.proofs.Common.{◌≡◌, ◌⊎◌, ℕ, ◌+◌, ◌<◌, ◌≤◌, ◌==◌, Bool, true, false, cond, List, [], ◌∷◌, ◌++◌, length, take, drop, Option, Some, None, refl, sym, ap, subst, ◌∙◌, arith, inl, inr}
use Rattle.std.specs.Prelude.{IsTrue}
use Rattle.std.specs.Option.{is_some, option_map, unwrap_or}
use Rattle.std.proofs.lemmas.Bool.{cases_Bool, true≢false}
use Rattle.std.proofs.lemmas.Bool.Decides.{nat_tests}
use Rattle.std.proofs.lemmas.List.{append-nil, take_all}
use Rattle.bk_base.specs.declared.names.Name.{Name}
use Rattle.bk_base.specs.declared.rows.Row.{Row}
use Rattle.bk_base.specs.declared.writes.Write.{Write}
use Rattle.bk_disk.specs.Names.{same}
use Rattle.bk_disk.specs.Told.{Image, Told, at, bytes_of}
use Rattle.bk_disk.specs.Calls.{Appended, Made}
use Rattle.bk_laws.specs.Log.{last_seq}
use Rattle.bk_laws.specs.Record.{record_of, size_of}
use Rattle.bk_laws.proofs.RecordBytes.{length-record_of}
use Rattle.bk_image.specs.Core.{ActiveFile}
use Rattle.bk_image.specs.Known.{known_of}
use Rattle.bk_image.specs.Readings.{Reading, bytes_in, main}
use Rattle.bk_image.specs.Holds.{Begun, Holds, IsIdle, SoFar, Young}
use Rattle.bk_image.proofs.HoldsCourse.{HasWritten, Settles, after_append, after_cut, after_half_roll, after_part, after_repair, after_roll, begins, begun}
use Rattle.bk_image.proofs.HoldsEvents.{Follows, follows_one}
use Rattle.bk_image.proofs.HoldsKnown.{KnowsMore, reads_piece}
use Rattle.bk_image.proofs.HoldsLasting.{lasts_young_idle}
use Rattle.bk_image.proofs.Places.{main_same}
use Rattle.bk_files.specs.declared.catalog.Active.{Active}
use Rattle.bk_files.specs.Catalog.{Grows, Known, active_edited, due_of, going_on, grown_of, id_of, len_of, mended, row_of, torn, torn_of, with_len, with_torn}
use Rattle.bk_files.specs.Files.{HalfRepaired, HalfRepairedOf, HalfRolled, IsConsistent, IsFromScratch, IsSyncedIfSealed, Repaired, RepairedOf, Seen, SettledOf, active_len, active_name, is_due, is_torn}
use Rattle.bk_files.specs.Rows.{AreFromScratch, AreRows, AreSyncedIfSealed, StandsAmong}
use Rattle.bk_store.specs.declared.appending.Place.{Place}
use Rattle.bk_store.specs.Appends.{Extends, IsAppended, IsNotAppended, IsRolledFor, MayFollow, RowsGrow, RowsStay}
use Rattle.bk_store.specs.Events.{IsLeft}
use Rattle.bk_store.specs.Shown.{active_file, known_bytes}
use Rattle.bk_store.specs.Standing.{Content, FilesStand}
use Rattle.bk_store.proofs.KeptVersions.{extends_same}
use Rattle.bk_store.proofs.RowCounts.{goes_none, row_of-append, or_row, rows_begun, rows_grown, rows_refl, rows_then_grow, rows_trans}

-- How far an event has come, and what is tried now.
pub record Stage (e : Begun) (old now : Seen) (left : List Write) : Type 0 where
  pub so : SoFar (Young IsIdle) e now.told (active_file now.catalog.active) now.catalog.last left
  pub consistent : IsConsistent now
  pub totals : IsFromScratch now
  pub synced : IsSyncedIfSealed now
  pub rows : RowsStay old.catalog.rows now.catalog.rows

-- the event that tries these writes begins
abbrev pub begun_of : Seen → Content → List Write → Begun
begun_of s c more = begun s.told (active_file s.catalog.active) c.log c.kept c.tried more

pub stage_begins : (s : Seen) (c : Content) (more : List Write) → FilesStand s c → Stage (begun_of s c more) s s c.tried
stage_begins s c more h = record {
  so = begins more h.holds;
  consistent = h.consistent;
  totals = h.totals;
  synced = h.synced;
  rows = rows_refl s.catalog.rows;
}

-- ---- the mend

pub so_repaired : (e : Begun) (a : Option Active) (t u : Told) (last : ℕ) (left : List Write)
    → SoFar (Young IsIdle) e t (active_file a) last left → (torn_of a ≡ false → left ≡ []) → RepairedOf a t u
    → SoFar (Young IsIdle) e u (active_file (with_torn false a)) last []
so_repaired e None t u last left so whole is =
    subst (λ (x : Told). SoFar (Young IsIdle) e x None last []) (sym is)
    (subst (SoFar (Young IsIdle) e t None last) (whole refl) so)
so_repaired e (Some a) t u last left so whole (inl same) =
    subst (λ (x : Told). SoFar (Young IsIdle) e x (active_file (Some a)) last []) (sym same.1)
    (subst (SoFar (Young IsIdle) e t (active_file (Some a)) last) (whole same.0) so)
so_repaired e (Some a) t u last left so whole (inr (torn, m, cut, synced)) = after_repair lasts_young_idle m so cut synced

pub stage_repaired : (tells : Bool) (e : Begun) (old s u : Seen) (left : List Write) → IsTrue tells → Stage e old s left
    → (is_torn s ≡ false → left ≡ []) → Repaired tells s u → IsConsistent u → IsFromScratch u → IsSyncedIfSealed u
    → Stage e old u []
stage_repaired tells e old s u left tell h whole r consistent totals synced = record {
  so =
      let catalog : u.catalog ≡ mended s.catalog = r.catalog in
      subst (λ (c : Known). SoFar (Young IsIdle) e u.told (active_file c.active) c.last []) (sym catalog)
      (so_repaired e s.catalog.active s.told u.told s.catalog.last left h.so whole (r.told tell));
  consistent = consistent;
  totals = totals;
  synced = synced;
  rows = subst (RowsStay old.catalog.rows) (sym (ap (λ (c : Known). c.rows) r.catalog)) h.rows;
}

so_half : (e : Begun) (a : Option Active) (t u : Told) (last : ℕ) (left : List Write)
    → SoFar (Young IsIdle) e t (active_file a) last left → HalfRepairedOf a t u
    → SoFar (Young IsIdle) e u (active_file a) last left
so_half e None t u last left so is = subst (λ (x : Told). SoFar (Young IsIdle) e x None last left) (sym is) so
so_half e (Some a) t u last left so (inl is) =
    subst (λ (x : Told). SoFar (Young IsIdle) e x (active_file (Some a)) last left) (sym is) so
so_half e (Some a) t u last left so (inr cut) = after_cut so cut

pub stage_half_repaired : (tells : Bool) (e : Begun) (old s u : Seen) (left : List Write) → IsTrue tells → Stage e old s left
    → HalfRepaired tells s u → IsConsistent u → IsFromScratch u → IsSyncedIfSealed u → Stage e old u left
stage_half_repaired tells e old s u left tell h r consistent totals synced = record {
  so = subst (λ (c : Known). SoFar (Young IsIdle) e u.told (active_file c.active) c.last left) (sym r.catalog)
      (so_half e s.catalog.active s.told u.told s.catalog.last left h.so (r.told tell));
  consistent = consistent;
  totals = totals;
  synced = synced;
  rows = subst (RowsStay old.catalog.rows) (sym (ap (λ (c : Known). c.rows) r.catalog)) h.rows;
}

-- ---- the roll

pub settles_of : (a : Option Active) (t u : Told) → SettledOf a t u → Settles (active_file a) t u
settles_of None t u is = is
settles_of (Some a) t u is = is

pub stage_rolled : (tells rolled : Bool) (e : Begun) (old s u : Seen) → IsTrue tells → Stage e old s []
    → IsRolledFor tells rolled s u → IsConsistent u → IsFromScratch u → IsSyncedIfSealed u → Stage e old u []
stage_rolled tells false e old s u tell h is consistent totals synced = subst (λ x. Stage e old x []) (sym is) h
stage_rolled tells true e old s u tell h (next, rolled) consistent totals synced =
    let (m, settles, made) = rolled tell in
    let active = sym (ap active_file next.active) in
    record {
      so = subst (λ a. SoFar (Young IsIdle) e u.told a u.catalog.last []) active
          (subst (λ (n : ℕ). SoFar (Young IsIdle) e u.told (Some (record { id = s.catalog.last + 1; len = 0 })) n [])
          (sym next.last)
          (after_roll lasts_young_idle (active_file s.catalog.active) h.so
          (m, settles_of s.catalog.active s.told m settles, made)));
      consistent = consistent;
      totals = totals;
      synced = synced;
      rows = rows_trans old.catalog.rows s.catalog.rows u.catalog.rows h.rows
          (subst (RowsStay s.catalog.rows) (sym next.rows)
          (rows_begun (s.catalog.last + 1) s.catalog.active s.catalog.rows));
    }

half_of : (c : Known) (t u : Told)
    → (u ≡ t) ⊎ (SettledOf c.active t u ⊎ ((m : Told) × SettledOf c.active t m × Made (main (c.last + 1)) false m u))
    → (u ≡ t) ⊎ (Settles (active_file c.active) t u
    ⊎ ((m : Told) × Settles (active_file c.active) t m × Made (main (c.last + 1)) false m u))
half_of c t u (inl is) = inl is
half_of c t u (inr (inl settles)) = inr (inl (settles_of c.active t u settles))
half_of c t u (inr (inr (m, settles, made))) = inr (inr (m, settles_of c.active t m settles, made))

pub stage_half_rolled : (e : Begun) (old s u : Seen) → Stage e old s [] → HalfRolled s u → u.catalog ≡ s.catalog
    → IsConsistent u → IsFromScratch u → IsSyncedIfSealed u → Stage e old u []
stage_half_rolled e old s u h half catalog consistent totals synced = record {
  so = subst (λ (c : Known). SoFar (Young IsIdle) e u.told (active_file c.active) c.last []) (sym catalog)
      (after_half_roll lasts_young_idle (active_file s.catalog.active) h.so (half_of s.catalog s.told u.told half));
  consistent = consistent;
  totals = totals;
  synced = synced;
  rows = subst (RowsStay old.catalog.rows) (sym (ap (λ (c : Known). c.rows) catalog)) h.rows;
}

-- ---- a call that changed neither the disk nor what is known of it

pub stage_same : (e : Begun) (old s u : Seen) (left : List Write) → Stage e old s left → u.told ≡ s.told
    → u.catalog ≡ s.catalog → IsConsistent u → Stage e old u left
stage_same e old s u left h told catalog consistent = record {
  so = subst (λ (c : Known). SoFar (Young IsIdle) e u.told (active_file c.active) c.last left) (sym catalog)
      (subst (λ (t : Told). SoFar (Young IsIdle) e t (active_file s.catalog.active) s.catalog.last left) (sym told) h.so);
  consistent = consistent;
  totals = subst (λ (c : Known). AreFromScratch c.rows u.told) (sym catalog)
      (subst (AreFromScratch s.catalog.rows) (sym told) h.totals);
  synced = subst (λ (c : Known). AreSyncedIfSealed c.rows u.told) (sym catalog)
      (subst (AreSyncedIfSealed s.catalog.rows) (sym told) h.synced);
  rows = subst (RowsStay old.catalog.rows) (sym (ap (λ (c : Known). c.rows) catalog)) h.rows;
}

-- ---- each file with bytes is a row's

active_row : (a : Active) (last : ℕ) (rows : List Row) (t : Told) → StandsAmong a last rows t
    → is_some (row_of a.id.0 rows) ≡ true
unfolding or_row
active_row a last rows t s =
    let here : (s.row.id.0 == a.id.0) ≡ true = grind (arith, nat_tests, s.now.id) in
    ap is_some (ap (row_of a.id.0) s.are ∙ row_of-append a.id.0 s.before (s.row ∷ s.behind)) ∙ go (row_of a.id.0 s.before) here where
      go : (o : Option Row) → (s.row.id.0 == a.id.0) ≡ true → is_some (or_row o (row_of a.id.0 (s.row ∷ s.behind))) ≡ true
      go (Some r) here = refl
      go None here = rw here refl

-- the known bytes of a file that isn't the active one are all
image_known : (o : Option Active) (rows : List Row) (last id : ℕ) (t : Told) → AreRows o last rows t
    → is_some (row_of id rows) ≡ false → bytes_in (known_of (active_file o) t.image) (main id) ≡ bytes_of (main id) t.image
image_known None rows last id t are none = refl
image_known (Some a) rows last id t are none =
    go (same (main id) (main a.id.0)) refl where
      go : (b : Bool) → same (main id) (main a.id.0) ≡ b
          → unwrap_or (cond b (option_map (take a.len) (at t.image (main id))) (at t.image (main id))) []
          ≡ bytes_of (main id) t.image
      go false p = refl
      go true p =
          let is : id ≡ a.id.0 = main_same id a.id.0 p in
          absurd (true≢false (sym (active_row a last rows t are)
          ∙ ap (λ (n : ℕ). is_some (row_of n rows)) (sym is) ∙ none))

known_none : (len : ℕ) (o : Option (List ℕ)) → unwrap_or o [] ≡ [] → unwrap_or (option_map (take len) o) [] ≡ []
known_none len None e = refl
known_none len (Some b) e = ap (take len) e ∙ take_all len [] (omega arith)

-- no bytes, so none known
pub known_empty : (a : Option ActiveFile) (image : Image) (n : Name) → bytes_of n image ≡ []
    → bytes_in (known_of a image) n ≡ []
known_empty None image n e = e
known_empty (Some a) image n e = go (same n (main a.id)) where
  go : (b : Bool) → unwrap_or (cond b (option_map (take a.len) (at image n)) (at image n)) [] ≡ []
  go true = known_none a.len (at image n) e
  go false = e

pub covered_after : (old now : Seen) (c : Content) → FilesStand old c → IsConsistent now
    → ((id : ℕ) → is_some (row_of id now.catalog.rows) ≡ false → row_of id old.catalog.rows ≡ None)
    → ((id : ℕ) → is_some (row_of id now.catalog.rows) ≡ false
    → bytes_in (known_bytes now) (main id) ≡ bytes_in (known_bytes old) (main id))
    → (id : ℕ) → 1 ≤ id → is_some (row_of id now.catalog.rows) ≡ false → bytes_of (main id) now.told.image ≡ []
covered_after old now c h consistent gone same id first none =
    sym (image_known now.catalog.active now.catalog.rows now.catalog.last id now.told consistent.made none)
    ∙ same id none
    ∙ known_empty (active_file old.catalog.active) old.told.image (main id)
    (h.covered id first (ap (λ (o : Option Row). is_some o) (gone id none)))

-- ---- the ends of an event

left_few : (tried more left : List Write) → length tried ≤ 1 → length more ≤ 1
    → (left ≡ tried) ⊎ ((left ≡ []) ⊎ (left ≡ more)) → length left ≤ 1
left_few tried more left a b (inl is) = omega (arith, ap length is, a)
left_few tried more left a b (inr (inl is)) = omega (arith, ap length is)
left_few tried more left a b (inr (inr is)) = omega (arith, ap length is, b)

-- nothing was written, and just this is tried
stage_leaves : (old now : Seen) (c : Content) (more tries left : List Write) → FilesStand old c → length more ≤ 1
    → Stage (begun_of old c more) old now left → (is_torn now ≡ false → left ≡ []) → IsLeft c.tried tries left
    → IsNotAppended old now c more tries
stage_leaves old now c more tries left was one h whole is_left = record {
  left = left;
  is_left = is_left;
  disk = record {
    consistent = h.consistent;
    totals = h.totals;
    synced = h.synced;
    holds = h.so.holds;
    whole = whole;
    few = left_few c.tried more left was.few one h.so.is_left;
    covered = covered_after old now c was h.consistent
        (λ id none. goes_none 0 (row_of id old.catalog.rows) (row_of id now.catalog.rows) (h.rows id) none)
        (λ id none. h.so.known (main id));
  };
  known = extends_same (known_bytes old) (known_bytes now) h.so.known;
  rows = h.rows;
  crash = h.so.each;
}

-- what is tried may be what the event tried
pub stage_ends : (old now : Seen) (c : Content) (more left : List Write) → FilesStand old c → length more ≤ 1
    → Stage (begun_of old c more) old now left → (is_torn now ≡ false → left ≡ []) → IsNotAppended old now c more more
stage_ends old now c more left was one h whole = stage_leaves old now c more more left was one h whole h.so.is_left

-- nothing is tried any more, whatever the event may leave tried
pub stage_clean : (old now : Seen) (c : Content) (more tries : List Write) → FilesStand old c → length more ≤ 1
    → Stage (begun_of old c more) old now [] → IsNotAppended old now c more tries
stage_clean old now c more tries was one h =
    stage_leaves old now c more tries [] was one h (λ not_torn. refl) (inr (inl refl))

-- a text that needs no new file goes to an active one
pub not_due : (size limit : ℕ) (o : Option Active) → due_of size limit o ≡ false → (a : Active) × (o ≡ Some a)
not_due size limit None is = absurd (true≢false is)
not_due size limit (Some a) is = (a, refl)

follows_of : (old s : Seen) (c : Content) (w : Write) (text : List ℕ) (e : Begun) (left : List Write) → e.log ≡ c.log
    → e.more ≡ w ∷ [] → Stage e old s left → MayFollow w text c → Follows e.log e.more text
follows_of old s c w text e left log more h may =
    let one : Follows e.log (w ∷ []) (record_of w) =
    follows_one w h.so.holds may.fits (subst (λ (l : List Write). last_seq l < w.seq.0) (sym log) may.newer) in
    subst (Follows e.log e.more) (sym may.is)
    (subst (λ (ws : List Write). Follows e.log ws (record_of w)) (sym more) one)

so_part : (e : Begun) (a : Active) (o : Option Active) (t u : Told) (last n : ℕ) (text : List ℕ) → o ≡ Some a
    → SoFar (Young IsIdle) e t (active_file o) last [] → Follows e.log e.more text
    → Appended (main (id_of o)) n text t u → SoFar (Young IsIdle) e u (active_file (with_torn true o)) last e.more
so_part e a None t u last n text is so f b = absurd (cc is)
so_part e a (Some x) t u last n text is so f b = after_part n so f b

torn_true : (a : Active) (o : Option Active) → o ≡ Some a → torn_of (with_torn true o) ≡ true
torn_true a None is = absurd (cc is)
torn_true a (Some x) is = refl

-- an append failed
pub stage_part : (old s u : Seen) (c : Content) (w : Write) (text : List ℕ) (n : ℕ) → FilesStand old c
    → Stage (begun_of old c (w ∷ [])) old s [] → MayFollow w text c → is_due (length text) s ≡ false
    → u.catalog ≡ torn s.catalog → Appended (active_name s) n text s.told u.told
    → IsConsistent u → IsFromScratch u → IsSyncedIfSealed u → IsNotAppended old u c (w ∷ []) (w ∷ [])
stage_part old s u c w text n was h may due catalog b consistent totals synced =
    let (a, is) = not_due (length text) s.catalog.max_file s.catalog.active due in
    let e = begun_of old c (w ∷ []) in
    let after : Stage e old u (w ∷ []) = record {
      so = subst (λ (k : Known). SoFar (Young IsIdle) e u.told (active_file k.active) k.last (w ∷ [])) (sym catalog)
          (so_part e a s.catalog.active s.told u.told s.catalog.last n text is h.so
          (follows_of old s c w text e [] refl refl h may) b);
      consistent = consistent;
      totals = totals;
      synced = synced;
      rows = subst (RowsStay old.catalog.rows) (sym (ap (λ (k : Known). k.rows) catalog)) h.rows;
    } in
    stage_ends old u c (w ∷ []) (w ∷ []) was (omega arith) after
    (λ not_torn. absurd (true≢false (sym (torn_true a s.catalog.active is) ∙ sym (ap (λ (k : Known). torn_of k.active) catalog) ∙ not_torn)))

-- an append went through
has_written : (e : Begun) (a : Active) (t u : Told) (last : ℕ) (text : List ℕ)
    → SoFar (Young IsIdle) e t (active_file (Some a)) last [] → Follows e.log e.more text
    → Appended (main a.id.0) (length text) text t u
    → HasWritten (Young IsIdle) e u (record { id = a.id.0; len = a.len }) text last
has_written e a t u last text so f b = after_append lasts_young_idle so f b

more_extends : (n : Name) (piece : List ℕ) (r s : Reading) → KnowsMore n piece r s → Extends r s
more_extends n piece r s more m = go (same m n) (more.more m) where
  go : (b : Bool) → bytes_in s m ≡ cond b (bytes_in r m ++ piece) (bytes_in r m)
      → (behind : List ℕ) × (bytes_in s m ≡ bytes_in r m ++ behind)
  go true is = (piece, is)
  go false is = ([], is ∙ sym (append-nil (bytes_in r m)))

not_active : (a : Active) (size last : ℕ) (rows : List Row) (id : ℕ) (t : Told) → AreRows (grown_of size (Some a)) last rows t
    → is_some (row_of id rows) ≡ false → same (main id) (main a.id.0) ≡ false
not_active a size last rows id t are none =
    elim (cases_Bool (same (main id) (main a.id.0))) [
      | inl p ↦
          let is : id ≡ a.id.0 = main_same id a.id.0 p in
          absurd (true≢false (sym (active_row (going_on (a.len + size) false a) last rows t are)
          ∙ ap (λ (n : ℕ). is_some (row_of n rows)) (sym is) ∙ none))
      | inr p ↦ p
    ]

pub stage_appended : (old s u : Seen) (c : Content) (w : Write) (text : List ℕ) (p : Place) → FilesStand old c
    → Stage (begun_of old c (w ∷ [])) old s [] → MayFollow w text c → is_due (length text) s ≡ false
    → Grows (length text) s.catalog u.catalog → Appended (active_name s) (length text) text s.told u.told
    → p.at ≡ active_len s → p.file.0 ≡ id_of s.catalog.active
    → IsConsistent u → IsFromScratch u → IsSyncedIfSealed u → IsAppended old u c w p
stage_appended old s u c w text p was h may due grows b at file consistent totals synced =
    let (a, is) = not_due (length text) s.catalog.max_file s.catalog.active due in
    go a is (ap (λ (o : Option Active). id_of o) is) (ap (λ (o : Option Active). len_of o) is) where
      go : (a : Active) → s.catalog.active ≡ Some a → id_of s.catalog.active ≡ a.id.0 → len_of s.catalog.active ≡ a.len
          → IsAppended old u c w p
      go a is id len =
          let e = begun_of old c (w ∷ []) in
          let so = subst (λ (o : Option Active). SoFar (Young IsIdle) e s.told (active_file o) s.catalog.last []) is h.so in
          let written = has_written e a s.told u.told s.catalog.last text so (follows_of old s c w text e [] refl refl h may)
          (subst (λ (n : ℕ). Appended (main n) (length text) text s.told u.told) id b) in
          let active : u.catalog.active ≡ grown_of (length text) (Some a) =
          grows.active ∙ ap (grown_of (length text)) is in
          let file_is : p.file.0 ≡ a.id.0 = file ∙ id in
          let long : length text ≡ size_of w = ap length may.is ∙ length-record_of w in
          let known : known_bytes u ≡ known_of (Some (record { id = a.id.0; len = a.len + length text })) u.told.image =
          ap (λ (o : Option Active). known_of (active_file o) u.told.image) active in
          let rows : RowsGrow a.id.0 (length text) s.catalog.rows u.catalog.rows =
          subst (RowsGrow a.id.0 (length text) s.catalog.rows)
          (sym (grows.rows ∙ ap (λ (o : Option Active). active_edited (with_len (len_of o + length text)) o s.catalog.rows) is))
          (rows_grown a s.catalog.last (length text) s.catalog.rows s.told
          (subst (λ (o : Option Active). AreRows o s.catalog.last s.catalog.rows s.told) is h.consistent.made)) in
          let grown = rows_then_grow a.id.0 (length text) old.catalog.rows s.catalog.rows u.catalog.rows h.rows rows in
          let more = subst (KnowsMore (main a.id.0) text (known_bytes old)) (sym known) written.known in
          let read : take (length text) (drop a.len (bytes_in (known_bytes u) (main a.id.0))) ≡ text =
          reads_piece a.len more written.place in
          record {
            disk = record {
              consistent = consistent;
              totals = totals;
              synced = synced;
              holds = subst (λ (o : Option ActiveFile). Holds (Young IsIdle) u.told o u.catalog.last (c.log ++ w ∷ []) c.kept [])
                  (sym (ap active_file active))
                  (subst (λ (n : ℕ). Holds (Young IsIdle) u.told (Some (record { id = a.id.0; len = a.len + length text })) n
                  (c.log ++ w ∷ []) c.kept []) (sym grows.last) written.holds);
              whole = λ not_torn. refl;
              few = omega arith;
              covered = covered_after old u c was consistent
                  (λ id none. goes_none (cond (id == a.id.0) (length text) 0) (row_of id old.catalog.rows)
                  (row_of id u.catalog.rows) (grown id) none)
                  (λ id none. more.more (main id)
                  ∙ ap (λ (b : Bool). cond b (bytes_in (known_bytes old) (main id) ++ text) (bytes_in (known_bytes old) (main id)))
                  (not_active a (length text) u.catalog.last u.catalog.rows id u.told
                  (subst (λ (o : Option Active). AreRows o u.catalog.last u.catalog.rows u.told) active consistent.made) none));
            };
            known = more_extends (main a.id.0) text (known_bytes old) (known_bytes u) more;
            placed = ap (λ (n : ℕ). take n (drop p.at (bytes_in (known_bytes u) (main p.file.0)))) (sym long)
                ∙ ap (λ (n : ℕ). take (length text) (drop n (bytes_in (known_bytes u) (main p.file.0)))) (at ∙ len)
                ∙ ap (λ (n : ℕ). take (length text) (drop a.len (bytes_in (known_bytes u) (main n)))) file_is
                ∙ read ∙ may.is;
            rows = subst (λ (n : ℕ). RowsGrow n (size_of w) old.catalog.rows u.catalog.rows) (sym file_is)
                (subst (λ (n : ℕ). RowsGrow a.id.0 n old.catalog.rows u.catalog.rows) long grown);
            crash = written.each;
          }
