-- The exits of an append: what each of them leaves.
use Rattle.std.proofs.Common.{◌≡◌, ℕ, ◌^◌, ◌<◌, ◌≤◌, Bool, true, false, List, [], ◌∷◌, length, Option, Some, None, refl, sym, ap, ◌∙◌, arith}
use Rattle.std.specs.Prelude.{IsTrue}
use Rattle.std.proofs.lemmas.Bool.{true≢false}
use Rattle.bk_base.specs.declared.writes.Write.{Write}
use Rattle.bk_disk.specs.Calls.{Appended}
use Rattle.bk_disk.specs.Causes.{Rose}
use Rattle.bk_laws.proofs.RecordBytes.{length-record_of, length_bound}
use Rattle.bk_files.specs.declared.catalog.Active.{Active}
use Rattle.bk_files.specs.declared.errors.RollError.{RollError}
use Rattle.bk_files.specs.declared.errors.RollError.TheVariants.{FullFiles as no_file, Disk as roll_failed, Memory as roll_memory}
use Rattle.bk_files.specs.Catalog.{Grows, Known, due_of, grown_of, id_of, mended, torn, torn_of, with_torn}
use Rattle.bk_files.specs.Files.{HalfRepaired, HalfRolled, IsConsistent, Repaired, Seen, active_len, active_name, is_due}
use Rattle.bk_files.specs.Rows.{IsRecord}
use Rattle.bk_store.specs.declared.appending.Place.{Place}
use Rattle.bk_store.specs.declared.errors.PutError.{PutError}
use Rattle.bk_store.specs.declared.errors.PutError.TheVariants.{Disk}
use Rattle.bk_store.specs.Appends.{Appends, DoesNotAppend, IsRolledFor, KeepsFacts, RollsNot, WhyNoAppend, WhyNoRoll, tried_by}
use Rattle.bk_store.specs.Errors.{put_error_of}
use Rattle.bk_store.specs.Standing.{Content, FilesStand}
use Rattle.bk_store.proofs.Stages.{Stage, begun_of, stage_appended, stage_begins, stage_clean, stage_ends, stage_half_repaired, stage_half_rolled, stage_part, stage_repaired, stage_rolled, stage_same}

-- the repair was refused
pub not_repaired : (tells : Bool) (text : List ℕ) (old new : Seen) → IsTrue tells → HalfRepaired tells old new
    → KeepsFacts old new → DoesNotAppend Disk text old new
not_repaired tells text old new tell half facts c w h may =
    let e = begun_of old c (w ∷ []) in
    stage_ends old new c (w ∷ []) c.tried h (omega arith)
    (stage_half_repaired tells e old old new c.tried tell (stage_begins old c (w ∷ []) h) half facts.consistent
    (facts.totals h.totals) (facts.synced h.synced))
    (λ not_torn. h.whole (sym (ap (λ (k : Known). torn_of k.active) half.catalog) ∙ not_torn))

-- the files after the repair, and after the roll
module _ (tells : Bool) (old mid : Seen) (tell : IsTrue tells) (repaired : Repaired tells old mid)
    (facts : KeepsFacts old mid) (c : Content) (w : Write) (h : FilesStand old c) where
  pub was_repaired : Stage (begun_of old c (w ∷ [])) old mid []
  was_repaired =
      stage_repaired tells (begun_of old c (w ∷ [])) old old mid c.tried tell (stage_begins old c (w ∷ []) h) h.whole repaired
      facts.consistent (facts.totals h.totals) (facts.synced h.synced)

  pub was_rolled : (rolled : Bool) (new : Seen) → IsRolledFor tells rolled mid new → KeepsFacts mid new
      → Stage (begun_of old c (w ∷ [])) old new []
  was_rolled rolled new is after =
      stage_rolled tells rolled (begun_of old c (w ∷ [])) old mid new tell was_repaired is after.consistent
      (after.totals was_repaired.totals) (after.synced was_repaired.synced)

  pub was_ready : (rolled : Bool) (new last : Seen) → IsRolledFor tells rolled mid new → KeepsFacts mid new
      → last.told ≡ new.told → last.catalog ≡ new.catalog → IsConsistent last → Stage (begun_of old c (w ∷ [])) old last []
  was_ready rolled new last is after told catalog consistent =
      stage_same (begun_of old c (w ∷ [])) old new last [] (was_rolled rolled new is after) told catalog consistent

-- the roll was refused
pub not_rolled : (tells : Bool) (e : PutError) (text : List ℕ) (old mid new : Seen) → IsTrue tells → Repaired tells old mid
    → KeepsFacts old mid → HalfRolled mid new → new.catalog ≡ mid.catalog → KeepsFacts mid new → DoesNotAppend e text old new
not_rolled tells e text old mid new tell repaired facts half catalog after c w h may =
    let s = was_repaired tells old mid tell repaired facts c w h in
    stage_clean old new c (w ∷ []) (tried_by e w) h (omega arith)
    (stage_half_rolled (begun_of old c (w ∷ [])) old mid new s half catalog after.consistent (after.totals s.totals)
    (after.synced s.synced))

-- no room was made
pub not_ready : (tells rolled : Bool) (e : PutError) (text : List ℕ) (old mid new last : Seen) → IsTrue tells
    → Repaired tells old mid → KeepsFacts old mid → IsRolledFor tells rolled mid new → KeepsFacts mid new
    → last.told ≡ new.told → last.catalog ≡ new.catalog → IsConsistent last → DoesNotAppend e text old last
not_ready tells rolled e text old mid new last tell repaired facts is after told catalog consistent c w h may =
    stage_clean old last c (w ∷ []) (tried_by e w) h (omega arith)
    (was_ready tells old mid tell repaired facts c w h rolled new last is after told catalog consistent)

-- the append failed
pub not_appended : (tells rolled : Bool) (text : List ℕ) (old mid new last now : Seen) (n : ℕ) → IsTrue tells
    → Repaired tells old mid → KeepsFacts old mid → IsRolledFor tells rolled mid new → KeepsFacts mid new
    → last.told ≡ new.told → last.catalog ≡ new.catalog → IsConsistent last → is_due (length text) last ≡ false
    → now.catalog ≡ torn last.catalog → Appended (active_name last) n text last.told now.told → KeepsFacts last now
    → DoesNotAppend Disk text old now
not_appended tells rolled text old mid new last now n tell repaired facts is after told catalog consistent due tore b left c w h may =
    let s = was_ready tells old mid tell repaired facts c w h rolled new last is after told catalog consistent in
    stage_part old last now c w text n h s may due tore b left.consistent (left.totals s.totals) (left.synced s.synced)

-- it went through
pub is_appended : (tells rolled : Bool) (text : List ℕ) (p : Place) (old mid new last now : Seen) → IsTrue tells
    → Repaired tells old mid → KeepsFacts old mid → IsRolledFor tells rolled mid new → KeepsFacts mid new
    → last.told ≡ new.told → last.catalog ≡ new.catalog → IsConsistent last → is_due (length text) last ≡ false
    → Grows (length text) last.catalog now.catalog → Appended (active_name last) (length text) text last.told now.told
    → p.at ≡ active_len last → p.file.0 ≡ id_of last.catalog.active → KeepsFacts last now → Appends text p old now
is_appended tells rolled text p old mid new last now tell repaired facts is after told catalog consistent due grows b at file left
    c w h may =
    let s = was_ready tells old mid tell repaired facts c w h rolled new last is after told catalog consistent in
    stage_appended old last now c w text p h s may due grows b at file left.consistent (left.totals s.totals) (left.synced s.synced)

-- ---- the causes

pub mended_whole : (o : Option Active) → torn_of (with_torn false o) ≡ false
mended_whole None = refl
mended_whole (Some a) = refl

mended_due : (size limit : ℕ) (o : Option Active) → due_of size limit (with_torn false o) ≡ due_of size limit o
mended_due size limit None = refl
mended_due size limit (Some a) = refl

-- a repair changes neither whether a new file is due nor the last id
pub due_still : (size : ℕ) (old mid : Seen) → mid.catalog ≡ mended old.catalog → is_due size mid ≡ is_due size old
due_still size old mid catalog =
    ap (λ (k : Known). due_of size k.max_file k.active) catalog ∙ mended_due size old.catalog.max_file old.catalog.active

pub rose_since : (before middle now : ℕ) → before ≤ middle → Rose middle now → Rose before now
rose_since before middle now low rose = omega (arith, low, rose)

pub why_no_roll : (tells : Bool) (text : List ℕ) (size : ℕ) (old mid new : Seen) (e : RollError) → size ≡ length text
    → mid.catalog ≡ mended old.catalog → old.faults ≤ mid.faults → RollsNot tells size mid new e
    → WhyNoAppend text old new (put_error_of e)
why_no_roll tells text size old mid new e is catalog low r = go e r.why where
  due : is_due (length text) old ≡ true
  due = sym (due_still (length text) old mid catalog) ∙ ap (λ (n : ℕ). is_due n mid) (sym is) ∙ r.due

  go : (e : RollError) → WhyNoRoll mid new e → WhyNoAppend text old new (put_error_of e)
  go no_file h = (due, omega (arith, h, ap (λ (k : Known). k.last) catalog))
  go roll_failed h = rose_since old.faults mid.faults new.faults low h
  go roll_memory h = λ not_due room. true≢false (sym due ∙ not_due)

id_grown : (size : ℕ) (o : Option Active) → id_of (grown_of size o) ≡ id_of o
id_grown size None = refl
id_grown size (Some a) = refl

-- the file that was appended to is the active one, as before
pub file_is : (size n : ℕ) (last now : Seen) → Grows size last.catalog now.catalog → n ≡ id_of now.catalog.active
    → n ≡ id_of last.catalog.active
file_is size n last now grows is = is ∙ ap id_of grows.active ∙ id_grown size last.catalog.active

-- a text of one record is short
pub text_short : (text : List ℕ) → IsRecord text → length text < 2 ^ 32
text_short text (w, fits, is) =
    omega (arith, ap length is, length-record_of w, fits.key.bounds.short, length_bound w.body fits.body)
