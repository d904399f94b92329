-- What reading one data file needs, and what it gives.
use Rattle.std.proofs.Common.{◌≡◌, ℕ, ◌≤◌, Bool, true, false, cond, List, [], ◌∷◌, length, drop, Option, Some, None, refl, sym, ap, subst, ◌∙◌, arith}
use Rattle.std.specs.Option.{is_some}
use Rattle.std.specs.Prelude.{IsSomeAnd}
use Rattle.bk_base.specs.declared.names.Name.{Name}
use Rattle.bk_base.specs.declared.numbers.FileId.{FileId}
use Rattle.bk_base.specs.declared.writes.Write.{Write}
use Rattle.bk_disk.specs.Crashes.{IsSynced, front_of}
use Rattle.bk_disk.specs.Names.{same}
use Rattle.bk_disk.specs.Told.{Front, Image, IsOurs, IsWell, Table, Told, at}
use Rattle.bk_disk.proofs.Leaves.{whole_fronts}
use Rattle.bk_disk.proofs.Files.{there_in_both}
use Rattle.bk_hint.specs.declared.judging.Verdict.{Verdict}
use Rattle.bk_hint.specs.declared.judging.Verdict.TheVariants.{Good}
use Rattle.bk_hint.proofs.Answering.{one_verdict}
use Rattle.bk_image.specs.CountedFiles.{HasNoList}
use Rattle.bk_image.specs.Readings.{IsThere, Reading, hint, main}
use Rattle.bk_laws.specs.Record.{AreRecords, records_of}
use Rattle.bk_load.specs.Found.{IsJudged}
use Rattle.bk_load.specs.Hints.{HasTaken, covered_by}
use Rattle.bk_load.specs.Learning.{Known}
use Rattle.bk_load.specs.Scanning.{HasScanned}
use Rattle.bk_load.specs.Tidying.{CoversAll, NeedsScan, NoneLent}
use Rattle.bk_load.proofs.Scans.{records_behind, taken_and_scanned}
use Rattle.bk_load.proofs.Tidied.{counts_own}

pub ours : (t : Told) (n : Name) → IsWell t → NoneLent t.fronts → IsThere (at t.image) n → IsOurs n t
ours t n well none there = (there, go (at t.fronts n) refl (there_in_both t n well ∙ there)) where
  go : (o : Option Front) → at t.fronts n ≡ o → is_some o ≡ true → IsSomeAnd o (λ f. f.lent ≡ false)
  go (Some f) is some = none n f is
  go None is some = absurd (cc some)

-- no file of a synced disk is lent
whole_lent : (image : Image) (n : Name) (f : Front) → at (whole_fronts image) n ≡ Some f → f.lent ≡ false
whole_lent [] n f is = absurd (cc is)
whole_lent (e ∷ es) n f is = go (same n e.0) is (whole_lent es n f) where
  go : (b : Bool) → cond b (Some (front_of e.1)) (at (whole_fronts es) n) ≡ Some f
      → (at (whole_fronts es) n ≡ Some f → f.lent ≡ false) → f.lent ≡ false
  go true here others = let one : front_of e.1 ≡ f = cc here in ap (λ (x : Front). x.lent) (sym one)
  go false later others = others later

pub synced_none_lent : (t : Told) → IsSynced t → NoneLent t.fronts
synced_none_lent t synced n f is = whole_lent t.image n f (ap (λ (fronts : Table Front). at fronts n) (sym synced) ∙ is)

-- A file whose hint doesn't cover it whole has to be read

covers_none : (o : Option (List ℕ)) (len : ℕ) (v : Option Verdict) → IsJudged o len v → (covered_by v ≡ len → ⊥) → CoversAll o len → ⊥
covers_none None len v judged short covers = covers tt
covers_none (Some bytes) len None judged short covers = judged tt
covers_none (Some bytes) len (Some v) judged short (rows, good) =
    let is : v ≡ Good len (length rows) = one_verdict bytes len v (Good len (length rows)) judged (rows, good, refl) in
    short (ap (λ (x : Verdict). covered_by (Some x)) is)

pub needs_scan : (r : Reading) (file : ℕ) (bytes : List ℕ) (len : ℕ) (v : Option Verdict) → 1 ≤ file → HasNoList r → r (main file) ≡ Some bytes
    → length bytes ≡ len → IsJudged (r (hint file)) len v → (covered_by v ≡ len → ⊥) → NeedsScan r file
needs_scan r file bytes len v first none there long judged short =
    let at_len : CoversAll (r (hint file)) len → ⊥ = covers_none (r (hint file)) len v judged short in
    (bytes, counts_own r file bytes first none there, λ covers. at_len (subst (CoversAll (r (hint file))) long covers))

-- what its hint told and what was scanned behind it
pub file_read : (file : FileId) (bytes : List ℕ) (writes : List Write) (covered end : ℕ) (j k l : Known)
    (taken : HasTaken file writes covered j k) → AreRecords bytes writes
    → (AreRecords (drop covered bytes) taken.later → HasScanned file covered taken.later end k l)
    → HasScanned file 0 writes end j l
file_read file bytes writes covered end j k l taken are scan =
    let ends : length (records_of taken.first) ≡ covered = let p = taken.scanned.ends in omega (arith, p) in
    let behind : AreRecords (drop (length (records_of taken.first)) bytes) taken.later =
    records_behind bytes taken.first taken.later (subst (AreRecords bytes) taken.whole are) in
    taken_and_scanned file writes covered end j k l taken
    (scan (subst (λ (n : ℕ). AreRecords (drop n bytes) taken.later) ends behind))
