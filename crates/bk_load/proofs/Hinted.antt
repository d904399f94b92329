-- What is taken from a hint, by its verdict.
use Rattle.std.proofs.Common.{◌≡◌, ℕ, ◌≤◌, true, false, List, [], Some, refl, subst, arith}
use Rattle.std.specs.List.{AllByRecursion}
use Rattle.bk_base.specs.declared.numbers.FileId.{FileId}
use Rattle.bk_base.specs.declared.writes.Write.{Write}
use Rattle.bk_hint.specs.declared.judging.Verdict.{Verdict}
use Rattle.bk_hint.specs.declared.judging.Verdict.TheVariants.{NotWhole, BadCheck, LengthDiffers, BadRow, Good}
use Rattle.bk_hint.specs.Verdicts.{IsVerdict}
use Rattle.bk_hint.proofs.RoundTrips.{good_rows}
use Rattle.bk_image.proofs.Chances.{fit-left}
use Rattle.bk_keydir.specs.Keydir.{Entry}
use Rattle.bk_image.specs.RecoveredLog.{HintTrue}
use Rattle.bk_laws.specs.Hint.{Hinted, RowsLeft, rows_from}
use Rattle.bk_laws.specs.Record.{IsWritable}
use Rattle.bk_load.specs.Found.{is_good}
use Rattle.bk_load.specs.Hints.{HasTaken, covered_by}
use Rattle.bk_load.specs.Learning.{KeepsWithin, Known}
use Rattle.bk_load.specs.Scanning.{HasScanned}
use Rattle.bk_load.proofs.Places.{within_at}
use Rattle.bk_load.proofs.Scans.{scanned_none}

pub verdict_within : (bytes : List ℕ) (len : ℕ) (v : Verdict) → IsVerdict bytes len v → covered_by (Some v) ≤ len
verdict_within bytes len (Good covered count) (rows, good, is) = good.within
verdict_within bytes len NotWhole is = omega arith
verdict_within bytes len (BadCheck stored computed) is = omega arith
verdict_within bytes len (LengthDiffers said actual) is = omega arith
verdict_within bytes len (BadRow n) is = omega arith

pub verdict_rows : (bytes : List ℕ) (len : ℕ) (v : Verdict) → IsVerdict bytes len v → is_good (Some v) ≡ true
    → (covered : ℕ) × (rows : List Hinted) × RowsLeft bytes 0 covered rows
verdict_rows bytes len (Good covered count) (rows, good, is) usable = (covered, rows, good_rows bytes len covered rows good)
verdict_rows bytes len NotWhole is usable = absurd (cc usable)
verdict_rows bytes len (BadCheck stored computed) is usable = absurd (cc usable)
verdict_rows bytes len (LengthDiffers said actual) is usable = absurd (cc usable)
verdict_rows bytes len (BadRow n) is usable = absurd (cc usable)

-- what is kept of rows that are covered ends within the file
abbrev pub KeepsCovered : List ℕ → FileId → List Entry → List Entry → Type 0
KeepsCovered bytes file es fs = (covered : ℕ) (rows : List Hinted) → RowsLeft bytes 0 covered rows → KeepsWithin file covered es fs

pub verdict_kept : (bytes : List ℕ) (file : FileId) (len : ℕ) (v : Verdict) (es fs : List Entry) → IsVerdict bytes len v
    → is_good (Some v) ≡ true → KeepsCovered bytes file es fs → KeepsWithin file len es fs
verdict_kept bytes file len (Good covered count) es fs (rows, good, is) usable kept =
    within_at file file covered len es fs refl good.within (kept covered rows (good_rows bytes len covered rows good))
verdict_kept bytes file len NotWhole es fs is usable kept = absurd (cc usable)
verdict_kept bytes file len (BadCheck stored computed) es fs is usable kept = absurd (cc usable)
verdict_kept bytes file len (LengthDiffers said actual) es fs is usable kept = absurd (cc usable)
verdict_kept bytes file len (BadRow n) es fs is usable kept = absurd (cc usable)

-- what reading all rows gives
abbrev pub TakesAll : List ℕ → FileId → Known → Known → Type 0
TakesAll bytes file j k = (covered : ℕ) (writes : List Write) → RowsLeft bytes 0 covered (rows_from 0 writes)
    → AllByRecursion IsWritable writes → (end : ℕ) × HasScanned file 0 writes end j k

pub verdict_taken : (bytes : List ℕ) (file : FileId) (len : ℕ) (v : Verdict) (writes : List Write) (j k : Known)
    → IsVerdict bytes len v → is_good (Some v) ≡ true → HintTrue bytes len writes → AllByRecursion IsWritable writes
    → TakesAll bytes file j k → HasTaken file writes (covered_by (Some v)) j k
verdict_taken bytes file len (Good covered count) writes j k (rows, good, is) usable tells_truth fit all =
    let said = tells_truth covered rows good in
    let left : RowsLeft bytes 0 covered (rows_from 0 said.first) =
    subst (RowsLeft bytes 0 covered) said.rows_are (good_rows bytes len covered rows good) in
    let fits : AllByRecursion IsWritable said.first =
    fit-left said.first said.later (subst (AllByRecursion IsWritable) said.whole fit) in
    let (end, scanned) = all covered said.first left fits in
    let ends : end ≡ covered = let p = scanned.ends in let q = said.covers in omega (arith, p, q) in
    record {
      first = said.first;
      later = said.later;
      whole = said.whole;
      scanned = subst (λ (n : ℕ). HasScanned file 0 said.first n j k) ends scanned;
    }
verdict_taken bytes file len NotWhole writes j k is usable tells_truth fit all = absurd (cc usable)
verdict_taken bytes file len (BadCheck stored computed) writes j k is usable tells_truth fit all = absurd (cc usable)
verdict_taken bytes file len (LengthDiffers said actual) writes j k is usable tells_truth fit all = absurd (cc usable)
verdict_taken bytes file len (BadRow n) writes j k is usable tells_truth fit all = absurd (cc usable)

pub none_taken : (file : FileId) (writes : List Write) (j : Known) → HasTaken file writes 0 j j
none_taken file writes j = record { first = []; later = writes; whole = refl; scanned = scanned_none file 0 j }

pub verdict_none : (file : FileId) (v : Verdict) (writes : List Write) (j : Known) → is_good (Some v) ≡ false
    → HasTaken file writes (covered_by (Some v)) j j
verdict_none file (Good covered count) writes j unusable = absurd (cc unusable)
verdict_none file NotWhole writes j unusable = none_taken file writes j
verdict_none file (BadCheck stored computed) writes j unusable = none_taken file writes j
verdict_none file (LengthDiffers said actual) writes j unusable = none_taken file writes j
verdict_none file (BadRow n) writes j unusable = none_taken file writes j
