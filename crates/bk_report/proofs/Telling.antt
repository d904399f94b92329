-- What was written of a report.
use Rattle.std.proofs.Common.{◌≡◌, ◌∙◌, Bool, true, false, List, [], ◌++◌, ℕ, refl, sym, subst, IsTrue, Result, Ok, Err}
use Rattle.std.specs.Result.{IsErrOf, OnOk}
use Rattle.std.proofs.lemmas.List.{append-nil}
use Rattle.bk_disk.specs.Streams.{LeftOver, Wrote}
use Rattle.bk_disk.specs.Told.{Told}
use Rattle.bk_load.specs.declared.errors.OpenError.{OpenError}
use Rattle.bk_load.specs.declared.errors.OpenError.TheVariants.{Disk as open_disk, Read as open_read, Memory as open_memory}
use Rattle.bk_report.specs.Directory.{IsReportOf, Tells}
use Rattle.bk_report.specs.Errors.{report_error_of}
use Rattle.bk_report.specs.declared.errors.ReportError.{ReportError}
use Rattle.bk_report.specs.declared.errors.ReportError.TheVariants.{Disk, Memory, Read, Sink}

-- the text that the sink took is told
abbrev pub Writes : Result Unit ReportError → Bool → Bool → Told → Told → List ℕ → List ℕ → Type 0
Writes r heard tells was now old new =
    (output : List ℕ) × Tells r tells was now output × (IsTrue heard → new ≡ old ++ output)

nothing_written : (heard : Bool) (old new : List ℕ) → new ≡ old → IsTrue heard → new ≡ old ++ []
nothing_written heard old new same t = same ∙ sym (append-nil old)

-- the directory wasn't recovered
pub none_told : (e : OpenError) (heard tells : Bool) (was now : Told) (old : List ℕ)
    → Writes (Err (report_error_of e)) heard tells was now old old
none_told open_disk heard tells was now old = ([], refl, nothing_written heard old old refl)
none_told open_read heard tells was now old = ([], refl, nothing_written heard old old refl)
none_told open_memory heard tells was now old = ([], refl, nothing_written heard old old refl)

module _ (tells : Bool) (was now : Told) (old new text : List ℕ) (is : IsTrue tells → IsReportOf was now text) where
  part_told : (heard : Bool) → (IsTrue heard → LeftOver old new text) → Writes (Err Sink) heard tells was now old new
  part_told true left =
      let (part, rest, wrote, whole) = left refl in
      (part, (rest, (λ t. subst (IsReportOf was now) (sym whole) (is t))), (λ t. wrote))
  part_told false left = ([], (text, is), (λ t. absurd (cc t)))

  pub told_of : (r : Result Unit ReportError) (heard : Bool) → (IsTrue heard → OnOk r (Wrote old new text))
      → (IsTrue heard → IsErrOf r Sink → LeftOver old new text) → (IsErrOf r Memory → new ≡ old)
      → (IsErrOf r Disk → ⊥) → (IsErrOf r Read → ⊥) → Writes r heard tells was now old new
  told_of (Ok done) heard whole part none no_disk no_read = (text, is, (λ t. whole t))
  told_of (Err Sink) heard whole part none no_disk no_read = part_told heard (λ t. part t refl)
  told_of (Err Memory) heard whole part none no_disk no_read = ([], refl, nothing_written heard old new (none refl))
  told_of (Err Disk) heard whole part none no_disk no_read = absurd (no_disk refl)
  told_of (Err Read) heard whole part none no_disk no_read = absurd (no_read refl)
