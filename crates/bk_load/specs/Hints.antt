-- What was learned from a hint.
use Rattle.std.specs.Prelude.{◌≡◌, ℕ, List, ◌++◌, Option, Some}
use Rattle.bk_base.specs.declared.numbers.FileId.{FileId}
use Rattle.bk_base.specs.declared.writes.Write.{Write}
use Rattle.bk_hint.specs.declared.judging.Verdict.{Verdict}
use Rattle.bk_hint.specs.declared.judging.Verdict.TheVariants.{Good}
use Rattle.bk_load.specs.Learning.{Known}
use Rattle.bk_load.specs.Scanning.{HasScanned}

-- how many bytes of the data file a hint covers, none where it can't be used
abbrev pub covered_by : Option Verdict → ℕ
covered_by (Some (Good covered rows)) = covered
covered_by _ = 0

-- The first of a file's writes, up to this place, were learned.
pub record HasTaken (file : FileId) (writes : List Write) (covered : ℕ) (j k : Known) : Type 0 where
  pub first : List Write
  pub later : List Write
  pub whole : writes ≡ first ++ later
  pub scanned : HasScanned file 0 first covered j k
