-- Where the first line of some bytes ends. Only the clauses of private functions speak of it.
use Rattle.std.specs.Prelude.{◌≡◌, ◌≢◌, ℕ, ◌+◌, ◌<◌, ◌≤◌, List, ◌∷◌, ◌++◌, length, take, drop, Option, Some, None}
use Rattle.std.specs.List.{All}
use Rattle.bk_script.specs.declared.limits.TheConstants.{LONGEST_LINE}
use Rattle.bk_script.specs.declared.reader.Front.{Front}
use Rattle.bk_script.specs.declared.reader.Front.TheVariants.{Unended, Over, Line}
use Rattle.bk_script.specs.Script.{IsUnended}

-- the first line feed is at this index, or there is none
abbrev pub EndsAt : Option ℕ → List ℕ → Type 0
EndsAt (Some end) bytes = All (λ b. b ≢ 10) (take end bytes) × (drop end bytes ≡ 10 ∷ drop (end + 1) bytes)
EndsAt None bytes = All (λ b. b ≢ 10) bytes

-- the bytes up to the first line feed are at the front
pub record IsFirst (line bytes : List ℕ) : Type 0 where
  pub no_end : All (λ b. b ≢ 10) line
  pub short : length line < LONGEST_LINE
  pub whole : bytes ≡ line ++ 10 ∷ drop (length line + 1) bytes

-- the first 256 bytes have no line feed
pub record IsOver (bytes : List ℕ) : Type 0 where
  pub no_end : All (λ b. b ≢ 10) (take LONGEST_LINE bytes)
  pub long : LONGEST_LINE ≤ length bytes

abbrev pub IsFront : Front → List ℕ → Type 0
IsFront Unended bytes = IsUnended bytes
IsFront Over bytes = IsOver bytes
IsFront (Line line) bytes = IsFirst line.now bytes
