-- Where each verdict on a hint comes. No two of them come at the same bytes.
use Rattle.std.specs.Prelude.{◌≡◌, ◌≢◌, ℕ, ◌<◌, ◌≤◌, List, ◌∷◌, ◌++◌, length, Option, Some, None, Bool, true, false}
use Rattle.std.specs.List.{AllByRecursion}
use Rattle.bk_crc.specs.Crc.{crc_of}
use Rattle.bk_laws.specs.Hint.{FitsRow, Hinted, IsGood, IsHint, IsSoundRow, rows_text}
use Rattle.bk_hint.specs.declared.judging.Verdict.{Verdict}
use Rattle.bk_hint.specs.declared.judging.Verdict.TheVariants.{NotWhole, BadCheck, LengthDiffers, BadRow, Good}

-- the n-th row is not sound, and each row before it is
pub record IsFirstBad (covered : ℕ) (rows : List Hinted) (n : ℕ) : Type 0 where
  pub before : List Hinted
  pub row : Hinted
  pub later : List Hinted
  pub whole : rows ≡ before ++ row ∷ later
  pub place : n ≡ length before
  pub sound : AllByRecursion (IsSoundRow covered) before
  pub bad : IsSoundRow covered row → ⊥

abbrev pub IsVerdict : List ℕ → ℕ → Verdict → Type 0
IsVerdict bytes len NotWhole =
    (covered : ℕ) (rows : List Hinted) (crc : ℕ) → IsHint bytes covered rows crc → ⊥
IsVerdict bytes len (BadCheck stored computed) =
    (covered : ℕ) × (rows : List Hinted) × IsHint bytes covered rows stored
    × (computed ≡ crc_of (rows_text rows)) × (stored ≢ computed)
IsVerdict bytes len (LengthDiffers said is_len) =
    (rows : List Hinted) × IsHint bytes said rows (crc_of (rows_text rows))
    × (is_len ≡ len) × (len < said)
IsVerdict bytes len (BadRow n) =
    (covered : ℕ) × (rows : List Hinted) × IsHint bytes covered rows (crc_of (rows_text rows))
    × (covered ≤ len) × IsFirstBad covered rows n
IsVerdict bytes len (Good covered count) =
    (rows : List Hinted) × IsGood bytes len covered rows × (count ≡ length rows)

-- The bytes are these rows, one after the other, and nothing else.
pub record AreRows (bytes : List ℕ) (rows : List Hinted) : Type 0 where
  pub fit : AllByRecursion FitsRow rows
  pub whole : bytes ≡ rows_text rows

-- the first row that isn't sound, or none
abbrev pub FirstBad : ℕ → List Hinted → Option ℕ → Type 0
FirstBad covered rows None = AllByRecursion (IsSoundRow covered) rows
FirstBad covered rows (Some n) = IsFirstBad covered rows n

-- the first of two findings: one that there is, and then the row of this number where it isn't sound
abbrev pub first_by : Option ℕ → ℕ → Bool → Option ℕ
first_by (Some n) row sound = Some n
first_by None row true = None
first_by None row false = Some row

-- the rows behind which a walk has come, how many they are, and the first that isn't sound
pub record IsWalked (covered : ℕ) (rows : List Hinted) (count : ℕ) (bad : Option ℕ) : Type 0 where
  pub number : count ≡ length rows
  pub first : FirstBad covered rows bad

-- What a walk found in whole bytes: the checksum of the rows, how many they are, and the first that
-- isn't sound; covered and stored are the mark's.
pub record IsWhole (bytes : List ℕ) (covered stored computed count : ℕ) (bad : Option ℕ) : Type 0 where
  pub rows : List Hinted
  pub hint : IsHint bytes covered rows stored
  pub check : computed ≡ crc_of (rows_text rows)
  pub walked : IsWalked covered rows count bad

-- the bytes end with those that are left
pub record EndsWith (bytes left : List ℕ) : Type 0 where
  pub front : List ℕ
  pub whole : bytes ≡ front ++ left
