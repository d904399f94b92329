-- What was found of the data files.
use Rattle.std.specs.Prelude.{◌≡◌, ◌⊎◌, ℕ, ◌+◌, ◌-◌, ◌≤◌, ◌==◌, nat_lt, cond, Bool, true, false, List, [], ◌∷◌, ◌++◌, length, Option, None, Some}
use Rattle.std.specs.List.{AllByRecursion}
use Rattle.bk_base.specs.declared.numbers.FileId.{FileId}
use Rattle.bk_base.specs.declared.rows.Row.{Row}
use Rattle.bk_base.specs.declared.rows.RowState.TheVariants.{Sealed}
use Rattle.bk_base.specs.declared.writes.Version.{Version}
use Rattle.bk_base.specs.declared.writes.Write.{Write}
use Rattle.bk_laws.specs.Record.{records_of}
use Rattle.bk_laws.specs.Version.{placed_from}
use Rattle.bk_hint.specs.declared.judging.Verdict.{Verdict}
use Rattle.bk_hint.specs.declared.judging.Verdict.TheVariants.{Good}
use Rattle.bk_hint.specs.Verdicts.{IsVerdict}
use Rattle.bk_image.specs.Readings.{Books, In, Reading, hint, main}
use Rattle.bk_image.specs.RecoveredLog.{HintTrue}
use Rattle.bk_keydir.specs.Counts.{live_of}
use Rattle.bk_keydir.specs.Keydir.{Entry}
use Rattle.bk_keydir.specs.declared.loads.Torn.{Torn}
use Rattle.bk_keydir.specs.declared.loads.HintNote.{HintNote}
use Rattle.bk_load.specs.declared.files.FileFound.{FileFound}
use Rattle.bk_load.specs.Counting.{top}
use Rattle.bk_load.specs.Learning.{IsKept, Known, Learns, greatest}

-- what the hint of a file of this length is, where it has one
abbrev pub IsJudged : Option (List ℕ) → ℕ → Option Verdict → Type 0
IsJudged None len None = Unit {0}
IsJudged (Some bytes) len (Some v) = IsVerdict bytes len v
IsJudged None len (Some v) = Unit {0} → ⊥
IsJudged (Some bytes) len None = Unit {0} → ⊥

-- The row of a data file that isn't appended to, without its counts, and the verdict on its hint.
pub record IsFound (r : Reading) (f : FileFound) : Type 0 where
  pub bytes : List ℕ
  pub there : r (main f.row.id.0) ≡ Some bytes
  pub len : f.row.len ≡ length bytes
  pub judged : IsJudged (r (hint f.row.id.0)) f.row.len f.verdict

-- what holds over every disk
pub record IsUncounted (f : FileFound) : Type 0 where
  pub small : f.row.len ≤ top
  pub total : f.row.total ≤ f.row.len
  pub live : f.row.live ≡ 0
  pub refs : f.row.refs ≡ 0
  pub state : f.row.state ≡ Sealed

-- the version ends within the file
pub record EndsWithin (f : FileFound) (v : Version) : Type 0 where
  pub file : v.file ≡ f.row.id
  pub within : v.at + v.size ≤ f.row.len

-- Each version that is kept now was so before, or it ends within one of these files.
abbrev pub KeepsFound : List FileFound → List Entry → List Entry → Type 0
KeepsFound found es fs = (v : Version) → IsKept v fs → IsKept v es ⊎ ((f : FileFound) × In f found × EndsWithin f v)

-- where there is a hint, it tells the truth of these writes
abbrev pub TrueIfThere : Option (List ℕ) → ℕ → List Write → Type 0
TrueIfThere None len writes = Unit {0}
TrueIfThere (Some bytes) len writes = HintTrue bytes len writes

-- the ids of the files rise, from `low` on
abbrev pub FilesRise : ℕ → List FileFound → Type 0
FilesRise low [] = Unit {0}
FilesRise low (f ∷ fs) = (low ≤ f.row.id.0) × FilesRise (f.row.id.0 + 1) fs

-- These are all data files from number 1 on, in order of id.
pub record AreFound (r : Reading) (found : List FileFound) : Type 0 where
  pub each : AllByRecursion (IsFound r) found
  pub all : (id : ℕ) (bytes : List ℕ) → 1 ≤ id → r (main id) ≡ Some bytes
      → (f : FileFound) × In f found × (f.row.id.0 ≡ id)

-- the records of these files, one file after the other
abbrev pub writes_in : Books → List FileFound → List Write
writes_in books [] = []
writes_in books (f ∷ fs) = books (main f.row.id.0) ++ writes_in books fs

abbrev pub placed_in : Books → List FileFound → List (List ℕ × Version)
placed_in books [] = []
placed_in books (f ∷ fs) = placed_from f.row.id 0 (books (main f.row.id.0)) ++ placed_in books fs

-- the bytes of the whole records of a file
abbrev pub total_of : ℕ → List FileFound → ℕ
total_of id [] = 0
total_of id (f ∷ fs) = cond (id == f.row.id.0) f.row.total 0 + total_of id fs

-- the bytes of each file's whole records are counted
abbrev pub HasTotal : Books → FileFound → Type 0
HasTotal books f = f.row.total ≡ length (records_of (books (main f.row.id.0)))

-- All that these files say was learned.
pub record HaveRead (books : Books) (found : List FileFound) (j k : Known) : Type 0 where
  pub totals : AllByRecursion (HasTotal books) found
  pub learns : Learns (placed_in books found) j.keys.entries k.keys.entries
  pub last : k.last ≡ greatest j.last (writes_in books found)
  -- of each file no more bytes are live than its records have
  pub grows : (id : ℕ) → live_of id k.keys.entries ≤ live_of id j.keys.entries + total_of id found

-- the report

abbrev pub torn_if : Row → List Torn
torn_if r = cond (nat_lt r.total r.len) ((record { at = r.total; bytes = r.len - r.total; file = r.id }) ∷ []) []

abbrev pub torn_in : List FileFound → List Torn
torn_in [] = []
torn_in (f ∷ fs) = torn_if f.row ++ torn_in fs

abbrev pub note_if : FileId → Option Verdict → List HintNote
note_if file None = []
note_if file (Some v) = (record { verdict = v; file = file }) ∷ []

abbrev pub notes_in : List FileFound → List HintNote
notes_in [] = []
notes_in (f ∷ fs) = note_if f.row.id f.verdict ++ notes_in fs

-- the row alone
abbrev pub found_row : FileFound → Row
found_row f = f.row

-- whether the file has a Good hint, and whether it has none that covers it whole
abbrev pub is_good : Option Verdict → Bool
is_good (Some (Good covered rows)) = true
is_good _ = false

abbrev pub is_hinted : FileFound → Bool
is_hinted f = is_good f.verdict

abbrev pub is_short_of : ℕ → Option Verdict → Bool
is_short_of len (Some (Good covered rows)) = nat_lt covered len
is_short_of len _ = true

abbrev pub is_scanned : FileFound → Bool
is_scanned f = is_short_of f.row.len f.verdict
