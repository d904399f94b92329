-- What the report of a directory tells: the files that count in it as it was found, whatever names they had.
use Rattle.std.specs.Prelude.{◌≡◌, ◌==◌, ◌&&◌, ℕ, ◌≤◌, not, List, [], ◌++◌, length, map, filter, sum_by, Bool, false, IsTrue, Option, None, Some, Result, Ok, Err}
use Rattle.std.specs.List.{AllByRecursion, flat_map}
use Rattle.bk_base.specs.declared.rows.Row.{Row}
use Rattle.bk_base.specs.declared.writes.Version.{Version}
use Rattle.bk_base.specs.declared.writes.Write.{Write}
use Rattle.bk_disk.specs.Told.{Image, Told, at}
use Rattle.bk_image.specs.CountedFiles.{HasNoList}
use Rattle.bk_image.specs.Readings.{In, Reading, hint}
use Rattle.bk_image.specs.RecoveredLog.{HintTrue}
use Rattle.bk_image.specs.SoundDirectory.{IsSound}
use Rattle.bk_hint.specs.declared.judging.Verdict.{Verdict}
use Rattle.bk_keydir.specs.declared.loads.HintNote.{HintNote}
use Rattle.bk_keydir.specs.declared.loads.Report.{Report}
use Rattle.bk_laws.specs.Log.{put_of, winner}
use Rattle.bk_laws.specs.Record.{AreRecords, records_of}
use Rattle.bk_laws.specs.Version.{placed_from}
use Rattle.bk_load.specs.Counting.{RowsRise}
use Rattle.bk_load.specs.Found.{IsJudged, note_if, torn_if}
use Rattle.bk_load.specs.Learning.{newest_in}
use Rattle.bk_load.specs.Lists.{AreOdd}
use Rattle.bk_load.specs.Tidying.{CountsWith}
use Rattle.bk_report.specs.Report.{report_text}
use Rattle.bk_report.specs.declared.errors.ReportError.{ReportError}
use Rattle.bk_report.specs.declared.errors.ReportError.TheVariants.{Sink}

-- A data file with what is reported of it: its row, and what its hint is, where it has one.
pub record ReportedFile : Type 0 where
  pub row : Row
  pub verdict : Option Verdict

abbrev pub row_in : ReportedFile → Row
row_in f = f.row

abbrev pub notes_on : ReportedFile → List HintNote
notes_on f = note_if f.row.id f.verdict

-- A data file that counts, with its length and with what its hint is. Its whole records are a part of it.
pub record IsCountedFile (r : Reading) (f : ReportedFile) : Type 0 where
  pub bytes : List ℕ
  pub counts : CountsWith r f.row.id.0 bytes
  pub len : f.row.len ≡ length bytes
  pub judged : IsJudged (r (hint f.row.id.0)) f.row.len f.verdict
  pub within : f.row.total ≤ f.row.len

-- These are all data files that count, in order of id.
pub record AreCountedFiles (r : Reading) (files : List ReportedFile) : Type 0 where
  pub rise : RowsRise 1 (map row_in files)
  pub each : AllByRecursion (IsCountedFile r) files
  pub all : (id : ℕ) (bytes : List ℕ) → CountsWith r id bytes → (f : ReportedFile) × In f files × (f.row.id.0 ≡ id)

-- The writes of each file that counts are those of its records, and its hint tells the truth of them.
pub record AreRead (r : Reading) (writes : ℕ → List Write) : Type 0 where
  pub records : (id : ℕ) (bytes : List ℕ) → CountsWith r id bytes → AreRecords bytes (writes id)
  pub hints : (id : ℕ) (bytes text : List ℕ) → CountsWith r id bytes → r (hint id) ≡ Some text
      → HintTrue text (length bytes) (writes id)

-- the bytes of its whole records
abbrev pub HasWhole : (ℕ → List Write) → ReportedFile → Type 0
HasWhole writes f = f.row.total ≡ length (records_of (writes f.row.id.0))

-- the write is the newest of its key, and a put
abbrev pub has_seq : ℕ → Option Write → Bool
has_seq seq None = false
has_seq seq (Some w) = w.seq.0 == seq

abbrev pub is_live_put : List Write → Write → Bool
is_live_put log w = has_seq w.seq.0 (put_of (winner log w.key))

-- the bytes of those of them that are live by the log
abbrev pub HasLive : List Write → (ℕ → List Write) → ReportedFile → Type 0
HasLive log writes f = f.row.live ≡ length (records_of (filter (is_live_put log) (writes f.row.id.0)))

-- The writes of a sound directory, of which its log says which are live.
pub record AreLiveBy (r : Reading) (log : List Write) (files : List ReportedFile) : Type 0 where
  pub writes : ℕ → List Write
  pub read : AreRead r writes
  pub live : AllByRecursion (HasLive log writes) files

-- the first is a put, and its record is that of the second
abbrev pub is_put_at : Option Version → Version → Bool
is_put_at None w = false
is_put_at (Some v) w = not v.gone && ((v.file.0 == w.file.0) && (v.at == w.at))

-- The record is the newest of its key among all, and a put. Of two records of a key with one seq the first counts.
abbrev pub is_newest : List (List ℕ × Version) → List ℕ × Version → Bool
is_newest all p = is_put_at (newest_in p.0 all) p.1

-- the records of a file, with their places
abbrev pub records_in : (ℕ → List Write) → ReportedFile → List (List ℕ × Version)
records_in writes f = placed_from f.row.id 0 (writes f.row.id.0)

abbrev pub size_in : List ℕ × Version → ℕ
size_in p = p.1.size

-- the bytes of those of them that are live by the records alone
abbrev pub HasNewest : (ℕ → List Write) → List ReportedFile → ReportedFile → Type 0
HasNewest writes files f =
    f.row.live ≡ sum_by size_in (filter (is_newest (flat_map (records_in writes) files)) (records_in writes f))

-- The report of these files.
pub record IsReport (image : Image) (files : List ReportedFile) (report : Report) : Type 0 where
  pub counted : AreCountedFiles (at image) files
  pub torn : report.torn.items ≡ flat_map torn_if (map row_in files)
  pub hints : report.hints.items ≡ flat_map notes_on files
  pub odd : AreOdd (at image) report.odd.items
  -- where the hints tell the truth
  pub whole : (writes : ℕ → List Write) → AreRead (at image) writes → AllByRecursion (HasWhole writes) files
  pub newest : (writes : ℕ → List Write) → AreRead (at image) writes → AllByRecursion (HasNewest writes files) files
  -- where the directory is sound
  pub live : (log : List Write) → IsSound image log → AreLiveBy (at image) log files

-- The text is the report of the directory as it was found. No swap list stands in it any more that says something.
pub record IsReportOf (was now : Told) (text : List ℕ) : Type 0 where
  pub files : List ReportedFile
  pub report : Report
  pub is_report : IsReport was.image files report
  pub says : text ≡ report_text (map row_in files) report
  pub idle : HasNoList (at now.image)

-- What was written: the whole report; a first part of it, where the sink failed; or else nothing.
abbrev pub Tells : Result Unit ReportError → Bool → Told → Told → List ℕ → Type 0
Tells (Ok done) tells was now output = IsTrue tells → IsReportOf was now output
Tells (Err Sink) tells was now output = (rest : List ℕ) × (IsTrue tells → IsReportOf was now (output ++ rest))
Tells (Err error) tells was now output = output ≡ []
