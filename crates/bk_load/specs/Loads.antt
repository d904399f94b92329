-- What recovery gives: the rows, the keydir, the last numbers and the report, by what the directory
-- holds. It has no list any more, so each file under its own name counts that isn't numbered 0.
use Rattle.std.specs.Prelude.{◌≡◌, ℕ, cond, min, List, map, count_by, Option, None, Some}
use Rattle.std.specs.List.{AllByRecursion}
use Rattle.bk_base.specs.declared.names.Name.{Name}
use Rattle.bk_base.specs.declared.writes.Version.{Version}
use Rattle.bk_image.specs.CountedFiles.{Counts}
use Rattle.bk_image.specs.Readings.{Books, In, Reading, bytes_in}
use Rattle.bk_image.specs.RecoveredLog.{HintsTrue}
use Rattle.bk_keydir.specs.Keydir.{Entry, newest_of, versions_of}
use Rattle.bk_keydir.specs.declared.loads.Loaded.{Loaded}
use Rattle.bk_keydir.specs.declared.loads.Report.{Report}
use Rattle.bk_laws.specs.Record.{AreRecords}
use Rattle.bk_store.specs.Rows.{RowsStand}
use Rattle.bk_load.specs.declared.files.FileFound.{FileFound}
use Rattle.bk_load.specs.Counting.{all_counted}
use Rattle.bk_load.specs.Found.{AreFound, FilesRise, HasTotal, IsUncounted, found_row, is_hinted, is_scanned, notes_in, placed_in, torn_in, writes_in}
use Rattle.bk_load.specs.Learning.{greatest, newest_in}

-- the writes of each file that counts are those of its records
abbrev pub AreBooks : Reading → Books → Type 0
AreBooks r books = (n : Name) → Counts r n → AreRecords (bytes_in r n) (books n)

-- the version, where it is a put
abbrev pub put_if : Option Version → Option Version
put_if None = None
put_if (Some v) = cond v.gone None (Some v)

-- What the records of these files say, in order of id. Of each key the newest version is known, where
-- it is a put; of two with one seq the one that stands first counts.
pub record SaysAsRead (books : Books) (found : List FileFound) (l : Loaded) : Type 0 where
  pub totals : AllByRecursion (HasTotal books) found
  pub keys : (key : List ℕ) → newest_of (versions_of key l.keydir.entries) ≡ put_if (newest_in key (placed_in books found))
  pub last : l.last_seq.0 ≡ greatest 0 (writes_in books found)
  pub counts : RowsStand l.rows.items l.keydir.entries

-- a version that is kept is its key's newest
abbrev pub AreLone : List Entry → Type 0
AreLone es = (e : Entry) (v : Version) → In e es → In v e.1 → newest_of (versions_of e.0 es) ≡ Some v

-- what a count of files stays at
abbrev pub top_count : ℕ
top_count = 4294967295

-- The report of these files, but for the odd names.
pub record Reports (found : List FileFound) (report : Report) : Type 0 where
  pub torn : report.torn.items ≡ torn_in found
  pub hints : report.hints.items ≡ notes_in found
  pub hinted : report.hinted ≡ min (count_by is_hinted found) top_count
  pub scanned : report.scanned ≡ min (count_by is_scanned found) top_count

-- What was loaded of the files that read so.
pub record IsLoadedFrom (r : Reading) (l : Loaded) : Type 0 where
  -- the data files, each with its row before it is counted, and with what its hint is
  pub found : List FileFound
  pub files : AreFound r found
  pub rise : FilesRise 1 found
  pub uncounted : AllByRecursion IsUncounted found
  pub rows : l.rows.items ≡ all_counted l.keydir.entries (map found_row found)
  pub report : Reports found l.report
  pub lone : AreLone l.keydir.entries
  -- where the hints tell the truth
  pub read : (books : Books) → AreBooks r books → HintsTrue r books → SaysAsRead books found l
