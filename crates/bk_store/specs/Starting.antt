-- What a load of a directory has to give for a store to start.
use Rattle.std.specs.Prelude.{◌≡◌, ℕ, ◌+◌, ◌<◌, ◌≤◌, true, false, List, [], ◌∷◌, length, is_some, Some}
use Rattle.bk_base.specs.declared.histories.Opening.{Opening}
use Rattle.bk_base.specs.declared.limits.TheConstants.{LAST_SEQ, LONGEST_VALUE, MOST_FOLDS, RECORD_HEADER}
use Rattle.bk_base.specs.declared.names.Name.{Name}
use Rattle.bk_base.specs.declared.rows.Row.{Row}
use Rattle.bk_base.specs.declared.writes.Version.{Version}
use Rattle.bk_base.specs.declared.writes.Write.{Write}
use Rattle.bk_disk.specs.Told.{IsAbsent, Told, at, bytes_of}
use Rattle.bk_files.specs.Catalog.{main, row_of}
use Rattle.bk_files.specs.Rows.{AreAtRest, AreFromScratch}
use Rattle.bk_image.specs.CountedFiles.{HasNoList}
use Rattle.bk_image.specs.Readings.{In}
use Rattle.bk_image.specs.SoundDirectory.{IsSoundDisk}
use Rattle.bk_keydir.specs.declared.loads.Loaded.{Loaded}
use Rattle.bk_keydir.specs.Counts.{refs_of}
use Rattle.bk_keydir.specs.Keydir.{Entry}
use Rattle.bk_keydir.specs.Slots.{has_open}
use Rattle.bk_laws.specs.Log.{last_seq}
use Rattle.bk_store.specs.Rows.{RowsStand}
use Rattle.bk_store.specs.Shown.{IsFit, Shown, settings_of, snapshot_of}
use Rattle.bk_store.specs.Versions.{KeysStand}

-- The key has one version, a put that was given out. It is as long as a record of the key can be, and
-- its record ends within the file of one of these rows.
pub record HasOnePut (seq : ℕ) (rows : List Row) (e : Entry) : Type 0 where
  pub version : Version
  pub alone : e.1 ≡ version ∷ []
  pub put : version.gone ≡ false
  pub first : 1 ≤ version.seq.0
  pub fit : IsFit seq e.0 version
  pub most : version.size ≤ RECORD_HEADER + length e.0 + LONGEST_VALUE
  pub row : Row
  pub named : row_of version.file.0 rows ≡ Some row
  pub within : version.at + version.size ≤ row.len

-- over every disk, whatever it tells
pub record IsInOrder (l : Loaded) : Type 0 where
  pub seq : l.last_seq.0 ≤ LAST_SEQ
  pub no_fold : has_open l.keydir.slots ≡ false
  pub slots : length l.keydir.slots ≡ MOST_FOLDS
  pub keys : (e : Entry) → In e l.keydir.entries → HasOnePut l.last_seq.0 l.rows.items e
  pub refs : (id : ℕ) (r : Row) → row_of id l.rows.items ≡ Some r → r.refs ≡ refs_of id l.keydir.entries

-- where the disk tells: each row's file is there with the row's length, and no file has a later id
pub record AreFilesOf (t : Told) (l : Loaded) : Type 0 where
  pub rows : AreAtRest 1 (l.last_file.0 + 1) l.rows.items t
  pub free : (n : Name) → l.last_file.0 < n.id → IsAbsent n t.image

-- The directory is sound, synced and without swap lists, and what was loaded is what it says.
pub record IsLoadOf (t : Told) (l : Loaded) (log : List Write) : Type 0 where
  pub disk : IsSoundDisk t log
  pub idle : HasNoList (at t.image)
  pub seq : l.last_seq.0 ≡ last_seq log
  pub keys : KeysStand (at t.image) l.keydir.entries log
  pub totals : AreFromScratch l.rows.items t
  pub counts : RowsStand l.rows.items l.keydir.entries
  -- each data file that has bytes is a row's; the numbers of files begin with 1
  pub covered : (id : ℕ) → 1 ≤ id → is_some (row_of id l.rows.items) ≡ false → bytes_of (main id) t.image ≡ []

-- the opening of a store's history: the log that was found, and the store as it started
abbrev pub opening_of : List Write → Shown → Opening
opening_of log v = record {
  log = log;
  folds = [];
  snapshot = snapshot_of v;
  settings = settings_of v.settings;
  faults = v.files.faults;
  views = v.files.fallible_views;
  outs = v.files.fallible_outs;
  whole = true;
}
