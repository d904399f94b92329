-- What a store shows of itself.
use Rattle.std.specs.Prelude.{◌≡◌, ℕ, ◌+◌, ◌≤◌, Bool, List, [], length, Option, None, Some, IsTrue}
use Rattle.bk_base.specs.declared.limits.TheConstants.{LAST_SEQ, MOST_FOLDS, RECORD_HEADER}
use Rattle.bk_base.specs.declared.histories.Snapshot.{Snapshot}
use Rattle.bk_base.specs.declared.histories.StoreSettings.{StoreSettings}
use Rattle.bk_base.specs.declared.writes.Version.{Version}
use Rattle.bk_policy.specs.declared.settings.Settings.{Settings}
use Rattle.bk_image.specs.Readings.{In, Reading}
use Rattle.bk_image.specs.Core.{ActiveFile}
use Rattle.bk_image.specs.Known.{known_of}
use Rattle.bk_files.specs.declared.catalog.Active.{Active}
use Rattle.bk_disk.specs.Told.{nothing_told}
use Rattle.bk_files.specs.Catalog.{Known}
use Rattle.bk_files.specs.Files.{IsConsistent, Seen}
use Rattle.bk_keydir.specs.declared.slots.Slot.{Slot}
use Rattle.bk_keydir.specs.Slots.{IsOpen}
use Rattle.bk_keydir.specs.Keydir.{Entry}
use Rattle.bk_keydir.specs.Keydir.{Shown as KeydirShown}

pub record Shown : Type 0 where
  pub files : Seen
  pub keys : KeydirShown
  -- the seq of the last write, 0 where there is none
  pub seq : ℕ
  pub settings : Settings
  -- how many bytes a record may have that is made without further memory
  pub buffer : ℕ

-- the active file, and how many of its bytes are known to be whole records
abbrev pub active_file : Option Active → Option ActiveFile
active_file None = None
active_file (Some a) = Some (record { id = a.id.0; len = a.len })

-- the bytes of the files that are known to be whole records
abbrev pub known_bytes : Seen → Reading
known_bytes s = known_of (active_file s.catalog.active) s.told.image

-- what a history records of a store: its files as they are, and no merge
abbrev pub snapshot_of : Shown → Snapshot
snapshot_of v = record {
  rows = v.files.catalog.rows;
  written = [];
  job = None;
  last_file = record { 0 = v.files.catalog.last };
}

abbrev pub settings_of : Settings → StoreSettings
settings_of s = record { dead_bytes = s.dead_bytes; max_file = s.max_file; ttl = s.ttl; dead_percent = s.dead_percent }

-- what a store shows of itself without its disk
pub record DetachedShown : Type 0 where
  pub catalog : Known
  pub keys : KeydirShown
  pub seq : ℕ
  pub settings : Settings
  pub buffer : ℕ

-- the files of a store without its disk
abbrev pub without_disk : Known → Seen
without_disk catalog = record {
  told = nothing_told;
  faults = 0;
  fallible_views = 0;
  fallible_outs = 0;
  room = 0;
  catalog = catalog;
}

-- What holds of each store over every disk.

-- the version of a key has a seq that was given out, and is as long as the key alone makes it
pub record IsFit (seq : ℕ) (key : List ℕ) (v : Version) : Type 0 where
  pub given_out : v.seq.0 ≤ seq
  pub long : RECORD_HEADER + length key ≤ v.size

pub record IsSteady (tells : Bool) (files : Seen) (keys : KeydirShown) (seq : ℕ) : Type 0 where
  pub consistent : IsTrue tells → IsConsistent files
  pub last : seq ≤ LAST_SEQ
  pub slots : length keys.slots ≡ MOST_FOLDS
  pub epochs : (s : Slot) → IsOpen keys.slots s → s.epoch.0 ≤ seq
  pub versions : (e : Entry) (v : Version) → In e keys.entries → In v e.1 → IsFit seq e.0 v
