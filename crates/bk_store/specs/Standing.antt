-- When a store stands for a history: all that it has and all that its disk holds is what the history
-- says. What a write that a failed append tried may have left stands beside it.
use Rattle.std.specs.Prelude.{◌≡◌, ℕ, ◌≤◌, false, List, [], length, is_some}
use Rattle.bk_base.specs.declared.histories.OpenFold.{OpenFold}
use Rattle.bk_base.specs.declared.histories.Opening.{Opening}
use Rattle.bk_base.specs.declared.histories.Step.{Step}
use Rattle.bk_base.specs.declared.writes.Write.{Write}
use Rattle.bk_disk.specs.Told.{bytes_of}
use Rattle.bk_files.specs.Catalog.{main, row_of}
use Rattle.bk_files.specs.Files.{IsConsistent, IsFromScratch, IsSyncedIfSealed, Seen, is_torn}
use Rattle.bk_image.specs.Holds.{Holds, IsIdle, Young}
use Rattle.bk_keydir.specs.Keydir.{Shown as KeydirShown}
use Rattle.bk_laws.specs.History.{IsLegalHistory, log_of}
use Rattle.bk_laws.specs.Log.{last_seq}
use Rattle.bk_store.specs.Folds.{FoldsStand}
use Rattle.bk_store.specs.History.{AreCounted, folds_of, kept_of, last_snapshot}
use Rattle.bk_store.specs.Rows.{RowsStand}
use Rattle.bk_store.specs.Shown.{Shown, active_file, known_bytes, settings_of, snapshot_of}
use Rattle.bk_store.specs.Versions.{KeysStand}

-- What a store has to have: a log and the folds that are open. A crash keeps at least the first `kept`
-- writes of the log. What was tried since may stand behind the log, until it is repaired.
pub record Content : Type 0 where
  pub log : List Write
  pub folds : List OpenFold
  pub kept : ℕ
  pub tried : List Write

-- The disk holds this log, and no merge is in work. At most one write was tried, and none where nothing
-- is torn.
pub record FilesStand (s : Seen) (c : Content) : Type 0 where
  pub consistent : IsConsistent s
  pub totals : IsFromScratch s
  pub synced : IsSyncedIfSealed s
  pub holds : Holds (Young IsIdle) s.told (active_file s.catalog.active) s.catalog.last c.log c.kept c.tried
  pub whole : is_torn s ≡ false → c.tried ≡ []
  pub few : length c.tried ≤ 1
  -- each data file that has bytes is a row's; the numbers of files begin with 1
  pub covered : (id : ℕ) → 1 ≤ id → is_some (row_of id s.catalog.rows) ≡ false → bytes_of (main id) s.told.image ≡ []

pub record ContentStands (ttl : ℕ) (files : Seen) (keys : KeydirShown) (c : Content) : Type 0 where
  pub disk : FilesStand files c
  pub newest : KeysStand (known_bytes files) keys.entries c.log
  pub open_folds : FoldsStand ttl (known_bytes files) keys c.log c.folds
  pub rows : RowsStand files.catalog.rows keys.entries

-- what a history says that a store has, with this tried since
abbrev pub content_of : Opening → List Step → List Write → Content
content_of o h tried = record { log = log_of o h; folds = folds_of o h; kept = kept_of o h; tried = tried }

pub record StandsFor (v : Shown) (o : Opening) (h : List Step) (tried : List Write) : Type 0 where
  pub legal : IsLegalHistory o h
  pub seq : v.seq ≡ last_seq (log_of o h)
  pub settings : o.settings ≡ settings_of v.settings
  pub content : ContentStands v.settings.ttl v.files v.keys (content_of o h tried)
  pub snapshot : last_snapshot o h ≡ snapshot_of v
  pub counts : AreCounted v.files o h
