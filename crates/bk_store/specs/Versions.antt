-- The versions that a store keeps, against the writes of the log.
use Rattle.std.specs.Prelude.{◌≡◌, ℕ, false, List, take, drop, Option, None, Some}
use Rattle.bk_base.specs.declared.writes.Version.{Version}
use Rattle.bk_base.specs.declared.writes.Write.{Write}
use Rattle.bk_laws.specs.Log.{put_of, winner}
use Rattle.bk_laws.specs.Record.{record_of}
use Rattle.bk_laws.specs.Version.{version_at}
use Rattle.bk_image.specs.Readings.{In, Reading, bytes_in, main}
use Rattle.bk_keydir.specs.Keydir.{Entry, newest_of, versions_of}

-- The version is that of the write, and where it is a put, the write's record stands at its place.
pub record VersionStands (r : Reading) (v : Version) (w : Write) : Type 0 where
  pub says : v ≡ version_at v.file v.at w
  pub text : v.gone ≡ false → take v.size (drop v.at (bytes_in r (main v.file.0))) ≡ record_of w

-- A key's version is that of its winner. It may be absent where the winner isn't a put.
abbrev pub KeyStands : Reading → Option Version → Option Write → Type 0
KeyStands r None o = put_of o ≡ None
KeyStands r (Some v) None = ⊥
KeyStands r (Some v) (Some w) = VersionStands r v w

-- A put that is kept is one of the log, and its record stands at its place.
abbrev pub IsPlaced : Reading → List Write → List ℕ → Version → Type 0
IsPlaced r log key v = v.gone ≡ false → (w : Write) × In w log × (w.key ≡ key) × VersionStands r v w

pub record KeysStand (r : Reading) (entries : List Entry) (log : List Write) : Type 0 where
  pub newest : (key : List ℕ) → KeyStands r (newest_of (versions_of key entries)) (winner log key)
  -- older versions too, those that no fold sees any more among them
  pub placed : (e : Entry) (v : Version) → In e entries → In v e.1 → IsPlaced r log e.0 v
