-- What the versions say of a file: how many of its bytes are live, and how many puts name it.
use Rattle.std.specs.Prelude.{◌≡◌, ℕ, ◌+◌, ◌==◌, ◌&&◌, Bool, not, cond, List, [], ◌∷◌, Option, None, Some}
use Rattle.bk_base.specs.declared.writes.Version.{Version}
use Rattle.bk_base.specs.declared.numbers.FileId.{FileId}
use Rattle.bk_keydir.specs.Keydir.{Entry, newest_of, newest_placed}

-- a put whose record stands in this file
abbrev pub is_put_in : ℕ → Version → Bool
is_put_in file v = not v.gone && (v.file.0 == file)

-- what one version adds to each count, and what one that may be missing adds
abbrev pub bytes_in : ℕ → Version → ℕ
bytes_in file v = cond (is_put_in file v) v.size 0

abbrev pub one_in : ℕ → Version → ℕ
one_in file v = cond (is_put_in file v) 1 0

abbrev pub bytes_if : ℕ → Option Version → ℕ
bytes_if file None = 0
bytes_if file (Some v) = bytes_in file v

abbrev pub one_if : ℕ → Option Version → ℕ
one_if file None = 0
one_if file (Some v) = one_in file v

abbrev pub refs_in : ℕ → List Version → ℕ
refs_in file [] = 0
refs_in file (v ∷ vs) = one_in file v + refs_in file vs

-- The live bytes of a file: the sizes of the puts in it that are the newest version of their key.
abbrev pub live_of : ℕ → List Entry → ℕ
live_of file [] = 0
live_of file (e ∷ es) = bytes_if file (newest_of e.1) + live_of file es

-- The references to a file: the kept puts, newest and older ones, whose records stand in it.
abbrev pub refs_of : ℕ → List Entry → ℕ
refs_of file [] = 0
refs_of file (e ∷ es) = refs_in file e.1 + refs_of file es

-- No count changes.
pub record SameCounts (es fs : List Entry) : Type 0 where
  pub live : (file : ℕ) → live_of file fs ≡ live_of file es
  pub refs : (file : ℕ) → refs_of file fs ≡ refs_of file es

-- A new version is put over an earlier newest one, which may have gone.
pub record PutCounts (v : Version) (earlier gone : Option Version) (es fs : List Entry) : Type 0 where
  pub live : (file : ℕ) → live_of file fs + bytes_if file earlier ≡ live_of file es + bytes_in file v
  pub refs : (file : ℕ) → refs_of file fs + one_if file gone ≡ refs_of file es + one_in file v

-- The newest of these versions of a key, which is a put, stands elsewhere.
pub record MoveCounts (to : FileId) (at : ℕ) (vs : List Version) (es fs : List Entry) : Type 0 where
  pub live : (file : ℕ) → live_of file fs + bytes_if file (newest_of vs) ≡ live_of file es + bytes_if file (newest_of (newest_placed to at vs))
  pub refs : (file : ℕ) → refs_of file fs + one_if file (newest_of vs) ≡ refs_of file es + one_if file (newest_of (newest_placed to at vs))

-- An older version has gone, or none.
pub record PruneCounts (gone : Option Version) (es fs : List Entry) : Type 0 where
  pub live : (file : ℕ) → live_of file fs ≡ live_of file es
  pub refs : (file : ℕ) → refs_of file fs + one_if file gone ≡ refs_of file es
