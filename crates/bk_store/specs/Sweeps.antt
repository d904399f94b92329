-- What a sweep and a look at the store's numbers answer.
use Rattle.std.specs.Prelude.{◌≡◌, ℕ, ◌+◌, ◌-◌, ◌<◌, ◌≤◌, Bool, false, List, length, min, sum_by, cond, Option, None, Some, IsTrue}
use Rattle.std.specs.List.{IsDistinct}
use Rattle.std.specs.Map.{keys_of}
use Rattle.std.specs.Str.{bytes_eq}
use Rattle.bk_base.specs.declared.rows.Row.{Row}
use Rattle.bk_base.specs.declared.writes.Version.{Version}
use Rattle.bk_files.specs.Files.{Seen, rows_of}
use Rattle.bk_image.specs.Readings.{In}
use Rattle.bk_keydir.specs.declared.keydir.Swept.{Swept}
use Rattle.bk_keydir.specs.declared.slots.Slot.{Slot}
use Rattle.bk_keydir.specs.Folds.{KeepsFolds}
use Rattle.bk_keydir.specs.Keydir.{Entry, can_drop, newest_of, pruned, versions_at, versions_of}
use Rattle.bk_keydir.specs.Keydir.{Shown as KeydirShown}
use Rattle.bk_store.specs.declared.sweeps.Stat.{Stat}
use Rattle.bk_store.specs.Appends.{CountsAlone}
use Rattle.bk_store.specs.Loans.{is_put, live_if}
use Rattle.bk_store.specs.Shown.{Shown}
use Rattle.bk_store.specs.Standing.{Content, ContentStands}

-- how many versions all keys have
abbrev pub versions_in : List Entry → ℕ
versions_in entries = sum_by (λ (e : Entry). length e.1) entries

-- the last number of a count
abbrev pub last_count : ℕ
last_count = 18446744073709551615

-- So many versions have gone. The count stands still at its last number.
abbrev pub AreFewer : ℕ → ℕ → ℕ → Type 0
AreFewer count left before = (gone : ℕ) × (left + gone ≡ before) × (count ≡ min gone last_count)

-- the position to go on from, where one is left
abbrev pub GoesOnAt : Option ℕ → ℕ → ℕ → Type 0
GoesOnAt (Some n) left place = (n ≡ place) × (n < left)
GoesOnAt None left place = left ≤ place

-- of these versions of a key each is the newest or seen by a fold, and the key is seen too
pub record IsClean (slots : List (Option Slot)) (vs : List Version) : Type 0 where
  pub older : pruned slots vs ≡ None
  pub key : can_drop slots vs ≡ false

abbrev pub AreClean : ℕ → ℕ → KeydirShown → Type 0
AreClean from to keys = (p : ℕ) → from ≤ p → p < to → IsClean keys.slots (versions_at p keys.entries)

-- where a sweep ends that has visited so many keys, up to the end, and dropped some
abbrev pub swept_to : ℕ → ℕ → ℕ → ℕ → ℕ
swept_to from n keys dropped = from + min n (keys - from) - dropped

-- the version, where it is a put
abbrev pub put_if : Option Version → Option Version
put_if v = live_if (is_put v) v

-- Each key has the value that it had, and each open fold sees and lists what it did.
pub record SeesSame (old new : KeydirShown) : Type 0 where
  pub puts : (key : List ℕ) → put_if (newest_of (versions_of key new.entries)) ≡ put_if (newest_of (versions_of key old.entries))
  pub folds : KeepsFolds old new

-- The keys were visited, up to the end: `dropped` of them have gone, and `pruned` versions besides.
-- Nothing is left at those that stay that nobody sees.
pub record IsSwept (from n : ℕ) (s : Swept) (old new : KeydirShown) : Type 0 where
  pub sees : SeesSame old new
  pub keys : length new.entries + s.dropped ≡ length old.entries
  pub versions : AreFewer s.pruned (versions_in new.entries + s.dropped) (versions_in old.entries)
  pub next : GoesOnAt s.next (length new.entries) (swept_to from n (length old.entries) s.dropped)
  pub clean : AreClean from (swept_to from n (length old.entries) s.dropped) new

abbrev pub has_put : Entry → ℕ
has_put e = cond (is_put (newest_of e.1)) 1 0

-- no key is counted twice
pub record IsStat (s : Stat) (v : Shown) : Type 0 where
  pub once : IsDistinct bytes_eq (keys_of v.keys.entries)
  pub keys : s.keys ≡ sum_by has_put v.keys.entries
  pub files : s.files ≡ length (rows_of v.files)
  pub total : s.total ≡ sum_by (λ (r : Row). r.total) (rows_of v.files)
  pub live : s.live ≡ sum_by (λ (r : Row). r.live) (rows_of v.files)

-- ---- a part of a sweep

-- Versions went that neither a get nor a fold sees: the counts alone changed in the files, no version
-- is new, and what the store has stands as before.
pub record Cleans (tells : Bool) (files : Seen) (keys : KeydirShown) (new_files : Seen) (new_keys : KeydirShown)
    : Type 0 where
  pub alone : CountsAlone tells files new_files
  pub sees : SeesSame keys new_keys
  pub versions : (e : Entry) (v : Version) → In e new_keys.entries → In v e.1
      → (f : Entry) × In f keys.entries × (e.0 ≡ f.0) × In v f.1
  pub keeps : IsTrue tells → (ttl : ℕ) (c : Content) → ContentStands ttl files keys c → ContentStands ttl new_files new_keys c

-- Of the keydir one position alone changed.
pub record StaysBut (position : ℕ) (old new : KeydirShown) : Type 0 where
  pub before : (p : ℕ) → p < position → versions_at p new.entries ≡ versions_at p old.entries

-- The versions of the key at a position that nobody sees have gone.
pub record IsPruned (position pruned_count : ℕ) (old new : KeydirShown) : Type 0 where
  pub keys : length new.entries ≡ length old.entries
  pub versions : AreFewer pruned_count (versions_in new.entries) (versions_in old.entries)
  pub clean : pruned new.slots (versions_at position new.entries) ≡ None
  pub others : StaysBut position old new

-- The key at a position was visited; it may have gone itself.
pub record IsVisited (position pruned_count : ℕ) (has_gone : Bool) (old new : KeydirShown) : Type 0 where
  pub keys : length new.entries + cond has_gone 1 0 ≡ length old.entries
  pub versions : AreFewer pruned_count (versions_in new.entries + cond has_gone 1 0) (versions_in old.entries)
  pub clean : has_gone ≡ false → IsClean new.slots (versions_at position new.entries)
  pub others : StaysBut position old new
