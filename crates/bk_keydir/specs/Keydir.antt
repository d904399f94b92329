-- What a keydir shows, and what its calls make of it.
use Rattle.std.specs.Prelude.{◌≡◌, ℕ, zero, suc, ◌<◌, ◌==◌, ◌&&◌, Bool, true, false, not, cond, List, [], ◌∷◌, length, filter, Option, None, Some}
use Rattle.std.specs.List.{find, swap_remove}
use Rattle.std.specs.Str.{bytes_eq}
use Rattle.bk_base.specs.declared.numbers.FileId.{FileId}
use Rattle.bk_base.specs.declared.writes.Version.{Version}
use Rattle.bk_keydir.specs.declared.slots.Slot.{Slot}
use Rattle.bk_keydir.specs.Slots.{IsOpen, has_open, is_seen}

-- a key with its versions, newest first, and a list of them in the order of their positions
abbrev pub Entry : Type 0
Entry = List ℕ × List Version

-- The keys with their versions; the folds in the 64 slots; how many new keys fit with no further
-- memory; and how many versions the chain takes that is ready for one key.
pub record Shown : Type 0 where
  pub entries : List Entry
  pub slots : List (Option Slot)
  pub spare : ℕ
  pub chain : ℕ

-- the versions of a key, none where it isn't there
abbrev pub versions_of : List ℕ → List Entry → List Version
versions_of key [] = []
versions_of key (e ∷ es) = cond (bytes_eq key e.0) e.1 (versions_of key es)

-- the key and the versions at a position
abbrev pub key_at : ℕ → List Entry → Option (List ℕ)
key_at n [] = None
key_at zero (e ∷ es) = Some e.0
key_at (suc n) (e ∷ es) = key_at n es

abbrev pub versions_at : ℕ → List Entry → List Version
versions_at n [] = []
versions_at zero (e ∷ es) = e.1
versions_at (suc n) (e ∷ es) = versions_at n es

abbrev pub newest_of : List Version → Option Version
newest_of [] = None
newest_of (v ∷ vs) = Some v

abbrev pub older_of : List Version → List Version
older_of [] = []
older_of (v ∷ vs) = vs

-- seqs that fall, below n
abbrev pub FallsBelow : ℕ → List Version → Type 0
FallsBelow n [] = Unit {0}
FallsBelow n (v ∷ vs) = (v.seq.0 < n) × FallsBelow v.seq.0 vs

-- a seq greater than that of the key's newest version and than each open epoch
abbrev pub IsNewerThan : ℕ → List Version → Type 0
IsNewerThan seq [] = Unit {0}
IsNewerThan seq (v ∷ vs) = v.seq.0 < seq

pub record IsNewer (seq : ℕ) (key : List ℕ) (d : Shown) : Type 0 where
  pub newest : IsNewerThan seq (versions_of key d.entries)
  pub epochs : (s : Slot) → IsOpen d.slots s → s.epoch.0 < seq

-- some open fold sees the newest version, so a newer one has to leave it
abbrev pub keeps_newest : List (Option Slot) → List Version → Bool
keeps_newest slots [] = false
keeps_newest slots (v ∷ vs) = is_seen slots (v ∷ vs) v.seq.0

-- there is room for one more version of a key that has these
abbrev pub HasRoomFor : Shown → List Version → Type 0
HasRoomFor d [] = 0 < d.spare
HasRoomFor d (v ∷ vs) = keeps_newest d.slots (v ∷ vs) ≡ true → length (v ∷ vs) < d.chain

abbrev pub HasRoom : List ℕ → Shown → Type 0
HasRoom key d = HasRoomFor d (versions_of key d.entries)

-- a version is put over these: the earlier newest stays only where it is to
abbrev pub put_over : List (Option Slot) → Version → List Version → List Version
put_over slots v vs = v ∷ cond (keeps_newest slots vs) vs (older_of vs)

-- the version that is no longer kept then
abbrev pub replaced : List (Option Slot) → List Version → Option Version
replaced slots vs = cond (keeps_newest slots vs) None (newest_of vs)

-- a new key goes last
abbrev pub with_version : List (Option Slot) → List ℕ → Version → List Entry → List Entry
with_version slots key v [] = (key, v ∷ []) ∷ []
with_version slots key v (e ∷ es) =
    cond (bytes_eq key e.0) ((e.0, put_over slots v e.1) ∷ es) (e ∷ with_version slots key v es)

-- the versions of a key, and those at a position, edited
abbrev pub edited : List ℕ → (List Version → List Version) → List Entry → List Entry
edited key f [] = []
edited key f (e ∷ es) = cond (bytes_eq key e.0) ((e.0, f e.1) ∷ es) (e ∷ edited key f es)

abbrev pub edited_at : ℕ → (List Version → List Version) → List Entry → List Entry
edited_at n f [] = []
edited_at zero f (e ∷ es) = (e.0, f e.1) ∷ es
edited_at (suc n) f (e ∷ es) = e ∷ edited_at n f es

-- the newest version is a put with this seq
abbrev pub is_put_of : ℕ → List Version → Bool
is_put_of seq [] = false
is_put_of seq (v ∷ vs) = (v.seq.0 == seq) && not v.gone

-- a version whose record stands elsewhere
abbrev pub placed : FileId → ℕ → Version → Version
placed to at v = record v { at = at; file = to }

abbrev pub newest_placed : FileId → ℕ → List Version → List Version
newest_placed to at [] = []
newest_placed to at (v ∷ vs) = placed to at v ∷ vs

-- where it is a put with this seq, the newest version stands elsewhere
abbrev pub moved : ℕ → FileId → ℕ → List Version → List Version
moved seq to at vs = cond (is_put_of seq vs) (newest_placed to at vs) vs

-- the first of the older versions that no open fold sees, and what is left without it
abbrev pub is_unseen : List (Option Slot) → List Version → Version → Bool
is_unseen slots vs v = not (is_seen slots vs v.seq.0)

abbrev pub without_first : (Version → Bool) → List Version → List Version
without_first test [] = []
without_first test (v ∷ vs) = cond (test v) vs (v ∷ without_first test vs)

abbrev pub pruned : List (Option Slot) → List Version → Option Version
pruned slots vs = find (is_unseen slots vs) (older_of vs)

abbrev pub left_by_prune : List (Option Slot) → List Version → List Version
left_by_prune slots [] = []
left_by_prune slots (v ∷ vs) = v ∷ without_first (is_unseen slots (v ∷ vs)) vs

-- the only version is Gone, so a key that isn't there says the same
abbrev pub is_lone_gone : List Version → Bool
is_lone_gone [] = false
is_lone_gone (v ∷ []) = v.gone
is_lone_gone (v ∷ w ∷ vs) = false

abbrev pub can_drop : List (Option Slot) → List Version → Bool
can_drop slots vs = not (has_open slots) && is_lone_gone vs

-- the last key takes the place of the one at this position
abbrev pub dropped_at : ℕ → List Entry → List Entry
dropped_at n es = swap_remove es n ([], [])

abbrev pub without_gone : List Entry → List Entry
without_gone es = filter (λ (e : Entry). not (is_lone_gone e.1)) es
