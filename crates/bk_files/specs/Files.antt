-- What the calls on the data files do to what the disk tells.
use Rattle.std.specs.Prelude.{◌≡◌, ◌⊎◌, ℕ, ◌+◌, ◌<◌, ◌≤◌, Bool, true, false, List, [], ◌++◌, length, Option, None, Some, IfSome, IsTrue, is_some, option_map}
use Rattle.bk_base.specs.declared.numbers.FileId.{FileId}
use Rattle.bk_base.specs.declared.names.Name.{Name}
use Rattle.bk_base.specs.declared.names.Kind.TheVariants.{Main}
use Rattle.bk_base.specs.declared.rows.Row.{Row}
use Rattle.bk_disk.specs.Told.{Told, Image, at, bytes_of, IsAbsent, IsOurs}
use Rattle.bk_disk.specs.Calls.{Cut, Made, Synced, fresh}
use Rattle.bk_disk.specs.Shown.{DiskShown}
use Rattle.bk_files.specs.declared.catalog.Active.{Active}
use Rattle.bk_files.specs.declared.catalog.Catalog.{Catalog}
use Rattle.bk_files.specs.Catalog.{Known, due_of, id_of, len_of, main, mended, torn_of}
use Rattle.bk_files.specs.Rows.{AreFromScratch, AreRows, AreSyncedIfSealed}

-- what a caller sees of the data files: what their disk tells and counts, and what is known of
-- them
pub record Seen : Type 0 where
  pub told : Told
  pub faults : ℕ
  pub fallible_views : ℕ
  pub fallible_outs : ℕ
  -- how many bytes may be appended to the active file before the next `ready`
  pub room : ℕ
  pub catalog : Known

-- the disk alone
abbrev pub disk_shown : Seen → DiskShown
disk_shown s = record { told = s.told; faults = s.faults; views = s.fallible_views; outs = s.fallible_outs }

-- the catalog, as callers see it
abbrev pub known_of : Catalog → Known
known_of c = record { rows = c.rows.items; active = c.active; last = c.last.0; max_file = c.max_file }

abbrev pub is_due : ℕ → Seen → Bool
is_due size s = due_of size s.catalog.max_file s.catalog.active

abbrev pub is_torn : Seen → Bool
is_torn s = torn_of s.catalog.active

abbrev pub has_active : Seen → Bool
has_active s = is_some s.catalog.active

abbrev pub active_id : Seen → Option FileId
active_id s = option_map (λ a. a.id) s.catalog.active

abbrev pub active_len : Seen → ℕ
active_len s = len_of s.catalog.active

abbrev pub image_of : Seen → Image
image_of s = s.told.image

abbrev pub last_of : Seen → ℕ
last_of s = s.catalog.last

abbrev pub rows_of : Seen → List Row
rows_of s = s.catalog.rows

-- the name of the active file
abbrev pub name_of : Option Active → Name
name_of active = main (id_of active)

abbrev pub active_name : Seen → Name
active_name s = name_of s.catalog.active

-- The active file is ours. It has its known length, or more after a failed append, and nothing of
-- it past that length is synced. While nothing is torn its bytes are the synced ones and then the
-- pending ones.
pub record IsActive (n : Name) (a : Active) (t : Told) : Type 0 where
  pub ours : IsOurs n t
  pub known : a.torn ≡ false → length (bytes_of n t.image) ≡ a.len
  pub inside : a.len ≤ length (bytes_of n t.image)
  pub synced : IfSome (at t.fronts n) (λ f. length f.synced ≤ a.len)
  pub pending : a.torn ≡ false → IfSome (at t.fronts n) (λ f. f.synced ++ f.pending ≡ bytes_of n t.image)

-- the name isn't there, or a refused roll has left a new data file under it
abbrev pub IsUnused : Name → Told → Type 0
IsUnused n t = IsAbsent n t.image ⊎ ((n.kind ≡ Main) × (at t.image n ≡ Some []) × (at t.fronts n ≡ Some (fresh false)))

-- what holds of the active file, of the names of files to come, and of the rows
pub record IsConsistentOver (active : Option Active) (last : ℕ) (rows : List Row) (t : Told) : Type 0 where
  pub now : IfSome active (λ a. IsActive (main a.id.0) a t)
  pub unused : (n : Name) → last < n.id → IsUnused n t
  pub made : AreRows active last rows t

abbrev pub IsConsistentWith : Known → Told → Type 0
IsConsistentWith c t = IsConsistentOver c.active c.last c.rows t

-- what holds between two calls
abbrev pub IsConsistent : Seen → Type 0
IsConsistent s = IsConsistentWith s.catalog s.told

-- the facts that each call keeps
abbrev pub IsFromScratch : Seen → Type 0
IsFromScratch s = AreFromScratch s.catalog.rows s.told

abbrev pub IsSyncedIfSealed : Seen → Type 0
IsSyncedIfSealed s = AreSyncedIfSealed s.catalog.rows s.told

-- the active file was cut to its known length and synced, where an append had failed
abbrev pub RepairedOf : Option Active → Told → Told → Type 0
RepairedOf None t u = u ≡ t
RepairedOf (Some a) t u =
    ((a.torn ≡ false) × (u ≡ t))
    ⊎ ((a.torn ≡ true) × (m : Told) × Cut (main a.id.0) a.len t m × Synced (main a.id.0) m u)

-- a repair that was refused: the cut is done or not, and nothing is synced
abbrev pub HalfRepairedOf : Option Active → Told → Told → Type 0
HalfRepairedOf None t u = u ≡ t
HalfRepairedOf (Some a) t u = (u ≡ t) ⊎ Cut (main a.id.0) a.len t u

-- the active file is synced, where there is one
abbrev pub SettledOf : Option Active → Told → Told → Type 0
SettledOf None t u = u ≡ t
SettledOf (Some a) t u = Synced (main a.id.0) t u

-- the same of all that is seen: what is known goes with what the disk tells
pub record Repaired (tells : Bool) (s u : Seen) : Type 0 where
  pub catalog : u.catalog ≡ mended s.catalog
  pub told : IsTrue tells → RepairedOf s.catalog.active s.told u.told

pub record HalfRepaired (tells : Bool) (s u : Seen) : Type 0 where
  pub catalog : u.catalog ≡ s.catalog
  pub told : IsTrue tells → HalfRepairedOf s.catalog.active s.told u.told

-- repaired, and then synced
pub record Synchronized (tells : Bool) (s u : Seen) : Type 0 where
  pub catalog : u.catalog ≡ mended s.catalog
  pub told : IsTrue tells → (m : Told) × RepairedOf s.catalog.active s.told m × SettledOf s.catalog.active m u.told

-- the active file is synced, and then the next one made
abbrev pub RolledOf : Known → Told → Told → Type 0
RolledOf c t u = (m : Told) × SettledOf c.active t m × Made (main (c.last + 1)) false m u

-- a roll that was refused: nothing was done, or the sync alone, or the next file stands there empty
abbrev pub HalfRolledOf : Known → Told → Told → Type 0
HalfRolledOf c t u = (u ≡ t) ⊎ (SettledOf c.active t u ⊎ RolledOf c t u)

abbrev pub Settles : Seen → Seen → Type 0
Settles s u = SettledOf s.catalog.active s.told u.told

abbrev pub Rolled : Seen → Seen → Type 0
Rolled s u = RolledOf s.catalog s.told u.told

abbrev pub HalfRolled : Seen → Seen → Type 0
HalfRolled s u = HalfRolledOf s.catalog s.told u.told
