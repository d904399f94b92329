-- What the calls of recovery do to the files of a directory.
use Rattle.std.specs.Prelude.{◌≡◌, ◌⊎◌, ℕ, false, not, is_some, List, [], ◌∷◌, ◌++◌, Option, None, Some}
use Rattle.bk_base.specs.declared.names.Name.{Name}
use Rattle.bk_disk.specs.Names.{same}
use Rattle.bk_base.specs.declared.names.Kind.TheVariants.{Swap}
use Rattle.bk_image.specs.Readings.{In, IsThere, Reading, main, main_temp, swap}
use Rattle.bk_image.specs.CountedFiles.{IsInput, IsOutput}
use Rattle.bk_disk.specs.Crashes.{front_of}
use Rattle.bk_disk.specs.Told.{Image, IsWithin, Told, at, bytes_of}
use Rattle.bk_load.specs.Tidying.{NeedsScan, Tidied}

-- one file is gone, and the others read as before
pub record LacksOnly (n : Name) (r s : Reading) : Type 0 where
  pub gone : s n ≡ None
  pub others : (m : Name) → same m n ≡ false → s m ≡ r m

-- what counts stays as it is without this file
abbrev pub MayGo : Name → Reading → Type 0
MayGo n r = (s : Reading) → LacksOnly n r s → Tidied r s

-- One of the names of a data file is there, and where it is the temporary one, it counts.
pub record MayTakeName (id : ℕ) (r : Reading) : Type 0 where
  pub one : is_some (r (main_temp id)) ≡ not (is_some (r (main id)))
  pub output : IsThere r (main_temp id) → IsOutput r id
  pub no_input : IsThere r (main_temp id) → IsInput r id → ⊥

-- the data file has its own name, and the others read as before
pub record HasTakenName (id : ℕ) (r s : Reading) : Type 0 where
  pub gone : s (main_temp id) ≡ None
  pub there : IsThere s (main id)
  pub others : (m : Name) → same m (main_temp id) ≡ false → same m (main id) ≡ false → s m ≡ r m

-- Each of these files that has its temporary name has its own too, or is an input, and then it doesn't
-- count. No swap list changed.
pub record HaveTakenNames (ids : List ℕ) (r s : Reading) : Type 0 where
  pub lists : (id : ℕ) → s (swap id) ≡ r (swap id)
  pub named : (id : ℕ) → In id ids → IsThere s (main_temp id) → IsThere s (main id) ⊎ IsInput s id

-- The file reads as before, or it is gone, and it belongs to one of these.
abbrev pub IsKeptOr : List ℕ → Option (List ℕ) → Option (List ℕ) → Name → Type 0
IsKeptOr ids was now n = (now ≡ was) ⊎ ((now ≡ None) × In n.id ids × (n.kind ≡ Swap → ⊥))

-- Of these inputs no data file is there, and the others read as before.
pub record LosesInputs (ids : List ℕ) (r s : Reading) : Type 0 where
  pub kept : (n : Name) → IsKeptOr ids (r n) (s n) n
  pub mains : (id : ℕ) → In id ids → s (main id) ≡ None
  pub temps : (id : ℕ) → In id ids → s (main_temp id) ≡ None

-- The range is there, and some of a data file is read only where it has to be.
pub record MayView (n : Name) (from len : ℕ) (image : Image) : Type 0 where
  pub within : IsWithin n from len image
  pub needed : (id : ℕ) → (same (main id) n ≡ false) ⊎ NeedsScan (at image) id

-- What is told stays, but for one view of this file, of so many bytes, that may have been made.
pub record AsksOnly (n : Name) (len : ℕ) (t u : Told) : Type 0 where
  pub image : u.image ≡ t.image
  pub past : u.past ≡ t.past
  pub fronts : u.fronts ≡ t.fronts
  pub stray_views : u.stray_views ≡ t.stray_views
  pub asked : (u.asked ≡ t.asked) ⊎ (u.asked ≡ t.asked ++ (record { name = n; len = len }) ∷ [])

-- a crash leaves all of the file
abbrev pub IsSyncedFile : Told → Name → Type 0
IsSyncedFile t n = at t.fronts n ≡ Some (front_of (bytes_of n t.image))

-- the file is synced, and those that were so still are
pub record SyncsToo (n : Name) (t u : Told) : Type 0 where
  pub this : IsSyncedFile u n
  pub kept : (m : Name) → IsSyncedFile t m → IsSyncedFile u m
