-- What a crash may leave of a disk.
use Rattle.std.specs.Prelude.{◌≡◌, ℕ, ◌≤◌, false, List, [], ◌∷◌, length, take, map, get_or}
use Rattle.bk_base.specs.Bounds.{AreBytes}
use Rattle.bk_disk.specs.Told.{Table, Image, Front, Told, clock}

-- A crash leaves the synced bytes, and past them any bytes up to the greatest length that the file
-- had since its last good sync.
pub record Keeps (f : Front) (bytes : List ℕ) : Type 0 where
  pub synced : take (length f.synced) bytes ≡ f.synced
  pub no_shorter : length f.synced ≤ length bytes
  pub no_longer : length bytes ≤ f.longest

-- a lent file holds any bytes after a crash
pub record FileMayLeave (f : Front) (bytes : List ℕ) : Type 0 where
  pub are_bytes : AreBytes bytes
  pub keeps : f.lent ≡ false → Keeps f bytes

-- file by file; the directory itself stays
abbrev pub MayLeave : Table Front → Image → Type 0
MayLeave [] [] = Unit {0}
MayLeave [] (e ∷ es) = ⊥
MayLeave (f ∷ fs) [] = ⊥
MayLeave (f ∷ fs) (e ∷ es) = (f.0 ≡ e.0) × FileMayLeave f.1 e.1 × MayLeave fs es

-- a crash now may leave this image
abbrev pub MayLeaveNow : Told → Image → Type 0
MayLeaveNow t image = MayLeave t.fronts image

-- the fronts as they were when the clock said k
abbrev pub fronts_at : Told → ℕ → Table Front
fronts_at t k = get_or t.past k t.fronts

-- P holds of the fronts at each moment since one
abbrev pub AtEach : Told → ℕ → (Table Front → Type 0) → Type 0
AtEach t from P = (k : ℕ) → from ≤ k → k ≤ clock t → P (fronts_at t k)

-- a crash at some moment since one may have left this image
abbrev pub MayLeaveSince : Told → ℕ → Image → Type 0
MayLeaveSince t from image = (k : ℕ) × (from ≤ k) × (k ≤ clock t) × MayLeave (fronts_at t k) image

-- a file that is synced whole
abbrev pub front_of : List ℕ → Front
front_of bytes = record { synced = bytes; longest = length bytes; pending = []; lent = false }

-- no file has an unsynced part, and none is lent
abbrev pub IsSynced : Told → Type 0
IsSynced t = t.fronts ≡ map (λ e. (e.0, front_of e.1)) t.image
