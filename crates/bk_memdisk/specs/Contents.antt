-- What contracts see of the files of a disk in memory.
use Rattle.std.specs.Prelude.{ℕ, ◌≤◌, cond, List, [], ◌∷◌, ◌++◌, is_some, unwrap_or}
use Rattle.bk_base.specs.declared.names.Name.{Name}
use Rattle.bk_disk.specs.Told.{Table, Told, at, changed}
use Rattle.bk_disk.specs.Crashes.{front_of}
use Rattle.bk_disk.specs.Calls.{Becomes}

pub record Contents : Type 0 where
  pub told : Told
  -- the room of each file
  pub rooms : Table ℕ

-- the room of a file, 0 where it isn't there
abbrev pub room_of : Contents → Name → ℕ
room_of c n = unwrap_or (at c.rooms n) 0

-- no room falls
abbrev pub KeepsRooms : Contents → Contents → Type 0
KeepsRooms old new = (n : Name) → room_of old n ≤ room_of new n

-- this value under this name, in its place or at the end
abbrev pub placed : {X : Type 0} → Name → X → Table X → Table X
placed n x t = cond (is_some (at t n)) (changed n (λ _. x) t) (t ++ (n, x) ∷ [])

-- a synced file was put there
abbrev pub Placed : Name → List ℕ → Told → Told → Type 0
Placed n bytes = Becomes (placed n bytes) (placed n (front_of bytes))
