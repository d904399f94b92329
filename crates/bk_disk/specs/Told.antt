-- What a disk tells: its files as they read, and of each file what a crash may leave.
use Rattle.std.specs.Prelude.{◌≡◌, ℕ, ◌+◌, ◌≤◌, Bool, true, false, not, cond, List, [], ◌∷◌, ◌++◌}
use Rattle.std.specs.Prelude.{length, take, drop, map, sum_by, unwrap_or, is_some, IsTrue, IsSome}
use Rattle.std.specs.Prelude.{IfSome, IsSomeAnd, nat_le, ◌&&◌}
use Rattle.std.specs.declared.option.Option.{Option}
use Rattle.std.specs.declared.option.Option.TheVariants.{None, Some}
use Rattle.std.proofs.Common.{sym}
use Rattle.std.proofs.lemmas.Bool.{true≢false}
use Rattle.bk_base.specs.declared.names.Name.{Name}
use Rattle.bk_disk.specs.declared.disks.Listed.{Listed}
use Rattle.bk_disk.specs.Names.{same}

-- values by name; where a name stands twice, its first place counts
abbrev pub Table : Type 0 → Type 0
Table X = List (Name × X)

abbrev pub at : {X : Type 0} → Table X → Name → Option X
at [] n = None
at (e ∷ es) n = cond (same n e.0) (Some e.1) (at es n)

abbrev pub names : {X : Type 0} → Table X → List Name
names [] = []
names (e ∷ es) = e.0 ∷ names es

-- no later name is this one
abbrev pub IsNotIn : Name → List Name → Type 0
IsNotIn n [] = Unit {0}
IsNotIn n (m ∷ ms) = (same n m ≡ false) × IsNotIn n ms

abbrev pub IsOnce : List Name → Type 0
IsOnce [] = Unit {0}
IsOnce (n ∷ ns) = IsNotIn n ns × IsOnce ns

-- edits of a table: they change the first place of a name alone
abbrev pub changed : {X : Type 0} → Name → (X → X) → Table X → Table X
changed n f [] = []
changed n f (e ∷ es) = cond (same n e.0) ((e.0, f e.1) ∷ es) (e ∷ changed n f es)

abbrev pub with_name : {X : Type 0} → Name → X → Table X → Table X
with_name n x t = cond (is_some (at t n)) t (t ++ (n, x) ∷ [])

abbrev pub without : {X : Type 0} → Name → Table X → Table X
without n [] = []
without n (e ∷ es) = cond (same n e.0) es (e ∷ without n es)

abbrev pub renamed : {X : Type 0} → Name → Name → Table X → Table X
renamed from to [] = []
renamed from to (e ∷ es) = cond (same from e.0) ((to, e.1) ∷ es) (e ∷ renamed from to es)

-- the files of a directory with their bytes
abbrev pub Image : Type 0
Image = Table (List ℕ)

-- how a crash sees a file
pub record Front : Type 0 where
  -- its synced bytes
  pub synced : List ℕ
  -- the greatest length that it had since its last good sync
  pub longest : ℕ
  -- all bytes handed to `append` since then, those of a failed append and those cut away included
  pub pending : List ℕ
  -- it is lent and not brought back
  pub lent : Bool

pub record Told : Type 0 where
  -- the files as they read
  pub image : Image
  -- the fronts before each change that a crash can tell, in order
  pub past : List (Table Front)
  -- the fronts now
  pub fronts : Table Front
  -- each view that was made, with its length
  pub asked : List Listed
  -- how often a view was asked for past the end of a file, or of a name that isn't there
  pub stray_views : ℕ

-- each name stands once, and the files and the fronts have the same names
pub record IsWell (t : Told) : Type 0 where
  pub once : IsOnce (names t.image)
  pub paired : names t.fronts ≡ names t.image

-- the disk's clock: it counts the changes that a crash can tell
abbrev pub clock : Told → ℕ
clock t = length t.past

-- the bytes of all views of a file that were made
abbrev pub asked_of : Name → Told → ℕ
asked_of n t = sum_by (λ (v : Listed). cond (same n v.name) v.len 0) t.asked

-- a file's bytes, none where it isn't there
abbrev pub bytes_of : Name → Image → List ℕ
bytes_of n image = unwrap_or (at image n) []

abbrev pub listing : Image → List Listed
listing image = map (λ e. record { name = e.0; len = length e.1 }) image

-- the file is there and isn't lent
abbrev pub IsOurs : Name → Told → Type 0
IsOurs n t = IsSome (at t.image n) × IsSomeAnd (at t.fronts n) (λ f. f.lent ≡ false)

-- the file is there and is lent
abbrev pub IsLent : Name → Told → Type 0
IsLent n t = IsSome (at t.image n) × IsSomeAnd (at t.fronts n) (λ f. f.lent ≡ true)

abbrev pub IsAbsent : Name → Image → Type 0
IsAbsent n image = is_some (at image n) ≡ false

-- exactly one of the names is there
abbrev pub IsOneThere : Name → Name → Image → Type 0
IsOneThere from to image = is_some (at image from) ≡ not (is_some (at image to))

-- a cut to this length keeps the synced bytes and is no longer than the file
pub record CutsWithin (n : Name) (len : ℕ) (t : Told) : Type 0 where
  pub inside : len ≤ length (bytes_of n t.image)
  pub keeps : IfSome (at t.fronts n) (λ f. length f.synced ≤ len)

abbrev pub is_within : Name → ℕ → ℕ → Image → Bool
is_within n from len image = is_some (at image n) && nat_le (from + len) (length (bytes_of n image))

abbrev pub IsWithin : Name → ℕ → ℕ → Image → Type 0
IsWithin n from len image = IsTrue (is_within n from len image)

abbrev pub range_of : Name → ℕ → ℕ → Image → List ℕ
range_of n from len image = take len (drop from (bytes_of n image))

-- what stands in the place of the content where it isn't told
abbrev pub nothing_told : Told
nothing_told = record { image = []; past = []; fronts = []; asked = []; stray_views = 0 }

-- what is promised where the content is told holds of an object that tells nothing
pub untold : {A : Type 0} → IsTrue false → A
untold h = absurd (true≢false (sym h))
