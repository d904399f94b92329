-- How a file in memory stands for what the journal says of it.
use Rattle.std.specs.Prelude.{◌≡◌, ℕ, ◌+◌, ◌≤◌, true, false, cond, List, [], ◌∷◌, length, take, map, nat_lt}
use Rattle.bk_base.specs.Places.{IsFirstOf}
use Rattle.bk_base.specs.declared.names.Name.{Name}
use Rattle.bk_disk.specs.Names.{same}
use Rattle.bk_disk.specs.Told.{Table, Image}
use Rattle.bk_disk.specs.Calls.{all_synced}
use Rattle.bk_memdisk.specs.declared.files.MemFile.{MemFile}
use Rattle.bk_memdisk.specs.Journal.{Kept}

abbrev pub image_of : List MemFile → Image
image_of files = map (λ (f : MemFile). (f.name, f.bytes.items)) files

abbrev pub rooms_of : List MemFile → Table ℕ
rooms_of files = map (λ (f : MemFile). (f.name, f.room)) files

-- the entries of the journal that are reserved for a file
abbrev pub owed : MemFile → ℕ
owed f = (cond (nat_lt 0 f.room) 2 0 + cond f.dirty 1 0) + cond f.lent 1 0

-- a file stands for what the journal says of it
pub record Fits (f : MemFile) (k : Kept) : Type 0 where
  pub bytes : f.bytes.items ≡ take (length f.bytes.items) k.text
  pub within : f.synced ≤ length f.bytes.items
  pub synced : k.front.synced ≡ take f.synced f.bytes.items
  pub longest : length f.bytes.items ≤ k.front.longest
  pub lent : k.front.lent ≡ f.lent
  -- nothing was handed since the last good sync: a sync changes nothing
  pub clean : f.dirty ≡ false → k.front ≡ all_synced f.bytes.items k.front
  pub away : f.lent ≡ true → (f.bytes.items ≡ []) × (f.room ≡ 0)

abbrev pub Tied : List MemFile → Table Kept → Type 0
Tied [] [] = Unit {0}
Tied [] (e ∷ es) = ⊥
Tied (f ∷ fs) [] = ⊥
Tied (f ∷ fs) (e ∷ es) = (f.name ≡ e.0) × Fits f e.1 × Tied fs es

-- the first file of this name stands there
abbrev pub IsFirst : Name → List MemFile → ℕ → Type 0
IsFirst name files i = IsFirstOf (λ (f : MemFile). same name f.name) files i
