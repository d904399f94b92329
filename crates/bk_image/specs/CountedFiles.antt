-- Which data files count, by the swap lists that stand beside them.
use Rattle.std.specs.Prelude.{◌≡◌, ℕ, ◌≤◌, List, Some, is_some}
use Rattle.bk_base.specs.declared.names.Name.{Name}
use Rattle.bk_base.specs.declared.names.Kind.{Kind}
use Rattle.bk_base.specs.declared.names.Kind.TheVariants.{Main, MainTemp}
use Rattle.bk_laws.specs.SwapList.{SwapList, IsWhole}
use Rattle.bk_image.specs.Readings.{In, IsThere, Reading, main, main_temp, swap}

-- The swap list stands whole under a name of its own. One that isn't whole says nothing.
pub record HasList (r : Reading) (l : SwapList) : Type 0 where
  pub id : ℕ
  pub bytes : List ℕ
  pub there : r (swap id) ≡ Some bytes
  pub whole : IsWhole bytes l

-- some swap list names the file as an input, or as an output
abbrev pub IsInput : Reading → ℕ → Type 0
IsInput r id = (l : SwapList) × HasList r l × In id l.inputs

abbrev pub IsOutput : Reading → ℕ → Type 0
IsOutput r id = (l : SwapList) × HasList r l × In id l.outputs

-- A data file counts while no list has it as an input. A list's output may still have its temporary
-- name; then it counts under that one. Files are numbered from 1 on: one with number 0 never counts.
abbrev pub CountsAs : Kind → Reading → ℕ → Type 0
CountsAs Main r id = IsThere r (main id) × (IsInput r id → ⊥) × (1 ≤ id)
CountsAs MainTemp r id =
    IsThere r (main_temp id) × IsOutput r id × (IsInput r id → ⊥) × (IsThere r (main id) → ⊥)
    × (1 ≤ id)
CountsAs kind r id = ⊥

abbrev pub Counts : Reading → Name → Type 0
Counts r n = CountsAs n.kind r n.id

abbrev pub HasNoList : Reading → Type 0
HasNoList r = (l : SwapList) → HasList r l → ⊥

-- The same files count in both: the same data files are there, and the swap lists are the same.
pub record SamePlaces (r s : Reading) : Type 0 where
  pub mains : (id : ℕ) → is_some (r (main id)) ≡ is_some (s (main id))
  pub temps : (id : ℕ) → is_some (r (main_temp id)) ≡ is_some (s (main_temp id))
  pub lists : (id : ℕ) → r (swap id) ≡ s (swap id)
