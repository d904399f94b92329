-- The lists that bytes say.
use Rattle.std.specs.Prelude.{ℕ, ◌+◌, ◌*◌, nat_lt, if◌then◌else◌, List, [], ◌∷◌, length, take, drop, map}
use Rattle.std.specs.Int.{w32, from_be_bytes}
use Rattle.bk_base.specs.declared.numbers.FileId.{FileId}
use Rattle.bk_laws.specs.SwapList.{SwapList}
use Rattle.bk_swap.specs.declared.lists.Swap.{Swap}

-- the ids as numbers
abbrev pub numbers : List FileId → List ℕ
numbers ids = map (λ (id : FileId). id.0) ids

abbrev pub list_of : Swap → SwapList
list_of s = record { inputs = numbers s.inputs.items; outputs = numbers s.outputs.items }

-- the number of four bytes at this place, or 0 where there are fewer
abbrev pub number_at : List ℕ → ℕ → ℕ
number_at bytes at = if nat_lt (length bytes) (at + 4) then 0 else from_be_bytes w32 (drop at bytes)

-- how many inputs and outputs there are; 0 where that can't be read
abbrev pub inputs_count : List ℕ → ℕ
inputs_count bytes = number_at bytes 0

abbrev pub outputs_count : List ℕ → ℕ
outputs_count bytes = number_at bytes (4 + 4 * inputs_count bytes)

-- how many bytes the list has, as far as they can be read
abbrev pub needed : List ℕ → ℕ
needed bytes = 12 + 4 * (inputs_count bytes + outputs_count bytes)

-- each four bytes as a number
abbrev pub ids_in : List ℕ → List ℕ
ids_in (a ∷ b ∷ c ∷ d ∷ rest) = from_be_bytes w32 (a ∷ b ∷ c ∷ d ∷ []) ∷ ids_in rest
ids_in _ = []

-- the list that bytes say, where they are as many as are needed
abbrev pub list_in : List ℕ → SwapList
list_in bytes = record {
  inputs = ids_in (take (4 * inputs_count bytes) (drop 4 bytes));
  outputs = ids_in (take (4 * outputs_count bytes) (drop (8 + 4 * inputs_count bytes) bytes));
}
