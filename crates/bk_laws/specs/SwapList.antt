-- The swap list of a merge: which data files it read, and which it wrote in their place. Numbers are
-- unsigned and big-endian:
--
--   4 bytes         how many inputs there are, n
--   4 * n bytes     their ids
--   4 bytes         how many outputs there are, m
--   4 * m bytes     their ids
--   4 bytes         the CRC-32 of all before
use Rattle.std.specs.Prelude.{◌≡◌, ℕ, ◌^◌, ◌<◌, List, ◌++◌, length}
use Rattle.std.specs.Int.{w32, to_be_bytes}
use Rattle.std.specs.List.{AllByRecursion, flat_map}
use Rattle.bk_crc.specs.Crc.{crc_of}

pub record SwapList : Type 0 where
  pub inputs : List ℕ
  pub outputs : List ℕ

-- ids one after the other
abbrev pub ids_text : List ℕ → List ℕ
ids_text ids = flat_map (to_be_bytes w32) ids

-- ids behind their number
abbrev pub counted_text : List ℕ → List ℕ
counted_text ids = to_be_bytes w32 (length ids) ++ ids_text ids

-- what the checksum covers
unfoldable pub lists_text : SwapList → List ℕ
lists_text l = counted_text l.inputs ++ counted_text l.outputs

unfoldable pub swap_text : SwapList → List ℕ
swap_text l = lists_text l ++ to_be_bytes w32 (crc_of (lists_text l))

abbrev pub FitsId : ℕ → Type 0
FitsId id = id < 2 ^ 32

abbrev pub FitIds : List ℕ → Type 0
FitIds ids = (length ids < 2 ^ 32) × AllByRecursion FitsId ids

-- a list that has a text
pub record FitsList (l : SwapList) : Type 0 where
  pub inputs : FitIds l.inputs
  pub outputs : FitIds l.outputs

-- the bytes are the text of this list, and no more
pub record IsWhole (bytes : List ℕ) (l : SwapList) : Type 0 where
  pub fits : FitsList l
  pub is : bytes ≡ swap_text l
