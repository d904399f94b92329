-- What `decode` answers, and where each refusal comes.
use Rattle.std.specs.Prelude.{◌≡◌, ◌≢◌, ℕ, ◌-◌, ◌<◌, List, length, take, drop}
use Rattle.std.specs.Int.{w32, from_be_bytes}
use Rattle.bk_crc.specs.Crc.{crc_of}
use Rattle.bk_laws.specs.SwapList.{IsWhole, SwapList}
use Rattle.bk_swap.specs.Lists.{needed}
use Rattle.bk_swap.specs.declared.lists.SwapStop.{SwapStop}
use Rattle.bk_swap.specs.declared.lists.SwapStop.TheVariants.{Short, Long, BadCheck, Memory}

-- the checksum of all but the last four bytes, and the one that stands in these
abbrev pub computed_of : List ℕ → ℕ
computed_of bytes = crc_of (take (length bytes - 4) bytes)

abbrev pub stored_of : List ℕ → ℕ
stored_of bytes = from_be_bytes w32 (drop (length bytes - 4) bytes)

-- Where each refusal comes. No two of them come at the same bytes.
abbrev pub IsSwapStop : List ℕ → SwapStop → Type 0
IsSwapStop bytes (Short need have) = (need ≡ needed bytes) × (have ≡ length bytes) × (have < need)
IsSwapStop bytes (Long need have) = (need ≡ needed bytes) × (have ≡ length bytes) × (need < have)
IsSwapStop bytes (BadCheck stored computed) =
    (length bytes ≡ needed bytes) × (stored ≡ stored_of bytes) × (computed ≡ computed_of bytes)
    × (stored ≢ computed)
IsSwapStop bytes Memory = (l : SwapList) × IsWhole bytes l
