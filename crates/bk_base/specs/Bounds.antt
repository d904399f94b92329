-- How long a key and a value may be.
use Rattle.std.specs.Prelude.{ℕ, List, ◌≤◌, ◌<◌, length, get_or}
use Rattle.bk_base.specs.declared.limits.TheConstants.{LONGEST_KEY, LONGEST_VALUE}

-- A key has 1 to 65,535 bytes.
pub record IsKey (bytes : List ℕ) : Type 0 where
  pub some : 1 ≤ length bytes
  pub short : length bytes ≤ LONGEST_KEY

-- A value has at most 16,777,216 bytes.
abbrev pub IsValue : List ℕ → Type 0
IsValue bytes = length bytes ≤ LONGEST_VALUE

-- Each number is a byte. Keys and values hold bytes, but a variable of a definition ranges over every list.
abbrev pub AreBytes : List ℕ → Type 0
AreBytes bytes = (i : ℕ) → get_or bytes i 0 < 256
