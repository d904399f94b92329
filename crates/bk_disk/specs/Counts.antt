-- How a count goes on over calls.
use Rattle.std.specs.Prelude.{◌≡◌, ◌⊎◌, ℕ, ◌+◌, ◌≤◌, Bool, true}
use Rattle.bk_disk.specs.Causes.{most}

-- A count rose by n, or stands at its last value. Where such a fault, view or file was there, n is at
-- least 1: at its last value the count alone doesn't show it.
pub record Counted (had : Bool) (before n now : ℕ) : Type 0 where
  pub goes : (now ≡ before + n) ⊎ (most ≤ now)
  pub some : had ≡ true → 1 ≤ n

-- it rose by some number
abbrev pub Counts : Bool → ℕ → ℕ → Type 0
Counts had before now = (n : ℕ) × Counted had before n now
