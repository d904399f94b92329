-- Counts of faults, and the causes of a refusal.
use Rattle.std.specs.Prelude.{ℕ, ◌+◌, ◌≤◌, min, Bool, true, false, cond, Result, Ok, Err, OnErr, IsErrOf}
use Rattle.bk_disk.specs.declared.errors.Failed.{Failed}
use Rattle.bk_disk.specs.declared.errors.DiskError.{DiskError}
use Rattle.bk_disk.specs.declared.errors.DiskError.TheVariants.{Failed as failed, Memory as memory}

-- the last value of a count, at which it stays: 2^64 - 1
abbrev pub most : ℕ
most = 18446744073709551615

-- a count, one more where it is due
abbrev pub bumped : Bool → ℕ → ℕ
bumped due n = cond due (min (n + 1) most) n

-- a call failed: out of memory is no failure
abbrev pub has_failed : {T : Type 0} → Result T DiskError → Bool
has_failed (Ok value) = false
has_failed (Err failed) = true
has_failed (Err memory) = false

-- a count rose, or stands at its last value
abbrev pub Rose : ℕ → ℕ → Type 0
Rose before now = min (before + 1) most ≤ now

-- an object's count doesn't fall, and a call on it failed only where it rose
pub record IsCaused {T : Type 0} (before now : ℕ) (result : Result T Failed) : Type 0 where
  pub later : before ≤ now
  pub failed : OnErr result (Rose before now)

-- the same where the call may also want memory
pub record HasCause {T : Type 0} (before now : ℕ) (result : Result T DiskError) : Type 0 where
  pub later : before ≤ now
  pub failed : IsErrOf result failed → Rose before now
