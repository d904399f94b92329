-- None of some calls was chosen to fail.
use Rattle.std.proofs.Common.{ℕ, ◌<◌, ◌≤◌}
use Rattle.std.specs.Prelude.{IsSome}
use Rattle.bk_memdisk.specs.Plans.{Planned, effect_at}

pub record MeetsNone (plan : Planned) (calls : ℕ) : Type 0 where
  pub never : (call : ℕ) → plan.calls < call → call ≤ calls → IsSome (effect_at call plan) → ⊥
