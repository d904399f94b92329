-- The number of the call that fails, counted from 1.
use Rattle.std.specs.Prelude.{◌≡◌, ℕ, ◌-◌}
use Rattle.std.specs.declared.option.Option.{Option}
use Rattle.std.specs.declared.option.Option.TheVariants.{None, Some}

-- the next call fails
abbrev pub IsDue : Option ℕ → Type 0
IsDue due = due ≡ Some 1

-- the number after one call; 0 is never due
abbrev pub counted : Option ℕ → Option ℕ
counted None = None
counted (Some calls) = Some (calls - 1)
