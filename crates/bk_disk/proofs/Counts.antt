-- Counts that go on over calls.
use Rattle.std.proofs.Common.{◌≡◌, ◌⊎◌, ℕ, ◌+◌, ◌-◌, ◌≤◌, Bool, true, false, refl, arith, inl, inr}
use Rattle.std.specs.Prelude.{◌||◌}
use Rattle.std.proofs.lemmas.Bool.{cases_lt}
use Rattle.bk_disk.specs.Causes.{most, bumped, Rose}
use Rattle.bk_disk.specs.Counts.{Counted, Counts}
use Rattle.bk_disk.specs.Told.{untold}

-- a count that never rises
pub none_within : 0 ≤ most
none_within = omega arith

goes_on : (before n middle k now : ℕ) → (middle ≡ before + n) ⊎ (most ≤ middle) → (now ≡ middle + k) ⊎ (most ≤ now)
    → (now ≡ before + (n + k)) ⊎ (most ≤ now)
goes_on before n middle k now (inl e) (inl f) = inl (omega arith)
goes_on before n middle k now (inl e) (inr h) = inr h
goes_on before n middle k now (inr h) (inl f) = inr (omega arith)
goes_on before n middle k now (inr h) (inr i) = inr i

-- two stretches, one after the other
pub counted_on : (a b : Bool) (before n middle k now : ℕ) → Counted a before n middle
    → Counted b middle k now → Counted (a || b) before (n + k) now
counted_on a b before n middle k now first then = record {
  goes = goes_on before n middle k now first.goes then.goes;
  some = some a b first.some then.some;
} where
  some : (a b : Bool) → (a ≡ true → 1 ≤ n) → (b ≡ true → 1 ≤ k) → a || b ≡ true → 1 ≤ n + k
  some true b f g h = let few = f refl in omega (arith, few)
  some false b f g h = let few = g h in omega (arith, few)

-- what is left out: that such a fault was there
pub counted_at_least : (had : Bool) (before n now : ℕ) → Counted had before n now → Counted false before n now
counted_at_least had before n now c = record { goes = c.goes; some = λ h. untold h }

pub counted_exactly : (before n now : ℕ) → now ≡ before + n → Counted false before n now
counted_exactly before n now is = record { goes = inl is; some = λ h. untold h }

-- a count that didn't fall rose by the difference
pub counted_rise : (before now : ℕ) → before ≤ now → Counted false before (now - before) now
counted_rise before now later = counted_exactly before (now - before) now (omega arith)

-- where it rose, or stands at its last value, by at least 1
pub counts_rose : (before now : ℕ) → before ≤ now → Rose before now → Counts true before now
counts_rose before now later rose = elim (cases_lt before now) [
  | inl less ↦ (now - before, record { goes = inl (omega arith); some = λ h. omega arith })
  | inr not_less ↦ (1, record { goes = inr (omega arith); some = λ h. omega arith })
]

-- a count that may have been bumped
pub counts_bumped : (due : Bool) (before now : ℕ) → now ≡ bumped due before → Counts due before now
counts_bumped false before now is = (0, record { goes = inl (omega (arith, is)); some = λ h. untold h })
counts_bumped true before now is = elim (cases_lt before most) [
  | inl low ↦ (1, record { goes = inl (omega (arith, is, low)); some = λ h. omega arith })
  | inr high ↦ (1, record { goes = inr (omega (arith, is, high)); some = λ h. omega arith })
]
