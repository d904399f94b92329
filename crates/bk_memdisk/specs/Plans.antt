-- Which calls of a disk in memory fail, and with what effect.
use Rattle.std.specs.Prelude.{ℕ, ◌+◌, ◌-◌, ◌==◌, min, cond, nat_le, List, [], ◌∷◌, ◌++◌}
use Rattle.std.specs.declared.option.Option.{Option}
use Rattle.std.specs.declared.option.Option.TheVariants.{None, Some}
use Rattle.bk_disk.specs.Causes.{most}

-- all calls past this one fail, the first of them with the effect
pub record Burns : Type 0 where
  pub call : ℕ
  pub effect : ℕ

pub record Planned : Type 0 where
  -- how many calls were made
  pub calls : ℕ
  -- the calls that were chosen before the fuse was set, each with its effect, and those since
  pub earlier : List (ℕ × ℕ)
  pub later : List (ℕ × ℕ)
  pub fuse : Option Burns

abbrev pub nothing_chosen : Planned
nothing_chosen = record { calls = 0; earlier = []; later = []; fuse = None }

-- numbers of calls stand at their last value
abbrev pub plus : ℕ → ℕ → ℕ
plus calls n = min (calls + n) most

abbrev pub chosen : ℕ → ℕ → Planned → Planned
chosen nth effect p = record {
  calls = p.calls;
  earlier = p.earlier;
  later = p.later ++ (plus p.calls nth, effect) ∷ [];
  fuse = p.fuse;
}

abbrev pub fused : ℕ → ℕ → Planned → Planned
fused calls effect p = record {
  calls = p.calls;
  earlier = p.earlier ++ p.later;
  later = [];
  fuse = Some (record { call = plus p.calls calls; effect = effect });
}

abbrev pub counted_to : ℕ → Planned → Planned
counted_to calls p = record { calls = calls; earlier = p.earlier; later = p.later; fuse = p.fuse }

abbrev pub one_later : Planned → Planned
one_later p = counted_to (plus p.calls 1) p

abbrev pub or_else : Option ℕ → Option ℕ → Option ℕ
or_else None other = other
or_else (Some effect) other = Some effect

-- the effect of a call that was chosen; the last choice counts
abbrev pub effect_of : ℕ → List (ℕ × ℕ) → Option ℕ
effect_of call [] = None
effect_of call (c ∷ cs) = or_else (effect_of call cs) (cond (c.0 == call) (Some c.1) None)

-- the effect of a call by the fuse, and before it burns by the choices that were made before it
abbrev pub burnt : ℕ → Option Burns → List (ℕ × ℕ) → Option ℕ
burnt call None cs = effect_of call cs
burnt call (Some fuse) cs =
    cond (nat_le call fuse.call) (effect_of call cs) (Some (cond (call - fuse.call == 1) fuse.effect 0))

-- the effect with which the call of this number fails, None where it doesn't
abbrev pub effect_at : ℕ → Planned → Option ℕ
effect_at call p = or_else (effect_of call p.later) (burnt call p.fuse p.earlier)

-- the effect of the next call
abbrev pub next_effect : Planned → Option ℕ
next_effect p = effect_at (plus p.calls 1) p
