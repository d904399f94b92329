-- How a plan stands for the calls that fail.
use Rattle.std.specs.Prelude.{ℕ, ◌≤◌, length, take, drop}
use Rattle.std.specs.declared.option.Option.{Option}
use Rattle.std.specs.declared.option.Option.TheVariants.{None, Some}
use Rattle.bk_memdisk.specs.declared.plans.Fuse.{Fuse}
use Rattle.bk_memdisk.specs.declared.plans.Plan.TheInside.{Inside}
use Rattle.bk_memdisk.specs.Plans.{Planned, Burns}
use Rattle.bk_memdisk.specs.Chosen.{pairs_of}

-- how many of the choices were made before the fuse was set
abbrev pub earlier_than : Option Fuse → ℕ
earlier_than None = 0
earlier_than (Some fuse) = fuse.earlier

abbrev pub burns_of : Option Fuse → Option Burns
burns_of None = None
burns_of (Some fuse) = Some (record { call = fuse.call; effect = fuse.effect })

abbrev pub planned_of : Inside → Planned
planned_of p = record {
  calls = p.calls;
  earlier = pairs_of (take (earlier_than p.fuse) p.chosen.items);
  later = pairs_of (drop (earlier_than p.fuse) p.chosen.items);
  fuse = burns_of p.fuse;
}

abbrev pub EndsWithin : Inside → Type 0
EndsWithin p = earlier_than p.fuse ≤ length p.chosen.items
