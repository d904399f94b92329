use Rattle.std.proofs.Common.{arith}
use Rattle.std.proofs.lemmas.List.{take_all, drop_all}
use Rattle.bk_memdisk.proofs.Effects.{pairs_split}
use Rattle.bk_memdisk.proofs.plans.Plan.fuse.Goals as goal

pub returns : goal.returns
returns c =
    rw (c.saturating_add.ensures, ← c.self.view_is) (grind (
      arith,
      pairs_split,
      take_all c.len.result
          c.self.inside.chosen.items (omega arith),
      drop_all c.len.result c.self.inside.chosen.items (omega arith),
    ))
