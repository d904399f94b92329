use Rattle.std.proofs.Common.{◌≡◌, ◌++◌, take}
use Rattle.bk_base.specs.Bounds.{AreBytes}
use Rattle.bk_memdisk.specs.Crash.{all_flipped}
use Rattle.bk_memdisk.proofs.choices.left.Given as goal

abbrev pub invariant-loop-offset : goal.invariant-loop-offset
invariant-loop-offset l =
    (l.left.items ≡ take l.synced l.bytes ++ all_flipped l.choice.flips.items 0
    (take l.offset l.part)) × AreBytes l.left.items
