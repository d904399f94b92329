use Rattle.std.proofs.Common.{◌≡◌, take}
use Rattle.bk_disk.specs.Crashes.{IsSynced}
use Rattle.bk_memdisk.proofs.Left.{image_left, AreAllBytes}
use Rattle.bk_memdisk.proofs.directory.Directory.crash.Given as goal

abbrev pub invariant-loop-file : goal.invariant-loop-file
invariant-loop-file l =
    (l.after.told.image ≡ image_left l.choice.keep l.choice.flips.items (take l.file-index l.self-inside.files.items))
    × IsSynced l.after.told
    × AreAllBytes l.after.told.image
