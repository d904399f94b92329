use Rattle.std.proofs.Common.{subst, Result}
use Rattle.std.specs.Result.{IfOk}
use Rattle.bk_base.specs.declared.errors.Memory.{Memory}
use Rattle.bk_disk.specs.Crashes.{IsSynced}
use Rattle.bk_memdisk.specs.Disk.{told_by}
use Rattle.bk_memdisk.specs.declared.disks.MemDisk.{MemDisk}
use Rattle.test_sessions.proofs.list.crashed.Goals as goal

pub returns : goal.returns
returns g c =
    c.synced_lends_nothing.ensures (told_by c.expect.result)
    (subst (λ (r : Result MemDisk Memory). IfOk r (λ after. IsSynced (told_by after))) c.expect.ensures c.crash.ensures.synced)
