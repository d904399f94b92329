use Rattle.std.proofs.lemmas.Result.{IfOk-weaker}
use Rattle.bk_memdisk.specs.Disk.{told_by}
use Rattle.bk_drill.specs.Progress.{IsNew, IsOver}
use Rattle.bk_drill.specs.declared.stops.Recovered.{Recovered}
use Rattle.bk_drill.proofs.Stopping.{new_is}
use Rattle.bk_drill.proofs.drills.Drill.new.Goals as goal

pub returns : goal.returns
returns c =
    let r : Recovered = c.in_ok-store.field-0 in
    IfOk-weaker c.over.result (IsOver r.store c.args.settings (record { 0 = 0 }) r.plan) (IsNew c.args.settings)
    (λ d over. new_is c.args.settings (told_by c.new.result) r d c.new.ensures.told c.in_ok-store.ensures over) c.over.ensures
