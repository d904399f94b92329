use Rattle.std.proofs.Common.{◌∙◌, ℕ, List, ap}
use Rattle.std.proofs.lemmas.Result.{IfOk-weaker}
use Rattle.bk_disk.specs.Shown.{DiskShown}
use Rattle.bk_disk.specs.Told.{Told}
use Rattle.bk_load.proofs.ReadFiles.{synced_none_lent}
use Rattle.bk_memdisk.specs.Crash.{crashed}
use Rattle.bk_memdisk.specs.Disk.{told_by}
use Rattle.bk_drill.specs.Progress.{IsOver, reopened_lines}
use Rattle.bk_drill.specs.declared.stops.Recovered.{Recovered}
use Rattle.bk_drill.proofs.Stopping.{is_stopped, runs_stopped}
use Rattle.bk_drill.proofs.drills.Drill.stop.Goals as goal

pub recover_store-requires : goal.recover_store-requires
recover_store-requires c = synced_none_lent (told_by c.in_ok-disk.disk) c.in_ok-disk.ensures.synced

pub returns-clause-own : goal.returns-clause-own
returns-clause-own c =
    let r : Recovered = c.in_ok-recovered.recovered in
    let t : Told = told_by c.close.result in
    let lines = reopened_lines r.seq r.keys r.torn.items in
    IfOk-weaker c.over.result (IsOver r.store c.args.self.settings c.args.self.now r.plan) _
    (λ d over. (
      lines,
      c.in_ok-write_reopened.ensures.ok,
      is_stopped c.args.self d c.args.keep c.args.flips t (told_by c.in_ok-disk.disk) r (ap (λ (x : DiskShown). x.told) c.close.ensures.shown)
          (c.in_ok-disk.ensures.image
          ∙ ap (λ (flips : List ℕ). crashed c.args.keep flips t.fronts t.image) c.into_offsets.ensures)
          c.in_ok-disk.ensures.allowed c.in_ok-disk.ensures.synced c.in_ok-recovered.ensures over,
    ))
    c.over.ensures

pub returns-clause-ok : goal.returns-clause-ok
returns-clause-ok c =
    let r : Recovered = c.in_ok-recovered.recovered in
    let t : Told = told_by c.close.result in
    let lines = reopened_lines r.seq r.keys r.torn.items in
    IfOk-weaker c.over.result (IsOver r.store c.args.self.settings c.args.self.now r.plan) _
    (λ d over. (
      lines,
      c.in_ok-write_reopened.ensures.ok,
      runs_stopped c.args.self d c.args.keep c.args.flips lines
          (is_stopped c.args.self d c.args.keep c.args.flips t (told_by c.in_ok-disk.disk) r (ap (λ (x : DiskShown). x.told) c.close.ensures.shown)
          (c.in_ok-disk.ensures.image
          ∙ ap (λ (flips : List ℕ). crashed c.args.keep flips t.fronts t.image) c.into_offsets.ensures)
          c.in_ok-disk.ensures.allowed c.in_ok-disk.ensures.synced c.in_ok-recovered.ensures over),
    ))
    c.over.ensures
