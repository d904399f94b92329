use Rattle.std.proofs.Common.{ap, refl}
use Rattle.std.specs.Vec.{vec_capacity}
use Rattle.bk_disk.specs.Shown.{DiskShown}
use Rattle.bk_store.specs.Shown.{Shown}
use Rattle.bk_store.proofs.Starting.{start_stands, steady_start}
use Rattle.bk_store.proofs.store.Store.start.Goals as goal

pub returns-clause-stands : goal.returns-clause-stands
returns-clause-stands g c = λ tells log load.
    let v : Shown = record {
      files = c.new.result;
      keys = c.args.loaded.keydir;
      seq = c.args.loaded.last_seq.0;
      settings = c.args.settings;
      buffer = vec_capacity c.new-2.result;
    } in
    start_stands v (g.D.Disk.shown c.args.disk).told c.args.loaded log c.args.settings.max_file (ap (λ (x : DiskShown). x.told) c.new.ensures.shown)
    c.new.ensures.catalog refl refl (c.new.ensures.consistent tells) c.requires.order (c.requires.files tells) load

pub invariant_of-result : goal.invariant_of-result
invariant_of-result g c =
    let v : Shown = record {
      files = c.new.result;
      keys = c.args.loaded.keydir;
      seq = c.args.loaded.last_seq.0;
      settings = c.args.settings;
      buffer = vec_capacity c.new-2.result;
    } in
    steady_start g.D.Disk.tells v c.args.loaded c.requires.order refl refl c.new.ensures.consistent
