use Rattle.std.proofs.Common.{refl, subst, sym}
use Rattle.bk_fill.proofs.WorkLaws.{work_done}
use Rattle.bk_fill.proofs.putting.work.Goals as goal
use Rattle.bk_fill.specs.declared.work.Work.{Work}
use Rattle.bk_fill.specs.Work.{HasWorked}
use Rattle.bk_store.specs.Shown.{Shown}

pub returns-clause-worked : goal.returns-clause-worked
returns-clause-worked g c = λ known sub o h first f.
    let work : Work = record { puts = c.put_all-puts.result; sync = c.sync-sync.result; keys = c.stat-keys.result.keys } in
    subst (λ (u : Shown). HasWorked known c.args.now c.args.count work c.args.store.now u o h first)
    (sym c.stat-keys.ensures.same)
    (work_done known g.D.Disk.tells c.args.now c.args.count work c.stat-keys.result c.args.store.now c.put_all-puts.new.store
    c.sync-sync.new.self o h first sub (c.put_all-puts.ensures.puts known sub o h first f)
    (record {
      rest = c.sync-sync.ensures.rest;
      same = c.sync-sync.ensures.same;
      past = c.sync-sync.ensures.past;
      crash = c.sync-sync.ensures.crash;
      cause = c.sync-sync.ensures.cause;
      ok = c.sync-sync.ensures.ok;
      refused = c.sync-sync.ensures.refused;
    })
    c.stat-keys.ensures.stat refl)
