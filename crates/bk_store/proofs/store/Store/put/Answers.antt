use Rattle.std.proofs.Common.{refl}
use Rattle.bk_base.specs.declared.writes.Body.TheVariants.{Put}
use Rattle.bk_store.specs.Events.{next_write}
use Rattle.bk_store.proofs.Answering.{put_ok, refused}
use Rattle.bk_store.proofs.Events.{crash_write}
use Rattle.bk_store.proofs.store.Store.put.Goals as goal

pub returns-clause-ok : goal.returns-clause-ok
returns-clause-ok g c = λ tells.
    put_ok g.D.Disk.tells c.args.self.now c.append.new.self c.args.now c.args.prepared.key c.args.prepared.value
    c.append.result c.append.ensures.written c.append.ensures.rest (c.append.ensures.put tells)

pub returns-clause-refused : goal.returns-clause-refused
returns-clause-refused g c = λ tells.
    refused g.D.Disk.tells c.args.self.now c.append.new.self c.args.now c.args.prepared.key (Put c.args.prepared.value)
    c.append.result c.append.ensures.error c.append.ensures.rest (c.append.ensures.refused tells)

pub returns-clause-crash : goal.returns-clause-crash
returns-clause-crash g c = λ tells.
    crash_write c.args.self.now c.append.new.self
    (next_write c.args.self.now c.args.now c.args.prepared.key (Put c.args.prepared.value)) refl (c.append.ensures.crash tells)
