use Rattle.bk_session.specs.Serving.{tells_of}
use Rattle.bk_session.proofs.FoldCalls.{on_ok}
use Rattle.bk_list.specs.Lists.{sides_of}
use Rattle.std.proofs.Common.{refl}
use Rattle.bk_list.proofs.Wholes.{as_before, fold_closed, fold_crash, fold_opened, lists_all, lists_none, stays_before}
use Rattle.bk_list.proofs.lists.list.Goals as goal

pub returns-in-Ok-gathered-clause-lists : goal.returns-in-Ok-gathered-clause-lists
returns-in-Ok-gathered-clause-lists g c = λ known sub o h tried f.
    let closed = on_ok c.fold_close.result c.fold_close.ensures.owner.0 c.gather-gathered.ensures.ours c.fold_close.ensures.closed in
    let opened = fold_opened g.D.Disk.tells known sub o h tried c.now-now.result c.args.store.now c.fold_open.new.self c.in-Ok.fold f
    c.in-Ok.ensures.opened c.in-Ok.ensures.ok in
    lists_all (tells_of known g.K.Sink.tells g.C.Clock.tells)
    (sides_of c.args.store.now (g.K.Sink.written c.args.sink.now) (g.C.Clock.moments c.args.clock.now))
    (sides_of c.print.new.store (g.K.Sink.written c.print.new.sink) (g.C.Clock.moments c.now-now.new.self)) c.print.result
    c.now-now.result c.in-Ok.fold.slot c.fold_open.new.self c.gather-gathered.new.store c.fold_close.new.self opened.0 o h tried f
    opened.1 c.now-now.ensures.moment c.now-now.ensures.later
    (λ tell. fold_crash c.now-now.result c.args.store.now c.fold_open.new.self c.in-Ok.fold c.in-Ok.ensures.opened
    (c.fold_open.ensures.crash (sub tell)) o h tried (f.stands tell))
    (fold_closed g.D.Disk.tells known sub c.in-Ok.fold.slot c.gather-gathered.new.store c.fold_close.new.self
    c.gather-gathered.ensures.ours closed
    (λ tell. on_ok c.fold_close.result c.fold_close.ensures.owner.0 c.gather-gathered.ensures.ours (c.fold_close.ensures.ok tell)))
    c.in-Ok-gathered.keys.items (c.in-Ok-gathered.ensures.gathered known sub) (c.print.ensures.prints known sub)

pub returns-in-Err-clause-lists : goal.returns-in-Err-clause-lists
returns-in-Err-clause-lists g c = λ known sub o h tried f.
    let closed = on_ok c.fold_close.result c.fold_close.ensures.owner.0 c.gather-gathered.ensures.ours c.fold_close.ensures.closed in
    let opened = fold_opened g.D.Disk.tells known sub o h tried c.now-now.result c.args.store.now c.fold_open.new.self c.in-Ok.fold f
    c.in-Ok.ensures.opened c.in-Ok.ensures.ok in
    lists_none (tells_of known g.K.Sink.tells g.C.Clock.tells)
    (sides_of c.args.store.now (g.K.Sink.written c.args.sink.now) (g.C.Clock.moments c.args.clock.now))
    (sides_of c.fold_close.new.self (g.K.Sink.written c.args.sink.now) (g.C.Clock.moments c.now-now.new.self)) c.in-Err.end
    c.now-now.result c.in-Ok.fold.slot c.fold_open.new.self c.gather-gathered.new.store c.fold_close.new.self opened.0 o h tried f
    opened.1 c.now-now.ensures.moment c.now-now.ensures.later
    (λ tell. fold_crash c.now-now.result c.args.store.now c.fold_open.new.self c.in-Ok.fold c.in-Ok.ensures.opened
    (c.fold_open.ensures.crash (sub tell)) o h tried (f.stands tell))
    (fold_closed g.D.Disk.tells known sub c.in-Ok.fold.slot c.gather-gathered.new.store c.fold_close.new.self
    c.gather-gathered.ensures.ours closed
    (λ tell. on_ok c.fold_close.result c.fold_close.ensures.owner.0 c.gather-gathered.ensures.ours (c.fold_close.ensures.ok tell)))
    (c.in-Err.ensures.refused known sub) refl c.in-Err.ensures.stops refl

pub returns-in-Ok-gathered-clause-rest : goal.returns-in-Ok-gathered-clause-rest
returns-in-Ok-gathered-clause-rest g c =
    stays_before c.args.store.now c.fold_close.new.self c.print.new.store
    (as_before c.now-now.result c.args.store.now c.fold_open.new.self c.gather-gathered.new.store c.fold_close.new.self c.in-Ok.fold
    c.requires.rested c.in-Ok.ensures.opened c.gather-gathered.ensures.moved c.gather-gathered.ensures.ours
    (on_ok c.fold_close.result c.fold_close.ensures.owner.0 c.gather-gathered.ensures.ours c.fold_close.ensures.closed))
    c.print.ensures.stays

pub returns-in-Err-clause-rest : goal.returns-in-Err-clause-rest
returns-in-Err-clause-rest g c =
    as_before c.now-now.result c.args.store.now c.fold_open.new.self c.gather-gathered.new.store c.fold_close.new.self c.in-Ok.fold
    c.requires.rested c.in-Ok.ensures.opened c.gather-gathered.ensures.moved c.gather-gathered.ensures.ours
    (on_ok c.fold_close.result c.fold_close.ensures.owner.0 c.gather-gathered.ensures.ours c.fold_close.ensures.closed)
