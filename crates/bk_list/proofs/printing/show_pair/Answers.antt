use Rattle.std.proofs.Common.{◌∙◌, ap}
use Rattle.bk_session.specs.Outgoing.{outgoing}
use Rattle.bk_session.proofs.Texts.{outgoing_same}
use Rattle.bk_list.proofs.Gets.{found_of, none_shown, not_shown, refused_shown, row_shown}
use Rattle.bk_list.proofs.printing.show_pair.Goals as goal

pub returns-in-Ok-clause-shows : goal.returns-in-Ok-clause-shows
returns-in-Ok-clause-shows g c = λ known sub.
    row_shown known g.D.Disk.tells g.D.View.View.tells g.K.Sink.tells sub (λ tell. g.met.D.Disk.views_tell tell) c.args.key.now
    c.args.now c.args.store.now c.locate.new.self c.in-Ok-Some.loan
    (found_of g.D.Disk.tells c.args.key.now c.args.now c.args.store.now c.locate.new.self c.in-Ok-Some.field-0 c.in-Ok-Some.loan (cc)
    c.locate.ensures.same c.locate.ensures.catalog c.locate.ensures.later c.locate.ensures.outs c.in-Ok-Some.ensures.views
    c.in-Ok-Some.ensures.viewed c.in-Ok-Some.ensures.ok c.in-Ok-Some.ensures.winner)
    (outgoing (g.K.Sink.written c.args.sink.now) c.args.outbox.now)
    (outgoing (g.K.Sink.written c.add_pair.new.sink) c.add_pair.new.self) c.in-Ok.ensures.sent

pub returns-in-Err-add_pair-clause-shows : goal.returns-in-Err-add_pair-clause-shows
returns-in-Err-add_pair-clause-shows g c = λ known sub.
    not_shown known g.D.Disk.tells g.D.View.View.tells g.K.Sink.tells sub (λ tell. g.met.D.Disk.views_tell tell) c.args.key.now
    c.args.now c.args.store.now c.locate.new.self c.in-Ok-Some.loan
    (found_of g.D.Disk.tells c.args.key.now c.args.now c.args.store.now c.locate.new.self c.in-Ok-Some.field-0 c.in-Ok-Some.loan (cc)
    c.locate.ensures.same c.locate.ensures.catalog c.locate.ensures.later c.locate.ensures.outs c.in-Ok-Some.ensures.views
    c.in-Ok-Some.ensures.viewed c.in-Ok-Some.ensures.ok c.in-Ok-Some.ensures.winner)
    c.add_pair.result c.in-Err-add_pair.why
    (outgoing (g.K.Sink.written c.args.sink.now) c.args.outbox.now)
    (outgoing (g.K.Sink.written c.add_pair.new.sink) c.add_pair.new.self) c.in-Err-add_pair.is c.add_pair.ensures.stopped
    c.in-Err-add_pair.ensures.unread
    (λ never. let same = c.in-Err-add_pair.ensures.same (λ is. never (c.in-Err-add_pair.is ∙ is)) in
    outgoing_same _ _ _ _ (ap g.K.Sink.written same.1) same.0)

pub returns-in-Ok-None-clause-shows : goal.returns-in-Ok-None-clause-shows
returns-in-Ok-None-clause-shows g c = λ known sub.
    none_shown known g.D.Disk.tells g.K.Sink.tells sub c.args.key.now c.args.now c.args.store.now c.locate.new.self
    c.in-Ok-None.field-0 (outgoing (g.K.Sink.written c.args.sink.now) c.args.outbox.now) (cc) c.locate.ensures.same
    c.locate.ensures.catalog c.locate.ensures.later c.locate.ensures.outs c.in-Ok-None.ensures.views c.in-Ok-None.ensures.viewed
    c.in-Ok-None.ensures.ok

pub returns-in-Err-clause-shows : goal.returns-in-Err-clause-shows
returns-in-Err-clause-shows g c = λ known sub.
    refused_shown known g.D.Disk.tells g.K.Sink.tells sub c.args.key.now c.args.now c.args.store.now c.locate.new.self
    c.in-Err.error (outgoing (g.K.Sink.written c.args.sink.now) c.args.outbox.now) c.locate.ensures.same
    c.locate.ensures.catalog c.locate.ensures.later c.locate.ensures.outs c.in-Err.ensures.no_view c.in-Err.ensures.nothing_viewed
    c.in-Err.ensures.refused
