use Rattle.bk_session.proofs.Ways.{ended_whole, ended_within, failed_source, fewer_taken, lost_piece, taken_all}
use Rattle.bk_session.proofs.Ways.{taken_more}
use Rattle.bk_session.proofs.sessions.read_more.Goals as goal

pub returns-in-Taken-clause-goes : goal.returns-in-Taken-clause-goes
returns-in-Taken-clause-goes g c = λ disk ct store moments.
    taken_more disk _ _ c.args.inbox.now c.read_on.new.self c.args.outbox.now _ c.in-Taken.ensures.gives

pub returns-in-Taken-clause-fewer : goal.returns-in-Taken-clause-fewer
returns-in-Taken-clause-fewer g c = λ none.
    fewer_taken g.S.Source.tells c.args.inbox.now c.read_on.new.self _ _ c.in-Taken.ensures.gives
    c.read_on.ensures.most c.read_on.ensures.within

pub returns-in-None-clause-goes : goal.returns-in-None-clause-goes
returns-in-None-clause-goes g c = λ disk ct store moments.
    ended_whole disk _ _ c.args.inbox.now c.read_on.new.self c.args.outbox.now _ c.requires.nothing
    c.in-Ended.ensures.gives c.in-None.ensures

pub returns-in-Some-clause-goes : goal.returns-in-Some-clause-goes
returns-in-Some-clause-goes g c = λ disk ct store moments.
    ended_within disk _ _ c.args.inbox.now c.read_on.new.self c.args.outbox.now _ _ c.in-Some.offset
    c.close_at.result c.requires.nothing c.in-Ended.ensures.gives c.requires.partial c.in-Some.ensures
    c.close_at.ensures.closes

pub returns-in-Long-clause-goes : goal.returns-in-Long-clause-goes
returns-in-Long-clause-goes g c = λ disk ct store moments.
    taken_all disk _ _ c.args.inbox.now c.read_on.new.self c.args.outbox.now _ c.requires.nothing
    c.in-Long.ensures.gives c.requires.partial

pub returns-in-Failed-clause-goes : goal.returns-in-Failed-clause-goes
returns-in-Failed-clause-goes g c = λ disk ct store moments.
    failed_source disk _ _ c.args.inbox.now c.read_on.new.self c.args.outbox.now _ c.requires.nothing
    c.in-Failed.ensures.gives c.requires.partial

pub returns-in-Memory-clause-goes : goal.returns-in-Memory-clause-goes
returns-in-Memory-clause-goes g c = λ disk ct store moments.
    lost_piece disk _ _ c.args.inbox.now c.args.outbox.now _ c.requires.nothing c.in-Memory.ensures.gives.1
