use Rattle.bk_drill.proofs.Going.{ended_whole, ended_within, failed_source, fewer_taken, loses, taken_all, taken_more}
use Rattle.bk_drill.proofs.running.read_on.Goals as goal

pub returns-in-Taken-clause-goes : goal.returns-in-Taken-clause-goes
returns-in-Taken-clause-goes g c = λ drill.
    taken_more _ drill _ _ _ c.args.inbox.now c.read_on.new.self c.in-Taken.ensures.gives

pub returns-in-Taken-clause-fewer : goal.returns-in-Taken-clause-fewer
returns-in-Taken-clause-fewer g c = λ none.
    fewer_taken g.S.Source.tells c.args.inbox.now c.read_on.new.self _ _ c.in-Taken.ensures.gives
    c.read_on.ensures.within

pub returns-in-None-clause-goes : goal.returns-in-None-clause-goes
returns-in-None-clause-goes g c = λ drill.
    ended_whole _ drill _ _ _ c.args.inbox.now c.read_on.new.self c.in-Ended.ensures.gives c.in-None.ensures

pub returns-in-Some-clause-goes : goal.returns-in-Some-clause-goes
returns-in-Some-clause-goes g c = λ drill.
    ended_within c.end_at.result _ drill _ _ _ _ c.args.inbox.now c.read_on.new.self c.in-Some.offset
    c.in-Ended.ensures.gives c.requires.unended c.in-Some.ensures c.end_at.ensures.says

pub returns-in-Long-clause-goes : goal.returns-in-Long-clause-goes
returns-in-Long-clause-goes g c = λ drill.
    taken_all _ drill _ _ _ c.args.inbox.now c.read_on.new.self c.in-Long.ensures.gives c.requires.unended

pub returns-in-Failed-clause-goes : goal.returns-in-Failed-clause-goes
returns-in-Failed-clause-goes g c = λ drill.
    failed_source _ drill _ _ _ c.args.inbox.now c.read_on.new.self c.in-Failed.ensures.gives c.requires.unended

pub returns-in-Memory-clause-goes : goal.returns-in-Memory-clause-goes
returns-in-Memory-clause-goes g c = λ drill.
    loses _ drill _ _ _ c.args.inbox.now c.in-Memory.ensures.gives.1
