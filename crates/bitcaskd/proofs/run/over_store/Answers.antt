use Rattle.bitcaskd.proofs.run.over_store.Goals as goal

pub returns-in-Pipe-clause-ran : goal.returns-in-Pipe-clause-ran
returns-in-Pipe-clause-ran g c = λ was opens. rw c.in-Pipe.is (c.pipe_store.ensures.ran was opens)

pub returns-in-Fill-clause-ran : goal.returns-in-Fill-clause-ran
returns-in-Fill-clause-ran g c = λ was opens.
    rw c.in-Fill.is
    (c.fill_store.ensures.ran was g.S.Source.tells (g.S.Source.whole c.args.source.now) (g.S.Source.taken c.args.source.now)
    opens)

pub returns-in-List-clause-ran : goal.returns-in-List-clause-ran
returns-in-List-clause-ran g c = λ was opens.
    rw c.in-List.is
    (c.list_store.ensures.ran was g.S.Source.tells (g.S.Source.whole c.args.source.now) (g.S.Source.taken c.args.source.now)
    opens)
