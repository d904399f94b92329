use Rattle.std.proofs.Common.{refl, ◌∙◌}
use Rattle.bk_hint.proofs.RowsLeftBehind.{key_given}
use Rattle.bk_hint.proofs.reading.HintIn.next.Goals as goal

pub returns-in_default-clause-ok : goal.returns-in_default-clause-ok
returns-in_default-clause-ok c = λ covered rows left. ((c.in_default.ensures covered rows left).0, refl)

pub of-requires : goal.of-requires
of-requires c =
    key_given c.args.bytes.now c.args.self.now c.next_borrowed.new.self (c.in-Some.version, c.in-Some.key.now)
    c.requires.0 c.requires.1 c.requires.2 (c.in-Some.ensures c.requires.0 c.requires.1 c.requires.2)

pub returns-clause-ok : goal.returns-clause-ok
returns-clause-ok c = λ covered rows left.
    let given = c.in-Some.ensures covered rows left in
    (given.0, given.1, given.2, given.3, c.in_ok-key.ensures ∙ given.4, given.5, given.6)
