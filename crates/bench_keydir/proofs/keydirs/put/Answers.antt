use Rattle.std.proofs.Common.{subst, sym}
use Rattle.bk_keydir.specs.Keydir.{IsNewer}
use Rattle.bench_keydir.proofs.PutLemmas.{is_newer, takes_next, takes_ready}
use Rattle.bench_keydir.proofs.keydirs.put.Goals as goal

pub put_version-requires-clause-newer : goal.put_version-requires-clause-newer
put_version-requires-clause-newer c =
    subst (λ n. IsNewer n c.in_ok-key.key c.ready.new.self) (sym c.version.ensures)
    (is_newer c.args.seq c.in_ok-key.key c.ready.new.self
    (takes_ready c.args.seq c.args.keydir.now c.ready.new.self c.ready.ensures.same c.requires))

pub returns : goal.returns
returns c =
    takes_next c.args.seq c.in_ok-key.key c.version.result c.ready.new.self c.put_version.new.self c.version.ensures
    c.put_version.ensures.folds c.put_version.ensures.entries
    (takes_ready c.args.seq c.args.keydir.now c.ready.new.self c.ready.ensures.same c.requires)
