use Rattle.bench_keydir.specs.Puts.{TakesSeq}
use Rattle.bench_keydir.proofs.keydirs.put_each.Given as goal

-- the next version may be put
abbrev pub invariant-loop-number : goal.invariant-loop-number
invariant-loop-number l = TakesSeq l.seq l.keydir
