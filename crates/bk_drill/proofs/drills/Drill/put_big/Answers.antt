use Rattle.bk_drill.proofs.drills.Drill.put_big.Goals as goal
use Rattle.bk_drill.proofs.Writing.{big_no_memory}

pub returns-in_default : goal.returns-in_default
returns-in_default c = big_no_memory c.args.self.now c.args.key c.args.len

pub returns-in-Err : goal.returns-in-Err
returns-in-Err c = big_no_memory c.args.self.now c.args.key c.args.len
