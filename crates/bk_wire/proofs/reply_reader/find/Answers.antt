use Rattle.std.proofs.Common.{arith}
use Rattle.bk_wire.proofs.ReplyLaws.{rest_fits, found_here, stopped}
use Rattle.bk_wire.proofs.reply_reader.find.Goals as goal

pub overflow_sub-result : goal.overflow_sub-result
overflow_sub-result c =
    omega (arith, rest_fits _ _ _ (λ i. omega (arith, c.type_inv.bytes i)) c.in-Ok.ensures)

pub returns-in-Ok : goal.returns-in-Ok
returns-in-Ok c = found_here _ _ _ (λ i. omega (arith, c.type_inv.bytes i)) c.in-Ok.ensures

pub returns-in-Err : goal.returns-in-Err
returns-in-Err c = stopped _ _ (λ i. omega (arith, c.type_inv.bytes i)) c.in-Err.ensures
