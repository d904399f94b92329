use Rattle.std.proofs.Common.{arith}
use Rattle.bk_files.specs.Catalog.{sealed}
use Rattle.bk_files.proofs.RowEdits.{edited_at-past, edited_at-set}
use Rattle.bk_files.proofs.catalog.Catalog.seal.Goals as goal

pub returns-then-place-len-clause-rows : goal.returns-then-place-len-clause-rows
returns-then-place-len-clause-rows c =
    edited_at-set sealed c.args.self.now.rows.items c.args.place c.index_mut.result.now
    (omega (arith, c.len.ensures, c.if-place-len.true)) c.index_mut.ensures.value

pub returns-else-place-len-clause-rows : goal.returns-else-place-len-clause-rows
returns-else-place-len-clause-rows c =
    edited_at-past sealed c.args.self.now.rows.items c.args.place (omega (arith, c.len.ensures, c.if-place-len.false))
