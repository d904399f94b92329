use Rattle.bk_load.proofs.Numbering.{order_done}
use Rattle.bk_load.proofs.directory.in_order.Goals as goal

pub returns : goal.returns
returns c =
    let gives = c.into_iter-id-iterator.ensures.into_iter_gives in
    order_done c.args.files.now c.args.kind c.args.least c.in_ok-lengths.lengths.entries c.into_iter-id-iterator.result
    c.loop-id.id-iterator c.loop-id.numbered.items c.loop-id.invariant c.in-None.ensures.steps.0 gives.0 gives.5 gives.6
    c.in_ok-lengths.ensures
