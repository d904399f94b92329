use Rattle.std.proofs.Common.{◌<◌, length, arith}
use Rattle.bk_store.proofs.Sweeping.{cleans_drop, cleans_trans, visited}
use Rattle.bk_store.proofs.sweeps.visit.Goals as goal

pub returns-clause-visited : goal.returns-clause-visited
returns-clause-visited g c =
    visited c.args.position c.prune-pruned.result c.drop_at-has_gone.result c.args.keydir.now c.prune-pruned.new.keydir
    c.drop_at-has_gone.new.self c.requires c.prune-pruned.ensures.pruned c.drop_at-has_gone.ensures.dropped
    c.drop_at-has_gone.ensures.entries c.drop_at-has_gone.ensures.folds.slots

pub returns-clause-cleans : goal.returns-clause-cleans
returns-clause-cleans g c =
    let low : c.args.position < length c.prune-pruned.new.keydir.entries =
    omega (arith, c.requires, c.prune-pruned.ensures.pruned.keys) in
    cleans_trans g.D.Disk.tells c.args.files.now c.prune-pruned.new.files c.prune-pruned.new.files c.args.keydir.now
    c.prune-pruned.new.keydir c.drop_at-has_gone.new.self c.prune-pruned.ensures.cleans
    (cleans_drop g.D.Disk.tells c.prune-pruned.new.files c.prune-pruned.new.keydir c.drop_at-has_gone.new.self c.args.position
    c.drop_at-has_gone.result low c.drop_at-has_gone.ensures.dropped c.drop_at-has_gone.ensures.entries
    c.drop_at-has_gone.ensures.folds.slots c.drop_at-has_gone.ensures.counts c.len-before.ensures.distinct c.len-after.ensures.distinct)
