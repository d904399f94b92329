use Rattle.bk_store.proofs.Sweeping.{prune_begins, prune_ends, prune_falls, prune_goes_on}
use Rattle.bk_store.proofs.sweeps.prune.Goals as goal

pub loop-version-init : goal.loop-version-init
loop-version-init g c = prune_begins g.D.Disk.tells c.args.position c.args.files.now c.args.keydir.now c.requires

pub prune_at-requires : goal.prune_at-requires
prune_at-requires g c = c.loop-version.invariant.low

pub loop-version-smaller : goal.loop-version-smaller
loop-version-smaller g c =
    prune_falls g.D.Disk.tells c.args.position c.args.files.now c.args.keydir.now c.loop-version.files c.loop-version.keydir
    c.prune_at.new.self c.loop-version.pruned c.in-Some.version c.loop-version.invariant c.in-Some.ensures.pruned c.in-Some.ensures.entries

pub loop-version-preserved : goal.loop-version-preserved
loop-version-preserved g c =
    prune_goes_on g.D.Disk.tells c.args.position c.args.files.now c.args.keydir.now c.loop-version.files c.loop-version.keydir
    c.take_refs.new.files c.prune_at.new.self c.loop-version.pruned c.saturating_add-pruned.result c.in-Some.version
    c.loop-version.invariant c.in-Some.ensures.pruned c.in-Some.ensures.entries c.in-Some.ensures.folds c.in-Some.ensures.counts
    c.take_refs.ensures.alone c.take_refs.ensures.rows c.saturating_add-pruned.ensures

pub returns-clause-pruned : goal.returns-clause-pruned
returns-clause-pruned g c =
    (prune_ends g.D.Disk.tells c.args.position c.args.files.now c.args.keydir.now c.loop-version.files c.loop-version.keydir
    c.prune_at.new.self c.loop-version.pruned c.loop-version.invariant c.in_default.ensures.pruned
    (c.prune_at.ensures.nothing c.in_default.is)).0

pub returns-clause-cleans : goal.returns-clause-cleans
returns-clause-cleans g c =
    (prune_ends g.D.Disk.tells c.args.position c.args.files.now c.args.keydir.now c.loop-version.files c.loop-version.keydir
    c.prune_at.new.self c.loop-version.pruned c.loop-version.invariant c.in_default.ensures.pruned
    (c.prune_at.ensures.nothing c.in_default.is)).1
