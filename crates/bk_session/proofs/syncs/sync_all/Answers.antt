use Rattle.bk_base.specs.declared.requests.Reply.TheVariants.{Disk, Synced}
use Rattle.bk_session.proofs.Reading.{sync_refused, sync_replies}
use Rattle.bk_session.proofs.syncs.sync_all.Goals as goal
use Rattle.std.specs.Prelude.{Bool, false}
use Rattle.bk_session.proofs.Following.{known_way}
use Rattle.bk_disk.specs.Told.{untold}
use Rattle.bk_session.specs.Replying.{RepliesOnce}
use Rattle.bk_base.specs.declared.requests.Request.TheVariants.{Sync}
use Rattle.std.proofs.Common.{None}

pub returns-in-Ok-clause-replies : goal.returns-in-Ok-clause-replies
returns-in-Ok-clause-replies g c =
    λ known sub. known_way known g.D.Disk.tells
    (λ (t : Bool). RepliesOnce t Sync None (Synced c.in-Ok.seq) c.args.store.now c.sync.new.self)
    sub
    (sync_replies g.D.Disk.tells c.args.store.now c.sync.new.self c.sync.ensures.rest c.sync.ensures.same c.sync.ensures.past
    c.sync.ensures.crash c.in-Ok.seq c.in-Ok.ensures.ok)
    (sync_replies false c.args.store.now c.sync.new.self c.sync.ensures.rest c.sync.ensures.same (λ t. untold t)
    (λ t. untold t) c.in-Ok.seq (λ t. untold t))

pub returns-in-Err-clause-replies : goal.returns-in-Err-clause-replies
returns-in-Err-clause-replies g c =
    λ known sub. known_way known g.D.Disk.tells (λ (t : Bool). RepliesOnce t Sync None Disk c.args.store.now c.sync.new.self) sub
    (sync_refused g.D.Disk.tells c.args.store.now c.sync.new.self c.sync.ensures.rest c.sync.ensures.same c.sync.ensures.past
    c.sync.ensures.crash c.in-Err.ensures.cause.failed c.in-Err.ensures.refused)
    (sync_refused false c.args.store.now c.sync.new.self c.sync.ensures.rest c.sync.ensures.same (λ t. untold t)
    (λ t. untold t) c.in-Err.ensures.cause.failed (λ t. untold t))
