use Rattle.bk_base.specs.declared.requests.Reply.TheVariants.{Stat as stat_line}
use Rattle.bk_session.proofs.Reading.{stat_replies}
use Rattle.bk_session.proofs.syncs.count.Goals as goal
use Rattle.std.specs.Prelude.{Bool, false}
use Rattle.bk_session.proofs.Following.{known_way}
use Rattle.bk_disk.specs.Told.{untold}
use Rattle.bk_session.specs.Replying.{RepliesOnce}
use Rattle.bk_base.specs.declared.requests.Request.TheVariants.{Stat}
use Rattle.std.proofs.Common.{None}

pub returns-clause-replies : goal.returns-clause-replies
returns-clause-replies g c =
    λ known sub. known_way known g.D.Disk.tells
    (λ (t : Bool). RepliesOnce t Stat None (stat_line c.stat-stat.result.keys
    c.stat-stat.result.files c.stat-stat.result.total c.stat-stat.result.live) c.args.store.now
    c.stat-stat.new.self) sub
    (stat_replies g.D.Disk.tells c.stat-stat.result c.args.store.now c.stat-stat.new.self c.stat-stat.ensures.same
    c.stat-stat.ensures.stat c.stat-stat.ensures.quiet c.stat-stat.ensures.crash)
    (stat_replies false c.stat-stat.result c.args.store.now c.stat-stat.new.self c.stat-stat.ensures.same
    c.stat-stat.ensures.stat (λ t. untold t) (λ t. untold t))
