use Rattle.std.proofs.Common.{Some, subst, sym}
use Rattle.bk_base.specs.declared.requests.Reply.{Reply}
use Rattle.bk_base.specs.declared.requests.Request.TheVariants.{Put}
use Rattle.bk_base.specs.declared.writes.Body.TheVariants.{Put as put_body}
use Rattle.bk_store.specs.Events.{next_write}
use Rattle.bk_base.specs.declared.requests.Reply.TheVariants.{Numbered}
use Rattle.bk_session.specs.Replying.{RepliesOnce}
use Rattle.bk_session.proofs.Writes.{put_asks, put_replies, refused_replies}
use Rattle.bk_session.proofs.puts.put_at.Goals as goal
use Rattle.std.specs.Prelude.{Bool, false}
use Rattle.bk_session.proofs.Following.{known_way}
use Rattle.bk_disk.specs.Told.{untold}

pub returns-in-Ok-clause-replies : goal.returns-in-Ok-clause-replies
returns-in-Ok-clause-replies g c =
    λ known sub. known_way known g.D.Disk.tells
    (λ (t : Bool). RepliesOnce t (Put c.args.key c.args.value) (Some c.args.now) (Numbered
    c.in-Ok.stored.seq) c.args.store.now c.put.new.self) sub
    (put_replies g.D.Disk.tells c.args.key c.args.value c.args.now c.in-Ok.stored c.args.store.now c.put.new.self
    c.put.ensures.rest c.in-Ok.ensures.written c.in-Ok.ensures.ok c.put.ensures.past c.put.ensures.crash)
    (put_replies false c.args.key c.args.value c.args.now c.in-Ok.stored c.args.store.now c.put.new.self
    c.put.ensures.rest c.in-Ok.ensures.written (λ t. untold t) (λ t. untold t) (λ t. untold t))

pub returns-in-Err-clause-replies : goal.returns-in-Err-clause-replies
returns-in-Err-clause-replies g c =
    λ known sub. known_way known g.D.Disk.tells
    (λ (t : Bool). RepliesOnce t (Put c.args.key c.args.value) (Some c.args.now)
    c.refused_write.result c.args.store.now c.put.new.self) sub
    (subst
    (λ (r : Reply). RepliesOnce g.D.Disk.tells (Put c.args.key c.args.value) (Some c.args.now) r c.args.store.now c.put.new.self)
    (sym c.refused_write.ensures)
    (refused_replies g.D.Disk.tells (Put c.args.key c.args.value) c.args.now
    (next_write c.args.store.now c.args.now c.args.key (put_body c.args.value)) c.args.store.now c.put.new.self
    (put_asks c.args.key c.args.value c.args.now c.args.store.now) c.put.ensures.rest c.put.ensures.past c.put.ensures.crash
    c.in-Err.error c.in-Err.ensures.error c.in-Err.ensures.refused))
    (subst
    (λ (r : Reply). RepliesOnce false (Put c.args.key c.args.value) (Some c.args.now) r c.args.store.now c.put.new.self)
    (sym c.refused_write.ensures)
    (refused_replies false (Put c.args.key c.args.value) c.args.now
    (next_write c.args.store.now c.args.now c.args.key (put_body c.args.value)) c.args.store.now c.put.new.self
    (put_asks c.args.key c.args.value c.args.now c.args.store.now) c.put.ensures.rest (λ t. untold t) (λ t. untold t)
    c.in-Err.error c.in-Err.ensures.error (λ t. untold t)))
