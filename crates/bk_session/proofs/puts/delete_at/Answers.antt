use Rattle.std.proofs.Common.{◌≡◌, ℕ, Option, Some, None, subst, sym}
use Rattle.bk_base.specs.declared.calls.Call.TheVariants.{Delete as delete_call}
use Rattle.bk_base.specs.declared.requests.Reply.{Reply}
use Rattle.bk_base.specs.declared.requests.Request.TheVariants.{Delete}
use Rattle.bk_base.specs.declared.writes.Body.TheVariants.{Gone}
use Rattle.bk_keydir.specs.Keydir.{newest_of, versions_of}
use Rattle.bk_store.specs.declared.puts.Stored.{Stored}
use Rattle.bk_store.specs.Events.{entry_by, next_write}
use Rattle.bk_store.specs.Loans.{is_put}
use Rattle.bk_store.specs.Writes.{Buries, IsBuried, bury_reply}
use Rattle.bk_base.specs.declared.requests.Reply.TheVariants.{Absent, Numbered}
use Rattle.bk_session.specs.Replying.{RepliesOnce}
use Rattle.bk_session.proofs.Writes.{buried_none, buried_some, delete_asks, delete_finds_none, delete_replies, refused_replies}
use Rattle.bk_session.proofs.puts.delete_at.Goals as goal
use Rattle.std.specs.Prelude.{Bool, false}
use Rattle.bk_session.proofs.Following.{known_way}
use Rattle.bk_disk.specs.Told.{untold}

pub returns-in-Ok-Some-clause-replies : goal.returns-in-Ok-Some-clause-replies
returns-in-Ok-Some-clause-replies g c =
    let is : c.in-Ok-Some.field-0 ≡ Some c.in-Ok-Some.stored = cc in
    λ known sub. known_way known g.D.Disk.tells
    (λ (t : Bool). RepliesOnce t (Delete c.args.key.now) (Some c.args.now) (Numbered
    c.in-Ok-Some.stored.seq) c.args.store.now c.delete.new.self) sub
    (delete_replies g.D.Disk.tells c.args.key.now c.args.now c.in-Ok-Some.stored c.args.store.now c.delete.new.self
    c.delete.ensures.rest (buried_some (is_put (newest_of (versions_of c.args.key.now c.args.store.now.keys.entries)))
    (next_write c.args.store.now c.args.now c.args.key.now Gone) c.args.store.now c.delete.new.self c.in-Ok-Some.stored
    (subst (IsBuried (is_put (newest_of (versions_of c.args.key.now c.args.store.now.keys.entries)))
    (next_write c.args.store.now c.args.now c.args.key.now Gone) c.args.store.now c.delete.new.self)
    is c.in-Ok-Some.ensures.buried))
    (λ tell. subst (λ (x : Option Stored). (who : ℕ) → Buries g.D.Disk.tells x
    (entry_by who (delete_call c.args.key.now c.args.now) (bury_reply x)) c.args.store.now c.delete.new.self) is
    (c.in-Ok-Some.ensures.ok tell)) c.delete.ensures.past
    c.delete.ensures.crash)
    (delete_replies false c.args.key.now c.args.now c.in-Ok-Some.stored c.args.store.now c.delete.new.self
    c.delete.ensures.rest (buried_some (is_put (newest_of (versions_of c.args.key.now c.args.store.now.keys.entries)))
    (next_write c.args.store.now c.args.now c.args.key.now Gone) c.args.store.now c.delete.new.self c.in-Ok-Some.stored
    (subst (IsBuried (is_put (newest_of (versions_of c.args.key.now c.args.store.now.keys.entries)))
    (next_write c.args.store.now c.args.now c.args.key.now Gone) c.args.store.now c.delete.new.self)
    is c.in-Ok-Some.ensures.buried))
    (λ t. untold t) (λ t. untold t)
    (λ t. untold t))

pub returns-in-Ok-None-clause-replies : goal.returns-in-Ok-None-clause-replies
returns-in-Ok-None-clause-replies g c =
    let is : c.in-Ok-None.field-0 ≡ None = cc in
    λ known sub. known_way known g.D.Disk.tells
    (λ (t : Bool). RepliesOnce t (Delete c.args.key.now) (Some c.args.now) Absent c.args.store.now
    c.delete.new.self) sub
    (delete_finds_none g.D.Disk.tells c.args.key.now c.args.now c.args.store.now c.delete.new.self c.delete.ensures.rest
    (buried_none (is_put (newest_of (versions_of c.args.key.now c.args.store.now.keys.entries)))
    (next_write c.args.store.now c.args.now c.args.key.now Gone) c.args.store.now c.delete.new.self
    (subst (IsBuried (is_put (newest_of (versions_of c.args.key.now c.args.store.now.keys.entries)))
    (next_write c.args.store.now c.args.now c.args.key.now Gone) c.args.store.now c.delete.new.self)
    is c.in-Ok-None.ensures.buried))
    (λ tell. subst (λ (x : Option Stored). (who : ℕ) → Buries g.D.Disk.tells x
    (entry_by who (delete_call c.args.key.now c.args.now) (bury_reply x)) c.args.store.now c.delete.new.self) is
    (c.in-Ok-None.ensures.ok tell)) c.delete.ensures.past c.delete.ensures.crash)
    (delete_finds_none false c.args.key.now c.args.now c.args.store.now c.delete.new.self c.delete.ensures.rest
    (buried_none (is_put (newest_of (versions_of c.args.key.now c.args.store.now.keys.entries)))
    (next_write c.args.store.now c.args.now c.args.key.now Gone) c.args.store.now c.delete.new.self
    (subst (IsBuried (is_put (newest_of (versions_of c.args.key.now c.args.store.now.keys.entries)))
    (next_write c.args.store.now c.args.now c.args.key.now Gone) c.args.store.now c.delete.new.self)
    is c.in-Ok-None.ensures.buried))
    (λ t. untold t) (λ t. untold t) (λ t. untold t))

pub returns-in-Err-clause-replies : goal.returns-in-Err-clause-replies
returns-in-Err-clause-replies g c =
    λ known sub. known_way known g.D.Disk.tells
    (λ (t : Bool). RepliesOnce t (Delete c.args.key.now) (Some c.args.now) c.refused_write.result
    c.args.store.now c.delete.new.self) sub
    (subst
    (λ (r : Reply). RepliesOnce g.D.Disk.tells (Delete c.args.key.now) (Some c.args.now) r c.args.store.now c.delete.new.self)
    (sym c.refused_write.ensures)
    (refused_replies g.D.Disk.tells (Delete c.args.key.now) c.args.now
    (next_write c.args.store.now c.args.now c.args.key.now Gone) c.args.store.now c.delete.new.self
    (delete_asks c.args.key.now c.args.now c.args.store.now) c.delete.ensures.rest c.delete.ensures.past c.delete.ensures.crash
    c.in-Err.error c.in-Err.ensures.error.1 c.in-Err.ensures.refused))
    (subst
    (λ (r : Reply). RepliesOnce false (Delete c.args.key.now) (Some c.args.now) r c.args.store.now c.delete.new.self)
    (sym c.refused_write.ensures)
    (refused_replies false (Delete c.args.key.now) c.args.now
    (next_write c.args.store.now c.args.now c.args.key.now Gone) c.args.store.now c.delete.new.self
    (delete_asks c.args.key.now c.args.now c.args.store.now) c.delete.ensures.rest (λ t. untold t) (λ t. untold t)
    c.in-Err.error c.in-Err.ensures.error.1 (λ t. untold t)))
