use Rattle.std.proofs.Common.{◌≡◌, ◌∙◌, ℕ, Err, Option, Some, None, ap, refl, subst, sym}
use Rattle.bk_base.specs.declared.calls.Call.TheVariants.{Get as get_call}
use Rattle.bk_base.specs.declared.requests.Reply.{Reply}
use Rattle.bk_base.specs.declared.requests.Reply.TheVariants.{Absent}
use Rattle.bk_base.specs.declared.requests.Request.TheVariants.{Get}
use Rattle.bk_laws.specs.History.{log_of}
use Rattle.bk_laws.specs.Log.{winner}
use Rattle.bk_store.specs.Events.{Keeps, entry_by}
use Rattle.bk_store.specs.Loans.{LendsWrite, Lent, get_reply, view_of}
use Rattle.bk_session.specs.Outgoing.{outgoing}
use Rattle.bk_session.specs.Replying.{RepliesOnce}
use Rattle.bk_session.specs.Serving.{Serves, session_state, tells_of}
use Rattle.bk_session.proofs.OneLine.{served_once}
use Rattle.bk_session.proofs.Reading.{get_finds_none, get_given, get_refused, nothing_past, still_files, views_past}
use Rattle.bk_session.proofs.gets.get.Goals as goal
use Rattle.std.specs.Prelude.{Bool, false}
use Rattle.bk_session.proofs.Following.{known_way}
use Rattle.bk_disk.specs.Told.{untold}

pub returns-in-Ok-Some-clause-serves : goal.returns-in-Ok-Some-clause-serves
returns-in-Ok-Some-clause-serves g c =
    let (reply, given, sent) = c.send_value.ensures.sent in
    let is : c.in-Ok-Some.field-0 ≡ Some c.in-Ok-Some.loan = cc in
    λ known sub. known_way known g.D.Disk.tells
    (λ (t : Bool). Serves (tells_of t g.K.Sink.tells g.C.Clock.tells) (Get c.args.key.now)
    c.send_value.result (session_state c.args.store.now (g.C.Clock.moments c.args.clock.now)
    (outgoing (g.K.Sink.written c.args.sink.now) c.args.outbox.now)) (session_state
    c.locate.new.self (g.C.Clock.moments c.now-now.new.self)
    (outgoing (g.K.Sink.written c.send_value.new.sink) c.send_value.new.outbox))) sub
    (served_once (tells_of g.D.Disk.tells g.K.Sink.tells g.C.Clock.tells) (Get c.args.key.now) (Some c.now-now.result) reply
    c.send_value.result
    (session_state c.args.store.now (g.C.Clock.moments c.args.clock.now) (outgoing (g.K.Sink.written
    c.args.sink.now) c.args.outbox.now))
    (session_state c.locate.new.self (g.C.Clock.moments c.now-now.new.self) (outgoing
    (g.K.Sink.written c.send_value.new.sink) c.send_value.new.outbox))
    c.requires.key refl refl refl (λ tell. (c.now-now.ensures.moment tell, c.now-now.ensures.later tell))
    (get_given g.D.Disk.tells c.args.key.now c.now-now.result c.args.store.now c.locate.new.self
    (still_files c.args.store.now c.locate.new.self c.locate.ensures.same c.locate.ensures.catalog) c.locate.ensures.later
    c.locate.ensures.outs (λ tell. views_past c.in-Ok-Some.field-0 _ _ (c.in-Ok-Some.ensures.viewed tell))
    c.locate.ensures.crash g.D.View.View.tells c.in-Ok-Some.loan reply given (λ tell. g.met.D.Disk.views_tell tell)
    (subst (λ (x : Option Lent). c.locate.new.self.files.fallible_views ≡ view_of x c.args.store.now.files.fallible_views) is
    c.in-Ok-Some.ensures.views)
    (λ tell. subst (λ (x : Option Lent). (who : ℕ)
    → Keeps g.D.Disk.tells (entry_by who (get_call c.args.key.now c.now-now.result) (get_reply x))
    c.args.store.now c.locate.new.self)
    is (c.in-Ok-Some.ensures.ok tell))
    (λ tell o h tried f. subst (λ (x : Option Lent). LendsWrite (winner (log_of o h) c.args.key.now) x) is
    (c.in-Ok-Some.ensures.winner tell o h tried (f.stands tell))))
    c.send_value.ensures.within sent)
    (served_once (tells_of false g.K.Sink.tells g.C.Clock.tells) (Get c.args.key.now) (Some c.now-now.result) reply
    c.send_value.result
    (session_state c.args.store.now (g.C.Clock.moments c.args.clock.now) (outgoing (g.K.Sink.written
    c.args.sink.now) c.args.outbox.now))
    (session_state c.locate.new.self (g.C.Clock.moments c.now-now.new.self) (outgoing
    (g.K.Sink.written c.send_value.new.sink) c.send_value.new.outbox))
    c.requires.key refl refl refl (λ tell. (c.now-now.ensures.moment tell, c.now-now.ensures.later tell))
    (get_given false c.args.key.now c.now-now.result c.args.store.now c.locate.new.self
    (still_files c.args.store.now c.locate.new.self c.locate.ensures.same c.locate.ensures.catalog) c.locate.ensures.later
    c.locate.ensures.outs (λ t. untold t)
    (λ t. untold t) g.D.View.View.tells c.in-Ok-Some.loan reply given (λ t. untold t)
    (subst (λ (x : Option Lent). c.locate.new.self.files.fallible_views ≡ view_of x c.args.store.now.files.fallible_views) is
    c.in-Ok-Some.ensures.views)
    (λ t. untold t)
    (λ t. untold t))
    c.send_value.ensures.within sent)

pub returns-in-Ok-None-clause-serves : goal.returns-in-Ok-None-clause-serves
returns-in-Ok-None-clause-serves g c =
    let is : c.in-Ok-None.field-0 ≡ None = cc in
    λ known sub. known_way known g.D.Disk.tells
    (λ (t : Bool). Serves (tells_of t g.K.Sink.tells g.C.Clock.tells) (Get c.args.key.now)
    c.send.result (session_state c.args.store.now (g.C.Clock.moments c.args.clock.now) (outgoing
    (g.K.Sink.written c.args.sink.now) c.args.outbox.now)) (session_state c.locate.new.self
    (g.C.Clock.moments c.now-now.new.self)
    (outgoing (g.K.Sink.written c.send.new.sink) c.send.new.outbox))) sub
    (served_once (tells_of g.D.Disk.tells g.K.Sink.tells g.C.Clock.tells) (Get c.args.key.now) (Some c.now-now.result) Absent
    c.send.result
    (session_state c.args.store.now (g.C.Clock.moments c.args.clock.now) (outgoing (g.K.Sink.written
    c.args.sink.now) c.args.outbox.now))
    (session_state c.locate.new.self (g.C.Clock.moments c.now-now.new.self) (outgoing
    (g.K.Sink.written c.send.new.sink) c.send.new.outbox))
    c.requires.key refl refl refl (λ tell. (c.now-now.ensures.moment tell, c.now-now.ensures.later tell))
    (get_finds_none g.D.Disk.tells c.args.key.now c.now-now.result c.args.store.now c.locate.new.self
    (still_files c.args.store.now c.locate.new.self c.locate.ensures.same c.locate.ensures.catalog) c.locate.ensures.later
    c.locate.ensures.outs (λ tell. views_past c.in-Ok-None.field-0 _ _ (c.in-Ok-None.ensures.viewed tell)) c.locate.ensures.crash
    (subst (λ (x : Option Lent). c.locate.new.self.files.fallible_views ≡ view_of x c.args.store.now.files.fallible_views) is
    c.in-Ok-None.ensures.views)
    (λ tell. subst (λ (x : Option Lent). (who : ℕ)
    → Keeps g.D.Disk.tells (entry_by who (get_call c.args.key.now c.now-now.result) (get_reply x))
    c.args.store.now c.locate.new.self)
    is (c.in-Ok-None.ensures.ok tell)))
    c.send.ensures.within c.send.ensures.sent)
    (served_once (tells_of false g.K.Sink.tells g.C.Clock.tells) (Get c.args.key.now) (Some c.now-now.result) Absent
    c.send.result
    (session_state c.args.store.now (g.C.Clock.moments c.args.clock.now) (outgoing (g.K.Sink.written
    c.args.sink.now) c.args.outbox.now))
    (session_state c.locate.new.self (g.C.Clock.moments c.now-now.new.self) (outgoing
    (g.K.Sink.written c.send.new.sink) c.send.new.outbox))
    c.requires.key refl refl refl (λ tell. (c.now-now.ensures.moment tell, c.now-now.ensures.later tell))
    (get_finds_none false c.args.key.now c.now-now.result c.args.store.now c.locate.new.self
    (still_files c.args.store.now c.locate.new.self c.locate.ensures.same c.locate.ensures.catalog) c.locate.ensures.later
    c.locate.ensures.outs (λ t. untold t) (λ t. untold t)
    (subst (λ (x : Option Lent). c.locate.new.self.files.fallible_views ≡ view_of x c.args.store.now.files.fallible_views) is
    c.in-Ok-None.ensures.views)
    (λ t. untold t))
    c.send.ensures.within c.send.ensures.sent)

pub returns-in-Err-clause-serves : goal.returns-in-Err-clause-serves
returns-in-Err-clause-serves g c =
    λ known sub. known_way known g.D.Disk.tells
    (λ (t : Bool). Serves (tells_of t g.K.Sink.tells g.C.Clock.tells) (Get c.args.key.now)
    c.send-in-Err.result (session_state c.args.store.now (g.C.Clock.moments c.args.clock.now)
    (outgoing (g.K.Sink.written c.args.sink.now) c.args.outbox.now)) (session_state
    c.locate.new.self (g.C.Clock.moments c.now-now.new.self)
    (outgoing (g.K.Sink.written c.send-in-Err.new.sink) c.send-in-Err.new.outbox))) sub
    (served_once (tells_of g.D.Disk.tells g.K.Sink.tells g.C.Clock.tells) (Get c.args.key.now) (Some
    c.now-now.result) c.refused_read.result
    c.send-in-Err.result
    (session_state c.args.store.now (g.C.Clock.moments c.args.clock.now) (outgoing (g.K.Sink.written
    c.args.sink.now) c.args.outbox.now))
    (session_state c.locate.new.self (g.C.Clock.moments c.now-now.new.self) (outgoing
    (g.K.Sink.written c.send-in-Err.new.sink) c.send-in-Err.new.outbox))
    c.requires.key refl refl refl (λ tell. (c.now-now.ensures.moment tell, c.now-now.ensures.later tell))
    (subst (λ (r : Reply). RepliesOnce g.D.Disk.tells (Get c.args.key.now) (Some c.now-now.result) r
    c.args.store.now c.locate.new.self)
    (sym c.refused_read.ensures)
    (get_refused g.D.Disk.tells c.args.key.now c.now-now.result c.args.store.now c.locate.new.self
    (still_files c.args.store.now c.locate.new.self c.locate.ensures.same c.locate.ensures.catalog) c.locate.ensures.later
    c.locate.ensures.outs (λ tell. nothing_past _ _ (c.in-Err.ensures.nothing_viewed tell)) c.locate.ensures.crash
    c.in-Err.error c.in-Err.ensures.no_view (λ is. c.locate.ensures.disk (c.in-Err.is ∙ ap Err is)) c.in-Err.ensures.refused))
    c.send-in-Err.ensures.within c.send-in-Err.ensures.sent)
    (served_once (tells_of false g.K.Sink.tells g.C.Clock.tells) (Get c.args.key.now) (Some
    c.now-now.result) c.refused_read.result
    c.send-in-Err.result
    (session_state c.args.store.now (g.C.Clock.moments c.args.clock.now) (outgoing (g.K.Sink.written
    c.args.sink.now) c.args.outbox.now))
    (session_state c.locate.new.self (g.C.Clock.moments c.now-now.new.self) (outgoing
    (g.K.Sink.written c.send-in-Err.new.sink) c.send-in-Err.new.outbox))
    c.requires.key refl refl refl (λ tell. (c.now-now.ensures.moment tell, c.now-now.ensures.later tell))
    (subst (λ (r : Reply). RepliesOnce false (Get c.args.key.now) (Some c.now-now.result) r c.args.store.now c.locate.new.self)
    (sym c.refused_read.ensures)
    (get_refused false c.args.key.now c.now-now.result c.args.store.now c.locate.new.self
    (still_files c.args.store.now c.locate.new.self c.locate.ensures.same c.locate.ensures.catalog) c.locate.ensures.later
    c.locate.ensures.outs (λ t. untold t) (λ t. untold t)
    c.in-Err.error c.in-Err.ensures.no_view (λ is. c.locate.ensures.disk (c.in-Err.is ∙ ap Err is)) (λ t. untold t)))
    c.send-in-Err.ensures.within c.send-in-Err.ensures.sent)
