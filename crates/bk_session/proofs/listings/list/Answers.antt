use Rattle.std.proofs.Common.{[], ◌∷◌, ◌-◌}
use Rattle.bk_session.specs.Outgoing.{outgoing}
use Rattle.bk_session.specs.Serving.{Serves, session_state, tells_of}
use Rattle.bk_session.proofs.Endings.{full_served, listing_served}
use Rattle.bk_session.proofs.FoldCalls.{listed_opened, opened_ours}
use Rattle.bk_session.proofs.listings.list.Goals as goal
use Rattle.std.specs.Prelude.{Bool, false}
use Rattle.bk_session.proofs.Following.{known_way}
use Rattle.bk_disk.specs.Told.{untold}
use Rattle.bk_session.proofs.Events.{step_of}
use Rattle.bk_session.specs.Listing.{Listed, request_of}
use Rattle.bk_session.specs.Following.{Follows}
use Rattle.bk_store.specs.Events.{entry_by}
use Rattle.bk_base.specs.declared.calls.Call.TheVariants.{FoldOpen}
use Rattle.bk_base.specs.declared.calls.Answer.TheVariants.{Fold as fold_answer}

pub list_fold-requires : goal.list_fold-requires
list_fold-requires g c =
    record { ours = opened_ours c.now-now.result c.args.store.now c.fold_open.new.self c.in-Ok.fold c.in-Ok.ensures.opened }

pub returns-in-Ok-clause-serves : goal.returns-in-Ok-clause-serves
returns-in-Ok-clause-serves g c = λ known sub.
    listing_served (tells_of known g.K.Sink.tells g.C.Clock.tells) c.args.listing c.list_fold.result
    (session_state c.args.store.now (g.C.Clock.moments c.args.clock.now) (outgoing (g.K.Sink.written
    c.args.sink.now) c.args.outbox.now))
    (session_state c.list_fold.new.store (g.C.Clock.moments c.now-now.new.self) (outgoing
    (g.K.Sink.written c.list_fold.new.sink) c.list_fold.new.outbox))
    c.now-now.result c.now-now.ensures.moment c.now-now.ensures.later
    (λ o h tried f.
    c.list_fold.ensures.ends known sub _ _
    (known_way known g.D.Disk.tells (λ (t : Bool). Follows t c.args.store.now o h tried
    → Listed t (record { opening = o; before = h; tried = tried; now = c.now-now.result; told = c.args.store.now.files.told })
    c.in-Ok.fold.slot c.fold_open.new.self [] [] 0
    (step_of t (entry_by 0 (FoldOpen c.now-now.result) (fold_answer c.in-Ok.fold.epoch c.in-Ok.fold.slot))
    (c.fold_open.new.self.files.faults - c.args.store.now.files.faults) 0 c.fold_open.new.self ∷ [])) sub
    (λ g1. listed_opened g.D.Disk.tells o h tried c.now-now.result c.args.store.now c.fold_open.new.self c.in-Ok.fold g1
    c.in-Ok.ensures.opened c.in-Ok.ensures.ok)
    (λ g1. listed_opened false o h tried c.now-now.result c.args.store.now c.fold_open.new.self c.in-Ok.fold g1
    c.in-Ok.ensures.opened (λ t. untold t)) f))

pub returns-in-Err-clause-serves : goal.returns-in-Err-clause-serves
returns-in-Err-clause-serves g c =
    λ known sub. known_way known g.D.Disk.tells
    (λ (t : Bool). Serves (tells_of t g.K.Sink.tells g.C.Clock.tells) (request_of c.args.listing)
    c.send.result (session_state c.args.store.now (g.C.Clock.moments c.args.clock.now) (outgoing
    (g.K.Sink.written c.args.sink.now) c.args.outbox.now)) (session_state c.fold_open.new.self
    (g.C.Clock.moments c.now-now.new.self)
    (outgoing (g.K.Sink.written c.send.new.sink) c.send.new.outbox))) sub
    (full_served (tells_of g.D.Disk.tells g.K.Sink.tells g.C.Clock.tells) c.args.listing c.send.result
    (session_state c.args.store.now (g.C.Clock.moments c.args.clock.now) (outgoing (g.K.Sink.written
    c.args.sink.now) c.args.outbox.now))
    (session_state c.fold_open.new.self (g.C.Clock.moments c.now-now.new.self) (outgoing
    (g.K.Sink.written c.send.new.sink) c.send.new.outbox))
    c.now-now.result c.now-now.ensures.moment c.now-now.ensures.later c.in-Err.ensures.untouched c.in-Err.ensures.all
    c.in-Err.ensures.refused c.fold_open.ensures.crash c.send.ensures.within c.send.ensures.sent)
    (full_served (tells_of false g.K.Sink.tells g.C.Clock.tells) c.args.listing c.send.result
    (session_state c.args.store.now (g.C.Clock.moments c.args.clock.now) (outgoing (g.K.Sink.written
    c.args.sink.now) c.args.outbox.now))
    (session_state c.fold_open.new.self (g.C.Clock.moments c.now-now.new.self) (outgoing
    (g.K.Sink.written c.send.new.sink) c.send.new.outbox))
    c.now-now.result c.now-now.ensures.moment c.now-now.ensures.later c.in-Err.ensures.untouched c.in-Err.ensures.all
    (λ t. untold t) (λ t. untold t) c.send.ensures.within c.send.ensures.sent)
