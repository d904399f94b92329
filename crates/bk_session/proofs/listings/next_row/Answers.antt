use Rattle.std.proofs.Common.{subst, sym}
use Rattle.bk_base.specs.declared.calls.Answer.{Answer}
use Rattle.bk_base.specs.declared.calls.Call.TheVariants.{FoldNext}
use Rattle.bk_base.specs.declared.requests.Reply.{Reply}
use Rattle.bk_store.specs.Events.{Keeps, entry_by}
use Rattle.bk_session.specs.declared.listings.Given.TheVariants.{End, Line}
use Rattle.bk_session.specs.Listing.{Gives, request_of}
use Rattle.bk_session.specs.Outgoing.{outgoing}
use Rattle.bk_session.proofs.FoldCalls.{unmoved_nothing}
use Rattle.bk_session.proofs.FoldRows.{end_reply, end_same, gives_end, gives_key, gives_pair, gives_refusal}
use Rattle.bk_session.proofs.FoldRows.{pair_event_of, pair_ours, refusal_ours, unread_of}
use Rattle.bk_session.proofs.Reading.{nothing_past}
use Rattle.bk_session.proofs.listings.next_row.Goals as goal
use Rattle.std.specs.Prelude.{Bool, false}
use Rattle.bk_session.proofs.Following.{known_way}
use Rattle.bk_disk.specs.Told.{untold}

pub show_pair-requires : goal.show_pair-requires
show_pair-requires g c = record {
  unread = unread_of c.args.slot c.args.store.now c.fold_next.new.self c.in-Ok-Some.field-0 c.in-Ok-Some.field-0-0
      c.in-Ok-Some.field-0-is c.in-Ok-Some.ensures.lent;
}

pub returns-in-Keys-clause-gives : goal.returns-in-Keys-clause-gives
returns-in-Keys-clause-gives g c =
    λ known sub. known_way known g.D.Disk.tells
    (λ (t : Bool). Gives c.show_key.result t g.K.Sink.tells (request_of c.args.listing) c.args.slot
    c.args.store.now (outgoing (g.K.Sink.written c.args.sink.now) c.args.outbox.now)
    c.fold_next.new.self (outgoing (g.K.Sink.written c.show_key.new.sink) c.show_key.new.outbox))
    sub
    (rw c.in-Keys.is
    (gives_key g.D.Disk.tells g.K.Sink.tells c.args.slot c.args.store.now c.fold_next.new.self c.in-Ok-Some.field-0-0.key
    c.in-Ok-Some.field-0-0.loan
    (pair_event_of g.D.Disk.tells c.args.slot c.args.store.now c.fold_next.new.self c.in-Ok-Some.field-0 c.in-Ok-Some.field-0-0
    c.in-Ok-Some.field-0-is c.in-Ok-Some.ensures.lent c.fold_next.ensures.later
    c.in-Ok-Some.ensures.views c.fold_next.ensures.outs
    c.in-Ok-Some.ensures.ok c.in-Ok-Some.ensures.viewed c.in-Ok-Some.ensures.winner)
    c.show_key.result (outgoing (g.K.Sink.written c.args.sink.now) c.args.outbox.now)
    (outgoing (g.K.Sink.written c.show_key.new.sink) c.show_key.new.outbox) c.show_key.ensures.shows))
    (rw c.in-Keys.is
    (gives_key false g.K.Sink.tells c.args.slot c.args.store.now c.fold_next.new.self c.in-Ok-Some.field-0-0.key
    c.in-Ok-Some.field-0-0.loan
    (pair_event_of false c.args.slot c.args.store.now c.fold_next.new.self c.in-Ok-Some.field-0 c.in-Ok-Some.field-0-0
    c.in-Ok-Some.field-0-is c.in-Ok-Some.ensures.lent c.fold_next.ensures.later
    c.in-Ok-Some.ensures.views c.fold_next.ensures.outs
    (λ t. untold t) (λ t. untold t) (λ t. untold t))
    c.show_key.result (outgoing (g.K.Sink.written c.args.sink.now) c.args.outbox.now)
    (outgoing (g.K.Sink.written c.show_key.new.sink) c.show_key.new.outbox) c.show_key.ensures.shows))

pub returns-in-Keys-clause-ours : goal.returns-in-Keys-clause-ours
returns-in-Keys-clause-ours g c =
    pair_ours g.D.Disk.tells c.args.slot c.args.store.now c.fold_next.new.self c.in-Ok-Some.field-0-0.key
    c.in-Ok-Some.field-0-0.loan
    (pair_event_of g.D.Disk.tells c.args.slot c.args.store.now c.fold_next.new.self c.in-Ok-Some.field-0 c.in-Ok-Some.field-0-0
    c.in-Ok-Some.field-0-is c.in-Ok-Some.ensures.lent c.fold_next.ensures.later
    c.in-Ok-Some.ensures.views c.fold_next.ensures.outs
    c.in-Ok-Some.ensures.ok c.in-Ok-Some.ensures.viewed c.in-Ok-Some.ensures.winner)
    c.requires.ours

pub returns-in-Pairs-clause-gives : goal.returns-in-Pairs-clause-gives
returns-in-Pairs-clause-gives g c =
    λ known sub. known_way known g.D.Disk.tells
    (λ (t : Bool). Gives c.show_pair.result t g.K.Sink.tells (request_of c.args.listing) c.args.slot
    c.args.store.now (outgoing (g.K.Sink.written c.args.sink.now) c.args.outbox.now)
    c.fold_next.new.self (outgoing (g.K.Sink.written c.show_pair.new.sink) c.show_pair.new.outbox))
    sub
    (rw c.in-Pairs.is
    (gives_pair g.D.Disk.tells g.K.Sink.tells c.args.slot c.args.store.now c.fold_next.new.self c.in-Ok-Some.field-0-0.key
    c.in-Ok-Some.field-0-0.loan
    (pair_event_of g.D.Disk.tells c.args.slot c.args.store.now c.fold_next.new.self c.in-Ok-Some.field-0 c.in-Ok-Some.field-0-0
    c.in-Ok-Some.field-0-is c.in-Ok-Some.ensures.lent c.fold_next.ensures.later
    c.in-Ok-Some.ensures.views c.fold_next.ensures.outs
    c.in-Ok-Some.ensures.ok c.in-Ok-Some.ensures.viewed c.in-Ok-Some.ensures.winner)
    g.D.View.View.tells c.show_pair.result (outgoing (g.K.Sink.written c.args.sink.now) c.args.outbox.now)
    (outgoing (g.K.Sink.written c.show_pair.new.sink) c.show_pair.new.outbox) (λ tell. g.met.D.Disk.views_tell tell)
    c.show_pair.ensures.shows))
    (rw c.in-Pairs.is
    (gives_pair false g.K.Sink.tells c.args.slot c.args.store.now c.fold_next.new.self c.in-Ok-Some.field-0-0.key
    c.in-Ok-Some.field-0-0.loan
    (pair_event_of false c.args.slot c.args.store.now c.fold_next.new.self c.in-Ok-Some.field-0 c.in-Ok-Some.field-0-0
    c.in-Ok-Some.field-0-is c.in-Ok-Some.ensures.lent c.fold_next.ensures.later
    c.in-Ok-Some.ensures.views c.fold_next.ensures.outs
    (λ t. untold t) (λ t. untold t) (λ t. untold t))
    g.D.View.View.tells c.show_pair.result (outgoing (g.K.Sink.written c.args.sink.now) c.args.outbox.now)
    (outgoing (g.K.Sink.written c.show_pair.new.sink) c.show_pair.new.outbox) (λ t. untold t)
    c.show_pair.ensures.shows))

pub returns-in-Pairs-clause-ours : goal.returns-in-Pairs-clause-ours
returns-in-Pairs-clause-ours g c =
    pair_ours g.D.Disk.tells c.args.slot c.args.store.now c.fold_next.new.self c.in-Ok-Some.field-0-0.key
    c.in-Ok-Some.field-0-0.loan
    (pair_event_of g.D.Disk.tells c.args.slot c.args.store.now c.fold_next.new.self c.in-Ok-Some.field-0 c.in-Ok-Some.field-0-0
    c.in-Ok-Some.field-0-is c.in-Ok-Some.ensures.lent c.fold_next.ensures.later
    c.in-Ok-Some.ensures.views c.fold_next.ensures.outs
    c.in-Ok-Some.ensures.ok c.in-Ok-Some.ensures.viewed c.in-Ok-Some.ensures.winner)
    c.requires.ours

pub returns-in-Ok-None-clause-gives : goal.returns-in-Ok-None-clause-gives
returns-in-Ok-None-clause-gives g c =
    λ known sub. known_way known g.D.Disk.tells
    (λ (t : Bool). Gives End t g.K.Sink.tells (request_of c.args.listing) c.args.slot
    c.args.store.now (outgoing (g.K.Sink.written c.args.sink.now) c.args.outbox.now)
    c.fold_next.new.self (outgoing (g.K.Sink.written c.args.sink.now) c.args.outbox.now)) sub
    (gives_end g.D.Disk.tells g.K.Sink.tells (request_of c.args.listing) c.args.slot c.args.store.now
    c.fold_next.new.self (outgoing (g.K.Sink.written c.args.sink.now) c.args.outbox.now)
    (end_same c.args.slot c.args.store.now c.fold_next.new.self c.in-Ok-None.field-0 (cc) c.in-Ok-None.ensures.lent)
    (λ tell. subst (λ (a : Answer). Keeps g.D.Disk.tells (entry_by 0 (FoldNext c.args.slot) a)
    c.args.store.now c.fold_next.new.self)
    (end_reply c.in-Ok-None.field-0 (cc)) (c.in-Ok-None.ensures.ok tell)))
    (gives_end false g.K.Sink.tells (request_of c.args.listing) c.args.slot c.args.store.now
    c.fold_next.new.self (outgoing (g.K.Sink.written c.args.sink.now) c.args.outbox.now)
    (end_same c.args.slot c.args.store.now c.fold_next.new.self c.in-Ok-None.field-0 (cc) c.in-Ok-None.ensures.lent)
    (λ t. untold t))

pub returns-in-Err-clause-gives : goal.returns-in-Err-clause-gives
returns-in-Err-clause-gives g c =
    λ known sub. known_way known g.D.Disk.tells
    (λ (t : Bool). Gives (Line c.refused_fold.result) t g.K.Sink.tells (request_of c.args.listing)
    c.args.slot c.args.store.now (outgoing (g.K.Sink.written c.args.sink.now) c.args.outbox.now)
    c.fold_next.new.self (outgoing (g.K.Sink.written c.args.sink.now) c.args.outbox.now)) sub
    (subst
    (λ (r : Reply). Gives (Line r) g.D.Disk.tells g.K.Sink.tells (request_of c.args.listing)
    c.args.slot c.args.store.now (outgoing (g.K.Sink.written c.args.sink.now) c.args.outbox.now)
    c.fold_next.new.self (outgoing (g.K.Sink.written c.args.sink.now) c.args.outbox.now))
    (sym c.refused_fold.ensures)
    (gives_refusal g.D.Disk.tells g.K.Sink.tells c.args.listing c.args.slot c.args.store.now
    c.fold_next.new.self (outgoing (g.K.Sink.written c.args.sink.now) c.args.outbox.now)
    c.in-Err.error c.in-Err.ensures.error c.requires.ours c.fold_next.ensures.later
    c.in-Err.ensures.no_view c.fold_next.ensures.outs
    c.in-Err.ensures.refused (λ tell. unmoved_nothing _ _ (c.in-Err.ensures.nothing_viewed tell))))
    (subst
    (λ (r : Reply). Gives (Line r) false g.K.Sink.tells (request_of c.args.listing)
    c.args.slot c.args.store.now (outgoing (g.K.Sink.written c.args.sink.now) c.args.outbox.now)
    c.fold_next.new.self (outgoing (g.K.Sink.written c.args.sink.now) c.args.outbox.now))
    (sym c.refused_fold.ensures)
    (gives_refusal false g.K.Sink.tells c.args.listing c.args.slot c.args.store.now
    c.fold_next.new.self (outgoing (g.K.Sink.written c.args.sink.now) c.args.outbox.now)
    c.in-Err.error c.in-Err.ensures.error c.requires.ours c.fold_next.ensures.later
    c.in-Err.ensures.no_view c.fold_next.ensures.outs
    (λ t. untold t) (λ t. untold t)))

pub returns-in-Err-clause-ours : goal.returns-in-Err-clause-ours
returns-in-Err-clause-ours g c =
    refusal_ours c.args.slot c.args.store.now c.fold_next.new.self c.in-Err.error c.in-Err.ensures.error c.requires.ours

pub returns-in-Err-clause-past : goal.returns-in-Err-clause-past
returns-in-Err-clause-past g c = λ tell. nothing_past _ _ (c.in-Err.ensures.nothing_viewed tell)
