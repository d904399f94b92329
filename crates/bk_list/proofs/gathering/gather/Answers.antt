use Rattle.std.proofs.Common.{◌∙◌, List, ℕ, subst, sym}
use Rattle.bk_base.specs.declared.calls.Answer.{Answer}
use Rattle.bk_base.specs.declared.calls.Call.TheVariants.{FoldNext}
use Rattle.bk_store.specs.Events.{Keeps, entry_by}
use Rattle.bk_store.specs.FoldEvents.{ListsNext}
use Rattle.bk_session.proofs.FoldRows.{end_reply, end_same}
use Rattle.bk_list.proofs.Gathers.{Loop, fewer_left, gathers_all, loop_pair, pushed, refuses_now, refuses_then}
use Rattle.bk_list.proofs.gathering.gather.Goals as goal

pub returns-then-is_err-clause-refused : goal.returns-then-is_err-clause-refused
returns-then-is_err-clause-refused g c = λ known sub.
    let l = (loop_pair c.args.slot c.args.store.now g.D.Disk.tells c.pairs.store c.fold_next.new.self c.pairs.keys.items c.in-Ok-Some.field-0
    c.in-Ok-Some.field-0-0 c.in-Ok-Some.field-0-is c.in-Ok-Some.ensures.lent c.fold_next.ensures.later c.in-Ok-Some.ensures.views
    c.fold_next.ensures.outs c.in-Ok-Some.ensures.ok c.in-Ok-Some.ensures.viewed c.in-Ok-Some.ensures.winner c.pairs.invariant) in
    refuses_now c.args.slot c.args.store.now known c.fold_next.new.self _ (l.gathered known sub)

pub returns-then-is_err-clause-ours : goal.returns-then-is_err-clause-ours
returns-then-is_err-clause-ours g c =
    let l = (loop_pair c.args.slot c.args.store.now g.D.Disk.tells c.pairs.store c.fold_next.new.self c.pairs.keys.items c.in-Ok-Some.field-0
    c.in-Ok-Some.field-0-0 c.in-Ok-Some.field-0-is c.in-Ok-Some.ensures.lent c.fold_next.ensures.later c.in-Ok-Some.ensures.views
    c.fold_next.ensures.outs c.in-Ok-Some.ensures.ok c.in-Ok-Some.ensures.viewed c.in-Ok-Some.ensures.winner c.pairs.invariant) in
    l.ours

pub returns-then-is_err-clause-moved : goal.returns-then-is_err-clause-moved
returns-then-is_err-clause-moved g c =
    let l = (loop_pair c.args.slot c.args.store.now g.D.Disk.tells c.pairs.store c.fold_next.new.self c.pairs.keys.items c.in-Ok-Some.field-0
    c.in-Ok-Some.field-0-0 c.in-Ok-Some.field-0-is c.in-Ok-Some.ensures.lent c.fold_next.ensures.later c.in-Ok-Some.ensures.views
    c.fold_next.ensures.outs c.in-Ok-Some.ensures.ok c.in-Ok-Some.ensures.viewed c.in-Ok-Some.ensures.winner c.pairs.invariant) in
    l.moved

pub returns-in-Ok-None-clause-gathered : goal.returns-in-Ok-None-clause-gathered
returns-in-Ok-None-clause-gathered g c = λ known sub.
    gathers_all c.args.slot c.args.store.now g.D.Disk.tells known sub c.pairs.store c.fold_next.new.self c.pairs.keys.items
    c.pairs.invariant
    (end_same c.args.slot c.pairs.store c.fold_next.new.self c.in-Ok-None.field-0 (cc) c.in-Ok-None.ensures.lent)
    (λ tell. subst (λ (a : Answer). Keeps g.D.Disk.tells (entry_by 0 (FoldNext c.args.slot) a) c.pairs.store c.fold_next.new.self)
    (end_reply c.in-Ok-None.field-0 (cc)) (c.in-Ok-None.ensures.ok tell))

pub returns-in-Err-clause-refused : goal.returns-in-Err-clause-refused
returns-in-Err-clause-refused g c = λ known sub.
    refuses_then c.args.slot c.args.store.now g.D.Disk.tells known sub c.pairs.store c.fold_next.new.self c.pairs.keys.items
    c.in-Err.error c.pairs.invariant c.in-Err.ensures.error c.fold_next.ensures.later c.in-Err.ensures.no_view
    c.fold_next.ensures.outs c.in-Err.ensures.refused c.in-Err.ensures.nothing_viewed

pub pairs-smaller : goal.pairs-smaller
pairs-smaller g c =
    fewer_left c.args.slot c.pairs.store c.fold_next.new.self c.in-Ok-Some.field-0-0
    (subst (ListsNext 0 c.args.slot c.pairs.store c.fold_next.new.self) c.in-Ok-Some.field-0-is c.in-Ok-Some.ensures.lent)

pub pairs-preserved : goal.pairs-preserved
pairs-preserved g c =
    let l = (loop_pair c.args.slot c.args.store.now g.D.Disk.tells c.pairs.store c.fold_next.new.self c.pairs.keys.items c.in-Ok-Some.field-0
    c.in-Ok-Some.field-0-0 c.in-Ok-Some.field-0-is c.in-Ok-Some.ensures.lent c.fold_next.ensures.later c.in-Ok-Some.ensures.views
    c.fold_next.ensures.outs c.in-Ok-Some.ensures.ok c.in-Ok-Some.ensures.viewed c.in-Ok-Some.ensures.winner c.pairs.invariant) in
    subst (λ (keys : List (List ℕ)). Loop c.args.slot c.args.store.now g.D.Disk.tells c.fold_next.new.self keys)
    (sym (pushed c.push.result _ _ c.pairs.keys.items (sym c.is_err.ensures.value ∙ c.if-is_err.false) c.push.ensures.items)) l
