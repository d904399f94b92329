use Rattle.std.proofs.Common.{◌≡◌, ℕ, None, refl, subst, sym}
use Rattle.std.specs.Prelude.{true}
use Rattle.bk_base.specs.declared.calls.Call.TheVariants.{FoldNext}
use Rattle.bk_store.specs.Events.{Keeps, entry_by}
use Rattle.bk_store.specs.declared.errors.FoldError.TheVariants.{NoFold as no_fold, Disk as fold_disk, Memory as fold_memory}
use Rattle.bk_store.specs.FoldEvents.{IsFoldError, next_reply}
use Rattle.bk_script.specs.declared.lines.Action.TheVariants.{Next}
use Rattle.bk_script.specs.declared.printed.Printed.TheVariants.{NoFold}
use Rattle.bk_drill.specs.declared.drills.Drill.{Drill}
use Rattle.bk_drill.proofs.Acting.{Result}
use Rattle.bk_drill.proofs.drills.Drill.next.Goals as goal
use Rattle.bk_drill.proofs.Folding.{asks_next, end_same, fold_ends, fold_gives, gives_pair_of, has_no_fold}
use Rattle.bk_drill.proofs.Folding.{next_disk_fails, next_out_of_memory, pair_unread}

pub pair_line-requires : goal.pair_line-requires
pair_line-requires c =
    pair_unread c.args.actor.0 c.args.slot c.args.self.now.store c.fold_next.new.self c.in-Ok-Some.field-0 c.in-Ok-Some.row
    c.in-Ok-Some.field-0-is c.in-Ok-Some.ensures.lent

pub returns-in-Ok-Some : goal.returns-in-Ok-Some
returns-in-Ok-Some c =
    fold_gives c.args.self.now _ c.args.actor.0 c.args.slot c.in-Ok-Some.row.key c.in-Ok-Some.row.loan
    c.pair_line.result refl refl refl (λ n. refl) c.add.ensures
    (gives_pair_of c.args.actor.0 c.args.slot c.args.self.now.store c.fold_next.new.self c.in-Ok-Some.field-0
    c.in-Ok-Some.row c.in-Ok-Some.field-0-is c.in-Ok-Some.ensures.lent c.fold_next.ensures.later c.in-Ok-Some.ensures.views
    c.fold_next.ensures.outs (c.in-Ok-Some.ensures.ok refl) (c.in-Ok-Some.ensures.winner refl))
    (c.pair_line.ensures refl)

pub returns-in-Ok-None : goal.returns-in-Ok-None
returns-in-Ok-None c =
    let is : c.in-Ok-None.field-0 ≡ None = cc in
    fold_ends c.args.self.now _ c.args.actor.0 c.args.slot c.of.result
    (record { now = refl; plan = refl; settings = refl; loans = λ n. refl; listed = λ n. refl })
    (end_same c.args.actor.0 c.args.slot c.args.self.now.store c.fold_next.new.self c.in-Ok-None.field-0 is c.in-Ok-None.ensures.lent)
    c.in-Ok-None.ensures.lent.0 c.of.ensures
    (subst (λ x. Keeps true (entry_by c.args.actor.0 (FoldNext c.args.slot) (next_reply x)) c.args.self.now.store c.fold_next.new.self)
    is (c.in-Ok-None.ensures.ok refl))

pub returns-in-Err-NoFold : goal.returns-in-Err-NoFold
returns-in-Err-NoFold c = λ b at.
    let new : Drill = record c.args.self.now { store = c.fold_next.new.self } in
    let is : c.in-Err-NoFold.field-0 ≡ no_fold c.in-Err-NoFold.asked = cc in
    let why = subst (IsFoldError c.args.actor.0 c.args.slot c.args.self.now.store c.fold_next.new.self) is
    c.in-Err-NoFold.ensures.error in
    subst (λ (n : ℕ). Result b c.args.actor.0 (Next c.args.slot) (NoFold n) new) (sym why.0)
    (has_no_fold c.args.self.now new (Next c.args.slot) c.args.actor.0 c.args.slot (asks_next c.args.slot)
    (record { now = refl; plan = refl; settings = refl; loans = λ n. refl; listed = λ n. refl })
    why.2 why.1 (c.in-Err-NoFold.ensures.refused refl) b at)

pub returns-in-Err-Disk : goal.returns-in-Err-Disk
returns-in-Err-Disk c =
    let is : c.in-Err-Disk.field-0 ≡ fold_disk = cc in
    let why = subst (IsFoldError c.args.actor.0 c.args.slot c.args.self.now.store c.fold_next.new.self) is
    c.in-Err-Disk.ensures.error in
    next_disk_fails c.args.self.now _ c.args.actor.0 c.args.slot
    (record { now = refl; plan = refl; settings = refl; loans = λ n. refl; listed = λ n. refl })
    why.1 why.2 c.fold_next.ensures.later why.3 c.in-Err-Disk.ensures.no_view c.fold_next.ensures.outs
    (c.in-Err-Disk.ensures.refused refl)

pub returns-in-Err-Memory : goal.returns-in-Err-Memory
returns-in-Err-Memory c =
    let is : c.in-Err-Memory.field-0 ≡ fold_memory = cc in
    let why = subst (IsFoldError c.args.actor.0 c.args.slot c.args.self.now.store c.fold_next.new.self) is
    c.in-Err-Memory.ensures.error in
    next_out_of_memory c.args.self.now _ c.args.actor.0 c.args.slot
    (record { now = refl; plan = refl; settings = refl; loans = λ n. refl; listed = λ n. refl })
    why.1 why.2 c.fold_next.ensures.later c.in-Err-Memory.ensures.no_view c.fold_next.ensures.outs
    (c.in-Err-Memory.ensures.refused refl)
