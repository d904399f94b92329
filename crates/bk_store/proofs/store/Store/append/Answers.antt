use Rattle.std.proofs.Common.{◌<◌, ◌+◌, arith, refl, subst}
use Rattle.bk_base.specs.declared.limits.TheConstants.{LAST_SEQ}
use Rattle.bk_base.specs.declared.writes.Write.{Write}
use Rattle.std.proofs.lemmas.Result.{err_from_is_err_and}
use Rattle.bk_store.specs.Appends.{CrashMeetsPut, PutsNothing, PutsWrite}
use Rattle.bk_store.specs.Events.{KeepsPast, next_write}
use Rattle.bk_store.specs.Shown.{Shown}
use Rattle.bk_store.proofs.Steadies.{next_is_newer, steady_put, steady_same}
use Rattle.bk_store.proofs.WriteExits.{crash_nothing}
use Rattle.bk_store.proofs.Pasts.{past_same}
use Rattle.bk_store.proofs.store.Store.append.Goals as goal

pub returns-then-self-ge-LAST_SEQ-clause-crash : goal.returns-then-self-ge-LAST_SEQ-clause-crash
returns-then-self-ge-LAST_SEQ-clause-crash g c =
    λ tells. crash_nothing (next_write c.args.self.now c.args.now c.args.key c.args.body) c.args.self.now.files

pub append_write-requires-clause-newer : goal.append_write-requires-clause-newer
append_write-requires-clause-newer g c =
    next_is_newer g.D.Disk.tells c.self.inside.files c.self.inside.keydir c.self.inside.last.0 c.args.key c.self.invariant

pub invariant_of-self : goal.invariant_of-self
invariant_of-self g c =
    steady_same g.D.Disk.tells c.self.inside.files c.append_write.new.files c.self.inside.keydir c.append_write.new.keydir
    c.self.inside.last.0 c.self.invariant c.in_err-rolled.ensures.rest.consistent c.in_err-rolled.ensures.slots
    c.in_err-rolled.ensures.err.entries

pub returns-in_err-rolled-clause-refused : goal.returns-in_err-rolled-clause-refused
returns-in_err-rolled-clause-refused g c = λ tells.
    let p = err_from_is_err_and c.from_residual.result c.from_residual.ensures.1 in
    rw (p.1, p.2)
    (subst
    (λ (x : Shown). PutsNothing c.in_err-rolled.field-0.0 (next_write x c.args.now c.args.key c.args.body) x.files x.keys c.append_write.new.files
    c.append_write.new.keydir) c.self.view_is (c.in_err-rolled.ensures.err.nothing tells))

pub returns-in_err-rolled-clause-crash : goal.returns-in_err-rolled-clause-crash
returns-in_err-rolled-clause-crash g c = λ tells.
    subst (λ (x : Shown). CrashMeetsPut (next_write x c.args.now c.args.key c.args.body) x.files c.append_write.new.files)
    c.self.view_is (c.in_err-rolled.ensures.crash tells)

pub invariant_of-self-2 : goal.invariant_of-self-2
invariant_of-self-2 g c =
    let w : Write = record {
      seq = record { 0 = c.self.inside.last.0 + 1 };
      moment = c.args.now;
      key = c.args.key;
      body = c.args.body;
    } in
    let low : c.self.inside.last.0 < LAST_SEQ = omega arith in
    steady_put g.D.Disk.tells c.self.inside.files c.append_write.new.files c.self.inside.keydir c.append_write.new.keydir
    c.self.inside.last.0 w c.self.invariant low refl c.in_ok-rolled.ensures.rest.consistent c.in_ok-rolled.ensures.slots
    c.in_ok-rolled.ensures.ok.entries

pub returns-clause-put : goal.returns-clause-put
returns-clause-put g c = λ tells.
    subst
    (λ (x : Shown). PutsWrite (next_write x c.args.now c.args.key c.args.body) x.files x.keys c.append_write.new.files
    c.append_write.new.keydir) c.self.view_is (c.in_ok-rolled.ensures.ok.puts tells)

pub returns-clause-crash : goal.returns-clause-crash
returns-clause-crash g c = λ tells.
    subst (λ (x : Shown). CrashMeetsPut (next_write x c.args.now c.args.key c.args.body) x.files c.append_write.new.files)
    c.self.view_is (c.in_ok-rolled.ensures.crash tells)

pub returns-then-self-ge-LAST_SEQ-clause-past : goal.returns-then-self-ge-LAST_SEQ-clause-past
returns-then-self-ge-LAST_SEQ-clause-past g c = λ tells. past_same c.args.self.now.files.told c.args.self.now.files.told refl

pub returns-in_err-rolled-clause-past : goal.returns-in_err-rolled-clause-past
returns-in_err-rolled-clause-past g c = λ tells.
    subst (λ (x : Shown). KeepsPast x.files.told c.append_write.new.files.told) c.self.view_is
    (c.in_err-rolled.ensures.rest.past tells)

pub returns-clause-past : goal.returns-clause-past
returns-clause-past g c = λ tells.
    subst (λ (x : Shown). KeepsPast x.files.told c.append_write.new.files.told) c.self.view_is
    (c.in_ok-rolled.ensures.rest.past tells)
