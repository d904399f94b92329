use Rattle.std.proofs.Common.{List, ℕ, subst}
use Rattle.bk_base.specs.declared.writes.Body.TheVariants.{Gone}
use Rattle.std.proofs.lemmas.Result.{err_from_is_err_and}
use Rattle.bk_store.specs.Appends.{CrashMeetsPut, PutsNothing, PutsWrite}
use Rattle.bk_store.specs.Events.{next_write}
use Rattle.bk_store.proofs.WriteExits.{crash_nothing}
use Rattle.bk_store.proofs.store.Store.bury.Goals as goal

pub returns-then-self-ge-LAST_SEQ-clause-crash : goal.returns-then-self-ge-LAST_SEQ-clause-crash
returns-then-self-ge-LAST_SEQ-clause-crash g c =
    λ tells. crash_nothing (next_write c.args.self.now c.args.now c.args.key.now Gone) c.args.self.now.files

pub returns-in_err-key-clause-crash : goal.returns-in_err-key-clause-crash
returns-in_err-key-clause-crash g c =
    λ tells. crash_nothing (next_write c.args.self.now c.args.now c.args.key.now Gone) c.args.self.now.files

pub returns-in_err-stored-clause-refused : goal.returns-in_err-stored-clause-refused
returns-in_err-stored-clause-refused g c = λ tells.
    let p = err_from_is_err_and c.from_residual-in_err-stored.result c.from_residual-in_err-stored.ensures.1 in
    rw (p.1, p.2)
    (subst
    (λ (k : List ℕ). PutsNothing c.in_err-stored.field-0.0 (next_write c.args.self.now c.args.now k Gone) c.args.self.now.files c.args.self.now.keys
    c.append.new.self.files c.append.new.self.keys) c.in_ok-key.ensures (c.in_err-stored.ensures.refused tells))

pub returns-in_err-stored-clause-crash : goal.returns-in_err-stored-clause-crash
returns-in_err-stored-clause-crash g c = λ tells.
    subst
    (λ (k : List ℕ). CrashMeetsPut (next_write c.args.self.now c.args.now k Gone) c.args.self.now.files c.append.new.self.files)
    c.in_ok-key.ensures (c.append.ensures.crash tells)

pub returns-clause-put : goal.returns-clause-put
returns-clause-put g c = λ tells.
    subst
    (λ (k : List ℕ). PutsWrite (next_write c.args.self.now c.args.now k Gone) c.args.self.now.files c.args.self.now.keys
    c.append.new.self.files c.append.new.self.keys) c.in_ok-key.ensures (c.in_ok-stored.ensures.put tells)

pub returns-clause-crash : goal.returns-clause-crash
returns-clause-crash g c = λ tells.
    subst
    (λ (k : List ℕ). CrashMeetsPut (next_write c.args.self.now c.args.now k Gone) c.args.self.now.files c.append.new.self.files)
    c.in_ok-key.ensures (c.append.ensures.crash tells)
