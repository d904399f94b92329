use Rattle.std.proofs.Common.{ℕ, [], refl, subst}
use Rattle.std.specs.Vec.{vec_capacity}
use Rattle.bk_base.specs.declared.calls.Answer.TheVariants.{Numbered}
use Rattle.bk_base.specs.declared.calls.Call.TheVariants.{Sync}
use Rattle.bk_disk.proofs.Results.{on_err}
use Rattle.bk_store.specs.Events.{CrashMeets, GoesOn, KeepsPast, Refuses, entry_by}
use Rattle.bk_store.specs.Shown.{Shown}
use Rattle.bk_store.proofs.Syncs.{sync_crash, sync_crash_refused, sync_goes_on, sync_refused}
use Rattle.bk_store.proofs.Pasts.{past_not_synchronized, past_synchronized}
use Rattle.bk_store.proofs.store.Store.sync.Goals as goal

pub returns-in_err-sync-clause-refused : goal.returns-in_err-sync-clause-refused
returns-in_err-sync-clause-refused g c = λ tells.
    let v : Shown = record {
      files = c.self.inside.files;
      keys = c.self.inside.keydir;
      seq = c.self.inside.last.0;
      settings = c.self.inside.settings;
      buffer = vec_capacity c.self.inside.buffer;
    } in
    let u : Shown = record v { files = c.sync.new.self } in
    let refused : (who : ℕ) → Refuses g.D.Disk.tells who [] c.args.self.now u =
    λ who. subst (λ (x : Shown). Refuses g.D.Disk.tells who [] x u) c.self.view_is
    (sync_refused g.D.Disk.tells v u who tells c.in_err-sync.ensures.err
    (record {
      consistent = c.in_err-sync.ensures.consistent tells;
      totals = c.in_err-sync.ensures.scratch tells;
      synced = c.in_err-sync.ensures.synced tells;
    })
    refl) in
    on_err _ refused

pub returns-in_err-sync-clause-crash : goal.returns-in_err-sync-clause-crash
returns-in_err-sync-clause-crash g c = λ tells.
    let v : Shown = record {
      files = c.self.inside.files;
      keys = c.self.inside.keydir;
      seq = c.self.inside.last.0;
      settings = c.self.inside.settings;
      buffer = vec_capacity c.self.inside.buffer;
    } in
    let u : Shown = record v { files = c.sync.new.self } in
    subst (λ (x : Shown). CrashMeets [] x u) c.self.view_is
    (sync_crash_refused g.D.Disk.tells v u tells c.in_err-sync.ensures.err
    (record {
      consistent = c.in_err-sync.ensures.consistent tells;
      totals = c.in_err-sync.ensures.scratch tells;
      synced = c.in_err-sync.ensures.synced tells;
    }))

pub returns-clause-ok : goal.returns-clause-ok
returns-clause-ok g c = λ tells who.
    let v : Shown = record {
      files = c.self.inside.files;
      keys = c.self.inside.keydir;
      seq = c.self.inside.last.0;
      settings = c.self.inside.settings;
      buffer = vec_capacity c.self.inside.buffer;
    } in
    let u : Shown = record v { files = c.sync.new.self } in
    subst (λ (x : Shown). GoesOn g.D.Disk.tells (entry_by who Sync (Numbered c.self.inside.last)) x u) c.self.view_is
    (sync_goes_on g.D.Disk.tells v u who c.self.inside.last tells c.in_ok-sync.ensures.ok
    (record {
      consistent = c.in_ok-sync.ensures.consistent tells;
      totals = c.in_ok-sync.ensures.scratch tells;
      synced = c.in_ok-sync.ensures.synced tells;
    })
    refl refl)

pub returns-clause-crash : goal.returns-clause-crash
returns-clause-crash g c = λ tells.
    let v : Shown = record {
      files = c.self.inside.files;
      keys = c.self.inside.keydir;
      seq = c.self.inside.last.0;
      settings = c.self.inside.settings;
      buffer = vec_capacity c.self.inside.buffer;
    } in
    let u : Shown = record v { files = c.sync.new.self } in
    subst (λ (x : Shown). CrashMeets [] x u) c.self.view_is
    (sync_crash g.D.Disk.tells v u tells c.in_ok-sync.ensures.ok
    (record {
      consistent = c.in_ok-sync.ensures.consistent tells;
      totals = c.in_ok-sync.ensures.scratch tells;
      synced = c.in_ok-sync.ensures.synced tells;
    }))

pub returns-in_err-sync-clause-past : goal.returns-in_err-sync-clause-past
returns-in_err-sync-clause-past g c = λ tells.
    subst (λ (x : Shown). KeepsPast x.files.told c.sync.new.self.told) c.self.view_is
    (past_not_synchronized g.D.Disk.tells c.self.inside.files c.sync.new.self tells c.in_err-sync.ensures.err)

pub returns-clause-past : goal.returns-clause-past
returns-clause-past g c = λ tells.
    subst (λ (x : Shown). KeepsPast x.files.told c.sync.new.self.told) c.self.view_is
    (past_synchronized g.D.Disk.tells c.self.inside.files c.sync.new.self tells c.in_ok-sync.ensures.ok)
