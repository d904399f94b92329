use Rattle.std.specs.Prelude.{true}
use Rattle.std.proofs.Common.{◌≡◌, None, Option, Some, refl, subst, ℕ}
use Rattle.bk_base.specs.declared.calls.Call.TheVariants.{Get as get_call}
use Rattle.bk_keydir.specs.Keydir.{newest_of, versions_of}
use Rattle.bk_laws.specs.History.{log_of}
use Rattle.bk_laws.specs.Log.{winner}
use Rattle.bk_store.specs.Events.{Keeps, entry_by}
use Rattle.bk_store.specs.Loans.{LendsWrite, Lent, get_reply, view_of}
use Rattle.bk_session.proofs.Reading.{still_files}
use Rattle.bk_drill.proofs.drills.Drill.get.Goals as goal
use Rattle.bk_drill.proofs.Finding.{get_disk_fails, get_finds, get_finds_none, get_out_of_memory, loan_unread}

pub keep-requires : goal.keep-requires
keep-requires c = record {
  actor = c.requires;
  unread = loan_unread c.args.self.now.store.settings.ttl c.args.self.now.now.0 c.args.key.now
      (newest_of (versions_of c.args.key.now c.args.self.now.store.keys.entries)) c.in-Ok-Some.loan {found = c.in-Ok-Some.field-0}
      (let is : c.in-Ok-Some.field-0 ≡ Some c.in-Ok-Some.loan = cc in is) c.in-Ok-Some.ensures.lent;
}

pub returns-in-Ok-Some : goal.returns-in-Ok-Some
returns-in-Ok-Some c =
    let is : c.in-Ok-Some.field-0 ≡ Some c.in-Ok-Some.loan = cc in
    get_finds c.args.self.now _ c.args.key.now c.args.actor.0 c.in-Ok-Some.loan refl refl refl (λ n. refl) c.keep.ensures
    (record {
      still = still_files c.args.self.now.store c.locate.new.self c.locate.ensures.same c.locate.ensures.catalog;
      later = c.locate.ensures.later;
      outs = c.locate.ensures.outs;
    })
    (subst (λ (x : Option Lent). c.locate.new.self.files.fallible_views ≡ view_of x c.args.self.now.store.files.fallible_views) is
    c.in-Ok-Some.ensures.views)
    (subst (λ (x : Option Lent). (who : ℕ) → Keeps true (entry_by who (get_call c.args.key.now c.args.self.now.now) (get_reply x))
    c.args.self.now.store c.locate.new.self) is (c.in-Ok-Some.ensures.ok refl) c.args.actor.0)
    (λ o h tried stood. subst (λ (x : Option Lent). LendsWrite (winner (log_of o h) c.args.key.now) x) is
    (c.in-Ok-Some.ensures.winner refl o h tried stood))

pub returns-in-Ok-None : goal.returns-in-Ok-None
returns-in-Ok-None c =
    let is : c.in-Ok-None.field-0 ≡ None = cc in
    get_finds_none c.args.self.now _ c.args.key.now (record { now = refl; plan = refl; settings = refl; loans = λ n. refl; listed = λ n. refl })
    (record {
      still = still_files c.args.self.now.store c.locate.new.self c.locate.ensures.same c.locate.ensures.catalog;
      later = c.locate.ensures.later;
      outs = c.locate.ensures.outs;
    })
    (subst (λ (x : Option Lent). c.locate.new.self.files.fallible_views ≡ view_of x c.args.self.now.store.files.fallible_views) is
    c.in-Ok-None.ensures.views)
    (subst (λ (x : Option Lent). (who : ℕ) → Keeps true (entry_by who (get_call c.args.key.now c.args.self.now.now) (get_reply x))
    c.args.self.now.store c.locate.new.self) is (c.in-Ok-None.ensures.ok refl))
    c.args.actor.0

pub returns-in-Err-Disk : goal.returns-in-Err-Disk
returns-in-Err-Disk c =
    get_disk_fails c.args.self.now _ c.args.key.now (record { now = refl; plan = refl; settings = refl; loans = λ n. refl; listed = λ n. refl })
    (record {
      still = still_files c.args.self.now.store c.locate.new.self c.locate.ensures.same c.locate.ensures.catalog;
      later = c.locate.ensures.later;
      outs = c.locate.ensures.outs;
    })
    c.in-Err-Disk.ensures.no_view (c.locate.ensures.disk cc) (c.in-Err-Disk.ensures.refused refl) c.args.actor.0

pub returns-in-Err-Memory : goal.returns-in-Err-Memory
returns-in-Err-Memory c =
    get_out_of_memory c.args.self.now _ c.args.key.now (record { now = refl; plan = refl; settings = refl; loans = λ n. refl; listed = λ n. refl })
    (record {
      still = still_files c.args.self.now.store c.locate.new.self c.locate.ensures.same c.locate.ensures.catalog;
      later = c.locate.ensures.later;
      outs = c.locate.ensures.outs;
    })
    c.in-Err-Memory.ensures.no_view (c.in-Err-Memory.ensures.refused refl) c.args.actor.0
