use Rattle.std.proofs.Common.{◌≡◌, ◌∙◌, ℕ, List, [], None, Some, refl, subst, sym}
use Rattle.std.specs.Prelude.{is_ok}
use Rattle.std.specs.Vec.{vec_capacity}
use Rattle.bk_base.specs.declared.calls.Call.TheVariants.{Get}
use Rattle.bk_base.specs.declared.histories.Opening.{Opening}
use Rattle.bk_base.specs.declared.histories.Step.{Step}
use Rattle.bk_base.specs.declared.writes.Write.{Write}
use Rattle.bk_disk.proofs.Results.{on_err}
use Rattle.bk_files.specs.Catalog.{main}
use Rattle.bk_keydir.specs.Keydir.{newest_of, versions_of}
use Rattle.bk_laws.specs.History.{log_of}
use Rattle.bk_laws.specs.Log.{winner}
use Rattle.bk_store.specs.Events.{CrashMeets, Keeps, entry_by, quiet_by}
use Rattle.bk_store.specs.Loans.{LendsWrite, get_reply, live_of}
use Rattle.bk_store.specs.Shown.{Shown}
use Rattle.bk_store.specs.Standing.{StandsFor}
use Rattle.bk_store.proofs.Getting.{get_found, get_lends, get_none, lend_sees, one_lives, sees_crash, sees_quiet}
use Rattle.bk_store.proofs.Keys.{in_newest}
use Rattle.bk_store.proofs.Steadies.{found_is_fit}
use Rattle.bk_store.proofs.Stepping.{crash_still}
use Rattle.bk_store.proofs.store.Store.locate.Goals as goal

pub lend-requires-clause-long : goal.lend-requires-clause-long
lend-requires-clause-long g c =
    let vs = versions_of c.args.key.now c.self.inside.keydir.entries in
    found_is_fit g.D.Disk.tells c.self.inside.files c.self.inside.keydir c.self.inside.last.0 c.args.key.now c.in-Some.version
    c.self.invariant
    (in_newest c.in-Some.version vs
    (one_lives c.self.inside.settings.ttl c.args.now.0 (newest_of vs) c.in-Some.version
    (sym c.live_version.ensures ∙ c.in-Some.is)).0)

pub returns-in_err-loan-in-Some-clause-refused : goal.returns-in_err-loan-in-Some-clause-refused
returns-in_err-loan-in-Some-clause-refused g c = λ tells.
    let v : Shown = record {
      files = c.self.inside.files;
      keys = c.self.inside.keydir;
      seq = c.self.inside.last.0;
      settings = c.self.inside.settings;
      buffer = vec_capacity c.self.inside.buffer;
    } in
    let u : Shown = record v { files = c.lend.new.files } in
    let sees = lend_sees v c.lend.new.files (is_ok c.lend.result) (main c.in-Some.version.file.0) c.in-Some.version.at
    c.in-Some.version.size (c.lend.ensures.told tells) c.lend.ensures.catalog (c.lend.ensures.consistent tells)
    (c.lend.ensures.totals tells) (c.lend.ensures.synced tells) in
    let refused : (who : ℕ) → Keeps g.D.Disk.tells (quiet_by who) c.args.self.now u =
    λ who. subst (λ (x : Shown). Keeps g.D.Disk.tells (quiet_by who) x u) c.self.view_is (sees_quiet g.D.Disk.tells v u who sees) in
    on_err _ refused

pub returns-in_err-loan-in-Some-clause-crash : goal.returns-in_err-loan-in-Some-clause-crash
returns-in_err-loan-in-Some-clause-crash g c = λ tells.
    let v : Shown = record {
      files = c.self.inside.files;
      keys = c.self.inside.keydir;
      seq = c.self.inside.last.0;
      settings = c.self.inside.settings;
      buffer = vec_capacity c.self.inside.buffer;
    } in
    let u : Shown = record v { files = c.lend.new.files } in
    let sees = lend_sees v c.lend.new.files (is_ok c.lend.result) (main c.in-Some.version.file.0) c.in-Some.version.at
    c.in-Some.version.size (c.lend.ensures.told tells) c.lend.ensures.catalog (c.lend.ensures.consistent tells)
    (c.lend.ensures.totals tells) (c.lend.ensures.synced tells) in
    subst (λ (x : Shown). CrashMeets [] x u) c.self.view_is (sees_crash v u [] sees)

pub returns-in-None-clause-ok : goal.returns-in-None-clause-ok
returns-in-None-clause-ok g c = λ tells who.
    get_none g.D.Disk.tells c.args.self.now c.args.now c.args.key.now who
    (subst (λ (x : Shown). live_of x.settings.ttl c.args.now.0 (newest_of (versions_of c.args.key.now x.keys.entries)) ≡ None)
    c.self.view_is (sym c.live_version.ensures ∙ c.in-None.is))

pub returns-in-None-clause-crash : goal.returns-in-None-clause-crash
returns-in-None-clause-crash g c = λ tells. crash_still c.args.self.now c.args.self.now [] refl refl

pub returns-in_ok-loan-in-Some-clause-winner : goal.returns-in_ok-loan-in-Some-clause-winner
returns-in_ok-loan-in-Some-clause-winner g c = λ tells.
    let v : Shown = record {
      files = c.self.inside.files;
      keys = c.self.inside.keydir;
      seq = c.self.inside.last.0;
      settings = c.self.inside.settings;
      buffer = vec_capacity c.self.inside.buffer;
    } in
    subst
    (λ (x : Shown). (o : Opening) (h : List Step) (tried : List Write) → StandsFor x o h tried
    → LendsWrite (winner (log_of o h) c.args.key.now) (Some c.in_ok-loan-in-Some.loan)) c.self.view_is
    (get_lends v c.args.now c.args.key.now c.in-Some.version c.in_ok-loan-in-Some.loan
    (sym c.live_version.ensures ∙ c.in-Some.is) c.in_ok-loan-in-Some.ensures.lent (c.in_ok-loan-in-Some.ensures.bytes tells))

pub returns-in_ok-loan-in-Some-clause-ok : goal.returns-in_ok-loan-in-Some-clause-ok
returns-in_ok-loan-in-Some-clause-ok g c = λ tells who.
    let v : Shown = record {
      files = c.self.inside.files;
      keys = c.self.inside.keydir;
      seq = c.self.inside.last.0;
      settings = c.self.inside.settings;
      buffer = vec_capacity c.self.inside.buffer;
    } in
    let u : Shown = record v { files = c.lend.new.files } in
    let sees = lend_sees v c.lend.new.files (is_ok c.lend.result) (main c.in-Some.version.file.0) c.in-Some.version.at
    c.in-Some.version.size (c.lend.ensures.told tells) c.lend.ensures.catalog (c.lend.ensures.consistent tells)
    (c.lend.ensures.totals tells) (c.lend.ensures.synced tells) in
    subst
    (λ (x : Shown). Keeps g.D.Disk.tells
    (entry_by who (Get c.args.key.now c.args.now) (get_reply (Some c.in_ok-loan-in-Some.loan))) x u) c.self.view_is
    (get_found g.D.Disk.tells v u c.args.now c.args.key.now c.in-Some.version c.in_ok-loan-in-Some.loan who
    (sym c.live_version.ensures ∙ c.in-Some.is) c.in_ok-loan-in-Some.ensures.lent (c.in_ok-loan-in-Some.ensures.bytes tells)
    sees)

pub returns-in_ok-loan-in-Some-clause-crash : goal.returns-in_ok-loan-in-Some-clause-crash
returns-in_ok-loan-in-Some-clause-crash g c = λ tells.
    let v : Shown = record {
      files = c.self.inside.files;
      keys = c.self.inside.keydir;
      seq = c.self.inside.last.0;
      settings = c.self.inside.settings;
      buffer = vec_capacity c.self.inside.buffer;
    } in
    let u : Shown = record v { files = c.lend.new.files } in
    let sees = lend_sees v c.lend.new.files (is_ok c.lend.result) (main c.in-Some.version.file.0) c.in-Some.version.at
    c.in-Some.version.size (c.lend.ensures.told tells) c.lend.ensures.catalog (c.lend.ensures.consistent tells)
    (c.lend.ensures.totals tells) (c.lend.ensures.synced tells) in
    subst (λ (x : Shown). CrashMeets [] x u) c.self.view_is (sees_crash v u [] sees)
