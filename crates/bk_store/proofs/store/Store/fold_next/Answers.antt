use Rattle.std.proofs.Common.{[], List, true, false, ap, refl, subst, sym, ◌∙◌, Some, vec_capacity, drop}
use Rattle.bk_base.specs.declared.calls.Answer.TheVariants.{End, Pair}
use Rattle.bk_base.specs.declared.calls.Call.TheVariants.{FoldNext}
use Rattle.bk_base.specs.declared.histories.Opening.{Opening}
use Rattle.bk_base.specs.declared.histories.Step.{Step}
use Rattle.bk_base.specs.declared.writes.Write.{Write}
use Rattle.bk_disk.specs.Told.{Told}
use Rattle.bk_disk.proofs.Results.{on_err}
use Rattle.bk_files.specs.Catalog.{main}
use Rattle.bk_keydir.specs.Slots.{slot_at, who_of}
use Rattle.bk_laws.specs.History.{log_of}
use Rattle.bk_store.specs.declared.folds.Row2.{Row2}
use Rattle.bk_store.specs.Events.{CrashMeets, Keeps, entry_by, quiet_by}
use Rattle.bk_store.specs.FoldEvents.{LendsPair, ListsNext}
use Rattle.bk_store.specs.Shown.{Shown}
use Rattle.bk_store.specs.Standing.{StandsFor}
use Rattle.bk_store.proofs.FoldSteps.{end_keeps, find_pair, found_fits, found_keeps, found_lends, found_lists, lends_in, lists_in, next_within, owner_is, quiet_same, quiet_stays, seen_next, steady_found, view_stays, who_is}
use Rattle.bk_store.proofs.Stepping.{crash_still}
use Rattle.bk_store.proofs.store.Store.fold_next.Goals as goal

pub returns-then-ne-clause-refused : goal.returns-then-ne-clause-refused
returns-then-ne-clause-refused g c = λ tells. quiet_same g.D.Disk.tells c.args.self.now c.args.self.now c.args.who refl

pub returns-then-ne-clause-crash : goal.returns-then-ne-clause-crash
returns-then-ne-clause-crash g c = λ tells. crash_still c.args.self.now c.args.self.now [] refl refl

pub returns-in_default-clause-ok : goal.returns-in_default-clause-ok
returns-in_default-clause-ok g c =
    λ tells.
    let v : Shown = record {
      files = c.self.inside.files;
      keys = c.self.inside.keydir;
      seq = c.self.inside.last.0;
      settings = c.self.inside.settings;
      buffer = vec_capacity c.self.inside.buffer;
    } in
    let owner = owner_is c.owner.result (who_of (slot_at c.self.inside.keydir.slots c.args.slot)) c.args.who c.ne.result c.owner.ensures
    c.ne.ensures c.if-ne.false in
    let (s, there, by) = who_is (slot_at c.self.inside.keydir.slots c.args.slot) c.args.who owner in
    subst (λ (x : Shown). Keeps g.D.Disk.tells (entry_by c.args.who (FoldNext c.args.slot) End) x x) c.self.view_is
    (end_keeps g.D.Disk.tells v v c.args.who c.args.slot s there by (c.in_default.ensures s there) refl)

pub returns-in_default-clause-crash : goal.returns-in_default-clause-crash
returns-in_default-clause-crash g c = λ tells. crash_still c.args.self.now c.args.self.now [] refl refl

pub returns-in_default-seen_at-clause-ok : goal.returns-in_default-seen_at-clause-ok
returns-in_default-seen_at-clause-ok g c =
    λ tells.
    let owner = owner_is c.owner.result (who_of (slot_at c.self.inside.keydir.slots c.args.slot)) c.args.who c.ne.result c.owner.ensures
    c.ne.ensures c.if-ne.false in
    absurd
    (seen_next c.self.inside.settings.ttl c.self.inside.keydir.slots c.self.inside.keydir.entries c.args.who c.args.slot
    c.in-Some.position owner c.in-Some.ensures c.in_default-seen_at.ensures)

pub key_at-requires : goal.key_at-requires
key_at-requires g c =
    let owner = owner_is c.owner.result (who_of (slot_at c.self.inside.keydir.slots c.args.slot)) c.args.who c.ne.result c.owner.ensures
    c.ne.ensures c.if-ne.false in
    next_within c.self.inside.settings.ttl c.self.inside.keydir.slots c.self.inside.keydir.entries c.args.who c.args.slot
    c.in-Some.position owner c.in-Some.ensures

pub returns-in_err-key-clause-refused : goal.returns-in_err-key-clause-refused
returns-in_err-key-clause-refused g c =
    λ tells. on_err c.from_residual.result (quiet_same g.D.Disk.tells c.args.self.now c.args.self.now c.args.who refl)

pub returns-in_err-key-clause-crash : goal.returns-in_err-key-clause-crash
returns-in_err-key-clause-crash g c = λ tells. crash_still c.args.self.now c.args.self.now [] refl refl

pub lend-requires-clause-long : goal.lend-requires-clause-long
lend-requires-clause-long g c =
    let owner = owner_is c.owner.result (who_of (slot_at c.self.inside.keydir.slots c.args.slot)) c.args.who c.ne.result c.owner.ensures
    c.ne.ensures c.if-ne.false in
    let found = find_pair c.self.inside.settings.ttl c.self.inside.keydir.slots c.self.inside.keydir.entries c.args.who c.args.slot
    c.in-Some.position c.in_ok-key.key c.in-Some-seen_at.version owner c.in-Some.ensures c.in-Some-seen_at.ensures
    (c.key_at.ensures ∙ ap Some (sym c.in_ok-key.ensures)) in
    found_fits g.D.Disk.tells c.self.inside.files c.self.inside.keydir c.self.inside.last.0 c.self.inside.settings.ttl c.args.who
    c.args.slot c.in-Some.position c.in_ok-key.key c.in-Some-seen_at.version c.self.invariant c.len-len.ensures.distinct found

pub returns-in_err-loan-clause-refused : goal.returns-in_err-loan-clause-refused
returns-in_err-loan-clause-refused g c =
    λ tells.
    let v : Shown = record {
      files = c.self.inside.files;
      keys = c.self.inside.keydir;
      seq = c.self.inside.last.0;
      settings = c.self.inside.settings;
      buffer = vec_capacity c.self.inside.buffer;
    } in
    let u : Shown = record v { files = c.lend.new.files } in
    let told = c.in_err-loan.ensures.told tells in
    let stay = view_stays c.self.inside.files c.lend.new.files false (main c.in-Some-seen_at.version.file.0) c.in-Some-seen_at.version.at
    c.in-Some-seen_at.version.size told c.in_err-loan.ensures.catalog (c.in_err-loan.ensures.consistent tells) (c.in_err-loan.ensures.totals tells)
    (c.in_err-loan.ensures.synced tells) in
    on_err c.from_residual-in_err-loan.result
    (subst (λ (x : Shown). Keeps g.D.Disk.tells (quiet_by c.args.who) x u) c.self.view_is
    (quiet_stays g.D.Disk.tells v u c.args.who refl stay))

pub returns-in_err-loan-clause-crash : goal.returns-in_err-loan-clause-crash
returns-in_err-loan-clause-crash g c =
    λ tells.
    let v : Shown = record {
      files = c.self.inside.files;
      keys = c.self.inside.keydir;
      seq = c.self.inside.last.0;
      settings = c.self.inside.settings;
      buffer = vec_capacity c.self.inside.buffer;
    } in
    let u : Shown = record v { files = c.lend.new.files } in
    let told = c.in_err-loan.ensures.told tells in
    subst (λ (x : Shown). CrashMeets [] x u) c.self.view_is
    (crash_still v u [] (ap (λ (t : Told). t.past) told) (ap (λ (t : Told). t.fronts) told))

pub step-requires-clause-within : goal.step-requires-clause-within
step-requires-clause-within g c =
    let owner = owner_is c.owner.result (who_of (slot_at c.self.inside.keydir.slots c.args.slot)) c.args.who c.ne.result c.owner.ensures
    c.ne.ensures c.if-ne.false in
    next_within c.self.inside.settings.ttl c.self.inside.keydir.slots c.self.inside.keydir.entries c.args.who c.args.slot
    c.in-Some.position owner c.in-Some.ensures

pub invariant_of-self-2 : goal.invariant_of-self-2
invariant_of-self-2 g c =
    let owner = owner_is c.owner.result (who_of (slot_at c.self.inside.keydir.slots c.args.slot)) c.args.who c.ne.result c.owner.ensures
    c.ne.ensures c.if-ne.false in
    let found = find_pair c.self.inside.settings.ttl c.self.inside.keydir.slots c.self.inside.keydir.entries c.args.who c.args.slot
    c.in-Some.position c.in_ok-key.key c.in-Some-seen_at.version owner c.in-Some.ensures c.in-Some-seen_at.ensures
    (c.key_at.ensures ∙ ap Some (sym c.in_ok-key.ensures)) in
    steady_found g.D.Disk.tells c.self.inside.files c.lend.new.files c.self.inside.keydir c.step.new.self c.self.inside.last.0
    c.self.inside.settings.ttl c.args.who c.args.slot c.in-Some.position c.in_ok-key.key c.in-Some-seen_at.version c.self.invariant
    c.in_ok-loan.ensures.consistent found c.step.ensures

pub returns-clause-lent : goal.returns-clause-lent
returns-clause-lent g c =
    let v : Shown = record {
      files = c.self.inside.files;
      keys = c.self.inside.keydir;
      seq = c.self.inside.last.0;
      settings = c.self.inside.settings;
      buffer = vec_capacity c.self.inside.buffer;
    } in
    let u : Shown = record v { files = c.lend.new.files; keys = c.step.new.self } in
    let row : Row2 g.row.D-View.Denot = record { key = c.in_ok-key.key; loan = c.in_ok-loan.loan } in
    let owner = owner_is c.owner.result (who_of (slot_at c.self.inside.keydir.slots c.args.slot)) c.args.who c.ne.result c.owner.ensures
    c.ne.ensures c.if-ne.false in
    let found = find_pair c.self.inside.settings.ttl c.self.inside.keydir.slots c.self.inside.keydir.entries c.args.who c.args.slot
    c.in-Some.position c.in_ok-key.key c.in-Some-seen_at.version owner c.in-Some.ensures c.in-Some-seen_at.ensures
    (c.key_at.ensures ∙ ap Some (sym c.in_ok-key.ensures)) in
    let p = found_lists v u c.args.who c.args.slot c.in-Some.position c.in_ok-key.key c.in-Some-seen_at.version c.in_ok-loan.loan
    found c.in_ok-loan.ensures.lent c.step.ensures in
    subst (λ (x : Shown). ListsNext {V = g.row.D-View.Denot} c.args.who c.args.slot x u (Some row)) c.self.view_is
    (owner, refl, refl, c.in_ok-loan.ensures.catalog, lists_in v u c.args.slot found.fold row found.there p)

pub returns-clause-winner : goal.returns-clause-winner
returns-clause-winner g c =
    λ tells.
    let v : Shown = record {
      files = c.self.inside.files;
      keys = c.self.inside.keydir;
      seq = c.self.inside.last.0;
      settings = c.self.inside.settings;
      buffer = vec_capacity c.self.inside.buffer;
    } in
    let u : Shown = record v { files = c.lend.new.files; keys = c.step.new.self } in
    let row : Row2 g.row.D-View.Denot = record { key = c.in_ok-key.key; loan = c.in_ok-loan.loan } in
    let owner = owner_is c.owner.result (who_of (slot_at c.self.inside.keydir.slots c.args.slot)) c.args.who c.ne.result c.owner.ensures
    c.ne.ensures c.if-ne.false in
    let found = find_pair c.self.inside.settings.ttl c.self.inside.keydir.slots c.self.inside.keydir.entries c.args.who c.args.slot
    c.in-Some.position c.in_ok-key.key c.in-Some-seen_at.version owner c.in-Some.ensures c.in-Some-seen_at.ensures
    (c.key_at.ensures ∙ ap Some (sym c.in_ok-key.ensures)) in
    subst
    (λ (x : Shown). (o : Opening) (h : List Step) (tried : List Write) → StandsFor x o h tried
    → LendsPair {V = g.row.D-View.Denot} c.args.slot x (log_of o h) (Some row)) c.self.view_is
    (λ o h tried stood.
    lends_in v c.args.slot found.fold (log_of o h) row found.there
    (found_lends v u c.args.who c.args.slot c.in-Some.position c.in_ok-key.key c.in-Some-seen_at.version c.in_ok-loan.loan found
    c.in_ok-loan.ensures.lent c.step.ensures c.len-len.ensures.distinct (c.in_ok-loan.ensures.bytes tells) o h tried stood))

pub returns-clause-ok : goal.returns-clause-ok
returns-clause-ok g c =
    λ tells.
    let v : Shown = record {
      files = c.self.inside.files;
      keys = c.self.inside.keydir;
      seq = c.self.inside.last.0;
      settings = c.self.inside.settings;
      buffer = vec_capacity c.self.inside.buffer;
    } in
    let u : Shown = record v { files = c.lend.new.files; keys = c.step.new.self } in
    let owner = owner_is c.owner.result (who_of (slot_at c.self.inside.keydir.slots c.args.slot)) c.args.who c.ne.result c.owner.ensures
    c.ne.ensures c.if-ne.false in
    let found = find_pair c.self.inside.settings.ttl c.self.inside.keydir.slots c.self.inside.keydir.entries c.args.who c.args.slot
    c.in-Some.position c.in_ok-key.key c.in-Some-seen_at.version owner c.in-Some.ensures c.in-Some-seen_at.ensures
    (c.key_at.ensures ∙ ap Some (sym c.in_ok-key.ensures)) in
    let told = c.in_ok-loan.ensures.told tells in
    let stay = view_stays c.self.inside.files c.lend.new.files true (main c.in-Some-seen_at.version.file.0) c.in-Some-seen_at.version.at
    c.in-Some-seen_at.version.size told c.in_ok-loan.ensures.catalog (c.in_ok-loan.ensures.consistent tells) (c.in_ok-loan.ensures.totals tells)
    (c.in_ok-loan.ensures.synced tells) in
    subst
    (λ (x : Shown). Keeps g.D.Disk.tells (entry_by c.args.who (FoldNext c.args.slot)
    (Pair c.in_ok-key.key (drop c.in_ok-loan.loan.value_at c.in_ok-loan.loan.left))) x u) c.self.view_is
    (found_keeps g.D.Disk.tells v u c.args.who c.args.slot c.in-Some.position c.in_ok-key.key c.in-Some-seen_at.version
    c.in_ok-loan.loan found c.in_ok-loan.ensures.lent c.step.ensures c.len-len.ensures.distinct (c.in_ok-loan.ensures.bytes tells)
    stay refl refl)

pub returns-clause-crash : goal.returns-clause-crash
returns-clause-crash g c =
    λ tells.
    let v : Shown = record {
      files = c.self.inside.files;
      keys = c.self.inside.keydir;
      seq = c.self.inside.last.0;
      settings = c.self.inside.settings;
      buffer = vec_capacity c.self.inside.buffer;
    } in
    let u : Shown = record v { files = c.lend.new.files; keys = c.step.new.self } in
    let told = c.in_ok-loan.ensures.told tells in
    subst (λ (x : Shown). CrashMeets [] x u) c.self.view_is
    (crash_still v u [] (ap (λ (t : Told). t.past) told) (ap (λ (t : Told). t.fronts) told))
