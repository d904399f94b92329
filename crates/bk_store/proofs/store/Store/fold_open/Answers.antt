use Rattle.std.proofs.Common.{◌≡◌, [], ◌<◌, ap, refl, subst, Some, true, vec_capacity, arith}
use Rattle.std.specs.Option.{is_some}
use Rattle.bk_base.specs.declared.calls.Answer.TheVariants.{Fold as fold_answer}
use Rattle.bk_base.specs.declared.calls.Call.TheVariants.{FoldOpen}
use Rattle.bk_disk.proofs.Results.{on_err}
use Rattle.bk_keydir.specs.declared.slots.Slot.{Slot}
use Rattle.bk_keydir.specs.Keydir.{Shown as KeydirShown}
use Rattle.bk_keydir.specs.Slots.{opened, slot_at}
use Rattle.bk_store.specs.Events.{CrashMeets, Keeps, entry_by, quiet_by}
use Rattle.bk_store.specs.FoldEvents.{IsOpened}
use Rattle.bk_store.specs.Shown.{Shown}
use Rattle.bk_store.specs.declared.folds.Fold.{Fold}
use Rattle.bk_store.proofs.FoldOpens.{first_is_free, none_is_free}
use Rattle.bk_store.proofs.FoldSteps.{open_keeps, quiet_same, steady_slots}
use Rattle.bk_store.proofs.Stepping.{crash_still}
use Rattle.bk_store.proofs.store.Store.fold_open.Goals as goal

pub returns-in_err-slot-clause-refused : goal.returns-in_err-slot-clause-refused
returns-in_err-slot-clause-refused g c =
    λ tells.
    let v : Shown = record {
      files = c.self.inside.files;
      keys = c.self.inside.keydir;
      seq = c.self.inside.last.0;
      settings = c.self.inside.settings;
      buffer = vec_capacity c.self.inside.buffer;
    } in
    let u : Shown = record v { keys = c.open_fold.new.self } in
    on_err c.from_residual.result
    (subst (λ (x : Shown). Keeps g.D.Disk.tells (quiet_by c.args.who) x u) c.self.view_is
    (quiet_same g.D.Disk.tells v u c.args.who (ap (λ (k : KeydirShown). record v { keys = k }) c.in_err-slot.ensures.err)))

pub returns-in_err-slot-clause-crash : goal.returns-in_err-slot-clause-crash
returns-in_err-slot-clause-crash g c =
    λ tells.
    let v : Shown = record {
      files = c.self.inside.files;
      keys = c.self.inside.keydir;
      seq = c.self.inside.last.0;
      settings = c.self.inside.settings;
      buffer = vec_capacity c.self.inside.buffer;
    } in
    let u : Shown = record v { keys = c.open_fold.new.self } in
    subst (λ (x : Shown). CrashMeets [] x u) c.self.view_is (crash_still v u [] refl refl)

pub returns-in_err-slot-clause-all : goal.returns-in_err-slot-clause-all
returns-in_err-slot-clause-all g c =
    on_err c.from_residual.result
    (λ n low.
    subst (λ (x : Shown). is_some (slot_at x.keys.slots n) ≡ true) c.self.view_is
    (none_is_free c.self.inside.keydir.slots n (c.in_err-slot.ensures.full.0 refl)
    (omega (arith, low, c.self.invariant.slots))))

pub invariant_of-self-2 : goal.invariant_of-self-2
invariant_of-self-2 g c =
    let new : Slot = opened c.args.who c.self.inside.last c.args.now in
    steady_slots g.D.Disk.tells c.self.inside.files c.self.inside.keydir c.open_fold.new.self c.self.inside.last.0 c.in_ok-slot.slot
    (Some new) c.self.invariant c.in_ok-slot.ensures.ok
    (first_is_free c.self.inside.keydir.slots c.in_ok-slot.slot c.in_ok-slot.ensures.slot).within
    (λ s is. let same : new ≡ s = cc is in let epoch = ap (λ (t : Slot). t.epoch.0) same in omega (arith, epoch))

pub returns-clause-ok : goal.returns-clause-ok
returns-clause-ok g c =
    λ tells.
    let v : Shown = record {
      files = c.self.inside.files;
      keys = c.self.inside.keydir;
      seq = c.self.inside.last.0;
      settings = c.self.inside.settings;
      buffer = vec_capacity c.self.inside.buffer;
    } in
    let u : Shown = record v { keys = c.open_fold.new.self } in
    let f : Fold = record { epoch = c.self.inside.last; now = c.args.now; slot = c.in_ok-slot.slot } in
    let low : c.in_ok-slot.slot < 64 =
    omega (arith, (first_is_free c.self.inside.keydir.slots c.in_ok-slot.slot c.in_ok-slot.ensures.slot).within, c.self.invariant.slots) in
    let is : IsOpened c.args.who c.args.now v u f = record {
      slot = c.in_ok-slot.ensures.slot;
      within = low;
      epoch = refl;
      moment = refl;
      keys = ap (λ (k : KeydirShown). record v { keys = k }) c.in_ok-slot.ensures.ok;
    } in
    subst (λ (x : Shown). Keeps g.D.Disk.tells (entry_by c.args.who (FoldOpen c.args.now) (fold_answer f.epoch f.slot)) x u) c.self.view_is
    (open_keeps g.D.Disk.tells v u c.args.who c.args.now f c.self.invariant is)

pub returns-clause-crash : goal.returns-clause-crash
returns-clause-crash g c =
    λ tells.
    let v : Shown = record {
      files = c.self.inside.files;
      keys = c.self.inside.keydir;
      seq = c.self.inside.last.0;
      settings = c.self.inside.settings;
      buffer = vec_capacity c.self.inside.buffer;
    } in
    let u : Shown = record v { keys = c.open_fold.new.self } in
    subst (λ (x : Shown). CrashMeets [] x u) c.self.view_is (crash_still v u [] refl refl)
