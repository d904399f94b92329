use Rattle.std.proofs.Common.{◌≡◌, [], Option, Some, None, ap, refl, subst, vec_capacity}
use Rattle.bk_base.specs.declared.calls.Answer.TheVariants.{Done}
use Rattle.bk_base.specs.declared.calls.Call.TheVariants.{FoldClose}
use Rattle.bk_keydir.specs.declared.slots.Slot.{Slot}
use Rattle.bk_keydir.specs.Slots.{slot_at, who_of}
use Rattle.bk_store.specs.Events.{CrashMeets, Keeps, entry_by}
use Rattle.bk_store.specs.Shown.{Shown}
use Rattle.bk_store.proofs.FoldSteps.{close_keeps, owner_is, quiet_same, slot_within, steady_slots, who_is}
use Rattle.bk_store.proofs.Stepping.{crash_still}
use Rattle.bk_store.proofs.store.Store.fold_close.Goals as goal

pub returns-then-ne-clause-refused : goal.returns-then-ne-clause-refused
returns-then-ne-clause-refused g c = λ tells. quiet_same g.D.Disk.tells c.args.self.now c.args.self.now c.args.who refl

pub returns-then-ne-clause-crash : goal.returns-then-ne-clause-crash
returns-then-ne-clause-crash g c = λ tells. crash_still c.args.self.now c.args.self.now [] refl refl

none_some : (t : Slot) → ◌≡◌ {A = Option Slot} None (Some t) → ⊥
none_some t is = cc is

pub invariant_of-self : goal.invariant_of-self
invariant_of-self g c =
    let owner = owner_is c.owner.result (who_of (slot_at c.self.inside.keydir.slots c.args.slot)) c.args.who c.ne.result c.owner.ensures
    c.ne.ensures c.if-ne.false in
    let (s, there, by) = who_is (slot_at c.self.inside.keydir.slots c.args.slot) c.args.who owner in
    steady_slots g.D.Disk.tells c.self.inside.files c.self.inside.keydir c.close_fold.new.self c.self.inside.last.0 c.args.slot None
    c.self.invariant c.close_fold.ensures (slot_within c.self.inside.keydir.slots c.args.slot s there) (λ t wrong. absurd (none_some t wrong))

pub returns-clause-ok : goal.returns-clause-ok
returns-clause-ok g c =
    λ tells.
    let owner = owner_is c.owner.result (who_of (slot_at c.self.inside.keydir.slots c.args.slot)) c.args.who c.ne.result c.owner.ensures
    c.ne.ensures c.if-ne.false in
    let v : Shown = record {
      files = c.self.inside.files;
      keys = c.self.inside.keydir;
      seq = c.self.inside.last.0;
      settings = c.self.inside.settings;
      buffer = vec_capacity c.self.inside.buffer;
    } in
    let u : Shown = record v { keys = c.close_fold.new.self } in
    subst (λ (x : Shown). Keeps g.D.Disk.tells (entry_by c.args.who (FoldClose c.args.slot) Done) x u) c.self.view_is
    (close_keeps g.D.Disk.tells v u c.args.who c.args.slot owner (ap (λ k. record v { keys = k }) c.close_fold.ensures))

pub returns-clause-crash : goal.returns-clause-crash
returns-clause-crash g c =
    λ tells.
    let v : Shown = record {
      files = c.self.inside.files;
      keys = c.self.inside.keydir;
      seq = c.self.inside.last.0;
      settings = c.self.inside.settings;
      buffer = vec_capacity c.self.inside.buffer;
    } in
    let u : Shown = record v { keys = c.close_fold.new.self } in
    subst (λ (x : Shown). CrashMeets [] x u) c.self.view_is (crash_still v u [] refl refl)
