use Rattle.std.proofs.Common.{[], ap, refl, subst}
use Rattle.std.specs.Vec.{vec_capacity}
use Rattle.bk_disk.specs.Told.{Told}
use Rattle.bk_keydir.specs.Keydir.{Shown as KeydirShown}
use Rattle.bk_store.specs.Events.{CrashMeets, Keeps, quiet_by}
use Rattle.bk_store.specs.Shown.{Shown}
use Rattle.bk_store.proofs.Getting.{room_keeps}
use Rattle.bk_store.proofs.Steadies.{steady_same}
use Rattle.bk_store.proofs.Stepping.{crash_still}
use Rattle.bk_store.proofs.store.Store.reserve.Goals as goal

pub invariant_of-self : goal.invariant_of-self
invariant_of-self g c =
    steady_same g.D.Disk.tells c.self.inside.files c.self.inside.files c.self.inside.keydir c.reserve.new.self
    c.self.inside.last.0 c.self.invariant c.self.invariant.consistent
    (ap (λ (k : KeydirShown). k.slots) c.in_err-reserve.ensures.same) (ap (λ (k : KeydirShown). k.entries) c.in_err-reserve.ensures.same)

pub returns-in_err-reserve-clause-quiet : goal.returns-in_err-reserve-clause-quiet
returns-in_err-reserve-clause-quiet g c = λ tells who.
    let v : Shown = record {
      files = c.self.inside.files;
      keys = c.self.inside.keydir;
      seq = c.self.inside.last.0;
      settings = c.self.inside.settings;
      buffer = vec_capacity c.self.inside.buffer;
    } in
    let u : Shown = record v { files = c.self.inside.files; keys = c.reserve.new.self; buffer = vec_capacity c.self.inside.buffer } in
    subst (λ (x : Shown). Keeps g.D.Disk.tells (quiet_by who) x u) c.self.view_is
    (room_keeps g.D.Disk.tells v u who refl refl refl refl (c.self.invariant.consistent tells)
    (ap (λ (k : KeydirShown). k.slots) c.in_err-reserve.ensures.same) (ap (λ (k : KeydirShown). k.entries) c.in_err-reserve.ensures.same))

pub returns-in_err-reserve-clause-crash : goal.returns-in_err-reserve-clause-crash
returns-in_err-reserve-clause-crash g c = λ tells.
    let v : Shown = record {
      files = c.self.inside.files;
      keys = c.self.inside.keydir;
      seq = c.self.inside.last.0;
      settings = c.self.inside.settings;
      buffer = vec_capacity c.self.inside.buffer;
    } in
    let u : Shown = record v { files = c.self.inside.files; keys = c.reserve.new.self; buffer = vec_capacity c.self.inside.buffer } in
    subst (λ (x : Shown). CrashMeets [] x u) c.self.view_is
    (crash_still v u [] refl refl)

pub invariant_of-self-then-is_err : goal.invariant_of-self-then-is_err
invariant_of-self-then-is_err g c =
    steady_same g.D.Disk.tells c.self.inside.files c.self.inside.files c.self.inside.keydir c.reserve.new.self
    c.self.inside.last.0 c.self.invariant c.self.invariant.consistent
    (ap (λ (k : KeydirShown). k.slots) c.in_ok-reserve.ensures.same) (ap (λ (k : KeydirShown). k.entries) c.in_ok-reserve.ensures.same)

pub returns-then-is_err-clause-quiet : goal.returns-then-is_err-clause-quiet
returns-then-is_err-clause-quiet g c = λ tells who.
    let v : Shown = record {
      files = c.self.inside.files;
      keys = c.self.inside.keydir;
      seq = c.self.inside.last.0;
      settings = c.self.inside.settings;
      buffer = vec_capacity c.self.inside.buffer;
    } in
    let u : Shown = record v { files = c.self.inside.files; keys = c.reserve.new.self; buffer = vec_capacity c.reserve-2.new.self } in
    subst (λ (x : Shown). Keeps g.D.Disk.tells (quiet_by who) x u) c.self.view_is
    (room_keeps g.D.Disk.tells v u who refl refl refl refl (c.self.invariant.consistent tells)
    (ap (λ (k : KeydirShown). k.slots) c.in_ok-reserve.ensures.same) (ap (λ (k : KeydirShown). k.entries) c.in_ok-reserve.ensures.same))

pub returns-then-is_err-clause-crash : goal.returns-then-is_err-clause-crash
returns-then-is_err-clause-crash g c = λ tells.
    let v : Shown = record {
      files = c.self.inside.files;
      keys = c.self.inside.keydir;
      seq = c.self.inside.last.0;
      settings = c.self.inside.settings;
      buffer = vec_capacity c.self.inside.buffer;
    } in
    let u : Shown = record v { files = c.self.inside.files; keys = c.reserve.new.self; buffer = vec_capacity c.reserve-2.new.self } in
    subst (λ (x : Shown). CrashMeets [] x u) c.self.view_is
    (crash_still v u [] refl refl)

pub invariant_of-self-2 : goal.invariant_of-self-2
invariant_of-self-2 g c =
    steady_same g.D.Disk.tells c.self.inside.files c.ready.new.self c.self.inside.keydir c.reserve.new.self
    c.self.inside.last.0 c.self.invariant c.ready.ensures.consistent
    (ap (λ (k : KeydirShown). k.slots) c.in_ok-reserve.ensures.same) (ap (λ (k : KeydirShown). k.entries) c.in_ok-reserve.ensures.same)

pub returns-clause-quiet : goal.returns-clause-quiet
returns-clause-quiet g c = λ tells who.
    let v : Shown = record {
      files = c.self.inside.files;
      keys = c.self.inside.keydir;
      seq = c.self.inside.last.0;
      settings = c.self.inside.settings;
      buffer = vec_capacity c.self.inside.buffer;
    } in
    let u : Shown = record v { files = c.ready.new.self; keys = c.reserve.new.self; buffer = vec_capacity c.reserve-2.new.self } in
    subst (λ (x : Shown). Keeps g.D.Disk.tells (quiet_by who) x u) c.self.view_is
    (room_keeps g.D.Disk.tells v u who refl refl (c.ready.ensures.told tells) c.ready.ensures.catalog (c.ready.ensures.consistent tells)
    (ap (λ (k : KeydirShown). k.slots) c.in_ok-reserve.ensures.same) (ap (λ (k : KeydirShown). k.entries) c.in_ok-reserve.ensures.same))

pub returns-clause-crash : goal.returns-clause-crash
returns-clause-crash g c = λ tells.
    let v : Shown = record {
      files = c.self.inside.files;
      keys = c.self.inside.keydir;
      seq = c.self.inside.last.0;
      settings = c.self.inside.settings;
      buffer = vec_capacity c.self.inside.buffer;
    } in
    let u : Shown = record v { files = c.ready.new.self; keys = c.reserve.new.self; buffer = vec_capacity c.reserve-2.new.self } in
    subst (λ (x : Shown). CrashMeets [] x u) c.self.view_is
    (crash_still v u [] (ap (λ (t : Told). t.past) (c.ready.ensures.told tells)) (ap (λ (t : Told). t.fronts) (c.ready.ensures.told tells)))
