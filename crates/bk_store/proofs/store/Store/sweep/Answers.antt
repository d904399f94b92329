use Rattle.std.proofs.Common.{[], ap, refl, subst, vec_capacity}
use Rattle.bk_files.specs.Files.{Seen}
use Rattle.bk_store.specs.Events.{CrashMeets, Keeps, quiet_by}
use Rattle.bk_store.specs.Shown.{Shown}
use Rattle.bk_store.specs.Standing.{content_of}
use Rattle.bk_store.proofs.Events.{keeps_event}
use Rattle.bk_store.proofs.Stepping.{crash_still}
use Rattle.bk_store.proofs.Sweeping.{steady_cleaned}
use Rattle.bk_store.proofs.store.Store.sweep.Goals as goal

pub invariant_of-self : goal.invariant_of-self
invariant_of-self g c =
    steady_cleaned g.D.Disk.tells c.self.inside.files c.sweep_keys.new.files c.self.inside.keydir c.sweep_keys.new.keydir
    c.self.inside.last.0 c.self.invariant c.sweep_keys.ensures.cleans

pub returns-clause-quiet : goal.returns-clause-quiet
returns-clause-quiet g c =
    λ tells who.
    let v : Shown = record {
      files = c.self.inside.files;
      keys = c.self.inside.keydir;
      seq = c.self.inside.last.0;
      settings = c.self.inside.settings;
      buffer = vec_capacity c.self.inside.buffer;
    } in
    let u : Shown = record v { files = c.sweep_keys.new.files; keys = c.sweep_keys.new.keydir } in
    subst (λ (x : Shown). Keeps g.D.Disk.tells (quiet_by who) x u) c.self.view_is
    (keeps_event g.D.Disk.tells v u (quiet_by who) refl refl (λ o h left. refl) (λ o h tried stood. tt)
    (λ o h tried stood. c.sweep_keys.ensures.cleans.keeps tells v.settings.ttl (content_of o h tried) stood.content))

pub returns-clause-crash : goal.returns-clause-crash
returns-clause-crash g c =
    λ tells.
    let v : Shown = record {
      files = c.self.inside.files;
      keys = c.self.inside.keydir;
      seq = c.self.inside.last.0;
      settings = c.self.inside.settings;
      buffer = vec_capacity c.self.inside.buffer;
    } in
    let u : Shown = record v { files = c.sweep_keys.new.files; keys = c.sweep_keys.new.keydir } in
    let same = c.sweep_keys.ensures.cleans.alone.same in
    subst (λ (x : Shown). CrashMeets [] x u) c.self.view_is
    (crash_still v u [] (ap (λ (s : Seen). s.told.past) same) (ap (λ (s : Seen). s.told.fronts) same))
