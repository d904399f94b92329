use Rattle.std.proofs.Common.{◌∙◌, ap, refl}
use Rattle.bk_disk.specs.Shown.{DiskShown}
use Rattle.bk_files.specs.Catalog.{Known}
use Rattle.bk_memdisk.specs.Disk.{told_by}
use Rattle.bk_memdisk.specs.Plans.{counted_to}
use Rattle.bk_drill.proofs.Stopping.{plan_is, recovered_is}
use Rattle.bk_drill.proofs.stops.recover_store.Goals as goal

pub returns : goal.returns
returns c =
    recovered_is c.args.settings (told_by c.args.disk) (told_by c.recover.new.disk) c.in-Ok.loaded c.start-store.result
    c.stat-keys.result
    (record {
      store = c.stat-keys.new.self;
      torn = c.in-Ok-to_vec.torn;
      seq = c.in-Ok.loaded.last_seq;
      keys = c.stat-keys.result.keys;
      plan = c.count_to.new.self;
    })
    c.stat-keys.ensures.same (ap (λ (x : DiskShown). x.told) c.start-store.ensures.shown) (ap (λ (k : Known). k.max_file) c.start-store.ensures.catalog)
    c.start-store.ensures.keys c.start-store.ensures.seq c.start-store.ensures.settings c.in-Ok.ensures.order
    (c.in-Ok.ensures.loaded refl) (c.in-Ok.ensures.course.came.goes refl).tidied
    (ap (λ (k : Known). k.last) c.start-store.ensures.catalog) (c.in-Ok.ensures.last_file refl) c.stat-keys.ensures.stat refl
    refl (c.in-Ok-to_vec.ensures.items_if_clones_equal (λ x y is. is) ∙ c.deref.ensures.value)
    (plan_is c.count_to.new.self c.calls.result (c.count_to.ensures ∙ ap (counted_to c.calls.result) c.new-plan.ensures))
    (λ log sound. c.start-store.ensures.stands refl log (c.in-Ok.ensures.sound refl log sound))
