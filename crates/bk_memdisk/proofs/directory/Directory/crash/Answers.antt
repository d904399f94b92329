use Rattle.std.proofs.Common.{◌∙◌, ◌++◌, ◌∷◌, [], ap, sym, subst, take, refl}
use Rattle.std.specs.Option.{is_some}
use Rattle.std.proofs.lemmas.List.{take_all}
use Rattle.bk_disk.specs.Told.{IsOnce, names, at}
use Rattle.bk_disk.specs.Crashes.{MayLeave}
use Rattle.bk_memdisk.specs.Contents.{Contents}
use Rattle.bk_memdisk.specs.Journal.{after_all, fronts_of}
use Rattle.bk_memdisk.proofs.Left
use Rattle.bk_memdisk.proofs.directory.Directory.crash.Goals as goal

pub loop-file-init : goal.loop-file-init
loop-file-init c = rw c.new-after.ensures (refl, refl, tt)

pub left-requires : goal.left-requires
left-requires c =
    let is = rw c.deref-file-items.ensures.value at c.file-item.is in
    let below = rw c.deref-file-items.ensures.value at c.loop-file-test.true in
    rw c.deref.ensures.value (Left.tied_synced c.self.inside.files.items (after_all [] c.self.inside.journal.items)
    c.loop-file.file-index c.file-item.result c.self.invariant.tied below is)

pub loop-file-preserved : goal.loop-file-preserved
loop-file-preserved c =
    let file = c.file-item.result in
    let is = rw c.deref-file-items.ensures.value at c.file-item.is in
    let below = rw c.deref-file-items.ensures.value at c.loop-file-test.true in
    let once = subst (λ (v : Contents). IsOnce (names v.told.image)) (sym c.self.view_is) c.requires in
    let so_far = c.loop-file.invariant in
    let absent = ap (λ t. is_some (at t file.name)) so_far.0
    ∙ Left.next_absent c.args.choice.now.keep c.args.choice.now.flips.items c.self.inside.files.items
    c.loop-file.file-index file once below is in
    let bytes = c.in_ok-bytes.bytes in
    let left = rw c.deref.ensures.value at c.in_ok-bytes.ensures.left in
    let next =
    Left.placed_next file.name bytes.items c.loop-file.after.told c.place.new.self.told absent
    so_far.1 c.in_ok-place.ensures.ok in (
      next.0
          ∙ ap (λ t. t ++ (file.name, bytes.items) ∷ []) so_far.0
          ∙ ap (λ b. Left.image_left c.args.choice.now.keep c.args.choice.now.flips.items
          (take c.loop-file.file-index c.self.inside.files.items) ++ (file.name, b) ∷ []) left
          ∙ sym (Left.left_next c.args.choice.now.keep c.args.choice.now.flips.items
          c.self.inside.files.items c.loop-file.file-index file below is),
      next.1,
      subst Left.AreAllBytes (sym next.0)
          (Left.all_bytes_append c.loop-file.after.told.image file.name bytes.items so_far.2
          c.in_ok-bytes.ensures.are_bytes),
    )

pub returns-clause-image : goal.returns-clause-image
returns-clause-image c =
    let past = rw c.deref-file-items.ensures.value at c.loop-file-test.false in
    let whole = c.loop-file.invariant.0 ∙ ap (Left.image_left c.args.choice.now.keep c.args.choice.now.flips.items)
    (take_all c.loop-file.file-index c.self.inside.files.items past) in
    rw (← c.self.view_is) (whole ∙ Left.crashed_is c.args.choice.now.keep c.args.choice.now.flips.items
    c.self.inside.files.items (after_all [] c.self.inside.journal.items) c.self.invariant.tied)

pub returns-clause-may_leave : goal.returns-clause-may_leave
returns-clause-may_leave c =
    let past = rw c.deref-file-items.ensures.value at c.loop-file-test.false in
    let whole = c.loop-file.invariant.0 ∙ ap (Left.image_left c.args.choice.now.keep c.args.choice.now.flips.items)
    (take_all c.loop-file.file-index c.self.inside.files.items past) in
    let may = Left.may_leave c.args.choice.now.keep c.args.choice.now.flips.items c.self.inside.files.items
    (after_all [] c.self.inside.journal.items) c.self.invariant.tied (subst Left.AreAllBytes whole
    c.loop-file.invariant.2) in
    rw (← c.self.view_is) (subst (MayLeave (fronts_of (after_all [] c.self.inside.journal.items))) (sym whole) may)
