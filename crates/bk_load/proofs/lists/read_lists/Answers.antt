use Rattle.std.proofs.Common.{◌∙◌, refl, rules}
use Rattle.bk_base.specs.declared.names.Kind.TheVariants.{Swap}
use Rattle.bk_load.proofs.Courses.{came_refl, came_trans, course_after, course_memory}
use Rattle.bk_load.proofs.Numbering.{are_numbers, number_view_now}
use Rattle.bk_load.proofs.ReadLists.{lists_done, odd_done, read_none, swap_more}
use Rattle.bk_load.proofs.lists.read_lists.Goals as goal

pub loop-swap-init : goal.loop-swap-init
loop-swap-init g c = record {
  came = came_refl _ _;
  image = λ tells. refl;
  read = λ tells. read_none _ _ c.new.ensures.items c.new-2.ensures.items;
}

pub read_whole-requires : goal.read_whole-requires
read_whole-requires g c = λ tells.
    let image = (g.D.Disk.shown c.args.disk.now).told.image in
    let numbers = are_numbers image c.args.files.now Swap 0 c.in_ok-swaps.swaps.items c.deref-swap-items.result.now
    (g.met.D.Disk.well c.args.disk.now tells).once (c.requires tells) c.in_ok-swaps.ensures c.deref-swap-items.ensures.value in
    number_view_now image (g.D.Disk.shown c.loop-swap.disk).told.image Swap 0 _ _ _ c.named-name.result numbers (λ e. cc e)
    c.loop-swap-test.true c.named-name.ensures (c.loop-swap.invariant.image tells)

pub loop-swap-preserved : goal.loop-swap-preserved
loop-swap-preserved g c = record {
  came = came_trans _ _ _ _ c.loop-swap.invariant.came c.read_whole.ensures.course.came;
  image = λ tells. c.read_whole.ensures.image tells ∙ c.loop-swap.invariant.image tells;
  read = λ tells.
      let image = (g.D.Disk.shown c.args.disk.now).told.image in
      let numbers = are_numbers image c.args.files.now Swap 0 c.in_ok-swaps.swaps.items c.deref-swap-items.result.now
      (g.met.D.Disk.well c.args.disk.now tells).once (c.requires tells) c.in_ok-swaps.ensures c.deref-swap-items.ensures.value in
      swap_more image (g.D.Disk.shown c.loop-swap.disk).told.image _ _ _ c.named-name.result c.in_ok-bytes.bytes.items
      c.deref.result.now _ _ numbers (c.loop-swap.invariant.image tells) c.loop-swap-test.true c.named-name.ensures
      c.deref.ensures.value (c.in_ok-bytes.ensures.bytes tells) c.in_ok-take.ensures (c.loop-swap.invariant.read tells);
}

pub returns-clause-whole : goal.returns-clause-whole
returns-clause-whole g c = λ tells.
    let image = (g.D.Disk.shown c.args.disk.now).told.image in
    let numbers = are_numbers image c.args.files.now Swap 0 c.in_ok-swaps.swaps.items c.deref-swap-items.result.now
    (g.met.D.Disk.well c.args.disk.now tells).once (c.requires tells) c.in_ok-swaps.ensures c.deref-swap-items.ensures.value in
    lists_done image _ _ _ numbers c.loop-swap-test.false (c.loop-swap.invariant.read tells)

pub returns-clause-odd : goal.returns-clause-odd
returns-clause-odd g c = λ tells.
    let image = (g.D.Disk.shown c.args.disk.now).told.image in
    let numbers = are_numbers image c.args.files.now Swap 0 c.in_ok-swaps.swaps.items c.deref-swap-items.result.now
    (g.met.D.Disk.well c.args.disk.now tells).once (c.requires tells) c.in_ok-swaps.ensures c.deref-swap-items.ensures.value in
    odd_done image _ _ _ numbers c.loop-swap-test.false (c.loop-swap.invariant.read tells)

pub returns-in_err-bytes-clause-course : goal.returns-in_err-bytes-clause-course
returns-in_err-bytes-clause-course g c = course_after _ _ _ _ _ c.loop-swap.invariant.came (search rules)

pub returns-in_err-swaps-clause-course : goal.returns-in_err-swaps-clause-course
returns-in_err-swaps-clause-course g c = course_memory _ _ _ _ (came_refl _ _) c.from_residual.ensures.1

pub returns-in_err-take-clause-course : goal.returns-in_err-take-clause-course
returns-in_err-take-clause-course g c =
    course_memory _ _ _ _ (came_trans _ _ _ _ c.loop-swap.invariant.came c.read_whole.ensures.course.came)
    c.from_residual-in_err-take.ensures.1
