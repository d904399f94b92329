use Rattle.std.proofs.Common.{◌≡◌, ◌-◌, ◌≤◌, Bool, length, min, subst, arith}
use Rattle.bk_store.specs.Sweeps.{GoesOnAt, IsVisited}
use Rattle.bk_store.proofs.Sweeping.{sweep_begins, sweep_drops, sweep_ends, sweep_passes, sweep_within}
use Rattle.bk_store.proofs.sweeps.sweep_keys.Goals as goal
use Rattle.bk_store.proofs.sweeps.sweep_keys.Goals.{else-has_gone, then-has_gone}

pub loop-visit-init : goal.loop-visit-init
loop-visit-init g c = sweep_begins g.D.Disk.tells c.args.from c.args.files.now c.args.keydir.now

pub visit-older-requires : goal.visit-older-requires
visit-older-requires g c =
    let are : c.min-visits.result ≡ min c.args.n (length c.args.keydir.now.entries - c.args.from) =
    omega (arith, c.min-visits.ensures, c.from.ensures, c.saturating_sub.ensures, c.len.ensures.len) in
    let within = sweep_within g.D.Disk.tells c.args.from c.args.n c.args.files.now c.args.keydir.now c.loop-visit.files c.loop-visit.keydir
    c.loop-visit.position c.loop-visit.pruned c.loop-visit.dropped c.loop-visit._visit c.min-visits.result are c.loop-visit-test.true
    c.loop-visit.invariant in
    within

pub overflow_add-dropped : goal.overflow_add-dropped
overflow_add-dropped g c =
    let few : c.loop-visit.dropped ≤ c.loop-visit._visit = c.loop-visit.invariant.few in
    omega (arith, few, c.loop-visit-test.true, c.min-visits.type_inv)

pub overflow_add-position : goal.overflow_add-position
overflow_add-position g c =
    let are : c.min-visits.result ≡ min c.args.n (length c.args.keydir.now.entries - c.args.from) =
    omega (arith, c.min-visits.ensures, c.from.ensures, c.saturating_sub.ensures, c.len.ensures.len) in
    let within = sweep_within g.D.Disk.tells c.args.from c.args.n c.args.files.now c.args.keydir.now c.loop-visit.files c.loop-visit.keydir
    c.loop-visit.position c.loop-visit.pruned c.loop-visit.dropped c.loop-visit._visit c.min-visits.result are c.loop-visit-test.true
    c.loop-visit.invariant in
    omega (arith, within, c.loop-visit.invariant.keys_left, c.len.ensures.small, c.len.ensures.len)

pub loop-visit-preserved : goal.loop-visit-preserved
loop-visit-preserved g c =
    elim c.if-has_gone.branch [
      | then-has_gone w ↦
          rw (w.position-is, w.dropped-is)
          (sweep_drops g.D.Disk.tells c.args.from c.loop-visit._visit c.args.files.now c.args.keydir.now c.loop-visit.files c.loop-visit.keydir
          c.visit-older.new.files c.visit-older.new.keydir c.loop-visit.position c.loop-visit.pruned c.loop-visit.dropped
          c.visit-older.result.0 c.saturating_add-pruned.result c.loop-visit.invariant
          (subst (λ (b : Bool). IsVisited c.loop-visit.position c.visit-older.result.0 b c.loop-visit.keydir c.visit-older.new.keydir)
          w.if-has_gone.true c.visit-older.ensures.visited) c.visit-older.ensures.cleans c.saturating_add-pruned.ensures)
      | else-has_gone w ↦
          rw (w.position-is, w.dropped-is)
          (sweep_passes g.D.Disk.tells c.args.from c.loop-visit._visit c.args.files.now c.args.keydir.now c.loop-visit.files c.loop-visit.keydir
          c.visit-older.new.files c.visit-older.new.keydir c.loop-visit.position c.loop-visit.pruned c.loop-visit.dropped
          c.visit-older.result.0 c.saturating_add-pruned.result c.loop-visit.invariant
          (subst (λ (b : Bool). IsVisited c.loop-visit.position c.visit-older.result.0 b c.loop-visit.keydir c.visit-older.new.keydir)
          w.if-has_gone.false c.visit-older.ensures.visited) c.visit-older.ensures.cleans c.saturating_add-pruned.ensures)
    ]

pub returns-clause-swept : goal.returns-clause-swept
returns-clause-swept g c =
    let are : c.loop-visit._visit ≡ min c.args.n (length c.args.keydir.now.entries - c.args.from) =
    omega (
      arith,
      c.min-visits.ensures,
      c.from.ensures,
      c.saturating_sub.ensures,
      c.len.ensures.len,
      c.loop-visit-test.false,
      c.loop-visit.auto._visit-end,
    ) in
    sweep_ends g.D.Disk.tells c.args.from c.args.n c.args.files.now c.args.keydir.now c.loop-visit.files c.loop-visit.keydir
    c.loop-visit.position c.loop-visit.pruned c.loop-visit.dropped c.loop-visit._visit c.next_below.result are c.loop-visit.invariant
    (subst (λ n. GoesOnAt c.next_below.result n c.loop-visit.position) c.len-2.ensures.len c.next_below.ensures)

pub returns-clause-cleans : goal.returns-clause-cleans
returns-clause-cleans g c = c.loop-visit.invariant.cleans
