use Rattle.std.proofs.Common.{ℕ, length, ap, ◌∙◌}
use Rattle.bk_crc.specs.Crc.{crc_at, register_after}
use Rattle.bk_hint.proofs.Walks.{passed-none, passed-more, passed-lost, passed-all}
use Rattle.bk_hint.proofs.Walks.{ends-all, ends-more, none_left, shorter, some_left}
use Rattle.bk_hint.proofs.judging.walk_over.Goals as goal

pub loop-left-init : goal.loop-left-init
loop-left-init c =
    let bytes = c.args.bytes.now in
    record {
      passed = passed-none bytes c.args.covered;
      ends = ends-all bytes;
      check = ap (λ (n : ℕ). register_after n bytes) c.new-check.ensures;
    }

pub check_up_to-unchecked-requires : goal.check_up_to-unchecked-requires
check_up_to-unchecked-requires c =
    ends-more c.loop-left.unchecked.now c.loop-left.left.now c.in_ok-header.rest.now
    c.in_ok-header.header c.in_ok-header._key.now c.loop-left.invariant.ends c.in_ok-header.ensures

pub loop-left-preserved : goal.loop-left-preserved
loop-left-preserved c = record {
  passed = rw c.first_of-first_bad.ensures
      (passed-more c.args.bytes.now c.loop-left.left.now c.args.covered c.loop-left.rows
      c.loop-left.first_bad c.in_ok-header.header c.in_ok-header._key.now c.in_ok-header.rest.now
      c.is_sound.result c.loop-left.invariant.passed c.in_ok-header.ensures
      c.is_sound.ensures.0 c.is_sound.ensures.1);
  ends = c.check_up_to-unchecked.ensures.ends;
  check = c.check_up_to-unchecked.ensures.same ∙ c.loop-left.invariant.check;
}

pub loop-left-smaller : goal.loop-left-smaller
loop-left-smaller c =
    shorter c.loop-left.left.now c.in_ok-header.header c.in_ok-header._key.now
    c.in_ok-header.rest.now c.in_ok-header.ensures

pub returns-in_err-header : goal.returns-in_err-header
returns-in_err-header c =
    rw c.from_residual.ensures
    (passed-lost c.args.bytes.now c.loop-left.left.now c.args.covered c.loop-left.rows
    c.loop-left.first_bad c.loop-left.invariant.passed c.in_err-header.ensures
    (some_left (length c.loop-left.left.now) c.loop-left-test.ensures))

pub returns : goal.returns
returns c =
    passed-all c.args.bytes.now c.loop-left.left.now c.args.covered c.loop-left.rows c.end.result
    c.loop-left.first_bad c.loop-left.invariant.passed
    (none_left (length c.loop-left.left.now) c.loop-left-test.ensures)
    (c.end.ensures ∙ ap crc_at (c.add.ensures ∙ c.loop-left.invariant.check))
