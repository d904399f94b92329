use Rattle.std.proofs.Common.{◌∙◌, refl}
use Rattle.bk_load.proofs.HintRows.{gives_file, gives_fits, gives_further, gives_later, gives_within, taking_all, taking_more, taking_none}
use Rattle.bk_load.proofs.Places.{within_at, within_more, within_none}
use Rattle.bk_load.proofs.hints.learn_rows.Goals as goal

pub rows-init : goal.rows-init
rows-init c = rw c.new-reader.ensures (record {
  left = c.requires;
  file = refl;
  kept = λ covered rows left. (rows, left, within_none c.args.file covered c.args.learned.now.keys.entries);
  fit = λ fit. fit;
  so = λ covered writes left fit. taking_none c.args.bytes.now c.args.file covered writes c.args.learned.now left;
})

pub learn-requires : goal.learn-requires
learn-requires c =
    let covered = c.rows.invariant.left.0 in
    let rows = c.rows.invariant.left.1 in
    let left = c.rows.invariant.left.2 in
    gives_fits c.args.bytes.now c.rows.reader c.next.new.self _ _ covered rows left
    (rw c.in-Some.is at (c.in_ok-row.ensures.ok covered rows left))

pub rows-preserved : goal.rows-preserved
rows-preserved c =
    let covered = c.rows.invariant.left.0 in
    let rows = c.rows.invariant.left.1 in
    let left = c.rows.invariant.left.2 in
    let gives = rw c.in-Some.is at (c.in_ok-row.ensures.ok covered rows left) in
    let later = gives_later c.args.bytes.now c.rows.reader c.next.new.self _ _ covered rows gives in
    record {
      left = (covered, later.0, later.1);
      file = gives_file c.args.bytes.now c.rows.reader c.next.new.self _ _ covered rows gives ∙ c.rows.invariant.file;
      kept = λ k all there.
          let so = c.rows.invariant.kept k all there in
          let gives = rw c.in-Some.is at (c.in_ok-row.ensures.ok k so.0 so.1) in
          let next = gives_later c.args.bytes.now c.rows.reader c.next.new.self _ _ k so.0 gives in
          let ends = gives_within c.args.bytes.now c.rows.reader c.next.new.self _ _ k so.0 so.1 gives in (
            next.0,
            next.1,
            within_more c.args.file k _ _ _ so.2
                (within_at _ c.args.file _ k _ _ (ends.0 ∙ c.rows.invariant.file) ends.1 c.in_ok-learn.ensures.kept),
          );
      fit = λ fit. c.in_ok-learn.ensures.fit (c.rows.invariant.fit fit);
      so = λ k writes there fit.
          let so = c.rows.invariant.so k writes there fit in
          taking_more c.args.bytes.now c.args.file k writes c.rows.reader c.next.new.self _ _ _ _ _ so fit c.rows.invariant.file
          (rw c.in-Some.is at (c.in_ok-row.ensures.ok k _ so.left))
          (record {
            learns = c.in_ok-learn.ensures.learns;
            grows = c.in_ok-learn.ensures.grows;
            last = c.in_ok-learn.ensures.last;
          });
    }

pub rows-smaller : goal.rows-smaller
rows-smaller c =
    let covered = c.rows.invariant.left.0 in
    let rows = c.rows.invariant.left.1 in
    let left = c.rows.invariant.left.2 in
    gives_further c.args.bytes.now c.rows.reader c.next.new.self _ _ covered rows
    (rw c.in-Some.is at (c.in_ok-row.ensures.ok covered rows left))

pub returns-clause-fit : goal.returns-clause-fit
returns-clause-fit c = c.rows.invariant.fit

pub returns-clause-taken : goal.returns-clause-taken
returns-clause-taken c = λ covered writes left fit.
    let so = c.rows.invariant.so covered writes left fit in
    let gives = rw c.in_default.is at (c.in_ok-row.ensures.ok covered _ so.left) in
    taking_all c.args.bytes.now c.args.file covered writes _ _ _ so gives.0

pub returns-clause-kept : goal.returns-clause-kept
returns-clause-kept c = λ covered rows left. (c.rows.invariant.kept covered rows left).2
