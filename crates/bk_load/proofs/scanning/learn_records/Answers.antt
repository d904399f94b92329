use Rattle.std.proofs.Common.{◌∙◌, arith, refl}
use Rattle.bk_load.proofs.Places.{within_at, within_more, within_none}
use Rattle.bk_load.proofs.Scans.{found_fits, found_within, scanning_more, scanning_none}
use Rattle.bk_load.proofs.scanning.learn_records.Goals as goal

pub records-init : goal.records-init
records-init g c = record {
  rest = c.requires;
  told = λ told. told;
  len = refl;
  file = refl;
  so = λ told. scanning_none _ _ _ _;
  kept = within_none _ _ _;
  fit = λ fit. fit;
  later = omega arith;
  fallible = refl;
}

pub learn-requires : goal.learn-requires
learn-requires g c = found_fits c.in-Some.found _ _ (rw c.in-Some.is at c.in_ok-found.ensures.placed)

pub records-preserved : goal.records-preserved
records-preserved g c = record {
  rest = c.next_key.ensures.rest;
  told = λ told. c.next_key.ensures.told (c.records.invariant.told told);
  len = c.next_key.ensures.len ∙ c.records.invariant.len;
  file = c.next_key.ensures.file ∙ c.records.invariant.file;
  so = λ told.
      let finds = rw c.in-Some.is at (c.in_ok-found.ensures.found (c.records.invariant.told told)) in
      let placed = rw c.in-Some.is at c.in_ok-found.ensures.placed in
      scanning_more _ _ _ c.records.scan _ _ c.in-Some.found _ _ _ _ (c.records.invariant.so told) c.records.invariant.file
      finds placed.behind
      (record {
        learns = c.in_ok-learn.ensures.learns;
        grows = c.in_ok-learn.ensures.grows;
        last = c.in_ok-learn.ensures.last;
      });
  kept =
      let placed = rw c.in-Some.is at c.in_ok-found.ensures.placed in
      let ends = found_within c.in-Some.found _ _ placed in
      let at = ends.1 in
      let now = c.next_key.ensures.len in
      let before = c.records.invariant.len in
      within_more _ _ _ _ _ c.records.invariant.kept
      (within_at _ _ _ _ _ _ (ends.0 ∙ c.records.invariant.file) (omega (arith, at, now, before)) c.in_ok-learn.ensures.kept);
  fit = λ fit. c.in_ok-learn.ensures.fit (c.records.invariant.fit fit);
  later = let p = c.next_key.ensures.cause.later in let q = c.records.invariant.later in omega (arith, p, q);
  fallible = c.next_key.ensures.cause.fallible ∙ c.records.invariant.fallible;
}
