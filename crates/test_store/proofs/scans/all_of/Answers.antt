use Rattle.std.proofs.Common.{◌≡◌, ℕ, ◌+◌, ap, ◌∙◌}
use Rattle.bk_laws.specs.Record.{size_of}
use Rattle.bk_files.proofs.FirstRecords.{first-more}
use Rattle.test_store.proofs.scans.all_of.Goals as goal

pub loop-found-preserved : goal.loop-found-preserved
loop-found-preserved g c = record {
  rest = c.next.ensures.rest;
  told = λ told. c.next.ensures.told (c.loop-found.invariant.told told);
  len = c.next.ensures.len ∙ c.loop-found.invariant.len;
  first = λ told.
      let next = rw c.expect.ensures at c.next.ensures.found (c.loop-found.invariant.told told) in
      let stands = rw c.in-Some.is at next in
      let there = rw c.expect.ensures at c.next.ensures.placed in
      let placed = rw c.in-Some.is at there in
      let place : c.next.new.self.place ≡ c.loop-found.scan.place + size_of c.in-Some.found.write =
      placed.behind ∙ ap (λ (n : ℕ). c.loop-found.scan.place + n) placed.size in
      rw (c.push.ensures.items, c.expect-in-Some.ensures, place)
      (first-more _ _ _ _ _ c.in-Some.found.write _ (c.loop-found.invariant.first told) stands);
}
