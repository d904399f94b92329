use Rattle.std.proofs.Common.{◌≡◌, ◌⊎◌, ℕ, ◌+◌, ◌-◌, ◌/◌, ◌<◌, ◌≤◌, length, get_or, sym, subst, inl, inr, arith}
use Rattle.std.proofs.lemmas.Bool.{cases_lt}
use Rattle.std.proofs.lemmas.Bool.Decides.{nat_tests}
use Rattle.bk_load.proofs.Counted.{a_row, no_place, place_is, rise_at}
use Rattle.bk_load.proofs.counting.place_of.Goals as goal

pub offset_bounds-rows-middle : goal.offset_bounds-rows-middle
offset_bounds-rows-middle c =
    let i = c.loop-low.invariant in
    let high = i.1 in
    let lt = c.loop-low-test.true in
    let w = c.well_formed in
    grind (arith, w, high, lt)

pub bounds-rows-middle : goal.bounds-rows-middle
bounds-rows-middle c =
    let i = c.loop-low.invariant in let high = i.1 in let lt = c.loop-low-test.true in omega (arith, high, lt)

pub returns-then-here-id : goal.returns-then-here-id
returns-then-here-id c =
    let i = c.loop-low.invariant in
    let high = i.1 in
    let lt = c.loop-low-test.true in
    let middle : ℕ = c.loop-low.low + (c.loop-low.high - c.loop-low.low) / 2 in
    sym (place_is c.args.rows.now middle c.args.id a_row c.requires (omega (arith, high, lt)) c.if-here-id.true)

pub loop-low-preserved-then-here-id-2 : goal.loop-low-preserved-then-here-id-2
loop-low-preserved-then-here-id-2 c =
    let i = c.loop-low.invariant in
    let high = i.1 in
    let lt = c.loop-low-test.true in
    let less = c.if-here-id-2.true in (
      omega (arith, lt),
      i.1,
      λ k below. go k (cases_lt k (c.loop-low.low + (c.loop-low.high - c.loop-low.low) / 2)) below,
      i.3,
    ) where
      middle : ℕ
      middle = c.loop-low.low + (c.loop-low.high - c.loop-low.low) / 2

      go : (k : ℕ) → (k < middle) ⊎ (middle ≤ k) → k < middle + 1 → (get_or c.args.rows.now k a_row).id.0 < c.args.id
      go k (inl low) below =
          let high = c.loop-low.invariant.1 in
          let lt = c.loop-low-test.true in
          let p = rise_at 0 c.args.rows.now k middle a_row c.requires low (omega (arith, high, lt)) in
          let less = c.if-here-id-2.true in
          omega (arith, p, less)
      go k (inr same) below =
          let is : middle ≡ k = omega (arith, same, below) in
          subst (λ (n : ℕ). (get_or c.args.rows.now n a_row).id.0 < c.args.id) is c.if-here-id-2.true

pub loop-low-preserved : goal.loop-low-preserved
loop-low-preserved c =
    let i = c.loop-low.invariant in
    let high = i.1 in
    let lt = c.loop-low-test.true in (
      omega (arith, lt),
      omega (arith, high, lt),
      i.2,
      λ k above within. go k (cases_lt (c.loop-low.low + (c.loop-low.high - c.loop-low.low) / 2) k) above within,
    ) where
      middle : ℕ
      middle = c.loop-low.low + (c.loop-low.high - c.loop-low.low) / 2

      here : c.args.id < (get_or c.args.rows.now middle a_row).id.0
      here = let no = c.if-here-id.false in let more = c.if-here-id-2.false in grind (arith, nat_tests, no, more)

      go : (k : ℕ) → (middle < k) ⊎ (k ≤ middle) → middle ≤ k → k < length c.args.rows.now
          → c.args.id < (get_or c.args.rows.now k a_row).id.0
      go k (inl high) above within =
          let p = rise_at 0 c.args.rows.now middle k a_row c.requires high within in let q = here in omega (arith, p, q)
      go k (inr same) above within =
          let is : middle ≡ k = omega (arith, same, above) in
          subst (λ (n : ℕ). c.args.id < (get_or c.args.rows.now n a_row).id.0) is here

pub returns : goal.returns
returns c =
    let i = c.loop-low.invariant in
    let low = i.0 in
    let ended = c.loop-low-test.false in
    let same : c.loop-low.low ≡ c.loop-low.high = omega (arith, low, ended) in
    sym (no_place c.args.rows.now c.args.id c.loop-low.low a_row i.2 (λ k above within. i.3 k (omega (arith, above, same)) within))
