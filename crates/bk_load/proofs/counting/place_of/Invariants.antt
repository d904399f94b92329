use Rattle.std.proofs.Common.{◌-◌, ℕ, ◌<◌, ◌≤◌, length, get_or}
use Rattle.bk_load.proofs.Counted.{a_row}
use Rattle.bk_load.proofs.counting.place_of.Given as goal

-- all rows before `low` have lesser ids, and those from `high` on greater ones
abbrev pub invariant-loop-low : goal.invariant-loop-low
invariant-loop-low l = (l.low ≤ l.high) × (l.high ≤ length l.rows)
    × ((k : ℕ) → k < l.low → (get_or l.rows k a_row).id.0 < l.id)
    × ((k : ℕ) → l.high ≤ k → k < length l.rows → l.id < (get_or l.rows k a_row).id.0)

abbrev pub decreases-loop-low : goal.decreases-loop-low
decreases-loop-low l = l.high - l.low
