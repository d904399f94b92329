use Rattle.std.proofs.Common.{◌≡◌, ℕ, None, length}
use Rattle.bk_drill.specs.Loans.{loan_in}
use Rattle.bk_drill.proofs.loans.Loans.new.Given as goal

abbrev pub invariant-loop : goal.invariant-loop
invariant-loop l = record {
  long : length l.kept.items ≡ l.counter;
  none : (n : ℕ) → loan_in l.kept.items n ≡ None;
}
