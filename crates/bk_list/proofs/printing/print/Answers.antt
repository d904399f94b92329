use Rattle.std.proofs.Common.{is_lt, rules}
use Rattle.std.specs.Cmp.Lexicographic.{slice_cmp}
use Rattle.std.specs.Ordering.{nat_cmp}
use Rattle.std.proofs.Common.{List, ℕ, subst}
use Rattle.std.proofs.lemmas.Cmp.{nat_list_cmp_total}
use Rattle.std.proofs.lemmas.Fn.{always_returns_same}
use Rattle.std.proofs.lemmas.List.Sorted.{ranks_by}
use Rattle.bk_list.specs.Getting.{PrintsKeys}
use Rattle.bk_list.proofs.printing.print.Goals as goal

pub returns-clause-prints : goal.returns-clause-prints
returns-clause-prints g c = λ known sub. record {
  sorted = c.sort_unstable_by.new.self.items;
  same = c.sort_unstable_by.ensures.permutation;
  rise = c.sort_unstable_by.ensures.sorted (λ a b. is_lt (slice_cmp nat_cmp a b))
      (ranks_by nat_list_cmp_total (λ (x : List ℕ). x)) (always_returns_same _ _ _ (λ a r f k. search rules));
  prints = subst (λ (keys : List (List ℕ)). PrintsKeys known g.K.Sink.tells c.print_pairs.result c.args.now keys c.args.store.now
      c.print_pairs.new.store (g.K.Sink.written c.args.sink.now) (g.K.Sink.written c.print_pairs.new.sink))
      c.as_slice.ensures.value (c.print_pairs.ensures.prints known sub);
}
