use Rattle.std.proofs.Common.{◌≡◌, ◌≤◌, All, None, vec_len, vec_capacity}
use Rattle.bk_turn.proofs.places.empty_places.Given as goal

abbrev pub invariant-loop : goal.invariant-loop
invariant-loop l = record {
  len : vec_len l.places ≡ l.counter;
  room : l.count ≤ vec_capacity l.places;
  empty : All (λ place. place ≡ None) l.places.items;
}
