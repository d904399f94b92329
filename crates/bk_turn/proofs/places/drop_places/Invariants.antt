use Rattle.std.proofs.Common.{◌≡◌, All, None}
use Rattle.bk_turn.proofs.places.drop_places.Given as goal

abbrev pub invariant-loop-place : goal.invariant-loop-place
invariant-loop-place l = All (λ place. place ≡ None) l.places.items

abbrev pub decreases-loop-place : goal.decreases-loop-place
decreases-loop-place l = goal.left-loop-place l
