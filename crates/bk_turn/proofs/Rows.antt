-- Rows of places with passes that were split from one.
use Rattle.std.proofs.Common.{◌≡◌, ℕ, suc, ◌<◌, List, [], ◌∷◌, length, get_or, All, Option, Some, None, refl, ap, ◌∙◌, arith}
use Rattle.std.proofs.lemmas.List.Sums.{sum_by-cons}
use Rattle.bk_turn.specs.declared.passes.Pass.{Pass}
use Rattle.bk_turn.specs.declared.views.View.{View}
use Rattle.bk_turn.specs.Handles.{TurnId, pass_turn}
use Rattle.bk_turn.specs.Places.{place_view, HasPass, HasSplit, weights_of}

-- a split pass is a pass of its turn
pub split_is_pass : (turn : TurnId) (view : View) (place : Option Pass) → HasSplit turn view place → HasPass turn place
split_is_pass turn view None h = absurd h
split_is_pass turn view (Some pass) h = (λ found is. let same : found ≡ pass = cc (is) in ap pass_turn same ∙ h.0, refl)

pub splits_are_passes : (turn : TurnId) (view : View) (places : List (Option Pass))
    → All (HasSplit turn view) places → All (HasPass turn) places
splits_are_passes turn view places all k d lt = split_is_pass turn view (get_or places k d) (all k d lt)

split_weight : (turn : TurnId) (view : View) (place : Option Pass) → HasSplit turn view place
    → (place_view place).weight ≡ 1
split_weight turn view None h = absurd h
split_weight turn view (Some pass) h = ap (λ (v : View). v.weight) h.1

-- so many passes that were split from one have so much weight
pub splits_weigh : (turn : TurnId) (view : View) (places : List (Option Pass))
    → All (HasSplit turn view) places → weights_of places ≡ length places
splits_weigh turn view [] all = refl
splits_weigh turn view (place ∷ places) all = let w =
    split_weight turn view place (all 0 place (omega arith)) in let rest =
    splits_weigh turn view places (λ k d lt. all (suc k) d (omega arith)) in
    let s = sum_by-cons (λ (p : Option Pass). (place_view p).weight) place places in omega arith

-- passes that keep their weights keep them together
pub weights_kept : (old now : List (Option Pass)) → length now ≡ length old
    → ((k : ℕ) (d : Option Pass) → k < length old
    → (place_view (get_or now k d)).weight ≡ (place_view (get_or old k d)).weight)
    → weights_of now ≡ weights_of old
weights_kept [] [] same each = refl
weights_kept [] (y ∷ ys) same each = absurd (omega arith)
weights_kept (x ∷ xs) [] same each = absurd (omega arith)
weights_kept (x ∷ xs) (y ∷ ys) same each = let w : (place_view y).weight ≡ (place_view x).weight =
    each 0 x (omega arith) in let rest =
    weights_kept xs ys (omega arith) (λ k d lt. each (suc k) d (omega arith)) in
    let s = sum_by-cons (λ (p : Option Pass). (place_view p).weight) x xs in let t =
    sum_by-cons (λ (p : Option Pass). (place_view p).weight) y ys in omega arith
