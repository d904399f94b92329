-- Which calls fail: the last choice of a call counts.
use Rattle.std.proofs.Common.{◌≡◌, ℕ, ◌+◌, ◌<◌, ◌==◌, cond, List, [], ◌∷◌, ◌++◌, length, take, drop, get_or, sym, ◌∙◌, ap, arith}
use Rattle.std.proofs.lemmas.List.{map-append, take-append-drop, take_more}
use Rattle.std.specs.declared.option.Option.TheVariants.{None, Some}
use Rattle.bk_memdisk.specs.declared.plans.Chosen.{Chosen}
use Rattle.bk_memdisk.specs.Plans.{effect_of, or_else}
use Rattle.bk_memdisk.specs.Chosen.{pairs_of}

effect_of-append : (call : ℕ) (cs : List (ℕ × ℕ)) (c : ℕ × ℕ)
    → effect_of call (cs ++ c ∷ []) ≡ or_else (cond (c.0 == call) (Some c.1) None) (effect_of call cs)
effect_of-append call [] c = grind arith
effect_of-append call (d ∷ ds) c = grind (arith, effect_of-append call ds c)

effect_of-more : (call : ℕ) (cs : List Chosen) (i : ℕ) (d : Chosen) → i < length cs
    → effect_of call (pairs_of (take (i + 1) cs)) ≡ or_else (cond ((get_or cs i d).call == call)
    (Some (get_or cs i d).effect) None) (effect_of call (pairs_of (take i cs)))
effect_of-more call cs i d lt =
    ap (λ xs. effect_of call (pairs_of xs)) (take_more cs i d lt)
    ∙ ap (effect_of call) (map-append (λ (x : Chosen). (x.call, x.effect)) (take i cs) (get_or cs i d ∷ []))
    ∙ effect_of-append call (pairs_of (take i cs)) ((get_or cs i d).call, (get_or cs i d).effect)

-- the next choice is of this call
pub effect_of-this : (call : ℕ) (cs : List Chosen) (i : ℕ) (d : Chosen) → i < length cs
    → (get_or cs i d).call ≡ call → effect_of call (pairs_of (take (i + 1) cs)) ≡ Some (get_or cs i d).effect
effect_of-this call cs i d lt this = effect_of-more call cs i d lt ∙ grind (arith, this)

-- the next choice is of another call
pub effect_of-other : (call : ℕ) (cs : List Chosen) (i : ℕ) (d : Chosen) → i < length cs
    → ((get_or cs i d).call ≡ call → ⊥) → effect_of call (pairs_of (take (i + 1) cs)) ≡ effect_of call
    (pairs_of (take i cs))
effect_of-other call cs i d lt other = effect_of-more call cs i d lt ∙ grind (arith, other)

pub pairs_split : (n : ℕ) (cs : List Chosen) → pairs_of (take n cs) ++ pairs_of (drop n cs) ≡ pairs_of cs
pairs_split n cs = sym (map-append (λ (x : Chosen). (x.call, x.effect)) (take n cs) (drop n cs))
    ∙ ap pairs_of (take-append-drop n cs)
