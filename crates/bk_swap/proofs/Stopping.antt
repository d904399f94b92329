-- The refusals of `decode` exclude one another.
use Rattle.std.proofs.Common.{◌≡◌, ℕ, List, refl, sym, ◌∙◌, arith}
use Rattle.bk_swap.specs.Stops.{IsSwapStop}
use Rattle.bk_swap.specs.declared.lists.SwapStop.{SwapStop}
use Rattle.bk_swap.specs.declared.lists.SwapStop.TheVariants.{Short, Long, BadCheck, Memory}
use Rattle.bk_swap.proofs.Texts.{reads}

pub one_stop : (bytes : List ℕ) (s t : SwapStop) → IsSwapStop bytes s → IsSwapStop bytes t → s ≡ t
one_stop bytes (Short a b) (Short c d) p q = let x : a ≡ c = p.0 ∙ sym q.0 in let y : b ≡ d = p.1
    ∙ sym q.1 in λ i. Short (x i) (y i)
one_stop bytes (Short a b) (Long c d) p q = absurd (omega (arith, p, q))
one_stop bytes (Short a b) (BadCheck c d) p q = absurd (omega (arith, p.0, p.1, p.2, q.0))
one_stop bytes (Short a b) Memory p q =
    absurd (omega (arith, p.0, p.1, p.2, (reads bytes q.0 q.1).needed))
one_stop bytes (Long a b) (Short c d) p q = absurd (omega (arith, p, q))
one_stop bytes (Long a b) (Long c d) p q = let x : a ≡ c = p.0 ∙ sym q.0 in let y : b ≡ d = p.1
    ∙ sym q.1 in λ i. Long (x i) (y i)
one_stop bytes (Long a b) (BadCheck c d) p q = absurd (omega (arith, p.0, p.1, p.2, q.0))
one_stop bytes (Long a b) Memory p q =
    absurd (omega (arith, p.0, p.1, p.2, (reads bytes q.0 q.1).needed))
one_stop bytes (BadCheck a b) (Short c d) p q = absurd (omega (arith, q.0, q.1, q.2, p.0))
one_stop bytes (BadCheck a b) (Long c d) p q = absurd (omega (arith, q.0, q.1, q.2, p.0))
one_stop bytes (BadCheck a b) (BadCheck c d) p q = let x : a ≡ c = p.1
    ∙ sym q.1 in let y : b ≡ d = p.2 ∙ sym q.2 in λ i. BadCheck (x i) (y i)
one_stop bytes (BadCheck a b) Memory p q = absurd (p.3 (p.1 ∙ (reads bytes q.0 q.1).check
    ∙ sym p.2))
one_stop bytes Memory (Short c d) p q =
    absurd (omega (arith, q.0, q.1, q.2, (reads bytes p.0 p.1).needed))
one_stop bytes Memory (Long c d) p q =
    absurd (omega (arith, q.0, q.1, q.2, (reads bytes p.0 p.1).needed))
one_stop bytes Memory (BadCheck c d) p q = absurd (q.3 (q.1 ∙ (reads bytes p.0 p.1).check
    ∙ sym q.2))
one_stop bytes Memory Memory p q = refl
