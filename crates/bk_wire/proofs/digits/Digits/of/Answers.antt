use Rattle.std.proofs.Common.{◌≡◌, ℕ, ◌+◌, ◌-◌, ◌/◌, ◌%◌, ◌^◌, ◌<◌, ◌≤◌, List, [], ◌∷◌, ◌++◌, length, drop, set, decimal, sym, ap}
use Rattle.std.proofs.Common.{◌∙◌, arith, append_assoc, length-set}
use Rattle.std.proofs.lemmas.List.{drop-set}
use Rattle.std.proofs.lemmas.Grind.{pow_more}
use Rattle.std.proofs.lemmas.Fmt.{decimal_digit, decimal_step_wide}
use Rattle.bk_wire.proofs.digits.Digits.of.Goals as goal

-- the place before i gets a byte
one_before : (bytes : List ℕ) (i b : ℕ) → 0 < i → i ≤ length bytes
    → drop (i - 1) (set bytes (i - 1) b) ≡ b ∷ drop i bytes
one_before bytes i b some within =
    let next : i - 1 + 1 ≡ i = omega arith in
    drop-set bytes (i - 1) b (omega arith) ∙ ap (λ k. b ∷ drop k bytes) next

last_digit : (number rest i : ℕ) (bytes : List ℕ) → 0 < i → i ≤ length bytes → rest < 10
    → decimal number ≡ decimal rest ++ drop i bytes → drop (i - 1) (set bytes (i - 1) (48 + rest % 10)) ≡ decimal number
last_digit number rest i bytes some within one so_far =
    let digit : 48 + rest % 10 ≡ 48 + rest = omega arith in
    one_before bytes i (48 + rest % 10) some within
    ∙ ap (λ d. d ∷ drop i bytes) digit
    ∙ ap (λ ds. ds ++ drop i bytes) (sym (decimal_digit rest one))
    ∙ sym so_far

next_digit : (number rest i : ℕ) (bytes : List ℕ) → 0 < i → i ≤ length bytes → 10 ≤ rest → rest < 10 ^ 64
    → decimal number ≡ decimal rest ++ drop i bytes
    → decimal number ≡ decimal (rest / 10) ++ drop (i - 1) (set bytes (i - 1) (48 + rest % 10))
next_digit number rest i bytes some within more small so_far =
    so_far
    ∙ ap (λ ds. ds ++ drop i bytes) (decimal_step_wide rest more small)
    ∙ append_assoc (decimal (rest / 10)) ((48 + rest % 10) ∷ []) (drop i bytes)
    ∙ ap (λ ds. decimal (rest / 10) ++ ds) (sym (one_before bytes i (48 + rest % 10) some within))

-- a number of i digits has one fewer without its last
fewer : (rest i : ℕ) → 0 < i → rest < 10 ^ i → rest / 10 < 10 ^ (i - 1)
fewer rest i some small =
    let next : i - 1 + 1 ≡ i = omega arith in
    omega (arith, ap (λ k. 10 ^ k) next, pow_more 10 (i - 1))

pub returns-then-rest-lt10 : goal.returns-then-rest-lt10
returns-then-rest-lt10 c =
    let so_far = c.loop-i.invariant in
    last_digit _ _ _ _ c.loop-i-test.true (omega arith) c.if-rest-lt10.true so_far.3

pub loop-i-preserved : goal.loop-i-preserved
loop-i-preserved c =
    let so_far = c.loop-i.invariant in
    let i = c.loop-i.i in
    let rest = c.loop-i.rest in
    let small : rest < 10 ^ 64 = omega (arith, c.loop-i.auto.rest-fits) in
    let next = next_digit _ rest i _ c.loop-i-test.true (omega arith) c.if-rest-lt10.false small so_far.3 in
    rw c.tenth-rest.ensures (
      length-set c.loop-i.bytes (i - 1) (48 + rest % 10)
          ∙ so_far.0,
      fewer rest i c.loop-i-test.true so_far.1,
      λ _. omega arith,
      next,
    )
