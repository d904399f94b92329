use Rattle.std.proofs.Common.{rules, ◌≡◌, ℕ, zero, suc, ◌+◌, ◌*◌, ◌^◌, ◌<◌, ◌≤◌, List, Ok, Err, refl, ap, ◌∙◌, inl, inr, arith, lit<}
use Rattle.std.proofs.Math.Nat.{pow-le-pow_right}
use Rattle.std.proofs.lemmas.Bool.{cases_lt}
use Rattle.std.proofs.lemmas.Grind.{pow_more}
use Rattle.bk_wire.specs.declared.stops.Stop.{Stop}
use Rattle.bk_wire.specs.ReplyReading.{digit_at, hex_digits_at, hex_at}
use Rattle.bk_wire.proofs.numbers.hexadecimal.Goals as goal

one_more : (k n d : ℕ) (bytes rest after : List ℕ) → hex_digits_at k bytes ≡ Ok (n, rest)
    → digit_at rest ≡ Ok (d, after) → hex_digits_at (k + 1) bytes ≡ Ok (n * 16 + d, after)
unfolding hex_digits_at
one_more k n d bytes rest after front last =
    let next : k + 1 ≡ suc k = omega arith in
    ap (λ (j : ℕ). hex_digits_at j bytes) next ∙ rw (front, last) refl

-- the bytes that stop a digit stop all later ones
stops : (m k : ℕ) (bytes : List ℕ) (stop : Stop) → k ≤ m → hex_digits_at k bytes ≡ Err stop
    → hex_digits_at m bytes ≡ Err stop
unfolding hex_digits_at
stops zero k bytes stop within e =
    let is : zero ≡ k = omega (arith, within) in
    ap (λ (j : ℕ). hex_digits_at j bytes) is ∙ e
stops (suc m) k bytes stop within e =
    elim (cases_lt m k) [
      | inl last ↦ (let is : suc m ≡ k = omega (arith, within, last) in ap (λ (j : ℕ). hex_digits_at j bytes) is ∙ e)
      | inr earlier ↦ rw (stops m k bytes stop earlier e) refl
    ]

stopped_at : (end k n : ℕ) (bytes rest : List ℕ) (stop : Stop) → k < 8 → hex_digits_at k bytes ≡ Ok (n, rest)
    → digit_at rest ≡ Err stop → hex_at end bytes ≡ Err stop
unfolding hex_at hex_digits_at
stopped_at end k n bytes rest stop within front last =
    let here : hex_digits_at (suc k) bytes ≡ Err stop = rw (front, last) refl in
    rw (stops 8 (suc k) bytes stop (omega (arith, within)) here) refl

-- a number of k digits takes one more
grows : (k n d : ℕ) → n < 16 ^ k → d < 16 → n * 16 + d < 16 ^ (k + 1)
grows k n d front last = omega (arith, front, last, pow_more 16 k)

fits : (k n d : ℕ) → k < 8 → n < 16 ^ k → d < 16 → n * 16 + d < 2 ^ 32
fits k n d within front last =
    let last_one : k + 1 ≤ 8 = omega (arith, within) in
    let most : 16 ^ (k + 1) ≤ 16 ^ 8 = pow-le-pow_right (lit< tt) last_one in
    omega (arith, grows k n d front last, most)

pub loop-i-init : goal.loop-i-init
unfolding hex_digits_at
loop-i-init c = (refl, lit< tt)

pub returns-in_err-digit : goal.returns-in_err-digit
returns-in_err-digit c =
    let here = stopped_at c.args.end c.loop-i.i c.loop-i.number c.args.bytes.now c.loop-i.rest.now
    c.in_err-digit.field-0.0 c.loop-i-test.true c.loop-i.invariant.0 c.in_err-digit.ensures.read in
    search rules

pub overflow_mul-number : goal.overflow_mul-number
overflow_mul-number c =
    omega (arith, fits c.loop-i.i c.loop-i.number 0 c.loop-i-test.true c.loop-i.invariant.1 (lit< tt))

pub overflow_add-number : goal.overflow_add-number
overflow_add-number c =
    omega (
      arith,
      fits c.loop-i.i c.loop-i.number c.in_ok-digit.digit c.loop-i-test.true c.loop-i.invariant.1
          c.in_ok-digit.ensures.small,
    )

pub loop-i-preserved : goal.loop-i-preserved
loop-i-preserved c = (
  one_more c.loop-i.i c.loop-i.number c.in_ok-digit.digit c.args.bytes.now c.loop-i.rest.now
      c.in_ok-digit.after.now c.loop-i.invariant.0 c.in_ok-digit.ensures.read,
  grows c.loop-i.i c.loop-i.number c.in_ok-digit.digit c.loop-i.invariant.1 c.in_ok-digit.ensures.small,
)
