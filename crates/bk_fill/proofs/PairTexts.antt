-- A pair may be put: its key and its value are bytes, and they are short.
use Rattle.std.proofs.Common.{ℕ, ◌%◌, ◌^◌, ◌<◌, ◌≤◌, zero, suc, length, codes, decimal, arith}
use Rattle.std.proofs.lemmas.Fmt.{IsAscii-decimal, length-decimal-le}
use Rattle.bk_base.specs.Bounds.{AreBytes}
use Rattle.bk_base.proofs.Bytes.{AreBytes-append}
use Rattle.bk_fill.specs.declared.pairs.TheConstants.{KEYS}
use Rattle.bk_fill.specs.Pairs.{put_at}
use Rattle.bk_laws.specs.Wire.{Fits}

decimal_bytes : (n : ℕ) → n < 2 ^ 64 → AreBytes (decimal n)
decimal_bytes n low i = omega (arith, IsAscii-decimal n low i)

letter_bytes : AreBytes (codes "k")
letter_bytes zero = omega arith
letter_bytes (suc i) = omega arith

-- the number behind the letter
rest_low : (n : ℕ) → n % KEYS < 2 ^ 64
rest_low n = omega arith

pub pair_fits : (n : ℕ) → n < 2 ^ 32 → Fits (put_at n)
pair_fits n low =
    let key : length (decimal (n % KEYS)) ≤ 3 = length-decimal-le 3 (n % KEYS) (omega arith) (omega arith) (rest_low n) in
    let value : length (decimal n) ≤ 10 = length-decimal-le 10 n (omega arith) (omega arith) (omega arith) in (
      record {
        bounds = record { some = omega arith; short = omega (arith, key) };
        bytes = AreBytes-append (codes "k") (decimal (n % KEYS)) letter_bytes (decimal_bytes (n % KEYS) (rest_low n));
      },
      record { bounds = omega (arith, value); bytes = decimal_bytes n (omega arith) },
    )
