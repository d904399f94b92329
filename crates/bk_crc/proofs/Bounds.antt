-- The register and the CRC have 32 bits.
use Rattle.std.proofs.Common.{◌≡◌, ℕ, zero, suc, ◌*◌, ◌/◌, ◌%◌, ◌^◌, ◌<◌, List, [], ◌∷◌, get_or, arith, bit_xor, Fits, w8}
use Rattle.std.proofs.Math.Facts.{Fits-lt-pow}
use Rattle.std.specs.List.{All}
use Rattle.std.proofs.lemmas.Grind.{get_or_default_zero}
use Rattle.std.proofs.lemmas.Nat.{xor_lt}
use Rattle.bk_crc.specs.Crc.{bit_step, bit_steps, byte_step, register_after, start_register, crc_of}

bit_step-lt : (c : ℕ) → c < 2 ^ 32 → bit_step c < 2 ^ 32
unfolding bit_step
bit_step-lt c fits = xor_lt 32 (c / 2) (c % 2 * 0xEDB88320) (omega arith) (omega arith)

bit_steps-lt : (n c : ℕ) → c < 2 ^ 32 → bit_steps n c < 2 ^ 32
unfolding bit_steps
bit_steps-lt zero c fits = fits
bit_steps-lt (suc n) c fits = bit_steps-lt n (bit_step c) (bit_step-lt c fits)

byte_step-lt : (c b : ℕ) → c < 2 ^ 32 → b < 256 → byte_step c b < 2 ^ 32
unfolding byte_step
byte_step-lt c b fits byte = bit_steps-lt 8 (bit_xor c b) (xor_lt 32 c b fits (omega arith))

pub register_after-lt : (c : ℕ) (bytes : List ℕ) → c < 2 ^ 32 → All (λ b. b < 256) bytes → register_after c bytes < 2 ^ 32
register_after-lt c [] fits each = fits
register_after-lt c (b ∷ bytes) fits each =
    let byte : b < 256 = each 0 0 (omega arith) in
    register_after-lt (byte_step c b) bytes (byte_step-lt c b fits byte) (λ i d below. each (suc i) d (omega arith))

-- a CRC fits a field of four bytes
pub crc_of-lt : (bytes : List ℕ) → All (λ b. b < 256) bytes → crc_of bytes < 2 ^ 32
crc_of-lt bytes each = xor_lt 32 (register_after start_register bytes) 0xFFFFFFFF (register_after-lt start_register bytes (omega arith) each) (omega arith)

-- the same, from what a proof knows of a slice
pub crc_of-lt_slice : (bytes : List ℕ) → ((i : ℕ) → Fits w8 (get_or bytes i 0)) → crc_of bytes < 2 ^ 32
crc_of-lt_slice bytes each =
    crc_of-lt bytes (λ i d below. let same : get_or bytes i d ≡ get_or bytes i 0 = get_or_default_zero bytes i d below in rw same (Fits-lt-pow (each i)))
