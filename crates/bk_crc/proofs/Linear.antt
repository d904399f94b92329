-- The register is linear: what two numbers become over the same bits is, by exclusive or, what each becomes.
use Rattle.std.proofs.Common.{◌≡◌, ℕ, zero, suc, ◌+◌, ◌*◌, ◌/◌, ◌%◌, ◌^◌, ◌<◌, List, [], ◌∷◌, length, refl, sym, ap, ◌∙◌, arith, bit_xor}
use Rattle.std.proofs.Math.Nat.{pow-suc, mul_assoc}
use Rattle.std.proofs.lemmas.Nat.{xor_shr, xor_mod, xor_comm, xor_block}
use Rattle.std.specs.Int.Bits.{xor_assoc, xor_zero_r}
use Rattle.bk_crc.specs.Crc.{bit_step, bit_steps, byte_step, register_after}
use Rattle.bk_crc.specs.Slices.{after_zeros}

pub xor_swap : (a b c d : ℕ) → bit_xor (bit_xor a b) (bit_xor c d) ≡ bit_xor (bit_xor a c) (bit_xor b d)
xor_swap a b c d =
    xor_assoc a b (bit_xor c d)
    ∙ ap (bit_xor a) (sym (xor_assoc b c d) ∙ ap (λ (x : ℕ). bit_xor x d) (xor_comm b c) ∙ xor_assoc c b d)
    ∙ sym (xor_assoc a c (bit_xor b d))

-- the polynomial, taken in or not, by two bits
taken : (a b : ℕ) → a < 2 → b < 2 → bit_xor a b * 0xEDB88320 ≡ bit_xor (a * 0xEDB88320) (b * 0xEDB88320)
taken zero zero p q = refl
taken zero (suc zero) p q = refl
taken (suc zero) zero p q = refl
taken (suc zero) (suc zero) p q = refl
taken zero (suc (suc b)) p q = absurd (omega arith)
taken (suc zero) (suc (suc b)) p q = absurd (omega arith)
taken (suc (suc a)) b p q = absurd (omega arith)

pub bit_step-xor : (a b : ℕ) → bit_step (bit_xor a b) ≡ bit_xor (bit_step a) (bit_step b)
unfolding bit_step
bit_step-xor a b =
    rw (xor_shr a b 1, xor_mod a b 1, taken (a % 2) (b % 2) (omega arith) (omega arith))
    (xor_swap (a / 2) (b / 2) (a % 2 * 0xEDB88320) (b % 2 * 0xEDB88320))

pub bit_steps-xor : (n a b : ℕ) → bit_steps n (bit_xor a b) ≡ bit_xor (bit_steps n a) (bit_steps n b)
unfolding bit_steps
bit_steps-xor zero a b = refl
bit_steps-xor (suc n) a b = ap (bit_steps n) (bit_step-xor a b) ∙ bit_steps-xor n (bit_step a) (bit_step b)

-- a bit 0 leaves the register, and nothing is taken in
bit_step-double : (a : ℕ) → bit_step (a * 2) ≡ a
unfolding bit_step
bit_step-double a =
    let half : a * 2 / 2 ≡ a = omega arith in
    let low : a * 2 % 2 ≡ 0 = omega arith in
    rw (half, low) (xor_zero_r a)

pub bit_steps-shifted : (n a : ℕ) → bit_steps n (a * 2 ^ n) ≡ a
unfolding bit_steps
bit_steps-shifted zero a = omega arith
bit_steps-shifted (suc n) a =
    let twice : a * 2 ^ suc n ≡ a * 2 ^ n * 2 = ap (λ (x : ℕ). a * x) (pow-suc 2 n) ∙ sym (mul_assoc a (2 ^ n) 2) in
    ap (bit_steps n) (ap bit_step twice ∙ bit_step-double (a * 2 ^ n)) ∙ bit_steps-shifted n a

-- a number is its lowest byte and the rest
pub low_and_high : (c : ℕ) → bit_xor (c % 256) (c / 256 * 256) ≡ c
low_and_high c =
    let low : 0 * 256 + c % 256 ≡ c % 256 = omega arith in
    let high : c / 256 * 256 + 0 ≡ c / 256 * 256 = omega arith in
    let below : c % 256 < 256 = omega arith in
    let block : bit_xor (0 * 256 + c % 256) (c / 256 * 256 + 0) ≡ c / 256 * 256 + bit_xor (c % 256) 0 =
    xor_block 8 0 (c / 256) (c % 256) 0 below (omega arith) in
    let joined : bit_xor (c % 256) (c / 256 * 256) ≡ c / 256 * 256 + bit_xor (c % 256) 0 = rw (low, high) at block in
    joined ∙ ap (λ (x : ℕ). c / 256 * 256 + x) (xor_zero_r (c % 256)) ∙ omega arith

-- a byte meets the register's lowest byte alone
pub byte_step-low : (c b : ℕ) → byte_step c b ≡ bit_xor (bit_steps 8 (bit_xor (c % 256) b)) (c / 256)
unfolding byte_step
byte_step-low c b =
    let apart : bit_xor c b ≡ bit_xor (bit_xor (c % 256) b) (c / 256 * 256) =
    ap (λ (x : ℕ). bit_xor x b) (sym (low_and_high c)) ∙ xor_assoc (c % 256) (c / 256 * 256) b
    ∙ ap (bit_xor (c % 256)) (xor_comm (c / 256 * 256) b) ∙ sym (xor_assoc (c % 256) b (c / 256 * 256)) in
    ap (bit_steps 8) apart ∙ bit_steps-xor 8 (bit_xor (c % 256) b) (c / 256 * 256)
    ∙ ap (bit_xor (bit_steps 8 (bit_xor (c % 256) b))) (bit_steps-shifted 8 (c / 256))

pub register_after-xor : (bs : List ℕ) (x y : ℕ) → register_after (bit_xor x y) bs ≡ bit_xor (after_zeros (length bs) x) (register_after y bs)
unfolding after_zeros byte_step
register_after-xor [] x y = refl
register_after-xor (b ∷ bs) x y =
    ap (λ (c : ℕ). register_after c bs) (ap (bit_steps 8) (xor_assoc x y b) ∙ bit_steps-xor 8 x (bit_xor y b))
    ∙ register_after-xor bs (bit_steps 8 x) (byte_step y b)

-- the first byte, split off
pub register_after-cons : (c b : ℕ) (bs : List ℕ) → register_after c (b ∷ bs)
    ≡ bit_xor (after_zeros (suc (length bs)) (bit_xor (c % 256) b)) (register_after (c / 256) bs)
unfolding after_zeros
register_after-cons c b bs =
    ap (λ (x : ℕ). register_after x bs) (byte_step-low c b)
    ∙ register_after-xor bs (bit_steps 8 (bit_xor (c % 256) b)) (c / 256)
