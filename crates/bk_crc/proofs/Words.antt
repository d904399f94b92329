-- A word of eight bytes is simply a register of 64 bits: what it becomes over zero bytes is the
-- exclusive or of one entry of the table for each of its bytes, and the register after some bytes is
-- what their number becomes over as many zero bytes.
use Rattle.std.proofs.Common.{◌≡◌, ℕ, zero, suc, ◌+◌, ◌*◌, ◌/◌, ◌%◌, ◌^◌, ◌<◌, List, [], ◌∷◌}
use Rattle.std.proofs.Common.{length, length-drop, take, drop, get_or, refl, sym, ap, ◌∙◌, arith}
use Rattle.std.proofs.Common.{bit_xor, add-zero, add-suc}
use Rattle.std.proofs.lemmas.Grind.{get_or_default_zero}
use Rattle.std.specs.Int.{w64, from_le_bytes}
use Rattle.std.specs.List.{All}
use Rattle.std.specs.Int.Bits.{xor_assoc, xor_zero_r}
use Rattle.std.proofs.lemmas.Nat.{xor_comm}
use Rattle.std.proofs.lemmas.List.{take-append-drop, take_all, length-take-le}
use Rattle.std.proofs.lemmas.List.Elements.{All-take, All-drop}
use Rattle.std.proofs.lemmas.List.Sums.{fold-append}
use Rattle.bk_crc.specs.Crc.{bit_steps, byte_step, register_after}
use Rattle.bk_crc.specs.Slices.{after_zeros}
use Rattle.bk_crc.proofs.Linear.{bit_steps-xor, bit_steps-shifted, low_and_high}

pub after_zeros-xor : (n a b : ℕ)
    → after_zeros n (bit_xor a b) ≡ bit_xor (after_zeros n a) (after_zeros n b)
unfolding after_zeros
after_zeros-xor zero a b = refl
after_zeros-xor (suc n) a b =
    ap (after_zeros n) (bit_steps-xor 8 a b) ∙ after_zeros-xor n (bit_steps 8 a) (bit_steps 8 b)

pub after_zeros-add : (n m x : ℕ) → after_zeros n (after_zeros m x) ≡ after_zeros (n + m) x
unfolding after_zeros
after_zeros-add n zero x = rw (add-zero) refl
after_zeros-add n (suc m) x = rw (add-suc) (after_zeros-add n m (bit_steps 8 x))

-- the lowest byte, split off; the rest moves down by a byte
split : (m n x y rest : ℕ) → m ≡ n + 1 → x / 256 ≡ y → after_zeros n y ≡ rest
    → after_zeros m x ≡ bit_xor rest (after_zeros (n + 1) (x % 256))
unfolding after_zeros
split m n x y rest count down known =
    let low : ℕ = after_zeros (suc n) (x % 256) in
    let high : after_zeros (suc n) (x / 256 * 256) ≡ rest =
    ap (after_zeros n) (bit_steps-shifted 8 (x / 256) ∙ down) ∙ known in
    let next : n + 1 ≡ suc n = omega arith in
    let apart : after_zeros (suc n) x ≡ bit_xor low (after_zeros (suc n) (x / 256 * 256)) =
    ap (after_zeros (suc n)) (sym (low_and_high x))
    ∙ after_zeros-xor (suc n) (x % 256) (x / 256 * 256) in
    rw (count, next) (apart ∙ ap (bit_xor low) high ∙ xor_comm low rest)

-- a word, as the exclusive or of its bytes' entries, the last byte's first
pub after_zeros-word : (n x : ℕ) → x < 2 ^ 64 → after_zeros (n + 8) x ≡
    bit_xor (bit_xor (bit_xor (bit_xor (bit_xor (bit_xor (bit_xor
    (after_zeros (n + 1) (x / 72057594037927936 % 256))
    (after_zeros (n + 1 + 1) (x / 281474976710656 % 256)))
    (after_zeros (n + 2 + 1) (x / 1099511627776 % 256)))
    (after_zeros (n + 3 + 1) (x / 4294967296 % 256)))
    (after_zeros (n + 4 + 1) (x / 16777216 % 256)))
    (after_zeros (n + 5 + 1) (x / 65536 % 256)))
    (after_zeros (n + 6 + 1) (x / 256 % 256)))
    (after_zeros (n + 7 + 1) (x % 256))
after_zeros-word n x fits =
    let top : x / 72057594037927936 ≡ x / 72057594037927936 % 256 = omega arith in
    (split (n + 8) (n + 7) x (x / 256) _ (omega arith) (omega arith)
    (split (n + 7) (n + 6) (x / 256) (x / 65536) _ (omega arith) (omega arith)
    (split (n + 6) (n + 5) (x / 65536) (x / 16777216) _ (omega arith) (omega arith)
    (split (n + 5) (n + 4) (x / 16777216) (x / 4294967296) _ (omega arith) (omega arith)
    (split (n + 4) (n + 3) (x / 4294967296) (x / 1099511627776) _ (omega arith) (omega arith)
    (split (n + 3) (n + 2) (x / 1099511627776) (x / 281474976710656) _ (omega arith) (omega arith)
    (split (n + 2) (n + 1) (x / 281474976710656) (x / 72057594037927936) _ (omega arith) (omega arith)
    (ap (after_zeros (n + 1)) top))))))))

-- the number that bytes make, the lowest first
pub number_of : List ℕ → ℕ
number_of [] = 0
number_of (b ∷ bs) = number_of bs * 256 + b

taken_in : (c b n : ℕ) → b < 256
    → bit_steps 8 (bit_xor c (n * 256 + b)) ≡ bit_xor (bit_steps 8 (bit_xor c b)) n
taken_in c b n byte =
    let high : (n * 256 + b) / 256 ≡ n = omega arith in
    let low : (n * 256 + b) % 256 ≡ b = omega arith in
    let whole : bit_xor b (n * 256) ≡ n * 256 + b =
    rw (high, low) at (low_and_high (n * 256 + b)) in
    ap (λ (x : ℕ). bit_steps 8 (bit_xor c x)) (sym whole)
    ∙ ap (bit_steps 8) (sym (xor_assoc c b (n * 256)))
    ∙ bit_steps-xor 8 (bit_xor c b) (n * 256)
    ∙ ap (bit_xor (bit_steps 8 (bit_xor c b))) (bit_steps-shifted 8 n)

pub register_after-number : (c : ℕ) (bs : List ℕ) → All (λ b. b < 256) bs
    → register_after c bs ≡ after_zeros (length bs) (bit_xor c (number_of bs))
unfolding after_zeros number_of byte_step
register_after-number c [] each = sym (xor_zero_r c)
register_after-number c (b ∷ bs) each =
    let byte : b < 256 = each 0 0 (omega arith) in
    register_after-number (byte_step c b) bs (λ i d below. each (suc i) d (omega arith))
    ∙ ap (after_zeros (length bs)) (sym (taken_in c b (number_of bs) byte))

number_of-word : (bs : List ℕ) → length bs ≡ 8 → from_le_bytes w64 bs ≡ number_of bs
unfolding number_of
number_of-word [] eight = absurd (omega arith)
number_of-word (a ∷ []) eight = absurd (omega arith)
number_of-word (a ∷ b ∷ []) eight = absurd (omega arith)
number_of-word (a ∷ b ∷ c ∷ []) eight = absurd (omega arith)
number_of-word (a ∷ b ∷ c ∷ d ∷ []) eight = absurd (omega arith)
number_of-word (a ∷ b ∷ c ∷ d ∷ e ∷ []) eight = absurd (omega arith)
number_of-word (a ∷ b ∷ c ∷ d ∷ e ∷ f ∷ []) eight = absurd (omega arith)
number_of-word (a ∷ b ∷ c ∷ d ∷ e ∷ f ∷ g ∷ []) eight = absurd (omega arith)
number_of-word (a ∷ b ∷ c ∷ d ∷ e ∷ f ∷ g ∷ h ∷ []) eight = omega arith
number_of-word (a ∷ b ∷ c ∷ d ∷ e ∷ f ∷ g ∷ h ∷ x ∷ bs) eight = absurd (omega arith)

register_after-word : (c : ℕ) (bs : List ℕ) (word : ℕ)
    → All (λ b. b < 256) bs → length bs ≡ 8 → word ≡ from_le_bytes w64 bs
    → register_after c bs ≡ after_zeros 8 (bit_xor c word)
register_after-word c bs word each eight is =
    rw (is ∙ number_of-word bs eight, ← eight) (register_after-number c bs each)

-- a block of two words
pub register_after-words : (c first second : ℕ) (block : List ℕ)
    → All (λ b. b < 256) block → length block ≡ 16
    → first ≡ from_le_bytes w64 (take 8 block) → second ≡ from_le_bytes w64 (take 8 (drop 8 block))
    → bit_xor (after_zeros 8 second) (after_zeros 16 (bit_xor first c)) ≡ register_after c block
register_after-words c first second block each long in_front behind =
    let head = take 8 block in
    let tail = drop 8 block in
    let eight : length tail ≡ 8 = omega (arith, length-drop {A = ℕ}) in
    let whole : take 8 tail ≡ tail = take_all 8 tail (omega arith) in
    let of_head : register_after c head ≡ after_zeros 8 (bit_xor c first) =
    register_after-word c head first (All-take (λ b. b < 256) 8 block each)
    (length-take-le 8 block (omega arith)) in_front in
    let of_tail : register_after (register_after c head) tail
    ≡ after_zeros 8 (bit_xor (register_after c head) second) =
    register_after-word (register_after c head) tail second (All-drop (λ b. b < 256) 8 block each)
    eight (behind ∙ ap (from_le_bytes w64) whole) in
    let twice : after_zeros 8 (register_after c head) ≡ after_zeros 16 (bit_xor first c) =
    ap (after_zeros 8) (of_head ∙ ap (after_zeros 8) (xor_comm c first))
    ∙ after_zeros-add 8 8 (bit_xor first c) in
    sym (ap (register_after c) (sym (take-append-drop 8 block))
    ∙ fold-append byte_step c head tail
    ∙ of_tail
    ∙ after_zeros-xor 8 (register_after c head) second
    ∙ ap (λ (x : ℕ). bit_xor x (after_zeros 8 second)) twice
    ∙ xor_comm (after_zeros 16 (bit_xor first c)) (after_zeros 8 second))

-- what a proof knows of a slice: it holds bytes
pub bytes_within : (bytes : List ℕ) → ((i : ℕ) → get_or bytes i 0 < 256) → All (λ b. b < 256) bytes
bytes_within bytes each i d below =
    let same : get_or bytes i d ≡ get_or bytes i 0 = get_or_default_zero bytes i d below in
    rw same (each i)
