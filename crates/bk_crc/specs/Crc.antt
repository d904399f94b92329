-- CRC-32 of IEEE 802.3 on a list of bytes, bit by bit. This is what a reader must believe: the reflected polynomial is
-- EDB88320, the register starts as 32 ones, the bits of a byte go in from the lowest up, and every bit of the register is
-- turned at the end.
use Rattle.std.specs.Prelude.{ℕ, zero, suc, ◌/◌, ◌%◌, ◌*◌, List, bit_xor, fold}

-- the lowest bit leaves the register, and where it was a 1 the polynomial is taken in
unfoldable pub bit_step : ℕ → ℕ
bit_step register = bit_xor (register / 2) (register % 2 * 0xEDB88320)

-- the register after n bit steps
unfoldable pub bit_steps : ℕ → ℕ → ℕ
bit_steps zero register = register
bit_steps (suc n) register = bit_steps n (bit_step register)

-- the register after one byte
unfoldable pub byte_step : ℕ → ℕ → ℕ
byte_step register byte = bit_steps 8 (bit_xor register byte)

-- the register before the first byte
abbrev pub start_register : ℕ
start_register = 0xFFFFFFFF

-- the register after the bytes, in their order
abbrev pub register_after : ℕ → List ℕ → ℕ
register_after register bytes = fold byte_step register bytes

-- the CRC that a register stands for
abbrev pub crc_at : ℕ → ℕ
crc_at register = bit_xor register 0xFFFFFFFF

-- the CRC of the bytes
abbrev pub crc_of : List ℕ → ℕ
crc_of bytes = crc_at (register_after start_register bytes)
