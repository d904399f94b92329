-- What the table of slices holds. No public contract cites it.
use Rattle.std.specs.Prelude.{ℕ, zero, suc}
use Rattle.bk_crc.specs.Crc.{bit_steps}

-- the register after n zero bytes
unfoldable pub after_zeros : ℕ → ℕ → ℕ
after_zeros zero register = register
after_zeros (suc n) register = after_zeros n (bit_steps 8 register)
