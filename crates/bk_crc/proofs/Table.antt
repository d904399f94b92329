-- The table holds what its rule says, at each of its entries.
use Rattle.std.proofs.Common.{◌≡◌, ℕ, ◌+◌, ◌<◌, List, get_or, map, refl, ap, ◌∙◌}
use Rattle.std.proofs.Math.Nat.{add_comm, zero-add}
use Rattle.std.specs.List.{range_with_len}
use Rattle.std.proofs.lemmas.List.FromFn.{get_or-map-range_with_len}
use Rattle.bk_crc.specs.Crc.{bit_step, bit_steps}
use Rattle.bk_crc.specs.Slices.{after_zeros}
use Rattle.bk_crc.specs.declared.slices.TheConstants.{SLICES}

-- each byte after n zero bytes
row : ℕ → List ℕ
row n = map (after_zeros n) (range_with_len 0 256)

rows : List (List ℕ)
rows = map row (range_with_len 1 16)

SLICES-rows : SLICES ≡ rows
unfolding rows row after_zeros bit_steps bit_step
SLICES-rows = refl

pub SLICES-at : (slice byte : ℕ) (d : List ℕ) → slice < 16 → byte < 256
    → get_or (get_or SLICES slice d) byte 0 ≡ after_zeros (slice + 1) byte
unfolding rows row
SLICES-at slice byte d s b =
    ap (λ (t : List (List ℕ)). get_or (get_or t slice d) byte 0) SLICES-rows
    ∙ ap (λ (r : List ℕ). get_or r byte 0) (get_or-map-range_with_len row 1 16 slice (slice + 1) d s (add_comm 1 slice))
    ∙ get_or-map-range_with_len (after_zeros (slice + 1)) 0 256 byte byte 0 b (zero-add byte)
