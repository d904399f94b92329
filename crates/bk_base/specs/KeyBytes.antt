-- The bytes of a key, wherever they lie.
use Rattle.std.specs.Prelude.{ℕ, List}
use Rattle.bk_base.specs.declared.key_bytes.KeyBytes.{KeyBytes}
use Rattle.bk_base.specs.declared.key_bytes.KeyBytes.TheVariants.{Inline, Heap}

abbrev pub bytes_in : KeyBytes → List ℕ
bytes_in (Inline bytes) = bytes
bytes_in (Heap bytes) = bytes.items
