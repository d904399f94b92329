-- A buffer with room behind the bytes that it has.
use Rattle.std.specs.Prelude.{◌≡◌, ◌+◌, ℕ, List, length, take}

-- bytes begins with these, and has so many behind them that others may be read over
abbrev pub HasRoom : List ℕ → ℕ → List ℕ → Type 0
HasRoom these room bytes = (take (length these) bytes ≡ these) × (length bytes ≡ length these + room)
