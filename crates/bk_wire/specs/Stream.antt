-- What a reader of a stream holds.
use Rattle.std.specs.Prelude.{ℕ, ◌+◌, ◌*◌, ◌≤◌, List, length}

pub record Stream : Type 0 where
  -- the bytes that were taken and aren't read yet
  pub rest : List ℕ
  -- how many bytes were read before them
  pub offset : ℕ
  -- how many bytes may be taken in all
  pub most : ℕ
  -- how many bytes its buffer has, among them such as were read already
  pub held : ℕ

-- how many bytes were taken in all
abbrev pub taken : Stream → ℕ
taken stream = stream.offset + length stream.rest

-- at most half of what the buffer has was read already
abbrev pub IsBounded : Stream → Type 0
IsBounded stream = stream.held ≤ 2 * length stream.rest
