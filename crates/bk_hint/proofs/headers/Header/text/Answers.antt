use Rattle.std.proofs.Common.{refl}
use Rattle.bk_laws.specs.Hint.{head_text}
use Rattle.bk_hint.proofs.headers.Header.text.Goals as goal

pub returns : goal.returns
unfolding head_text
returns c =
    rw (
      c.to_be_bytes.ensures,
      c.to_be_bytes-2.ensures,
      c.to_be_bytes-3.ensures,
      c.to_be_bytes-4.ensures,
      c.to_be_bytes-5.ensures,
      c.to_be_bytes-6.ensures,
    ) refl
