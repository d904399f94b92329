use Rattle.std.proofs.lemmas.List.{get_or-drop}
use Rattle.bk_hint.specs.Headers.{header_of}
use Rattle.bk_hint.proofs.headers.Header.read.Goals as goal

pub returns : goal.returns
unfolding header_of
returns c =
    rw (
      c.from_be_bytes.ensures,
      c.from_be_bytes-2.ensures,
      c.from_be_bytes-3.ensures,
      c.from_be_bytes-4.ensures,
      c.from_be_bytes-5.ensures,
      c.from_be_bytes-6.ensures,
    ) (simp get_or-drop)
