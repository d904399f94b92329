use Rattle.std.proofs.Common.{◌≡◌, ◌+◌, ◌-◌, ◌≤◌, length, drop, arith, ◌∙◌}
use Rattle.std.proofs.lemmas.List.{length-drop, length-take}
use Rattle.bk_files.proofs.Scanning.{piece_read}
use Rattle.bk_files.proofs.scan.read_piece.Goals as goal

pub returns-in-Ok-clause-text : goal.returns-in-Ok-clause-text
returns-in-Ok-clause-text g c = λ tells.
    let held = c.args.bytes.now.items in
    let at : c.len-held.result ≡ length held = omega (arith, c.len-held.ensures) in
    let far : c.len-held.result + c.in-Ok.count ≤ c.resize.new.self.len =
    omega (
      arith,
      c.in-Ok.ensures.within,
      c.read.auto.into,
      length-take (length c.deref_mut.result.now - c.len-held.result)
          (drop c.len-held.result c.deref_mut.result.now),
      length-drop c.len-held.result c.deref_mut.result.now,
      c.deref_mut.ensures.len,
      c.in_ok-resize.ensures.len,
    ) in
    let all : c.len-held.result ≤ c.len-held.result + c.min.result = omega arith in
    let bytes = c.in-Ok.ensures.bytes tells in (
      c.truncate.ensures.items
          ∙ piece_read held _ _ c.read.new.into (g.V.View.left c.args.view.now) _ c.len-held.result
          (c.len-held.result + c.min.result) _ c.in-Ok.count c.resize.new.self.len
          at (c.deref_mut.ensures.value ∙ c.in_ok-resize.ensures.items) all far c.in-Ok.ensures.within bytes.bytes,
      bytes.others,
    )
