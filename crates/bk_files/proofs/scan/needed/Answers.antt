use Rattle.std.proofs.Common.{◌≡◌, ◌≤◌, length, ap, arith, sym, true≢false, ◌∙◌, rules}
use Rattle.bk_record.specs.Header.{header_of}
use Rattle.bk_record.proofs.Codec.{header_of-take}
use Rattle.bk_files.proofs.Scanning.{sizes_needed, unsound}
use Rattle.bk_files.proofs.scan.needed.Goals as goal

pub returns-then-is_sound : goal.returns-then-is_sound
returns-then-is_sound c =
    let bytes = c.args.bytes.now in
    let long : 22 ≤ length bytes = omega (arith, c.in-Some.ensures.cases.2) in
    let header : c.read-header.result ≡ header_of bytes =
    c.read-header.ensures ∙ ap header_of c.in-Some.ensures.cases.0 ∙ header_of-take bytes long in
    rw c.size.ensures
    (sizes_needed bytes c.read-header.result long header
    (let t = c.read-header.type_inv in search rules) (c.is_sound.ensures.0 c.if-is_sound.true))

pub returns-else-is_sound : goal.returns-else-is_sound
returns-else-is_sound c =
    let bytes = c.args.bytes.now in
    let long : 22 ≤ length bytes = omega (arith, c.in-Some.ensures.cases.2) in
    let header : c.read-header.result ≡ header_of bytes =
    c.read-header.ensures ∙ ap header_of c.in-Some.ensures.cases.0 ∙ header_of-take bytes long in
    unsound bytes c.read-header.result long header
    (λ sound. true≢false (sym (c.is_sound.ensures.1 sound) ∙ c.if-is_sound.false))
