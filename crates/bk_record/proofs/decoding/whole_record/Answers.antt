use Rattle.std.proofs.Common.{◌≡◌, ◌≤◌, length, take, ap, arith, ◌∙◌}
use Rattle.bk_record.specs.Header.{header_of, said_size}
use Rattle.bk_record.proofs.Answering.{too_short}
use Rattle.bk_record.proofs.Codec.{header_of-take}
use Rattle.bk_record.proofs.decoding.whole_record.Goals as goal

pub returns-then-bytes-size-clause-stop : goal.returns-then-bytes-size-clause-stop
returns-then-bytes-size-clause-stop c =
    let bytes = c.args.bytes.now in
    let long : 22 ≤ length bytes = omega (arith, c.in-Some.ensures.cases.2) in
    let header : c.read-header.result ≡ header_of bytes = c.read-header.ensures ∙ ap header_of c.in-Some.ensures.cases.0 ∙ header_of-take bytes long in
    too_short bytes long (omega (arith, c.size-size.ensures, ap said_size header))

pub returns-clause-whole : goal.returns-clause-whole
returns-clause-whole c =
    let bytes = c.args.bytes.now in
    let long : 22 ≤ length bytes = omega (arith, c.in-Some.ensures.cases.2) in
    let header : c.read-header.result ≡ header_of bytes = c.read-header.ensures ∙ ap header_of c.in-Some.ensures.cases.0 ∙ header_of-take bytes long in
    let size = c.size-size.ensures ∙ ap said_size header in
    record { long = long; header = header; sizes = omega (arith, size); is_text = ap (λ n. take n bytes) size }
