use Rattle.std.proofs.Common.{◌≡◌, ◌≤◌, length, take, drop, sym, ap, arith, ◌∙◌, inl, inr}
use Rattle.bk_hint.specs.declared.headers.Header.{Header}
use Rattle.bk_hint.specs.Headers.{header_of}
use Rattle.bk_hint.proofs.Heads.{header_of-take}
use Rattle.bk_hint.proofs.RowTexts.{first_row, no_row-cut, no_row-short, no_row-without_key}
use Rattle.bk_hint.proofs.rows.next_row.Goals as goal

pub returns-in_err-front : goal.returns-in_err-front
returns-in_err-front c =
    rw c.from_residual.ensures
    (no_row-short c.args.bytes.now (omega (arith, c.in_err-front.ensures.cases)))

pub returns-then-len-eq0 : goal.returns-then-len-eq0
returns-then-len-eq0 c =
    let bytes = c.args.bytes.now in
    let cases = c.in_ok-front.ensures.cases in
    let long : 30 ≤ length bytes = omega (arith, cases.2) in
    let header : c.read-header.result ≡ header_of bytes =
    c.read-header.ensures ∙ ap header_of cases.0 ∙ header_of-take bytes long in
    let ksz : c.from-len.result ≡ (header_of bytes).ksz = c.from-len.ensures ∙ ap (λ (h : Header). h.ksz) header in
    elim c.then-len-eq0.either [
      | inl none ↦ no_row-without_key bytes (sym ksz ∙ none)
      | inr short ↦ no_row-cut bytes (omega (arith, short.1, ksz, ap length cases.1))
    ]

pub returns : goal.returns
returns c =
    let bytes = c.args.bytes.now in
    let cases = c.in_ok-front.ensures.cases in
    let long : 30 ≤ length bytes = omega (arith, cases.2) in
    let header : c.read-header.result ≡ header_of bytes =
    c.read-header.ensures ∙ ap header_of cases.0 ∙ header_of-take bytes long in
    let ksz : c.from-len.result ≡ (header_of bytes).ksz = c.from-len.ensures ∙ ap (λ (h : Header). h.ksz) header in
    let key : c.split_at.result.0.now ≡ take (header_of bytes).ksz (drop 30 bytes) =
    c.split_at.ensures.front ∙ (λ i. take (ksz i) (cases.1 i)) in
    let rest : c.split_at.result.1.now ≡ drop (header_of bytes).ksz (drop 30 bytes) =
    c.split_at.ensures.back ∙ (λ i. drop (ksz i) (cases.1 i)) in
    rw (header, key, rest)
    (first_row bytes (λ i. omega (arith, c.type_inv.bytes i)) long
    (omega (arith, ksz, c.if-len-eq0.false)) (omega (arith, ksz, c.if-behind-len.false, ap length cases.1)))
