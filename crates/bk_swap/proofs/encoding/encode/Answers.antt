use Rattle.std.proofs.Common.{◌≡◌, List, ℕ, ◌++◌, drop, ap, arith, ◌∙◌}
use Rattle.std.proofs.lemmas.List.{take_rest}
use Rattle.bk_crc.specs.Crc.{crc_of}
use Rattle.bk_laws.specs.SwapList.{SwapList, counted_text}
use Rattle.bk_swap.specs.Lists.{numbers}
use Rattle.bk_swap.proofs.Texts.{appended}
use Rattle.bk_swap.proofs.encoding.encode.Goals as goal

pub returns-clause-ok : goal.returns-clause-ok
returns-clause-ok c =
    let old = c.args.out.now.items in
    let l : SwapList = record {
      inputs = numbers c.args.inputs.now;
      outputs =
          numbers c.args.outputs.now;
    } in
    let text = c.append_counted-2.new.out.items in
    let begin = c.len-begin.result in
    let is : text ≡ old ++ counted_text l.inputs ++ counted_text l.outputs =
    c.append_counted-2.ensures.text ∙ ap (λ (x : List ℕ). x ++ counted_text l.outputs)
    (c.append_counted.ensures.text
    ∙ ap (λ (x : List ℕ). x ++ counted_text l.inputs) c.in_ok-reserve.ensures.items) in
    let check : c.crc32-check.result ≡ crc_of (drop begin text) =
    c.crc32-check.ensures ∙ ap crc_of (take_rest c.deref.result.now begin)
    ∙ ap (λ (x : List ℕ). crc_of (drop begin x)) c.deref.ensures.value in
    c.in_ok-extend_from_slice.ensures.items ∙ ap (λ (x : List ℕ). text ++ x) c.to_be_bytes.ensures
    ∙ appended old l text begin c.crc32-check.result is (omega (arith, c.len-begin.ensures)) check
