use Rattle.std.proofs.Common.{◌≡◌, List, ℕ, ◌++◌, refl, sym, ap, subst, ◌∙◌, append_assoc}
use Rattle.bk_crc.specs.Crc.{register_after}
use Rattle.bk_laws.specs.Hint.{row_text}
use Rattle.bk_hint.specs.Headers.{text_of}
use Rattle.bk_hint.specs.Passing.{HasWritten, Written, row_of}
use Rattle.bk_hint.proofs.Adding.{has_more}
use Rattle.bk_hint.proofs.RowTexts.{row_text-parts}
use Rattle.bk_hint.proofs.writing.HintOut.add.Goals as goal

pub returns-clause-ok : goal.returns-clause-ok
returns-clause-ok c =
    let r = row_of c.args.row.now in
    let items = c.args.out.now.items in
    let text = c.text-text.result in
    let key = c.bytes-key.result.now in
    let row_is : text ++ key ≡ row_text r =
    (λ i. (c.text-text.ensures ∙ ap text_of c.header.ensures.head) i ++ c.bytes-key.ensures.value i)
    ∙ sym (row_text-parts r) in
    c.in_ok-extend_from_slice-2.ensures.items
    ∙ ap (λ (x : List ℕ). x ++ key)
    (c.in_ok-extend_from_slice.ensures.items
    ∙ ap (λ (x : List ℕ). x ++ text) c.in_ok-reserve.ensures.items)
    ∙ append_assoc items text key
    ∙ ap (λ (x : List ℕ). items ++ x) row_is

pub returns-clause-rows : goal.returns-clause-rows
returns-clause-rows c = λ rows has.
    let r = row_of c.args.row.now in
    let text = c.text-text.result in
    let key = c.bytes-key.result.now in
    let row_is : text ++ key ≡ row_text r =
    (λ i. (c.text-text.ensures ∙ ap text_of c.header.ensures.head) i ++ c.bytes-key.ensures.value i)
    ∙ sym (row_text-parts r) in
    let old : Written = record { rows = c.self.inside.rows; register = c.self.inside.check } in
    let before : HasWritten old rows = subst (λ (w : Written). HasWritten w rows) (sym c.self.view_is) has in
    has_more old _ rows r text key row_is refl
    (c.add-2.ensures ∙ ap (λ (n : ℕ). register_after n key) c.add.ensures) before
