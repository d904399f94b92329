-- A row more in a hint that is written.
use Rattle.std.proofs.Common.{◌≡◌, ℕ, ◌+◌, ◌%◌, List, [], ◌∷◌, ◌++◌, length}
use Rattle.std.proofs.Common.{sym, ap, ◌∙◌, arith}
use Rattle.std.proofs.lemmas.List.{append-nil, length-append}
use Rattle.std.proofs.lemmas.List.Sums.{fold-append}
use Rattle.bk_crc.specs.Crc.{byte_step, register_after, start_register}
use Rattle.bk_laws.specs.Hint.{Hinted, row_text, rows_text}
use Rattle.bk_hint.specs.Passing.{HasWritten, Written}
use Rattle.bk_hint.proofs.RowTexts.{rows_text-push}

pub has_more : (old new : Written) (rows : List Hinted) (r : Hinted) (text key : List ℕ)
    → text ++ key ≡ row_text r → new.rows ≡ (old.rows + 1) % 18446744073709551616
    → new.register ≡ register_after (register_after old.register text) key
    → HasWritten old rows → HasWritten new (rows ++ r ∷ [])
has_more old new rows r text key row_is number check has =
    let more : length (rows ++ r ∷ []) ≡ length rows + 1 = length-append rows (r ∷ []) in
    let joined : rows_text (rows ++ r ∷ []) ≡ rows_text rows ++ (text ++ key) =
    sym (append-nil (rows_text (rows ++ r ∷ []))) ∙ sym (rows_text-push rows r [])
    ∙ ap (λ (x : List ℕ). rows_text rows ++ x) (append-nil (row_text r) ∙ sym row_is) in
    record {
      number = λ few. omega (arith, number, more, has.number (omega (arith, more)));
      check = check ∙ sym (fold-append byte_step old.register text key)
          ∙ ap (λ (n : ℕ). register_after n (text ++ key)) has.check
          ∙ sym (fold-append byte_step start_register (rows_text rows) (text ++ key))
          ∙ ap (register_after start_register) (sym joined);
    }
