-- A record, put together from its parts.
use Rattle.std.proofs.Common.{◌≡◌, ℕ, List, ◌++◌, sym, ap, ◌∙◌, append_assoc}
use Rattle.std.specs.Int.{w32, to_be_bytes}
use Rattle.std.proofs.lemmas.List.Sums.{fold-append}
use Rattle.bk_base.specs.declared.writes.Write.{Write}
use Rattle.bk_crc.specs.Crc.{byte_step, crc_at, register_after, start_register}
use Rattle.bk_laws.specs.Record.{checksum_of, covered_of, fields_of, record_of, value_of}

-- the checksum, made piece by piece
pub checksum_by_parts : (w : Write)
    → crc_at (register_after (register_after (register_after start_register (fields_of w)) w.key) (value_of w.body)) ≡
    checksum_of w
unfolding checksum_of covered_of
checksum_by_parts w =
    ap crc_at (sym (fold-append byte_step start_register (fields_of w ++ w.key) (value_of w.body)
    ∙ ap (λ (r : ℕ). register_after r (value_of w.body))
    (fold-append byte_step start_register (fields_of w) w.key)))

regroup : (o a b c d : List ℕ) → o ++ a ++ b ++ c ++ d ≡ o ++ (a ++ (b ++ c ++ d))
regroup o a b c d = simp append_assoc

-- the record, appended part by part
pub record_by_parts : (w : Write) (out : List ℕ) → out ++ to_be_bytes w32 (checksum_of w) ++ fields_of w ++ w.key ++ value_of w.body ≡ out ++ record_of w
unfolding record_of covered_of
record_by_parts w out = regroup out (to_be_bytes w32 (checksum_of w)) (fields_of w) w.key (value_of w.body)
