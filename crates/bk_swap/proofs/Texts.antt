-- A whole list is read, and what was read is whole.
use Rattle.std.proofs.Common.{◌≡◌, ℕ, ◌+◌, ◌-◌, ◌*◌, ◌^◌, ◌<◌, ◌≤◌, false, ltb, List, ◌++◌, length, take, drop, refl, sym, ap, ◌∙◌, append_assoc, arith}
use Rattle.std.specs.Int.{w32, from_be_bytes, to_be_bytes}
use Rattle.std.proofs.lemmas.Bool.{le-ltb}
use Rattle.std.proofs.lemmas.List.{take_at, take_all, drop_at, drop-drop, length-append, length-take, length-drop}
use Rattle.std.proofs.lemmas.Nat.{from_be_bytes-to_be_bytes_4}
use Rattle.bk_base.specs.Bounds.{AreBytes}
use Rattle.bk_base.proofs.Bytes.{All-from_AreBytes, AreBytes-append, AreBytes-drop, AreBytes-take, drop-cut}
use Rattle.bk_base.proofs.FixedWidth.{AreBytes-to_be_bytes_4, from_be_bytes_4-lt, to_be_bytes-from_be_bytes_4}
use Rattle.bk_crc.specs.Crc.{crc_of}
use Rattle.bk_crc.proofs.Bounds.{crc_of-lt}
use Rattle.bk_laws.specs.SwapList.{FitsList, IsWhole, SwapList, counted_text, ids_text, lists_text, swap_text}
use Rattle.bk_swap.specs.Lists.{ids_in, inputs_count, list_in, needed, number_at, outputs_count}
use Rattle.bk_swap.specs.Stops.{computed_of, stored_of}
use Rattle.bk_swap.proofs.Ids.{AreBytes-ids_text, Says, ids_in-text, length-ids_text, says}

-- ---- a number where four bytes are

pub number_at-there : (bytes : List ℕ) (at : ℕ) → at + 4 ≤ length bytes
    → number_at bytes at ≡ from_be_bytes w32 (drop at bytes)
number_at-there bytes at long = let no : ltb (length bytes) (at + 4) ≡ false =
    le-ltb _ _ long in rw no refl

-- the number of four bytes that stand at this place
number_at-text : (bytes : List ℕ) (at n : ℕ) (rest : List ℕ) → n < 2 ^ 32 → at + 4 ≤ length bytes
    → drop at bytes ≡ to_be_bytes w32 n ++ rest → number_at bytes at ≡ n
number_at-text bytes at n rest below long is =
    number_at-there bytes at long ∙ ap (from_be_bytes w32) is ∙ from_be_bytes-to_be_bytes_4 n below

-- ---- the parts of a text, one after the other

abbrev in_parts : SwapList → ℕ → List ℕ
in_parts l check =
    to_be_bytes w32 (length l.inputs)
    ++ (ids_text l.inputs
    ++ (to_be_bytes w32 (length l.outputs) ++ (ids_text l.outputs ++ to_be_bytes w32 check)))

regroup : (a b c d e : List ℕ) → (a ++ b) ++ (c ++ d) ++ e ≡ a ++ (b ++ (c ++ (d ++ e)))
regroup a b c d e = simp append_assoc

parts : (l : SwapList) (check : ℕ) → lists_text l ++ to_be_bytes w32 check ≡ in_parts l check
unfolding lists_text
parts l check =
    regroup (to_be_bytes w32 (length l.inputs)) (ids_text l.inputs)
    (to_be_bytes w32 (length l.outputs)) (ids_text l.outputs) (to_be_bytes w32 check)

length-lists_text : (l : SwapList)
    → length (lists_text l) ≡ 8 + 4 * length l.inputs + 4 * length l.outputs
unfolding lists_text
length-lists_text l =
    omega (
      arith,
      length-append (counted_text l.inputs) (counted_text l.outputs),
      length-ids_text l.inputs,
      length-ids_text l.outputs,
    )

AreBytes-lists_text : (l : SwapList) → AreBytes (lists_text l)
unfolding lists_text
AreBytes-lists_text l =
    let counted : (ids : List ℕ) → AreBytes (counted_text ids) =
    λ ids. AreBytes-append (to_be_bytes w32 (length ids)) (ids_text ids)
    (AreBytes-to_be_bytes_4 (length ids)) (AreBytes-ids_text ids) in
    AreBytes-append (counted_text l.inputs) (counted_text l.outputs) (counted l.inputs) (counted l.outputs)

check_below : (l : SwapList) → crc_of (lists_text l) < 2 ^ 32
check_below l = crc_of-lt (lists_text l) (All-from_AreBytes (lists_text l) (AreBytes-lists_text l))

-- ---- a text is read

-- what bytes say that are a text, but for their checksum
record Parsed (bytes : List ℕ) (l : SwapList) (check : ℕ) : Type 0 where
  pub long : length bytes ≡ 12 + 4 * (length l.inputs + length l.outputs)
  pub inputs : inputs_count bytes ≡ length l.inputs
  pub outputs : outputs_count bytes ≡ length l.outputs
  pub list : list_in bytes ≡ l
  pub stored : stored_of bytes ≡ check
  pub covered : take (length bytes - 4) bytes ≡ lists_text l

parsed : (bytes : List ℕ) (l : SwapList) (check : ℕ) → FitsList l → check < 2 ^ 32
    → bytes ≡ lists_text l ++ to_be_bytes w32 check → Parsed bytes l check
parsed bytes l check fits below is =
    let n = length l.inputs in
    let m = length l.outputs in
    let whole : bytes ≡ in_parts l check = is ∙ parts l check in
    let behind_inputs = to_be_bytes w32 m ++ (ids_text l.outputs ++ to_be_bytes w32 check) in
    let behind_outputs = ids_text l.outputs ++ to_be_bytes w32 check in
    let long : length bytes ≡ 12 + 4 * (n + m) =
    omega (arith, ap length is, length-append (lists_text l) (to_be_bytes w32 check), length-lists_text l) in
    let at_inputs : drop 4 bytes ≡ ids_text l.inputs ++ behind_inputs = ap (drop 4) whole in
    let at_count : drop (4 + 4 * n) bytes ≡ behind_inputs =
    sym (drop-drop (4 * n) 4 bytes) ∙ ap (drop (4 * n)) at_inputs
    ∙ drop_at (ids_text l.inputs) behind_inputs (4 * n) (length-ids_text l.inputs) in
    let place : 4 + 4 * n + 4 ≡ 8 + 4 * n = omega arith in
    let at_outputs : drop (8 + 4 * n) bytes ≡ behind_outputs =
    ap (λ (k : ℕ). drop k bytes) (sym place) ∙ sym (drop-drop 4 (4 + 4 * n) bytes)
    ∙ ap (drop 4) at_count in
    let at_check : drop (8 + 4 * n + 4 * m) bytes ≡ to_be_bytes w32 check =
    sym (drop-drop (4 * m) (8 + 4 * n) bytes) ∙ ap (drop (4 * m)) at_outputs
    ∙ drop_at (ids_text l.outputs) (to_be_bytes w32 check) (4 * m) (length-ids_text l.outputs)
    in
    let inputs : inputs_count bytes ≡ n =
    number_at-text bytes 0 n (ids_text l.inputs ++ behind_inputs) fits.inputs.0 (omega (arith, long)) whole in
    let counted : number_at bytes (4 + 4 * n) ≡ m =
    number_at-text bytes (4 + 4 * n) m behind_outputs fits.outputs.0 (omega (arith, long)) at_count in
    let outputs : outputs_count bytes ≡ m = ap (λ (k : ℕ). number_at bytes (4 + 4 * k)) inputs
    ∙ counted in
    let end : length bytes - 4 ≡ 8 + 4 * n + 4 * m = omega (arith, long) in
    let first : ids_in (take (4 * inputs_count bytes) (drop 4 bytes)) ≡ l.inputs =
    (λ i. ids_in (take (4 * inputs i) (at_inputs i)))
    ∙ ap ids_in (take_at (ids_text l.inputs) behind_inputs (4 * n) (length-ids_text l.inputs))
    ∙ ids_in-text l.inputs fits.inputs.1 in
    let second : ids_in (take (4 * outputs_count bytes) (drop (8 + 4 * inputs_count bytes) bytes)) ≡ l.outputs =
    (λ i. ids_in (take (4 * outputs i) (drop (8 + 4 * inputs i) bytes)))
    ∙ ap (λ (x : List ℕ). ids_in (take (4 * m) x)) at_outputs
    ∙ ap ids_in
    (take_at (ids_text l.outputs) (to_be_bytes w32 check) (4 * m) (length-ids_text l.outputs))
    ∙ ids_in-text l.outputs fits.outputs.1 in
    record {
      long = long;
      inputs = inputs;
      outputs = outputs;
      list = λ i. record { inputs = first i; outputs = second i };
      stored = ap (λ (k : ℕ). from_be_bytes w32 (drop k bytes)) end
          ∙ ap (from_be_bytes w32) at_check ∙ from_be_bytes-to_be_bytes_4 check below;
      covered = ap (take (length bytes - 4)) is
          ∙ take_at (lists_text l) (to_be_bytes w32 check) (length bytes - 4) (omega (arith, end, length-lists_text l));
    }

-- what bytes say that are a whole list
pub record Reads (bytes : List ℕ) (l : SwapList) : Type 0 where
  pub needed : length bytes ≡ needed bytes
  pub list : list_in bytes ≡ l
  pub check : stored_of bytes ≡ computed_of bytes

pub reads : (bytes : List ℕ) (l : SwapList) → IsWhole bytes l → Reads bytes l
unfolding swap_text
reads bytes l whole =
    let p = parsed bytes l (crc_of (lists_text l)) whole.fits (check_below l) whole.is in
    record {
      needed = omega (arith, p.long, p.inputs, p.outputs);
      list = p.list;
      check = p.stored ∙ sym (ap crc_of p.covered);
    }

-- two whole lists of one text are one
pub one_list : (bytes : List ℕ) (k l : SwapList) → IsWhole bytes k → IsWhole bytes l → k ≡ l
one_list bytes k l p q = sym (reads bytes k p).list ∙ (reads bytes l q).list

-- ---- what was read is whole

number_at-below : (bytes : List ℕ) (at : ℕ) → AreBytes bytes → at + 4 ≤ length bytes
    → number_at bytes at < 2 ^ 32
number_at-below bytes at fits long =
    rw (number_at-there bytes at long) (from_be_bytes_4-lt (drop at bytes) (AreBytes-drop at bytes fits))

-- the four bytes that say a number
number_at-says : (bytes : List ℕ) (at : ℕ) → AreBytes bytes → at + 4 ≤ length bytes
    → to_be_bytes w32 (number_at bytes at) ≡ take 4 (drop at bytes)
number_at-says bytes at fits long =
    ap (to_be_bytes w32) (number_at-there bytes at long)
    ∙ to_be_bytes-from_be_bytes_4 (drop at bytes) (omega (arith, length-drop at bytes)) (AreBytes-drop at bytes fits)

-- what stands in bytes that are as many as are needed
record Stands (bytes : List ℕ) (end : ℕ) : Type 0 where
  pub fits : FitsList (list_in bytes)
  pub whole : bytes ≡ lists_text (list_in bytes) ++ drop end bytes

stand : (bytes : List ℕ) → AreBytes bytes → length bytes ≡ needed bytes
    → Stands bytes (8 + 4 * inputs_count bytes + 4 * outputs_count bytes)
unfolding lists_text
stand bytes fits long =
    let n = inputs_count bytes in
    let m = outputs_count bytes in
    let l = list_in bytes in
    let first : Says (take (4 * n) (drop 4 bytes)) n =
    says n (take (4 * n) (drop 4 bytes)) (AreBytes-take (4 * n) (drop 4 bytes) (AreBytes-drop 4 bytes fits))
    (omega (arith, long, length-take (4 * n) (drop 4 bytes), length-drop 4 bytes)) in
    let second : Says (take (4 * m) (drop (8 + 4 * n) bytes)) m =
    says m (take (4 * m) (drop (8 + 4 * n) bytes))
    (AreBytes-take (4 * m) (drop (8 + 4 * n) bytes) (AreBytes-drop (8 + 4 * n) bytes fits))
    (omega (arith, long, length-take (4 * m) (drop (8 + 4 * n) bytes), length-drop (8 + 4 * n) bytes)) in
    let a = to_be_bytes w32 n in
    let b = ids_text l.inputs in
    let c = to_be_bytes w32 m in
    let d = ids_text l.outputs in
    let e = drop (8 + 4 * n + 4 * m) bytes in
    let place : 4 + 4 * n + 4 ≡ 8 + 4 * n = omega arith in
    let at_outputs : drop (8 + 4 * n) bytes ≡ d ++ e =
    drop-cut (8 + 4 * n) (4 * m) bytes d second.text in
    let at_count : drop (4 + 4 * n) bytes ≡ c ++ (d ++ e) =
    drop-cut (4 + 4 * n) 4 bytes c (number_at-says bytes (4 + 4 * n) fits (omega (arith, long)))
    ∙ ap (λ (k : ℕ). c ++ drop k bytes) place ∙ ap (λ (x : List ℕ). c ++ x) at_outputs in
    let at_inputs : drop 4 bytes ≡ b ++ (c ++ (d ++ e)) =
    drop-cut 4 (4 * n) bytes b first.text ∙ ap (λ (x : List ℕ). b ++ x) at_count in
    let whole : bytes ≡ a ++ (b ++ (c ++ (d ++ e))) =
    drop-cut 0 4 bytes a (number_at-says bytes 0 fits (omega (arith, long)))
    ∙ ap (λ (x : List ℕ). a ++ x) at_inputs in
    let counts : (a ++ b) ++ (c ++ d) ++ e ≡ counted_text l.inputs ++ counted_text l.outputs ++ e =
    λ i. (to_be_bytes w32 (sym first.count i) ++ b) ++ (to_be_bytes w32 (sym second.count i) ++ d) ++ e in
    record {
      fits = record {
        inputs = (rw first.count (number_at-below bytes 0 fits (omega (arith, long))), first.fit);
        outputs =
            (rw second.count (number_at-below bytes (4 + 4 * n) fits (omega (arith, long))), second.fit);
      };
      whole = whole ∙ sym (regroup a b c d e) ∙ counts;
    }

pub is_whole : (bytes : List ℕ) → AreBytes bytes → length bytes ≡ needed bytes
    → stored_of bytes ≡ computed_of bytes → IsWhole bytes (list_in bytes)
unfolding swap_text
is_whole bytes fits long same =
    let end = length bytes - 4 in
    let place : 8 + 4 * inputs_count bytes + 4 * outputs_count bytes ≡ end = omega (arith, long) in
    let s = stand bytes fits long in
    let lists = lists_text (list_in bytes) in
    let whole : bytes ≡ lists ++ drop end bytes = s.whole
    ∙ ap (λ (k : ℕ). lists ++ drop k bytes) place in
    let lists_len : length lists ≡ end =
    omega (arith, ap length whole, length-append lists (drop end bytes), length-drop end bytes, long) in
    let covered : take end bytes ≡ lists = ap (take end) whole
    ∙ take_at lists (drop end bytes) end lists_len in
    let check : to_be_bytes w32 (crc_of lists) ≡ drop end bytes =
    ap (λ (x : List ℕ). to_be_bytes w32 (crc_of x)) (sym covered) ∙ ap (to_be_bytes w32) (sym same)
    ∙ to_be_bytes-from_be_bytes_4 (drop end bytes) (omega (arith, length-drop end bytes, long))
    (AreBytes-drop end bytes fits)
    ∙ take_all 4 (drop end bytes) (omega (arith, length-drop end bytes, long)) in
    record { fits = s.fits; is = whole ∙ ap (λ (x : List ℕ). lists ++ x) (sym check) }

-- ---- a text is appended part by part

pub appended : (old : List ℕ) (l : SwapList) (text : List ℕ) (begin check : ℕ)
    → text ≡ old ++ counted_text l.inputs ++ counted_text l.outputs
    → begin ≡ length old → check ≡ crc_of (drop begin text)
    → text ++ to_be_bytes w32 check ≡ old ++ swap_text l
unfolding lists_text swap_text
appended old l text begin check is place says =
    let lists : text ≡ old ++ lists_text l = is
    ∙ append_assoc old (counted_text l.inputs) (counted_text l.outputs) in
    let covered : drop begin text ≡ lists_text l = ap (drop begin) lists
    ∙ drop_at old (lists_text l) begin (sym place) in
    ap (λ (x : List ℕ). x ++ to_be_bytes w32 check) lists
    ∙ append_assoc old (lists_text l) (to_be_bytes w32 check)
    ∙ ap (λ (n : ℕ). old ++ (lists_text l ++ to_be_bytes w32 n)) (says ∙ ap crc_of covered)
