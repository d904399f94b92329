-- A hint's bytes are its rows and its end mark, and say which.
use Rattle.std.proofs.Common.{◌≡◌, ℕ, ◌+◌, ◌-◌, ◌^◌, ◌<◌, ◌≤◌, List, [], ◌++◌, length, take, drop}
use Rattle.std.proofs.Common.{Option, sym, ap, subst, ◌∙◌, arith}
use Rattle.std.proofs.lemmas.List.{append-nil, take-append-drop, take_at, drop_at, drop_all}
use Rattle.std.proofs.lemmas.List.{length-append, length-drop}
use Rattle.bk_base.specs.Bounds.{AreBytes}
use Rattle.bk_crc.specs.Crc.{crc_of}
use Rattle.bk_laws.specs.Hint.{Hinted, IsHint, head_text, mark_text, rows_text}
use Rattle.bk_hint.specs.declared.headers.Header.{Header}
use Rattle.bk_hint.specs.Headers.{IsMark, NoRow, header_of, text_of}
use Rattle.bk_hint.specs.Verdicts.{AreRows, IsWalked, IsWhole}
use Rattle.bk_base.proofs.Bytes.{AreBytes-drop}
use Rattle.bk_hint.proofs.Heads.{head_read, head_says, header_fits, length-head_text}
use Rattle.bk_hint.proofs.RowTexts.{no_row-short, same_rows}

-- the header that an end mark is
abbrev mark_head : ℕ → ℕ → ℕ → Header
mark_head covered count crc = record {
  at = covered;
  seq = count;
  moment = record { 0 = 0 };
  vsz = 0;
  crc = crc;
  ksz = 0;
}

mark_says : (covered count crc : ℕ) → covered < 2 ^ 64 → count < 2 ^ 64 → crc < 2 ^ 32
    → header_of (mark_text covered count crc) ≡ mark_head covered count crc
mark_says covered count crc a b c =
    ap header_of (sym (append-nil (mark_text covered count crc)))
    ∙ head_says (mark_head covered count crc) [] (record {
      moment = omega arith;
      ksz = omega arith;
      vsz = omega arith;
      at = a;
      seq = b;
      crc = c;
    })

-- the bytes before the end mark, and the end mark
pub record Parts (bytes : List ℕ) (covered : ℕ) (rows : List Hinted) (crc : ℕ) : Type 0 where
  pub long : 30 ≤ length bytes
  pub front : take (length bytes - 30) bytes ≡ rows_text rows
  pub mark : drop (length bytes - 30) bytes ≡ mark_text covered (length rows) crc

pub parts : (bytes : List ℕ) (covered : ℕ) (rows : List Hinted) (crc : ℕ)
    → IsHint bytes covered rows crc → Parts bytes covered rows crc
parts bytes covered rows crc hint =
    let mark = mark_text covered (length rows) crc in
    let size : length bytes ≡ length (rows_text rows) + 30 =
    ap length hint.whole ∙ length-append (rows_text rows) mark
    ∙ ap (λ (n : ℕ). length (rows_text rows) + n) (length-head_text 0 0 0 covered (length rows) crc) in
    let place : length (rows_text rows) ≡ length bytes - 30 = omega (arith, size) in
    record {
      long = omega (arith, size);
      front = ap (take (length bytes - 30)) hint.whole ∙ take_at (rows_text rows) mark (length bytes - 30) place;
      mark = ap (drop (length bytes - 30)) hint.whole ∙ drop_at (rows_text rows) mark (length bytes - 30) place;
    }

mark_of : (bytes : List ℕ) (covered : ℕ) (rows : List Hinted) (crc : ℕ) → IsHint bytes covered rows crc
    → header_of (drop (length bytes - 30) bytes) ≡ mark_head covered (length rows) crc
mark_of bytes covered rows crc hint =
    ap header_of (parts bytes covered rows crc hint).mark
    ∙ mark_says covered (length rows) crc hint.covered_fits hint.count_fits hint.crc_fits

-- the bytes before the end mark are the hint's rows alone
pub only_rows : (bytes : List ℕ) (covered : ℕ) (rows : List Hinted) (crc : ℕ) → IsHint bytes covered rows crc
    → AreRows (take (length bytes - 30) bytes) rows
only_rows bytes covered rows crc hint =
    record { fit = hint.fit; whole = (parts bytes covered rows crc hint).front }

pub one_list : (bytes : List ℕ) (rows more : List Hinted) → AreRows bytes rows → AreRows bytes more → rows ≡ more
one_list bytes rows more p q =
    let none : NoRow [] = no_row-short [] (omega arith) in
    (same_rows bytes [] [] rows more p.fit q.fit none none
    (p.whole ∙ sym (append-nil (rows_text rows))) (q.whole ∙ sym (append-nil (rows_text more)))).0

-- where other numbers stand in the last 30 bytes than those of an end mark behind the rows, the bytes aren't whole
pub has_mark : (bytes : List ℕ) (covered : ℕ) (rows found : List Hinted) (crc : ℕ)
    → IsHint bytes covered rows crc → AreRows (take (length bytes - 30) bytes) found
    → IsMark (length found) (header_of (drop (length bytes - 30) bytes))
has_mark bytes covered rows found crc hint are =
    let says = mark_of bytes covered rows crc hint in
    let same = one_list (take (length bytes - 30) bytes) rows found (only_rows bytes covered rows crc hint) are in
    record {
      moment = ap (λ (h : Header). h.moment.0) says;
      key = ap (λ (h : Header). h.ksz) says;
      value = ap (λ (h : Header). h.vsz) says;
      count = ap (λ (h : Header). h.seq) says ∙ ap length same;
    }

-- what was found before and in the last 30 bytes is a hint
pub is_hint : (bytes : List ℕ) (rows : List Hinted) → AreBytes bytes → 30 ≤ length bytes → length rows < 2 ^ 64
    → AreRows (take (length bytes - 30) bytes) rows
    → IsMark (length rows) (header_of (drop (length bytes - 30) bytes))
    → IsHint bytes (header_of (drop (length bytes - 30) bytes)).at rows (header_of (drop (length bytes - 30) bytes)).crc
is_hint bytes rows fits long few are is =
    let place = length bytes - 30 in
    let mark = drop place bytes in
    let h = header_of mark in
    let bytes_fit = AreBytes-drop place bytes fits in
    let thirty : length mark ≡ 30 = omega (arith, length-drop place bytes) in
    let below = header_fits mark bytes_fit in
    let text : mark ≡ text_of h =
    head_read mark bytes_fit (omega arith) ∙ ap (λ (x : List ℕ). text_of h ++ x) (drop_all 30 mark (omega arith))
    ∙ append-nil (text_of h) in
    let said : text_of h ≡ mark_text h.at (length rows) h.crc =
    λ i. head_text (is.moment i) (is.key i) (is.value i) h.at (is.count i) h.crc in
    record {
      fit = are.fit;
      covered_fits = below.at;
      count_fits = few;
      crc_fits = below.crc;
      whole = sym (take-append-drop place bytes) ∙ (λ i. are.whole i ++ (text ∙ said) i);
    }

-- the two parts of the bytes, as they were cut and read
module _ (bytes front mark : List ℕ) (h : Header) (front_is : front ≡ take (length bytes - 30) bytes)
    (mark_is : mark ≡ drop (length bytes - 30) bytes) (read : h ≡ header_of mark) where
  read_is : h ≡ header_of (drop (length bytes - 30) bytes)
  read_is = read ∙ ap header_of mark_is

  pub not_rows : ((rows : List Hinted) → AreRows front rows → ⊥)
      → (covered : ℕ) (rows : List Hinted) (crc : ℕ) → IsHint bytes covered rows crc → ⊥
  not_rows none covered rows crc hint =
      none rows (subst (λ (x : List ℕ). AreRows x rows) (sym front_is) (only_rows bytes covered rows crc hint))

  pub not_mark : (count : ℕ) (found : List Hinted) → AreRows front found → count ≡ length found
      → (IsMark count h → ⊥)
      → (covered : ℕ) (rows : List Hinted) (crc : ℕ) → IsHint bytes covered rows crc → ⊥
  not_mark count found are number none covered rows crc hint =
      none (subst (λ (x : Header). IsMark count x) (sym read_is) (rw number
      (has_mark bytes covered rows found crc hint (subst (λ (x : List ℕ). AreRows x found) front_is are))))

  pub found_whole : (count computed : ℕ) (bad : Option ℕ) (rows : List Hinted) → AreBytes bytes
      → 30 ≤ length bytes → count < 2 ^ 64 → AreRows front rows → IsWalked h.at rows count bad
      → computed ≡ crc_of front → IsMark count h → IsWhole bytes h.at h.crc computed count bad
  found_whole count computed bad rows fits long few are walked check is =
      let marked : IsMark (length rows) (header_of (drop (length bytes - 30) bytes)) =
      subst (λ (x : Header). IsMark (length rows) x) read_is (subst (λ (n : ℕ). IsMark n h) walked.number is) in
      let fewer : length rows < 2 ^ 64 = omega (arith, walked.number) in
      let hint = is_hint bytes rows fits long fewer (subst (λ (x : List ℕ). AreRows x rows) front_is are) marked in
      record {
        rows = rows;
        hint = subst (λ (x : Header). IsHint bytes x.at rows x.crc) (sym read_is) hint;
        check = check ∙ ap crc_of are.whole;
        walked = walked;
      }

-- bytes are one hint at most
pub record SameHint (covered other : ℕ) (rows more : List Hinted) (crc check : ℕ) : Type 0 where
  pub covered_is : covered ≡ other
  pub rows_are : rows ≡ more
  pub crc_is : crc ≡ check

pub one_hint : (bytes : List ℕ) (covered other : ℕ) (rows more : List Hinted) (crc check : ℕ)
    → IsHint bytes covered rows crc → IsHint bytes other more check → SameHint covered other rows more crc check
one_hint bytes covered other rows more crc check p q =
    let heads : mark_head covered (length rows) crc ≡ mark_head other (length more) check =
    sym (mark_of bytes covered rows crc p) ∙ mark_of bytes other more check q in
    record {
      covered_is = ap (λ (h : Header). h.at) heads;
      rows_are = one_list (take (length bytes - 30) bytes) rows more
          (only_rows bytes covered rows crc p) (only_rows bytes other more check q);
      crc_is = ap (λ (h : Header). h.crc) heads;
    }
