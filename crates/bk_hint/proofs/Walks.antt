-- A walk over rows: how far it has come.
use Rattle.std.proofs.Common.{◌≡◌, ℕ, zero, suc, ◌+◌, ◌-◌, ◌<◌, ◌≤◌, List, [], ◌∷◌, ◌++◌, length, take}
use Rattle.std.proofs.Common.{Bool, true, false, eqb, Option, Some, None, IsTrue}
use Rattle.std.proofs.Common.{refl, sym, ap, ◌∙◌, append_assoc, arith}
use Rattle.std.specs.List.{AllByRecursion}
use Rattle.std.proofs.lemmas.Bool.{eqb-true, false≢true}
use Rattle.std.proofs.lemmas.List.{append-nil, length-append, nil_from_length, take_at}
use Rattle.std.proofs.lemmas.List.Sums.{fold-append}
use Rattle.bk_crc.specs.Crc.{byte_step, crc_of, register_after, start_register}
use Rattle.bk_laws.specs.Hint.{FitsRow, Hinted, IsSoundRow, row_text, rows_text}
use Rattle.bk_hint.specs.declared.headers.Header.{Header}
use Rattle.bk_hint.specs.Headers.{IsFirstRow, IsSoundHeader, NoRow, row_in}
use Rattle.bk_hint.specs.Verdicts.{AreRows, EndsWith, FirstBad, IsFirstBad, IsWalked, first_by}
use Rattle.bk_hint.proofs.RowTexts.{AllByRecursion-push, length-row_text, no_row-short, rows_text-push, same_rows}

-- the bytes are some rows, each of them walked over, and what is left
pub record Passed (bytes left : List ℕ) (covered count : ℕ) (bad : Option ℕ) : Type 0 where
  pub rows : List Hinted
  pub fit : AllByRecursion FitsRow rows
  pub text : bytes ≡ rows_text rows ++ left
  pub walked : IsWalked covered rows count bad
  pub room : count + length left ≤ length bytes

pub passed-none : (bytes : List ℕ) (covered : ℕ) → Passed bytes bytes covered 0 None
passed-none bytes covered = record {
  rows = [];
  fit = tt;
  text = refl;
  walked = record { number = refl; first = tt };
  room = omega arith;
}

-- a header is sound where its row is
pub sound_row : (covered : ℕ) (h : Header) (key : List ℕ) → length key ≡ h.ksz
    → IsSoundHeader covered h → IsSoundRow covered (row_in h key)
sound_row covered h key size sound = record {
  seq = sound.seq;
  value = sound.value;
  within = omega (arith, size, sound.within);
}

pub sound_header : (covered : ℕ) (h : Header) (key : List ℕ) → length key ≡ h.ksz
    → IsSoundRow covered (row_in h key) → IsSoundHeader covered h
sound_header covered h key size sound = record {
  seq = sound.seq;
  value = sound.value;
  within = omega (arith, size, sound.within);
}

later_bad : (covered : ℕ) (rows : List Hinted) (r : Hinted) (n : ℕ)
    → IsFirstBad covered rows n → IsFirstBad covered (rows ++ r ∷ []) n
later_bad covered rows r n first = record {
  before = first.before;
  row = first.row;
  later = first.later ++ r ∷ [];
  whole = ap (λ (x : List Hinted). x ++ r ∷ []) first.whole
      ∙ append_assoc first.before (first.row ∷ first.later) (r ∷ []);
  place = first.place;
  sound = first.sound;
  bad = first.bad;
}

first-more : (covered : ℕ) (rows : List Hinted) (r : Hinted) (bad : Option ℕ) (sound : Bool)
    → (IsTrue sound → IsSoundRow covered r) → (IsSoundRow covered r → IsTrue sound)
    → FirstBad covered rows bad → FirstBad covered (rows ++ r ∷ []) (first_by bad (length rows) sound)
first-more covered rows r (Some n) sound to from first = later_bad covered rows r n first
first-more covered rows r None true to from first = AllByRecursion-push (IsSoundRow covered) rows r first (to refl)
first-more covered rows r None false to from first = record {
  before = rows;
  row = r;
  later = [];
  whole = refl;
  place = refl;
  sound = first;
  bad = λ sound. absurd (false≢true (from sound));
}

walked-more : (covered : ℕ) (rows : List Hinted) (r : Hinted) (count : ℕ) (bad : Option ℕ) (sound : Bool)
    → (IsTrue sound → IsSoundRow covered r) → (IsSoundRow covered r → IsTrue sound)
    → IsWalked covered rows count bad
    → IsWalked covered (rows ++ r ∷ []) (count + 1) (first_by bad count sound)
walked-more covered rows r count bad sound to from walked = record {
  number = ap (λ (n : ℕ). n + 1) walked.number ∙ sym (length-append rows (r ∷ []));
  first = rw walked.number (first-more covered rows r bad sound to from walked.first);
}

-- one row further
pub passed-more : (bytes left : List ℕ) (covered count : ℕ) (bad : Option ℕ) (h : Header)
    (key rest : List ℕ) (sound : Bool)
    → Passed bytes left covered count bad → IsFirstRow left h key rest
    → (IsTrue sound → IsSoundHeader covered h) → (IsSoundHeader covered h → IsTrue sound)
    → Passed bytes rest covered (count + 1) (first_by bad count sound)
passed-more bytes left covered count bad h key rest sound passed first to from =
    let r = row_in h key in
    let size : length left ≡ length (row_text r) + length rest =
    ap length first.stands.whole ∙ length-append (row_text r) rest in
    record {
      rows = passed.rows ++ r ∷ [];
      fit = AllByRecursion-push FitsRow passed.rows r passed.fit first.stands.fits;
      text = passed.text ∙ ap (λ (x : List ℕ). rows_text passed.rows ++ x) first.stands.whole
          ∙ rows_text-push passed.rows r rest;
      walked = walked-more covered passed.rows r count bad sound
          (λ is. sound_row covered h key first.key_length (to is))
          (λ is. from (sound_header covered h key first.key_length is)) passed.walked;
      room = omega (arith, passed.room, size, length-row_text r);
    }

-- no row stands where the walk has come to: the bytes aren't rows alone
pub passed-lost : (bytes left : List ℕ) (covered count : ℕ) (bad : Option ℕ)
    → Passed bytes left covered count bad → NoRow left → 0 < length left
    → (rows : List Hinted) → AreRows bytes rows → ⊥
passed-lost bytes left covered count bad passed none some rows are =
    let same = same_rows bytes left [] passed.rows rows passed.fit are.fit none (no_row-short [] (omega arith))
    passed.text (are.whole ∙ sym (append-nil (rows_text rows))) in
    omega (arith, ap length same.1)

pub passed-all : (bytes left : List ℕ) (covered count crc : ℕ) (bad : Option ℕ)
    → Passed bytes left covered count bad → length left ≡ 0 → crc ≡ crc_of bytes
    → (rows : List Hinted) × AreRows bytes rows × IsWalked covered rows count bad × (crc ≡ crc_of bytes)
passed-all bytes left covered count crc bad passed none check =
    let empty : left ≡ [] = nil_from_length left none in (
      passed.rows,
      record {
        fit = passed.fit;
        whole = passed.text ∙ ap (λ (x : List ℕ). rows_text passed.rows ++ x) empty
            ∙ append-nil (rows_text passed.rows);
      },
      passed.walked,
      check,
    )

-- ---- a step of the walk

pub shorter : (left : List ℕ) (h : Header) (key rest : List ℕ) → IsFirstRow left h key rest
    → length rest < length left
shorter left h key rest first =
    omega (
      arith,
      ap length first.stands.whole,
      length-append (row_text (row_in h key)) rest,
      length-row_text (row_in h key),
    )

pub some_left : (n : ℕ) → false ≡ eqb n 0 → 0 < n
some_left zero is = absurd (false≢true is)
some_left (suc n) is = omega arith

pub none_left : (n : ℕ) → true ≡ eqb n 0 → n ≡ 0
none_left n is = eqb-true n 0 (sym is)

-- ---- the checksum, which follows the walk

pub ends-all : (bytes : List ℕ) → EndsWith bytes bytes
ends-all bytes = record { front = []; whole = refl }

-- a row further
pub ends-more : (unchecked left rest : List ℕ) (h : Header) (key : List ℕ) → EndsWith unchecked left
    → IsFirstRow left h key rest → EndsWith unchecked rest
ends-more unchecked left rest h key ends first = record {
  front = ends.front ++ row_text (row_in h key);
  whole = ends.whole ∙ ap (λ (x : List ℕ). ends.front ++ x) first.stands.whole
      ∙ sym (append_assoc ends.front (row_text (row_in h key)) rest);
}

-- the front is checked
pub checked : (register : ℕ) (unchecked left : List ℕ) → EndsWith unchecked left
    → register_after (register_after register (take (length unchecked - length left) unchecked)) left
    ≡ register_after register unchecked
checked register unchecked left ends =
    let size : length unchecked ≡ length ends.front + length left =
    ap length ends.whole ∙ length-append ends.front left in
    let place : length ends.front ≡ length unchecked - length left = omega (arith, size) in
    let front : take (length unchecked - length left) unchecked ≡ ends.front =
    ap (take (length unchecked - length left)) ends.whole
    ∙ take_at ends.front left (length unchecked - length left) place in
    ap (λ (x : List ℕ). register_after (register_after register x) left) front
    ∙ sym (fold-append byte_step register ends.front left) ∙ ap (register_after register) (sym ends.whole)

pub shorter_end : (unchecked left : List ℕ) → EndsWith unchecked left → length left ≤ length unchecked
shorter_end unchecked left ends = omega (arith, ap length ends.whole, length-append ends.front left)

-- how far a walk and its checksum have come
pub record Walking (bytes left unchecked : List ℕ) (covered count : ℕ) (bad : Option ℕ) (register : ℕ) : Type 0 where
  pub passed : Passed bytes left covered count bad
  pub ends : EndsWith unchecked left
  pub check : register_after register unchecked ≡ register_after start_register bytes
