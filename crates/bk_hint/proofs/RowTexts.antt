-- A row that stands at the front of bytes is read, and what was read stands there. So bytes begin with
-- at most one row, and with at most one list of rows.
use Rattle.std.proofs.Common.{◌≡◌, ℕ, ◌+◌, ◌<◌, ◌≤◌, List, [], ◌∷◌, ◌++◌, length, take, drop}
use Rattle.std.proofs.Common.{refl, sym, ap, ◌∙◌, append_assoc, arith}
use Rattle.std.specs.List.{AllByRecursion}
use Rattle.std.proofs.lemmas.List.{append-nil, take-append-drop, take_at, drop_at, length-drop, length-append, length-take}
use Rattle.bk_base.specs.Bounds.{AreBytes}
use Rattle.bk_laws.specs.Hint.{FitsRow, Hinted, head_text, mark_text, row_text, rows_text}
use Rattle.bk_hint.specs.declared.headers.Header.{Header}
use Rattle.bk_hint.specs.Headers.{IsFirstRow, NoRow, RowStands, head_of, header_of, row_in, text_of}
use Rattle.bk_base.proofs.Bytes.{AreBytes-drop, AreBytes-take}
use Rattle.bk_hint.proofs.Heads.{FitsHead, header_fits, head_read, head_says, length-head_text}

pub row_text-parts : (r : Hinted) → row_text r ≡ text_of (head_of r) ++ r.key
unfolding row_text
row_text-parts r = refl

pub length-row_text : (r : Hinted) → length (row_text r) ≡ 30 + length r.key
length-row_text r =
    ap length (row_text-parts r) ∙ length-append (text_of (head_of r)) r.key
    ∙ ap (λ (n : ℕ). n + length r.key) (length-head_text r.moment (length r.key) r.vsz r.at r.seq r.crc)

head_fits : (r : Hinted) → FitsRow r → FitsHead (head_of r)
head_fits r fits =
    let bound : length r.key ≤ 65535 = fits.key.bounds.short in
    record {
      moment = fits.moment;
      ksz = omega arith;
      vsz = fits.vsz;
      at = fits.at;
      seq = fits.seq;
      crc = fits.crc;
    }

-- what is found at the front of bytes where a row stands
pub record Reads (bytes : List ℕ) (r : Hinted) (rest : List ℕ) : Type 0 where
  pub long : 30 + length r.key ≤ length bytes
  pub head : header_of bytes ≡ head_of r
  pub key : take (length r.key) (drop 30 bytes) ≡ r.key
  pub rest_is : drop (length r.key) (drop 30 bytes) ≡ rest

pub reads : (bytes : List ℕ) (r : Hinted) (rest : List ℕ) → RowStands bytes r rest → Reads bytes r rest
reads bytes r rest stands =
    let whole : bytes ≡ text_of (head_of r) ++ (r.key ++ rest) =
    stands.whole ∙ ap (λ (x : List ℕ). x ++ rest) (row_text-parts r) ∙ append_assoc (text_of (head_of r)) r.key rest in
    let thirty = length-head_text r.moment (length r.key) r.vsz r.at r.seq r.crc in
    let behind : drop 30 bytes ≡ r.key ++ rest =
    ap (drop 30) whole ∙ drop_at (text_of (head_of r)) (r.key ++ rest) 30 thirty in
    record {
      long = omega (
        arith,
        ap length whole,
        length-append (text_of (head_of r)) (r.key ++ rest),
        length-append r.key rest,
        thirty,
      );
      head = ap header_of whole ∙ head_says (head_of r) (r.key ++ rest) (head_fits r stands.fits);
      key = ap (take (length r.key)) behind ∙ take_at r.key rest (length r.key) refl;
      rest_is = ap (drop (length r.key)) behind ∙ drop_at r.key rest (length r.key) refl;
    }

-- no row begins another
pub one_row : (bytes : List ℕ) (r s : Hinted) (x y : List ℕ)
    → RowStands bytes r x → RowStands bytes s y → (r ≡ s) × (x ≡ y)
one_row bytes r s x y p q =
    let a = reads bytes r x p in
    let b = reads bytes s y q in
    let head : head_of r ≡ head_of s = sym a.head ∙ b.head in
    let size : length r.key ≡ length s.key = ap (λ (h : Header). h.ksz) head in
    let key : r.key ≡ s.key = sym a.key ∙ ap (λ (n : ℕ). take n (drop 30 bytes)) size ∙ b.key in
    let rest : x ≡ y = sym a.rest_is ∙ ap (λ (n : ℕ). drop n (drop 30 bytes)) size ∙ b.rest_is in
    (λ i. row_in (head i) (key i), rest)

-- ---- where no row stands

pub no_row-short : (bytes : List ℕ) → length bytes < 30 → NoRow bytes
no_row-short bytes short r rest stands = omega (arith, (reads bytes r rest stands).long)

pub no_row-without_key : (bytes : List ℕ) → (header_of bytes).ksz ≡ 0 → NoRow bytes
no_row-without_key bytes none r rest stands =
    let some : 1 ≤ length r.key = stands.fits.key.bounds.some in
    omega (arith, ap (λ (h : Header). h.ksz) (reads bytes r rest stands).head)

pub no_row-cut : (bytes : List ℕ) → length (drop 30 bytes) < (header_of bytes).ksz → NoRow bytes
no_row-cut bytes short r rest stands =
    let read = reads bytes r rest stands in
    omega (arith, ap (λ (h : Header). h.ksz) read.head, read.long, length-drop 30 bytes)

pub no_row-mark : (covered count crc : ℕ) → NoRow (mark_text covered count crc)
unfolding head_text header_of
no_row-mark covered count crc = no_row-without_key (mark_text covered count crc) refl

-- ---- what was read

pub first_row : (bytes : List ℕ) → AreBytes bytes → 30 ≤ length bytes → 1 ≤ (header_of bytes).ksz
    → (header_of bytes).ksz ≤ length (drop 30 bytes)
    → IsFirstRow bytes (header_of bytes) (take (header_of bytes).ksz (drop 30 bytes))
    (drop (header_of bytes).ksz (drop 30 bytes))
first_row bytes fits long some room =
    let h = header_of bytes in
    let behind = drop 30 bytes in
    let key = take h.ksz behind in
    let below = header_fits bytes fits in
    let size : length key ≡ h.ksz = omega (arith, length-take h.ksz behind) in
    let text : text_of h ++ key ≡ row_text (row_in h key) =
    sym (row_text-parts (row_in h key) ∙ ap (λ (n : ℕ). head_text h.moment.0 n h.vsz h.at h.seq h.crc ++ key) size) in
    record {
      stands = record {
        fits = record {
          moment = below.moment;
          vsz = below.vsz;
          at = below.at;
          seq = below.seq;
          crc = below.crc;
          key = record {
            bounds = record { some = omega arith; short = omega (arith, below.ksz) };
            bytes = AreBytes-take h.ksz behind (AreBytes-drop 30 bytes fits);
          };
        };
        whole = head_read bytes fits long
            ∙ ap (λ (x : List ℕ). text_of h ++ x) (sym (take-append-drop h.ksz behind))
            ∙ sym (append_assoc (text_of h) key (drop h.ksz behind))
            ∙ ap (λ (x : List ℕ). x ++ drop h.ksz behind) text;
      };
      key_length = size;
    }

-- ---- lists of rows

pub first_stands : (bytes tail : List ℕ) (r : Hinted) (rs : List Hinted) → AllByRecursion FitsRow (r ∷ rs)
    → bytes ≡ rows_text (r ∷ rs) ++ tail → RowStands bytes r (rows_text rs ++ tail)
first_stands bytes tail r rs fit whole = record {
  fits = fit.0;
  whole = whole ∙ append_assoc (row_text r) (rows_text rs) tail;
}

-- two lists of rows at the front of the same bytes, each with no row behind it
pub same_rows : (bytes x y : List ℕ) (rs ss : List Hinted) → AllByRecursion FitsRow rs → AllByRecursion FitsRow ss
    → NoRow x → NoRow y → bytes ≡ rows_text rs ++ x → bytes ≡ rows_text ss ++ y → (rs ≡ ss) × (x ≡ y)
same_rows bytes x y [] [] fit fits none nothing p q = (refl, sym p ∙ q)
same_rows bytes x y [] (s ∷ ss) fit fits none nothing p q =
    absurd (none s (rows_text ss ++ y) (first_stands x y s ss fits (sym p ∙ q)))
same_rows bytes x y (r ∷ rs) [] fit fits none nothing p q =
    absurd (nothing r (rows_text rs ++ x) (first_stands y x r rs fit (sym q ∙ p)))
same_rows bytes x y (r ∷ rs) (s ∷ ss) fit fits none nothing p q =
    let first = one_row bytes r s _ _ (first_stands bytes x r rs fit p) (first_stands bytes y s ss fits q) in
    let rest = same_rows (rows_text rs ++ x) x y rs ss fit.1 fits.1 none nothing refl first.1 in
    (λ i. first.0 i ∷ rest.0 i, rest.1)

pub rows_text-push : (rs : List Hinted) (r : Hinted) (rest : List ℕ)
    → rows_text rs ++ (row_text r ++ rest) ≡ rows_text (rs ++ r ∷ []) ++ rest
rows_text-push [] r rest = ap (λ (x : List ℕ). x ++ rest) (sym (append-nil (row_text r)))
rows_text-push (s ∷ rs) r rest =
    append_assoc (row_text s) (rows_text rs) (row_text r ++ rest)
    ∙ ap (λ (x : List ℕ). row_text s ++ x) (rows_text-push rs r rest)
    ∙ sym (append_assoc (row_text s) (rows_text (rs ++ r ∷ [])) rest)

pub AllByRecursion-push : {X : Type 0} (P : X → Type 0) (xs : List X) (x : X)
    → AllByRecursion P xs → P x → AllByRecursion P (xs ++ x ∷ [])
AllByRecursion-push P [] x all holds = (holds, tt)
AllByRecursion-push P (y ∷ xs) x all holds = (all.0, AllByRecursion-push P xs x all.1 holds)
