-- A header's bytes say its numbers, and a header that was read is the one that stands there.
use Rattle.std.proofs.Common.{◌≡◌, ℕ, ◌^◌, ◌<◌, ◌≤◌, List, ◌∷◌, ◌++◌, length, take, drop}
use Rattle.std.proofs.Common.{refl, ap, ◌∙◌, append_assoc, arith}
use Rattle.std.specs.Int.{w16, w32, w64, to_be_bytes}
use Rattle.std.proofs.lemmas.List.{length-drop}
use Rattle.std.proofs.lemmas.Nat.{from_be_bytes-to_be_bytes_2, from_be_bytes-to_be_bytes_4}
use Rattle.std.proofs.lemmas.Nat.{from_be_bytes-to_be_bytes_8}
use Rattle.bk_base.specs.Bounds.{AreBytes}
use Rattle.bk_laws.specs.Hint.{head_text}
use Rattle.bk_hint.specs.declared.headers.Header.{Header}
use Rattle.bk_hint.specs.Headers.{header_of, text_of}
use Rattle.bk_base.proofs.Bytes.{AreBytes-append, AreBytes-drop, drop-cut}
use Rattle.bk_base.proofs.FixedWidth.{from_be_bytes_2-lt, from_be_bytes_4-lt, from_be_bytes_8-lt}
use Rattle.bk_base.proofs.FixedWidth.{AreBytes-to_be_bytes_2, AreBytes-to_be_bytes_4, AreBytes-to_be_bytes_8}
use Rattle.bk_base.proofs.FixedWidth.{to_be_bytes-from_be_bytes_2, to_be_bytes-from_be_bytes_4, to_be_bytes-from_be_bytes_8}

-- each number fits its field
pub record FitsHead (h : Header) : Type 0 where
  pub moment : h.moment.0 < 2 ^ 32
  pub ksz : h.ksz < 2 ^ 16
  pub vsz : h.vsz < 2 ^ 32
  pub at : h.at < 2 ^ 64
  pub seq : h.seq < 2 ^ 64
  pub crc : h.crc < 2 ^ 32

pub length-head_text : (m k v a s c : ℕ) → length (head_text m k v a s c) ≡ 30
unfolding head_text
length-head_text m k v a s c = refl

pub AreBytes-head_text : (m k v a s c : ℕ) → AreBytes (head_text m k v a s c)
unfolding head_text
AreBytes-head_text m k v a s c =
    let two =
    AreBytes-append (to_be_bytes w32 m) (to_be_bytes w16 k) (AreBytes-to_be_bytes_4 m)
    (AreBytes-to_be_bytes_2 k) in
    let three =
    AreBytes-append (to_be_bytes w32 m ++ to_be_bytes w16 k) (to_be_bytes w32 v) two
    (AreBytes-to_be_bytes_4 v) in
    let four =
    AreBytes-append (to_be_bytes w32 m ++ to_be_bytes w16 k ++ to_be_bytes w32 v)
    (to_be_bytes w64 a) three (AreBytes-to_be_bytes_8 a) in
    let five =
    AreBytes-append
    (to_be_bytes w32 m ++ to_be_bytes w16 k ++ to_be_bytes w32 v ++ to_be_bytes w64 a)
    (to_be_bytes w64 s) four (AreBytes-to_be_bytes_8 s) in
    AreBytes-append
    (to_be_bytes w32 m ++ to_be_bytes w16 k ++ to_be_bytes w32 v ++ to_be_bytes w64 a
    ++ to_be_bytes w64 s) (to_be_bytes w32 c) five (AreBytes-to_be_bytes_4 c)

pub head_says : (h : Header) (rest : List ℕ) → FitsHead h → header_of (text_of h ++ rest) ≡ h
unfolding header_of head_text
head_says h rest fits =
    let moment = from_be_bytes-to_be_bytes_4 h.moment.0 fits.moment in
    let ksz = from_be_bytes-to_be_bytes_2 h.ksz fits.ksz in
    let vsz = from_be_bytes-to_be_bytes_4 h.vsz fits.vsz in
    let at = from_be_bytes-to_be_bytes_8 h.at fits.at in
    let seq = from_be_bytes-to_be_bytes_8 h.seq fits.seq in
    let crc = from_be_bytes-to_be_bytes_4 h.crc fits.crc in
    λ i. record {
      at = at i;
      seq = seq i;
      moment = record { 0 = moment i };
      vsz = vsz i;
      crc = crc i;
      ksz = ksz i;
    }

pub header_fits : (bytes : List ℕ) → AreBytes bytes → FitsHead (header_of bytes)
unfolding header_of
header_fits bytes fits = record {
  moment = from_be_bytes_4-lt bytes fits;
  ksz = from_be_bytes_2-lt (drop 4 bytes) (AreBytes-drop 4 bytes fits);
  vsz = from_be_bytes_4-lt (drop 6 bytes) (AreBytes-drop 6 bytes fits);
  at = from_be_bytes_8-lt (drop 10 bytes) (AreBytes-drop 10 bytes fits);
  seq = from_be_bytes_8-lt (drop 18 bytes) (AreBytes-drop 18 bytes fits);
  crc = from_be_bytes_4-lt (drop 26 bytes) (AreBytes-drop 26 bytes fits);
}

regroup : (a b c d e f r : List ℕ)
    → a ++ (b ++ (c ++ (d ++ (e ++ (f ++ r))))) ≡ (a ++ b ++ c ++ d ++ e ++ f) ++ r
regroup a b c d e f r = simp append_assoc

joined : (bytes a b c d e f : List ℕ) → a ≡ take 4 (drop 0 bytes) → b ≡ take 2 (drop 4 bytes)
    → c ≡ take 4 (drop 6 bytes) → d ≡ take 8 (drop 10 bytes) → e ≡ take 8 (drop 18 bytes)
    → f ≡ take 4 (drop 26 bytes) → bytes ≡ (a ++ b ++ c ++ d ++ e ++ f) ++ drop 30 bytes
joined bytes a b c d e f p q r s t u =
    let six = drop-cut 26 4 bytes f u in
    let five = drop-cut 18 8 bytes e t ∙ ap (λ (x : List ℕ). e ++ x) six in
    let four = drop-cut 10 8 bytes d s ∙ ap (λ (x : List ℕ). d ++ x) five in
    let three = drop-cut 6 4 bytes c r ∙ ap (λ (x : List ℕ). c ++ x) four in
    let two = drop-cut 4 2 bytes b q ∙ ap (λ (x : List ℕ). b ++ x) three in
    drop-cut 0 4 bytes a p ∙ ap (λ (x : List ℕ). a ++ x) two ∙ regroup a b c d e f (drop 30 bytes)

pub head_read : (bytes : List ℕ) → AreBytes bytes → 30 ≤ length bytes
    → bytes ≡ text_of (header_of bytes) ++ drop 30 bytes
unfolding header_of head_text
head_read bytes fits long =
    joined bytes _ _ _ _ _ _ (to_be_bytes-from_be_bytes_4 bytes (omega arith) fits)
    (to_be_bytes-from_be_bytes_2 (drop 4 bytes) (omega (arith, length-drop 4 bytes)) (AreBytes-drop 4 bytes fits))
    (to_be_bytes-from_be_bytes_4 (drop 6 bytes) (omega (arith, length-drop 6 bytes)) (AreBytes-drop 6 bytes fits))
    (to_be_bytes-from_be_bytes_8 (drop 10 bytes) (omega (arith, length-drop 10 bytes)) (AreBytes-drop 10 bytes fits))
    (to_be_bytes-from_be_bytes_8 (drop 18 bytes) (omega (arith, length-drop 18 bytes)) (AreBytes-drop 18 bytes fits))
    (to_be_bytes-from_be_bytes_4 (drop 26 bytes) (omega (arith, length-drop 26 bytes)) (AreBytes-drop 26 bytes fits))

pub header_of-take : (bytes : List ℕ) → 30 ≤ length bytes → header_of (take 30 bytes) ≡ header_of bytes
unfolding header_of
header_of-take
    (a ∷ b ∷ c ∷ d ∷ e ∷ f ∷ g ∷ h ∷ i ∷ j ∷ k ∷ l ∷ m ∷ n ∷ o ∷ p ∷ q ∷ r ∷ s ∷ t ∷ u ∷ v ∷ w ∷ x ∷ y
    ∷ z ∷ aa ∷ bb ∷ cc' ∷ dd ∷ rest) long = refl
header_of-take _ long = absurd (omega arith)
