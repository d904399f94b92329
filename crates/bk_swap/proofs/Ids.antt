-- Ids one after the other, and the bytes that say them.
use Rattle.std.proofs.Common.{◌≡◌, ℕ, zero, suc, ◌*◌, ◌<◌, ◌≤◌, List, [], ◌∷◌, ◌++◌, length, take, drop, refl, arith}
use Rattle.std.specs.Int.{w32, from_be_bytes, to_be_bytes}
use Rattle.std.specs.List.{AllByRecursion}
use Rattle.std.proofs.lemmas.Nat.{from_be_bytes-to_be_bytes_4}
use Rattle.bk_base.specs.Bounds.{AreBytes}
use Rattle.bk_base.proofs.Bytes.{AreBytes-append}
use Rattle.bk_base.proofs.FixedWidth.{AreBytes-to_be_bytes_4, from_be_bytes_4-lt, to_be_bytes-from_be_bytes_4}
use Rattle.bk_laws.specs.SwapList.{FitsId, ids_text}
use Rattle.bk_swap.specs.Lists.{ids_in}

-- ---- what is read, four bytes at a time

pub ids_in-first : (bytes : List ℕ) → 4 ≤ length bytes
    → ids_in bytes ≡ from_be_bytes w32 (take 4 bytes) ∷ ids_in (drop 4 bytes)
ids_in-first (a ∷ b ∷ c ∷ d ∷ rest) long = refl
ids_in-first _ long = absurd (omega arith)

pub ids_in-none : (bytes : List ℕ) → length bytes < 4 → ids_in bytes ≡ []
ids_in-none [] short = refl
ids_in-none (a ∷ []) short = refl
ids_in-none (a ∷ b ∷ []) short = refl
ids_in-none (a ∷ b ∷ c ∷ []) short = refl
ids_in-none (a ∷ b ∷ c ∷ d ∷ rest) short = absurd (omega arith)

-- ---- a text says its ids

pub length-ids_text : (ids : List ℕ) → length (ids_text ids) ≡ 4 * length ids
length-ids_text [] = refl
length-ids_text (id ∷ ids) = omega (arith, length-ids_text ids)

pub ids_in-text : (ids : List ℕ) → AllByRecursion FitsId ids → ids_in (ids_text ids) ≡ ids
ids_in-text [] fit = refl
ids_in-text (id ∷ ids) fit =
    let first = from_be_bytes-to_be_bytes_4 id fit.0 in
    let rest = ids_in-text ids fit.1 in
    λ i. first i ∷ rest i

-- ---- and what was read is said by the bytes

rest_fits : (a b c d : ℕ) (rest : List ℕ) → AreBytes (a ∷ b ∷ c ∷ d ∷ rest) → AreBytes rest
rest_fits a b c d rest fits i = fits (suc (suc (suc (suc i))))

-- the ids that so many bytes say
pub record Says (bytes : List ℕ) (n : ℕ) : Type 0 where
  pub count : length (ids_in bytes) ≡ n
  pub text : ids_text (ids_in bytes) ≡ bytes
  pub fit : AllByRecursion FitsId (ids_in bytes)

pub says : (n : ℕ) (bytes : List ℕ) → AreBytes bytes → length bytes ≡ 4 * n → Says bytes n
says zero [] fits len = record { count = refl; text = refl; fit = tt }
says zero (a ∷ rest) fits len = absurd (omega arith)
says (suc n) (a ∷ b ∷ c ∷ d ∷ rest) fits len =
    let behind = says n rest (rest_fits a b c d rest fits) (omega arith) in
    let first = to_be_bytes-from_be_bytes_4 (a ∷ b ∷ c ∷ d ∷ rest) (omega arith) fits in
    record {
      count = omega (arith, behind.count);
      text = λ i. first i ++ behind.text i;
      fit = (from_be_bytes_4-lt (a ∷ b ∷ c ∷ d ∷ rest) fits, behind.fit);
    }
says (suc n) _ fits len = absurd (omega arith)

pub AreBytes-ids_text : (ids : List ℕ) → AreBytes (ids_text ids)
AreBytes-ids_text [] = λ i. omega arith
AreBytes-ids_text (id ∷ ids) =
    AreBytes-append (to_be_bytes w32 id) (ids_text ids) (AreBytes-to_be_bytes_4 id) (AreBytes-ids_text ids)
