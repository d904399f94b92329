-- The number and the ending of a name, found in its text.
use Rattle.std.proofs.Common.{◌≡◌, ◌≢◌, ℕ, zero, suc, ◌+◌, ◌*◌, ◌^◌, ◌<◌, ◌≤◌, List, [], ◌∷◌, ◌++◌, length, get_or}
use Rattle.std.proofs.Common.{Option, Some, None, Result, Ok, Err, false, refl, sym, ap, ◌∙◌, arith, codes}
use Rattle.std.specs.Fmt.{decimal}
use Rattle.std.specs.Str.Parse.{AllDigits, ParsesUnsigned, digits_value}
use Rattle.std.proofs.lemmas.Fmt.{decimal-digits_value, decimal_digit, digits_decimal, first_decimal, decimal_injective, decimal_nonempty, parse-decimal}
use Rattle.std.proofs.lemmas.List.{get_or_append_left}
use Rattle.std.proofs.lemmas.Result.{OkIff-at_ok}
use Rattle.std.proofs.lemmas.Str.Pattern.{IsSplitOnceResult, split_after}
use Rattle.std.specs.List.{slice_get}
use Rattle.std.specs.Result.{result_ok}
use Rattle.std.specs.Str.{bytes_eq}
use Rattle.std.proofs.lemmas.Slice.Eq.{bytes_eq-Decides}
use denote.Ref.{Bor}
use Rattle.std.proofs.lemmas.Str.Parse.{IsNumeralModel, numerals_by_value, tells_digits, digit_at, parse_plain, not_in_digits}
use Rattle.bk_base.specs.declared.names.Kind.{Kind}
use Rattle.bk_base.specs.declared.names.Kind.TheVariants.{Main, MainTemp, Hint, HintTemp, Swap, SwapTemp, Settings}
use Rattle.bk_base.specs.declared.names.Name.{Name}
use Rattle.bk_base.specs.Names.{IsFileNumber, IsListed, ending_of, text_of}

numerals : IsNumeralModel (AllDigits 10) (digits_value 10)
numerals = numerals_by_value (AllDigits 10) tells_digits

above_zero : (bs : List ℕ) (n : ℕ) → 49 ≤ get_or bs 0 0 → decimal n ≡ bs → 1 ≤ n
above_zero bs zero first e = let zero_is : decimal 0 ≡ 48 ∷ [] = decimal_digit 0 (omega arith) in
    let f : get_or bs 0 0 ≡ 48 = ap (λ (x : List ℕ). get_or x 0 0) (sym e ∙ zero_is) in absurd (omega arith)
above_zero bs (suc n) first e = omega arith

-- what `parse` read, where the text begins neither with a sign nor with a zero
pub number_found : {E : Type 0} (bs : List ℕ) (r : Result ℕ E) (n : ℕ) → ParsesUnsigned 32 10 bs r → 49 ≤ get_or bs 0 0 → r ≡ Ok n → (1 ≤ n) × (bs ≡ decimal n)
number_found bs r n parsed first ok =
    let no_sign : get_or bs 0 0 ≢ 43 = λ e. omega arith in
    let answer = OkIff-at_ok r _ _ n (parse_plain numerals 32 bs r parsed no_sign) ok in
    let no_zero : get_or bs 0 0 ≡ 48 → length bs ≡ 1 = λ e. absurd (omega arith) in
    let small : digits_value 10 bs < 2 ^ 64 = let below : digits_value 10 bs < 2 ^ 32 = answer.0.2 in omega arith in
    let same : decimal n ≡ bs = ap decimal answer.1 ∙ decimal-digits_value numerals bs answer.0.0 answer.0.1 no_zero small in
    (above_zero bs n first same, sym same)

-- the text of a file's number begins with a digit other than 0
pub number_begins : (bs : List ℕ) (n : ℕ) → IsFileNumber n → bs ≡ decimal n → (0 < length bs) × (49 ≤ get_or bs 0 0)
number_begins bs n fits e = rw e (decimal_nonempty n (omega arith), first_decimal n (omega arith) (omega arith))

-- and is read as that number
pub number_again : {E : Type 0} (bs : List ℕ) (r : Result ℕ E) (n : ℕ) → ParsesUnsigned 32 10 bs r → IsFileNumber n → bs ≡ decimal n → r ≡ Ok n
number_again bs r n parsed fits e = parse-decimal 32 n bs r (omega arith) (omega arith) e parsed

no_dots : (n : ℕ) → IsFileNumber n → (i : ℕ) → i < length (decimal n) → get_or (decimal n) i 0 ≢ 46
no_dots n fits = not_in_digits numerals (decimal n) 46 (digits_decimal numerals n (omega arith)) (λ h. omega arith)

-- a number, a dot and an ending
pub record IsNumbered (text : List ℕ) (name : Name) : Type 0 where
  pub ending : List ℕ
  pub ends : ending_of name.kind ≡ Some ending
  pub number : IsFileNumber name.id
  pub parts : text ≡ decimal name.id ++ 46 ∷ ending
  pub no_dot : (i : ℕ) → i < length (decimal name.id) → get_or (decimal name.id) i 0 ≢ 46

numbered_with : (text : List ℕ) (name : Name) (o : Option (List ℕ)) → ending_of name.kind ≡ o
    → text ≢ codes "bitcask.toml" → IsListed name → text ≡ text_of name → IsNumbered text name
numbered_with text name None e other listed is = absurd (other (rw e at is))
numbered_with text name (Some ending) e other listed is =
    let number : IsFileNumber name.id = rw e at listed in
    record {
      ending = ending;
      ends = e;
      number = number;
      parts = rw e at is;
      no_dot = no_dots name.id number;
    }

-- the text of a listed name, where it isn't that of the settings
pub numbered : (text : List ℕ) (name : Name) → text ≢ codes "bitcask.toml" → IsListed name → text ≡ text_of name → IsNumbered text name
numbered text name other listed is = numbered_with text name (ending_of name.kind) refl other listed is

-- the first byte of a text, as `first` gives it
pub no_first : (bs : List ℕ) → ◌≡◌ {A = Option ℕ} None (slice_get bs 0) → length bs ≡ 0
no_first [] e = refl
no_first (b ∷ bs) e = absurd cc

pub first_is : (bs : List ℕ) (b : ℕ) → Some b ≡ slice_get bs 0 → b ≡ get_or bs 0 0
first_is [] b e = absurd cc
first_is (c ∷ bs) b e = cc

-- where `split_once` cuts the text of a numbered name
module _ (text : List ℕ) (r : Option (Bor (List ℕ) × Bor (List ℕ))) (split : IsSplitOnceResult 46 text r) (name : Name) (is : IsNumbered text name) where
  pub not_whole : r ≡ None → ⊥
  not_whole none = let s = split_after 46 text (decimal name.id) is.ending r split (omega arith) is.parts is.no_dot in rw none at s

  pub parts_are : (x : Bor (List ℕ) × Bor (List ℕ)) → r ≡ Some x → (x.0.now ≡ decimal name.id) × (x.1.now ≡ is.ending)
  parts_are x some = let s = split_after 46 text (decimal name.id) is.ending r split (omega arith) is.parts is.no_dot in rw some at s

-- what `ok` keeps of what `parse` gave
pub kept_number : {E : Type 0} (r : Result ℕ E) (n : ℕ) → Some n ≡ result_ok r → r ≡ Ok n
kept_number (Ok x) n e = cc
kept_number (Err d) n e = absurd cc

pub kept_none : {E : Type 0} (r : Result ℕ E) (n : ℕ) → ◌≡◌ {A = Option ℕ} None (result_ok r) → r ≡ Ok n → ⊥
kept_none (Ok x) n e h = cc
kept_none (Err d) n e h = cc

-- two texts that `==` tells apart
pub differs : (xs ys : List ℕ) → false ≡ bytes_eq xs ys → xs ≢ ys
differs xs ys e same = let yes = (bytes_eq-Decides xs ys).1 same in cc

-- ---- no two names have one text

-- two letters of an ending tell which it is
abbrev mark_of : Option (List ℕ) → ℕ
mark_of None = 0
mark_of (Some ending) = 256 * get_or ending 8 0 + get_or ending 9 0

same_ending : (a b : Kind) → mark_of (ending_of a) ≡ mark_of (ending_of b) → a ≡ b
same_ending Main Main e = refl
same_ending Main _ e = absurd (omega arith)
same_ending MainTemp MainTemp e = refl
same_ending MainTemp _ e = absurd (omega arith)
same_ending Hint Hint e = refl
same_ending Hint _ e = absurd (omega arith)
same_ending HintTemp HintTemp e = refl
same_ending HintTemp _ e = absurd (omega arith)
same_ending Swap Swap e = refl
same_ending Swap _ e = absurd (omega arith)
same_ending SwapTemp SwapTemp e = refl
same_ending SwapTemp _ e = absurd (omega arith)
same_ending Settings Settings e = refl
same_ending Settings _ e = absurd (omega arith)

-- lists up to the first c in them
same_cut : (c : ℕ) (xs ys es fs : List ℕ) → ((i : ℕ) → i < length xs → get_or xs i 0 ≢ c)
    → ((i : ℕ) → i < length ys → get_or ys i 0 ≢ c) → xs ++ c ∷ es ≡ ys ++ c ∷ fs → (xs ≡ ys) × (es ≡ fs)
same_cut c [] [] es fs p q e = (refl, cc)
same_cut c [] (y ∷ ys) es fs p q e = absurd (q 0 (omega arith) cc)
same_cut c (x ∷ xs) [] es fs p q e = absurd (p 0 (omega arith) cc)
same_cut c (x ∷ xs) (y ∷ ys) es fs p q e = let k = same_cut c xs ys es fs (λ i h. p (suc i) (omega arith)) (λ i h. q (suc i) (omega arith)) cc in (cc, k.1)

-- the text of the settings has no number in front
whole_apart : (n : ℕ) (ending : List ℕ) → IsFileNumber n → codes "bitcask.toml" ≡ decimal n ++ 46 ∷ ending → ⊥
whole_apart n ending fits e =
    let some : 0 < length (decimal n) = decimal_nonempty n (omega arith) in
    let digit = digit_at (decimal n) 0 (digits_decimal numerals n (omega arith)) some in
    let first : 98 ≡ get_or (decimal n) 0 0 = ap (λ (x : List ℕ). get_or x 0 0) e ∙ get_or_append_left (decimal n) (46 ∷ ending) 0 0 some in
    omega (arith, digit.0, digit.1)

same_with : (a b : Name) (o p : Option (List ℕ)) → ending_of a.kind ≡ o → ending_of b.kind ≡ p → IsListed a → IsListed b
    → text_of a ≡ text_of b → (a.id ≡ b.id) × (o ≡ p)
same_with a b None None oa ob la lb e = let x : a.id ≡ 0 = rw oa at la in let y : b.id ≡ 0 = rw ob at lb in (cc, refl)
same_with a b None (Some g) oa ob la lb e = let y : IsFileNumber b.id = rw ob at lb in absurd (whole_apart b.id g y (rw (oa, ob) at e))
same_with a b (Some f) None oa ob la lb e = let x : IsFileNumber a.id = rw oa at la in absurd (whole_apart a.id f x (sym (rw (oa, ob) at e)))
same_with a b (Some f) (Some g) oa ob la lb e =
    let x : IsFileNumber a.id = rw oa at la in
    let y : IsFileNumber b.id = rw ob at lb in
    let cut = same_cut 46 (decimal a.id) (decimal b.id) f g (no_dots a.id x) (no_dots b.id y) (rw (oa, ob) at e) in
    (decimal_injective a.id b.id (omega arith) (omega arith) cut.0, ap Some cut.1)

pub same_name : (a b : Name) → IsListed a → IsListed b → text_of a ≡ text_of b → a ≡ b
same_name a b la lb e =
    let parts = same_with a b (ending_of a.kind) (ending_of b.kind) refl refl la lb e in
    let kinds = same_ending a.kind b.kind (ap mark_of parts.1) in
    λ i. record { id = parts.0 i; kind = kinds i }
