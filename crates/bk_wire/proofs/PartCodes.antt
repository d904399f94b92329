-- A piece behind its length, a verb with a key behind it, and one with a key and a value are codes.
use Rattle.std.proofs.Common.{◌≡◌, ℕ, ◌^◌, ◌<◌, ◌≤◌, List, [], ◌∷◌, ◌++◌, Result, length, decimal, Ok, Err, refl, ap, arith, lit≤, lit<, append_assoc}
use Rattle.bk_base.specs.declared.limits.TheConstants.{LONGEST_KEY, LONGEST_VALUE}
use Rattle.bk_base.specs.Bounds.{AreBytes}
use Rattle.bk_laws.specs.Wire.{FitsKey, FitsValue, and_number, line, numbered}
use Rattle.bk_wire.specs.declared.stops.Stop.{Stop}
use Rattle.bk_wire.specs.declared.stops.Stop.TheVariants.{Bad}
use Rattle.bk_wire.specs.Reading.{◌>>=◌, literal_at, number_at, piece_at, sized_at, keyed_at, paired_at}
use Rattle.bk_wire.proofs.Codes.{IsCode, joined, done_code, recoded}
use Rattle.bk_wire.proofs.FieldCodes.{literal_code, number_code, piece_code}

-- a piece of this length that is bytes, and a number within its bounds
abbrev Part : ℕ → List ℕ → Type 0
Part n piece = (length piece ≡ n) × AreBytes piece

abbrev Within : ℕ → ℕ → ℕ → Type 0
Within least most n = (least ≤ n) × (n ≤ most)

abbrev Bytes : Type 0
Bytes = List ℕ

-- the line feed that ends a text
abbrev EndText : List ℕ
EndText = (10 ∷ []) ++ []

abbrev Ends : {A : Type 0} → A → A → Type 0
Ends a b = Unit {0} × (b ≡ a)

abbrev end_at : {A : Type 0} → A → List ℕ → Result (A × List ℕ) Stop
end_at a bytes = literal_at (10 ∷ []) bytes >>= λ last. Ok (a, last.1)

end_code : {A : Type 0} (a : A) → IsCode (λ (b : A). EndText) (Ends a) (end_at a)
end_code {A} a =
    joined (λ (b : A). tt) (λ _. 10 ∷ []) (λ _. Unit {0}) (literal_at (10 ∷ []))
    (λ _. []) (λ _ b. b ≡ a) (λ _ bytes. Ok (a, bytes))
    (literal_code (10 ∷ [])) (λ _ _. done_code a) (λ _ _ _. refl)

-- ---- a piece behind its length

abbrev tail_at : ℕ → List ℕ → Result (Bytes × List ℕ) Stop
tail_at n bytes = piece_at n bytes >>= λ piece. end_at piece.0 piece.1

abbrev TailHas : ℕ → Bytes → Type 0
TailHas n piece = Part n piece × Ends piece piece

tail_code : (n : ℕ) → IsCode (λ piece. piece ++ EndText) (TailHas n) (tail_at n)
tail_code n =
    joined (λ (piece : Bytes). piece) (λ p. p) (Part n) (piece_at n)
    (λ _. EndText) (λ p piece. Ends p piece) (λ p bytes. end_at p bytes)
    (piece_code n) (λ p _. end_code p) (λ p piece h. h.1)

abbrev pub sized_text : Bytes → List ℕ
sized_text piece = (decimal (length piece) ++ 10 ∷ []) ++ (piece ++ 10 ∷ [])

-- a piece of bytes, with its length between these
abbrev pub Sized : ℕ → ℕ → Bytes → Type 0
Sized least most piece = Within least most (length piece) × AreBytes piece

pub sized_code : (least most : ℕ) → most < 10 ^ 64 → least ≤ 1 → 9 ≤ most
    → IsCode sized_text (Sized least most) (sized_at least most)
unfolding sized_at
sized_code least most small low high =
    recoded (λ piece h. (h.0, h.1.0.1)) (λ piece fit. (fit.0, ((refl, fit.1), (tt, refl)))) (λ piece _. refl)
    (joined (λ (piece : Bytes). length piece) (λ n. decimal n ++ 10 ∷ []) (Within least most)
    (number_at least most 10)
    (λ piece. piece ++ EndText) (λ n piece. TailHas n piece) (λ n bytes. tail_at n bytes)
    (number_code least most 10 small low high (lit< tt)) (λ n _. tail_code n) (λ n piece h. h.0.0))

-- ---- a key

pub key_code : IsCode sized_text FitsKey (sized_at 1 LONGEST_KEY)
key_code =
    recoded
    (λ key h. record { bounds = record { some = h.0.0; short = h.0.1 }; bytes = h.1 })
    (λ key fit. ((fit.bounds.some, fit.bounds.short), fit.bytes))
    (λ key _. refl)
    (sized_code 1 LONGEST_KEY (lit< tt) (lit≤ tt) (lit≤ tt))

pub value_code : IsCode sized_text FitsValue (sized_at 0 LONGEST_VALUE)
value_code =
    recoded
    (λ value h. record { bounds = h.0.1; bytes = h.1 })
    (λ value fit. ((omega arith, fit.bounds), fit.bytes))
    (λ value _. refl)
    (sized_code 0 LONGEST_VALUE (lit< tt) (lit≤ tt) (lit≤ tt))

abbrev pub keyed_text : List ℕ → Bytes → List ℕ
keyed_text verb key = line (numbered verb (length key)) ++ line key

keyed_same : (verb len key : List ℕ)
    → verb ++ ((len ++ 10 ∷ []) ++ (key ++ 10 ∷ [])) ≡ ((verb ++ len) ++ 10 ∷ []) ++ (key ++ 10 ∷ [])
keyed_same verb len key = simp append_assoc

pub keyed_code : (verb : List ℕ) → IsCode (keyed_text verb) FitsKey (keyed_at verb)
unfolding keyed_at
keyed_code verb =
    recoded (λ key h. h.1) (λ key fit. (tt, fit)) (λ key _. keyed_same verb (decimal (length key)) key)
    (joined (λ (key : Bytes). tt) (λ _. verb) (λ _. Unit {0}) (literal_at verb)
    sized_text (λ _ key. FitsKey key) (λ _ bytes. sized_at 1 LONGEST_KEY bytes)
    (literal_code verb) (λ _ _. key_code) (λ _ _ _. refl))

pub keyed_refused : (verb bytes : List ℕ) → literal_at verb bytes ≡ Err Bad → keyed_at verb bytes ≡ Err Bad
unfolding keyed_at
keyed_refused verb bytes refused = rw refused

-- ---- a key and a value

abbrev Pair : Type 0
Pair = List ℕ × List ℕ

abbrev second_at : List ℕ → ℕ → List ℕ → Result (Pair × List ℕ) Stop
second_at key n bytes = piece_at n bytes >>= λ value. end_at (key, value.0) value.1

abbrev SecondHas : List ℕ → ℕ → Pair → Type 0
SecondHas key n pair = Part n pair.1 × Ends (key, pair.1) pair

second_code : (key : List ℕ) (n : ℕ)
    → IsCode (λ (pair : Pair). pair.1 ++ EndText) (SecondHas key n) (second_at key n)
second_code key n =
    joined (λ (pair : Pair). pair.1) (λ p. p) (Part n) (piece_at n)
    (λ _. EndText) (λ p pair. Ends (key, p) pair) (λ p bytes. end_at (key, p) bytes)
    (piece_code n) (λ p _. end_code (key, p)) (λ p pair h. ap (λ (x : Pair). x.1) h.1)

abbrev body_text : Pair → List ℕ
body_text pair = pair.0 ++ (pair.1 ++ EndText)

abbrev body_at : ℕ → ℕ → List ℕ → Result (Pair × List ℕ) Stop
body_at k v bytes = piece_at k bytes >>= λ key. second_at key.0 v key.1

abbrev BodyHas : ℕ → ℕ → Pair → Type 0
BodyHas k v pair = Part k pair.0 × SecondHas pair.0 v pair

body_code : (k v : ℕ) → IsCode body_text (BodyHas k v) (body_at k v)
body_code k v =
    joined (λ (pair : Pair). pair.0) (λ p. p) (Part k) (piece_at k)
    (λ pair. pair.1 ++ EndText) (λ p pair. SecondHas p v pair) (λ p bytes. second_at p v bytes)
    (piece_code k) (λ p _. second_code p v) (λ p pair h. ap (λ (x : Pair). x.0) h.1.1)

abbrev value_len_text : Pair → List ℕ
value_len_text pair = (decimal (length pair.1) ++ 10 ∷ []) ++ body_text pair

abbrev value_len_at : ℕ → List ℕ → Result (Pair × List ℕ) Stop
value_len_at k bytes = number_at 0 LONGEST_VALUE 10 bytes >>= λ len. body_at k len.0 len.1

abbrev ValueLenHas : ℕ → Pair → Type 0
ValueLenHas k pair = Within 0 LONGEST_VALUE (length pair.1) × BodyHas k (length pair.1) pair

value_len_code : (k : ℕ) → IsCode value_len_text (ValueLenHas k) (value_len_at k)
value_len_code k =
    joined (λ (pair : Pair). length pair.1) (λ n. decimal n ++ 10 ∷ []) (Within 0 LONGEST_VALUE)
    (number_at 0 LONGEST_VALUE 10)
    body_text (λ v pair. BodyHas k v pair) (λ v bytes. body_at k v bytes)
    (number_code 0 LONGEST_VALUE 10 (lit< tt) (lit≤ tt) (lit≤ tt) (lit< tt)) (λ v _. body_code k v)
    (λ v pair h. h.1.0.0)

abbrev lens_text : Pair → List ℕ
lens_text pair = (decimal (length pair.0) ++ 32 ∷ []) ++ value_len_text pair

abbrev lens_at : List ℕ → Result (Pair × List ℕ) Stop
lens_at bytes = number_at 1 LONGEST_KEY 32 bytes >>= λ key_len. value_len_at key_len.0 key_len.1

abbrev PairHas : Pair → Type 0
PairHas pair = Within 1 LONGEST_KEY (length pair.0) × ValueLenHas (length pair.0) pair

lens_code : IsCode lens_text PairHas lens_at
lens_code =
    joined (λ (pair : Pair). length pair.0) (λ n. decimal n ++ 32 ∷ []) (Within 1 LONGEST_KEY)
    (number_at 1 LONGEST_KEY 32)
    value_len_text (λ k pair. ValueLenHas k pair) (λ k bytes. value_len_at k bytes)
    (number_code 1 LONGEST_KEY 32 (lit< tt) (lit≤ tt) (lit≤ tt) (lit< tt)) (λ k _. value_len_code k)
    (λ k pair h. h.1.0.0)

verb_pair_code : (verb : List ℕ) → IsCode (λ pair. verb ++ lens_text pair) (λ pair. Unit {0} × PairHas pair)
    (λ bytes. literal_at verb bytes >>= λ begun. lens_at begun.1)
verb_pair_code verb =
    joined (λ (pair : Pair). tt) (λ _. verb) (λ _. Unit {0}) (literal_at verb)
    lens_text (λ _ pair. PairHas pair) (λ _ bytes. lens_at bytes)
    (literal_code verb) (λ _ _. lens_code) (λ _ _ _. refl)

abbrev pub paired_text : List ℕ → Pair → List ℕ
paired_text verb pair = line (and_number (numbered verb (length pair.0)) (length pair.1)) ++ line (pair.0 ++ pair.1)

paired_same : (verb k v key value : List ℕ)
    → verb ++ ((k ++ 32 ∷ []) ++ ((v ++ 10 ∷ []) ++ (key ++ (value ++ 10 ∷ []))))
    ≡ (((verb ++ k) ++ 32 ∷ v) ++ 10 ∷ []) ++ ((key ++ value) ++ 10 ∷ [])
paired_same verb k v key value = simp append_assoc

pub paired_code : (verb : List ℕ)
    → IsCode (paired_text verb) (λ (pair : Pair). FitsKey pair.0 × FitsValue pair.1) (paired_at verb)
unfolding paired_at
paired_code verb =
    recoded
    (λ pair h. (
      record { bounds = record { some = h.1.0.0; short = h.1.0.1 }; bytes = h.1.1.1.0.1 },
      record { bounds = h.1.1.0.1; bytes = h.1.1.1.1.0.1 },
    ))
    (λ pair fit. (
      tt,
      (
        (fit.0.bounds.some, fit.0.bounds.short),
        ((omega arith, fit.1.bounds), ((refl, fit.0.bytes), ((refl, fit.1.bytes), (tt, refl)))),
      ),
    ))
    (λ pair _. paired_same verb (decimal (length pair.0)) (decimal (length pair.1)) pair.0 pair.1)
    (verb_pair_code verb)

pub paired_refused : (verb bytes : List ℕ) → literal_at verb bytes ≡ Err Bad → paired_at verb bytes ≡ Err Bad
unfolding paired_at
paired_refused verb bytes refused = rw refused
