-- Four laws of a reader on lists, and readers one after the other. A text is read again whatever follows
-- it, what is read is a text, what is cut off can go on to a text, and what is refused stays refused.
use Rattle.std.proofs.Common.{◌≡◌, ℕ, Bool, true, false, cond, List, [], ◌++◌, ◌⊎◌, Result, Ok, Err, refl, sym, ap, ◌∙◌, subst, inl, inr, append_assoc}
use Rattle.bk_base.specs.Bounds.{AreBytes}
use Rattle.bk_base.proofs.Bytes.{AreBytes-back}
use Rattle.bk_wire.specs.declared.stops.Stop.{Stop}
use Rattle.bk_wire.specs.declared.stops.Stop.TheVariants.{Short, Bad}
use Rattle.bk_wire.specs.Reading.{◌>>=◌, or_else}

pub record IsCode {A : Type 0} (text : A → List ℕ) (fits : A → Type 0)
    (read : List ℕ → Result (A × List ℕ) Stop) : Type 0 where
  pub some : (a : A) × fits a
  pub whole : (bytes : List ℕ) (a : A) (rest : List ℕ) → AreBytes bytes → read bytes ≡ Ok (a, rest)
      → fits a × (bytes ≡ text a ++ rest)
  pub again : (a : A) (rest : List ℕ) → fits a → read (text a ++ rest) ≡ Ok (a, rest)
  pub short : (bytes : List ℕ) → AreBytes bytes → read bytes ≡ Err Short → (a : A) × (more : List ℕ)
      × fits a × (bytes ++ more ≡ text a)
  pub stays : (bytes more : List ℕ) → AreBytes bytes → read bytes ≡ Err Bad → read (bytes ++ more) ≡ Err Bad

-- which way a test went
pub chosen : {A : Type 0} (b : Bool) (x y z : A) → cond b x y ≡ z → ((b ≡ true) × (x ≡ z)) ⊎ ((b ≡ false) × (y ≡ z))
chosen true x y z e = inl (refl, e)
chosen false x y z e = inr (refl, e)

pub same_found : {A : Type 0} (a b : A) (xs ys : List ℕ)
    → ◌≡◌ {A = Result (A × List ℕ) Stop} (Ok (a, xs)) (Ok (b, ys)) → (a ≡ b) × (xs ≡ ys)
same_found {A} a b xs ys e =
    let pair : ◌≡◌ {A = A × List ℕ} (a, xs) (b, ys) = cc in
    (ap (λ (p : A × List ℕ). p.0) pair, ap (λ (p : A × List ℕ). p.1) pair)

-- where the first of two steps stopped, or what it read
pub bind_ok : {A B : Type 0} (r : Result A Stop) (f : A → Result B Stop) (y : B) → (r >>= f) ≡ Ok y
    → (x : A) × (r ≡ Ok x) × (f x ≡ Ok y)
bind_ok (Ok x) f y e = (x, refl, e)
bind_ok (Err stop) f y e = cc

pub bind_err : {A B : Type 0} (r : Result A Stop) (f : A → Result B Stop) (stop : Stop)
    → (r >>= f) ≡ Err stop → (r ≡ Err stop) ⊎ ((x : A) × (r ≡ Ok x) × (f x ≡ Err stop))
bind_err (Ok x) f stop e = inr (x, refl, e)
bind_err (Err other) f stop e =
    let same : other ≡ stop = cc in
    inl (ap Err same)

-- nothing more is read
pub done_code : {A : Type 0} (a : A) → IsCode {A = A} (λ _. []) (λ x. x ≡ a) (λ bytes. Ok (a, bytes))
done_code {A} a = record {
  some = (a, refl);
  whole = λ bytes x rest all e. let same = same_found a x bytes rest e in (sym same.0, same.1);
  again = λ x rest fit. ap (λ (y : A). Ok (y, rest)) (sym fit);
  short = λ bytes all e. cc;
  stays = λ bytes more all e. cc;
}

-- One code after another. What is read last is the whole value: the first code reads a view of it, and the
-- second is a code for the values of that view.
module _ {A B : Type 0} (view : A → B) (text1 : B → List ℕ) (fits1 : B → Type 0)
    (read1 : List ℕ → Result (B × List ℕ) Stop) (text2 : A → List ℕ) (fits2 : B → A → Type 0)
    (read2 : B → List ℕ → Result (A × List ℕ) Stop) (one : IsCode text1 fits1 read1)
    (two : (b : B) → fits1 b → IsCode text2 (fits2 b) (read2 b))
    (tied : (b : B) (a : A) → fits2 b a → view a ≡ b) where
  joined_whole : (bytes : List ℕ) (a : A) (rest : List ℕ) → AreBytes bytes
      → (read1 bytes >>= λ x. read2 x.0 x.1) ≡ Ok (a, rest) → (fits1 (view a) × fits2 (view a) a)
      × (bytes ≡ (text1 (view a) ++ text2 a) ++ rest)
  joined_whole bytes a rest all e =
      let (x, first, second) = bind_ok (read1 bytes) (λ x. read2 x.0 x.1) (a, rest) e in
      let (fit1, split1) = one.whole bytes x.0 x.1 all first in
      let (fit2, split2) =
      (two x.0 fit1).whole x.1 a rest
      (AreBytes-back (text1 x.0) x.1 (subst (λ bs. AreBytes bs) split1 all)) second in
      let same = tied x.0 a fit2 in
      rw same ((fit1, fit2), split1 ∙ ap (λ r. text1 x.0 ++ r) split2 ∙ sym (append_assoc (text1 x.0) (text2 a) rest))

  joined_again : (a : A) (rest : List ℕ) → fits1 (view a) × fits2 (view a) a
      → (read1 ((text1 (view a) ++ text2 a) ++ rest) >>= λ x. read2 x.0 x.1) ≡ Ok (a, rest)
  joined_again a rest fit =
      rw (append_assoc (text1 (view a)) (text2 a) rest, one.again (view a) (text2 a ++ rest) fit.0)
      ((two (view a) fit.0).again a rest fit.1)

  joined_short : (bytes : List ℕ) → AreBytes bytes → (read1 bytes >>= λ x. read2 x.0 x.1) ≡ Err Short
      → (a : A) × (more : List ℕ) × (fits1 (view a) × fits2 (view a) a)
      × (bytes ++ more ≡ text1 (view a) ++ text2 a)
  joined_short bytes all e =
      elim (bind_err (read1 bytes) (λ x. read2 x.0 x.1) Short e) [
        | inl first ↦ at_first (one.short bytes all first)
        | inr second ↦ at_second second.0 second.1 second.2
      ]
    where
      at_first : (b : B) × (more : List ℕ) × fits1 b × (bytes ++ more ≡ text1 b) → (a : A)
          × (more : List ℕ) × (fits1 (view a) × fits2 (view a) a)
          × (bytes ++ more ≡ text1 (view a) ++ text2 a)
      at_first (b, more, fit1, split) =
          let (a, fit2) = (two b fit1).some in
          let same = tied b a fit2 in (
            a,
            more ++ text2 a,
            rw same (fit1, fit2),
            rw same (sym (append_assoc bytes more (text2 a)) ∙ ap (λ t. t ++ text2 a) split),
          )

      at_second : (x : B × List ℕ) → read1 bytes ≡ Ok x → read2 x.0 x.1 ≡ Err Short → (a : A)
          × (more : List ℕ) × (fits1 (view a) × fits2 (view a) a)
          × (bytes ++ more ≡ text1 (view a) ++ text2 a)
      at_second x first second =
          let (fit1, split1) = one.whole bytes x.0 x.1 all first in
          let (a, more, fit2, split2) =
          (two x.0 fit1).short x.1
          (AreBytes-back (text1 x.0) x.1 (subst (λ bs. AreBytes bs) split1 all)) second in
          let same = tied x.0 a fit2 in (
            a,
            more,
            rw same (fit1, fit2),
            rw same (ap (λ t. t ++ more) split1 ∙ append_assoc (text1 x.0) x.1 more
                ∙ ap (λ t. text1 x.0 ++ t) split2),
          )

  joined_stays : (bytes more : List ℕ) → AreBytes bytes
      → (read1 bytes >>= λ x. read2 x.0 x.1) ≡ Err Bad
      → (read1 (bytes ++ more) >>= λ x. read2 x.0 x.1) ≡ Err Bad
  joined_stays bytes more all e =
      elim (bind_err (read1 bytes) (λ x. read2 x.0 x.1) Bad e) [
        | inl first ↦ rw (one.stays bytes more all first)
        | inr second ↦ at_second second.0 second.1 second.2
      ]
    where
      at_second : (x : B × List ℕ) → read1 bytes ≡ Ok x → read2 x.0 x.1 ≡ Err Bad
          → (read1 (bytes ++ more) >>= λ x. read2 x.0 x.1) ≡ Err Bad
      at_second x first second =
          let (fit1, split1) = one.whole bytes x.0 x.1 all first in
          let whole : bytes ++ more ≡ text1 x.0 ++ (x.1 ++ more) = ap (λ t. t ++ more) split1
          ∙ append_assoc (text1 x.0) x.1 more in
          rw (whole, one.again x.0 (x.1 ++ more) fit1)
          ((two x.0 fit1).stays x.1 more (AreBytes-back (text1 x.0) x.1 (subst (λ bs. AreBytes bs) split1 all)) second)

  joined_some : (a : A) × (fits1 (view a) × fits2 (view a) a)
  joined_some =
      let (b, fit1) = one.some in
      let (a, fit2) = (two b fit1).some in
      (a, rw (tied b a fit2) (fit1, fit2))

  pub joined : IsCode (λ a. text1 (view a) ++ text2 a) (λ a. fits1 (view a) × fits2 (view a) a)
      (λ bytes. read1 bytes >>= λ x. read2 x.0 x.1)
  joined = record {
    some = joined_some;
    whole = joined_whole;
    again = joined_again;
    short = joined_short;
    stays = joined_stays;
  }

-- the same code by other words for its texts and its values
pub recoded : {A : Type 0} {text other_text : A → List ℕ} {fits other_fits : A → Type 0}
    {read : List ℕ → Result (A × List ℕ) Stop} → ((a : A) → fits a → other_fits a)
    → ((a : A) → other_fits a → fits a) → ((a : A) → other_fits a → text a ≡ other_text a)
    → IsCode text fits read → IsCode other_text other_fits read
recoded {A} {text} {other_text} {fits} {other_fits} {read} to from same code = record {
  some = (code.some.0, to code.some.0 code.some.1);
  whole = λ bytes a rest all e.
      let (fit, split) = code.whole bytes a rest all e in
      (to a fit, split ∙ ap (λ t. t ++ rest) (same a (to a fit)));
  again = λ a rest fit. ap (λ t. read (t ++ rest)) (sym (same a fit)) ∙ code.again a rest (from a fit);
  short = λ bytes all e.
      let (a, more, fit, split) = code.short bytes all e in
      (a, more, to a fit, split ∙ same a (to a fit));
  stays = code.stays;
}

-- the same code by another reader that answers the same
pub reread : {A : Type 0} {text : A → List ℕ} {fits : A → Type 0}
    {read other : List ℕ → Result (A × List ℕ) Stop} → ((bytes : List ℕ) → other bytes ≡ read bytes)
    → IsCode text fits read → IsCode text fits other
reread {A} {text} {fits} {read} {other} same code = record {
  some = code.some;
  whole = λ bytes a rest all e. code.whole bytes a rest all (sym (same bytes) ∙ e);
  again = λ a rest fit. same (text a ++ rest) ∙ code.again a rest fit;
  short = λ bytes all e. code.short bytes all (sym (same bytes) ∙ e);
  stays = λ bytes more all e. same (bytes ++ more) ∙ code.stays bytes more all (sym (same bytes) ∙ e);
}

-- one of two codes, where the texts of the second aren't begun as the first's are
module _ {A : Type 0} (text : A → List ℕ) (fits1 fits2 : A → Type 0)
    (read1 read2 : List ℕ → Result (A × List ℕ) Stop) (one : IsCode text fits1 read1)
    (two : IsCode text fits2 read2)
    (apart : (a : A) (rest : List ℕ) → fits2 a → read1 (text a ++ rest) ≡ Err Bad) where
  -- what came, and from which of the two
  either_from : (r : Result (A × List ℕ) Stop) (other : Result (A × List ℕ) Stop)
      (z : Result (A × List ℕ) Stop) → or_else r other ≡ z → (r ≡ z) ⊎ ((r ≡ Err Bad) × (other ≡ z))
  either_from (Ok x) other z e = inl e
  either_from (Err Short) other z e = inl e
  either_from (Err Bad) other z e = inr (refl, e)

  either_again : (a : A) (rest : List ℕ) → fits1 a ⊎ fits2 a
      → or_else (read1 (text a ++ rest)) (read2 (text a ++ rest)) ≡ Ok (a, rest)
  either_again a rest (inl fit) = rw (one.again a rest fit)
  either_again a rest (inr fit) = rw (apart a rest fit) (two.again a rest fit)

  pub either_code : IsCode text (λ a. fits1 a ⊎ fits2 a) (λ bytes. or_else (read1 bytes) (read2 bytes))
  either_code = record {
    some = (one.some.0, inl one.some.1);
    whole = λ bytes a rest all e.
        elim (either_from (read1 bytes) (read2 bytes) (Ok (a, rest)) e) [
          | inl first ↦ (inl (one.whole bytes a rest all first).0, (one.whole bytes a rest all first).1)
          | inr second ↦ (inr (two.whole bytes a rest all second.1).0, (two.whole bytes a rest all second.1).1)
        ];
    again = either_again;
    short = λ bytes all e.
        elim (either_from (read1 bytes) (read2 bytes) (Err Short) e) [
          | inl first ↦ (let s = one.short bytes all first in (s.0, s.1, inl s.2, s.3))
          | inr second ↦ (let s = two.short bytes all second.1 in (s.0, s.1, inr s.2, s.3))
        ];
    stays = λ bytes more all e.
        elim (either_from (read1 bytes) (read2 bytes) (Err Bad) e) [
          | inl first ↦ refused bytes more all first e
          | inr second ↦ refused bytes more all second.0 e
        ];
  }
    where
      refused : (bytes more : List ℕ) → AreBytes bytes → read1 bytes ≡ Err Bad
          → or_else (read1 bytes) (read2 bytes) ≡ Err Bad
          → or_else (read1 (bytes ++ more)) (read2 (bytes ++ more)) ≡ Err Bad
      refused bytes more all first e = rw (one.stays bytes more all first) (two.stays bytes more all (rw first at e))
