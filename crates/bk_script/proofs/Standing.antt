-- What stands at the front of a script, and what is refused there.
use Rattle.std.proofs.Common.{◌≡◌, ◌≢◌, ℕ, ◌+◌, ◌<◌, ◌⊎◌, List, [], ◌∷◌, ◌++◌, length, get_or, drop, inl, inr, refl, sym, ap, ◌∙◌, arith, append_assoc, length-append, get_or-append-add}
use Rattle.std.specs.List.{All}
use Rattle.std.proofs.lemmas.Bool.{cases_lt}
use Rattle.std.proofs.lemmas.List.{get_or-take, get_or_append_left, length-take}
use Rattle.std.proofs.lemmas.List.Elements.{All-cons, All-nil}
use Rattle.bk_script.specs.declared.limits.TheConstants.{LONGEST_LINE}
use Rattle.bk_script.specs.declared.lines.Line.{Line}
use Rattle.bk_script.specs.declared.reader.Next.{Next}
use Rattle.bk_script.specs.declared.reader.Next.TheVariants.{Need, Line as line_next, Bad}
use Rattle.bk_script.specs.Lines.{line_text}
use Rattle.bk_script.specs.Script.{Answers, IsRefused, IsUnended, NoneStands, Script, StandsNext, after}
use Rattle.bk_script.specs.Words.{IsNext, line_bytes}
use Rattle.bk_script.specs.Front.{IsFirst, IsOver}
use Rattle.bk_script.proofs.Texts.{line_no_end}
use Rattle.bk_script.proofs.OneLine.{same_cut, same_text, text_apart}

pub text_length : (l : Line) → length (line_text l) ≡ length (line_bytes l) + 1
text_length l = length-append (line_bytes l) (10 ∷ [])

-- the line feed behind some bytes
end_at : (bytes line rest : List ℕ) → bytes ≡ line ++ 10 ∷ rest
    → (get_or bytes (length line) 0 ≡ 10) × (length line < length bytes)
end_at bytes line rest e =
    let here : length line + 0 ≡ length line = omega arith in (
      ap (λ (k : ℕ). get_or bytes k 0) (sym here) ∙ ap (λ (b : List ℕ). get_or b (length line + 0) 0) e
          ∙ get_or-append-add line (10 ∷ rest) 0 0,
      omega (arith, ap length e, length-append line (10 ∷ rest)),
    )

-- a line that stands in a script has its line feed there
line_end : (s : Script) (l : Line) (rest : List ℕ) → StandsNext s l rest → s.rest ≡ line_bytes l ++ 10 ∷ rest
line_end s l rest stands = stands.whole ∙ text_apart l rest

short_bytes : (s : Script) (l : Line) (rest : List ℕ) → StandsNext s l rest → length (line_bytes l) < LONGEST_LINE
short_bytes s l rest stands = omega (arith, stands.short, text_length l)

pub unended_none : (s : Script) → IsUnended s.rest → NoneStands s
unended_none s unended l rest stands =
    let end = end_at s.rest (line_bytes l) rest (line_end s l rest stands) in
    unended.no_end (length (line_bytes l)) 0 end.1 end.0

pub refused_over : (s : Script) → IsOver s.rest → IsRefused s
refused_over s over = record {
  ended = λ unended. omega (arith, unended.room, over.long);
  none = λ l rest stands.
      let end = end_at s.rest (line_bytes l) rest (line_end s l rest stands) in
      let short = short_bytes s l rest stands in
      over.no_end (length (line_bytes l)) 0
      (omega (arith, length-take LONGEST_LINE s.rest, short, end.1))
      (get_or-take LONGEST_LINE s.rest (length (line_bytes l)) 0 short ∙ end.0);
}

pub refused_first : (s : Script) (first : List ℕ) → IsFirst first s.rest
    → ((l : Line) → IsNext s l → line_bytes l ≡ first → ⊥) → IsRefused s
refused_first s first is none = record {
  ended = λ unended.
      let end = end_at s.rest first (drop (length first + 1) s.rest) is.whole in
      unended.no_end (length first) 0 end.1 end.0;
  none = λ l rest stands.
      let cut =
      same_cut first (line_bytes l) (drop (length first + 1) s.rest) rest is.no_end (line_no_end l stands.fits)
      (sym is.whole ∙ line_end s l rest stands) in
      none l (stands.fits, stands.allowed) (sym cut.0);
}

pub stands_first : (s : Script) (first : List ℕ) (l : Line) → IsFirst first s.rest → IsNext s l
    → line_bytes l ≡ first → StandsNext s l (drop (length first + 1) s.rest)
stands_first s first l is next same = record {
  fits = next.0;
  short = omega (arith, text_length l, ap length same, is.short);
  allowed = next.1;
  whole = is.whole ∙ ap (λ (b : List ℕ). b ++ 10 ∷ drop (length first + 1) s.rest) (sym same)
      ∙ sym (text_apart l (drop (length first + 1) s.rest));
}

-- ---- however the script was cut

-- some bytes have a line feed, or none
ends : (bytes : List ℕ) → All (λ b. b ≢ 10) bytes
    ⊎ ((line : List ℕ) × (rest : List ℕ) × All (λ b. b ≢ 10) line × (bytes ≡ line ++ 10 ∷ rest))
ends [] = inl (All-nil (λ b. b ≢ 10))
ends (b ∷ bytes) =
    elim (dec b) [
      | inl is ↦ inr ([], bytes, All-nil (λ b. b ≢ 10), ap (λ (c : ℕ). c ∷ bytes) is)
      | inr other ↦ elim (ends bytes) [
        | inl none ↦ inl (All-cons (λ b. b ≢ 10) b bytes other none)
        | inr some ↦ inr
            (b ∷ some.0, some.1, All-cons (λ b. b ≢ 10) b some.0 other some.2, ap (λ (t : List ℕ). b ∷ t) some.3)
      ]
    ]
  where
    dec : (b : ℕ) → (b ≡ 10) ⊎ (b ≢ 10)
    dec b =
        elim (cases_lt b 10) [
          | inl below ↦ inr (λ e. omega (arith, e, below))
          | inr least ↦ elim (cases_lt 10 b) [
            | inl above ↦ inr (λ e. omega (arith, e, above))
            | inr most ↦ inl (omega (arith, least, most))
          ]
        ]

pub stands_still : (s : Script) (l : Line) (rest more : List ℕ) → StandsNext s l rest
    → StandsNext (record s { rest = s.rest ++ more }) l (rest ++ more)
stands_still s l rest more stands = record {
  fits = stands.fits;
  short = stands.short;
  allowed = record { numbered = stands.allowed.numbered; settings_first = stands.allowed.settings_first };
  whole = ap (λ (t : List ℕ). t ++ more) stands.whole ∙ append_assoc (line_text l) rest more;
}

-- bytes without a line feed, followed by more
none_within : (bytes more line rest : List ℕ) → All (λ b. b ≢ 10) bytes → length line < length bytes
    → bytes ++ more ≡ line ++ 10 ∷ rest → ⊥
none_within bytes more line rest none within e =
    let end = end_at (bytes ++ more) line rest e in
    none (length line) 0 within (sym (get_or_append_left bytes more 0 (length line) within) ∙ end.0)

pub refused_still : (s : Script) (more : List ℕ) → IsRefused s → IsRefused (record s { rest = s.rest ++ more })
refused_still s more refused = record {
  ended = λ unended. refused.ended (record {
    no_end = λ i d within.
        λ e. unended.no_end i d (omega (arith, within, length-append s.rest more))
        (get_or_append_left s.rest more d i within ∙ e);
    room = omega (arith, unended.room, length-append s.rest more);
  });
  none = λ l rest stands. elim (ends s.rest) [
    | inl none ↦ elim (cases_lt (length s.rest) LONGEST_LINE) [
      | inl room ↦ refused.ended (record { no_end = none; room = room })
      | inr over ↦ none_within s.rest more (line_bytes l) rest none
          (omega (arith, stands.short, text_length l, over)) (stands.whole ∙ text_apart l rest)
    ]
    | inr some ↦ (
        let cut =
        same_cut some.0 (line_bytes l) (some.1 ++ more) rest some.2 (line_no_end l stands.fits)
        (sym (append_assoc some.0 (10 ∷ some.1) more) ∙ ap (λ (t : List ℕ). t ++ more) (sym some.3)
        ∙ stands.whole ∙ text_apart l rest) in
        refused.none l some.1 (record {
          fits = stands.fits;
          short = stands.short;
          allowed = record { numbered = stands.allowed.numbered; settings_first = stands.allowed.settings_first };
          whole = some.3 ∙ ap (λ (b : List ℕ). b ++ 10 ∷ some.1) cut.0 ∙ sym (text_apart l some.1);
        }))
  ];
}

-- ---- there is one answer

pub same_answer : (s new other : Script) (one two : Next) → Answers one s new → Answers two s other
    → (one ≡ two) × (new ≡ other)
same_answer s new other Need Need p q = (refl, p.1 ∙ sym q.1)
same_answer s new other Need (line_next l) p q = absurd (unended_none s p.0 l other.rest q.0)
same_answer s new other Need (Bad o) p q = absurd (q.0.ended p.0)
same_answer s new other (line_next l) Need p q = absurd (unended_none s q.0 l new.rest p.0)
same_answer s new other (line_next l) (line_next k) p q =
    let same = same_text l k new.rest other.rest p.0.fits q.0.fits (sym p.0.whole ∙ q.0.whole) in
    (ap line_next same.0, p.1 ∙ (λ i. after s (same.0 i) (same.1 i)) ∙ sym q.1)
same_answer s new other (line_next l) (Bad o) p q = absurd (q.0.none l new.rest p.0)
same_answer s new other (Bad o) Need p q = absurd (p.0.ended q.0)
same_answer s new other (Bad o) (line_next l) p q = absurd (p.0.none l other.rest q.0)
same_answer s new other (Bad o) (Bad r) p q = (ap Bad (p.1 ∙ sym q.1), p.2 ∙ sym q.2)

-- a line has bytes, so what follows one is shorter
pub shorter : (s : Script) (l : Line) (rest : List ℕ) → StandsNext s l rest → length rest < length s.rest
shorter s l rest stands =
    omega (arith, ap length stands.whole, length-append (line_text l) rest, text_length l)
