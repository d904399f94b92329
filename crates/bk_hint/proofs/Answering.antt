-- No two verdicts come at the same bytes.
use Rattle.std.proofs.Common.{◌≡◌, ◌≢◌, ℕ, suc, ◌<◌, ◌≤◌, List, [], ◌∷◌, ◌++◌, length, refl, sym, ap, subst, ◌∙◌}
use Rattle.std.proofs.Common.{inl, inr, arith}
use Rattle.std.proofs.lemmas.Bool.{cases_lt}
use Rattle.std.specs.List.{AllByRecursion}
use Rattle.bk_crc.specs.Crc.{crc_of}
use Rattle.bk_laws.specs.Hint.{Hinted, IsHint, IsSoundRow, rows_text}
use Rattle.bk_hint.specs.declared.judging.Verdict.{Verdict}
use Rattle.bk_hint.specs.declared.judging.Verdict.TheVariants.{NotWhole, BadCheck, LengthDiffers, BadRow, Good}
use Rattle.bk_hint.specs.Verdicts.{IsFirstBad, IsVerdict}
use Rattle.bk_hint.proofs.HintTexts.{one_hint}

-- the order in which they are tested
abbrev rank : Verdict → ℕ
rank NotWhole = 0
rank (BadCheck stored computed) = 1
rank (LengthDiffers said len) = 2
rank (BadRow n) = 3
rank (Good covered rows) = 4

rank_le : (v : Verdict) → rank v ≤ 4
rank_le NotWhole = omega arith
rank_le (BadCheck stored computed) = omega arith
rank_le (LengthDiffers said len) = omega arith
rank_le (BadRow n) = omega arith
rank_le (Good covered rows) = omega arith

-- a hint whose checksum is wrong isn't one whose checksum is right
wrong_check : (bytes : List ℕ) (c d : ℕ) (rows more : List Hinted) (stored computed : ℕ)
    → IsHint bytes c rows stored → computed ≡ crc_of (rows_text rows) → stored ≢ computed
    → IsHint bytes d more (crc_of (rows_text more)) → ⊥
wrong_check bytes c d rows more stored computed p is differs q =
    let same = one_hint bytes c d rows more stored _ p q in
    differs (same.crc_is ∙ sym (ap (λ (x : List Hinted). crc_of (rows_text x)) same.rows_are) ∙ sym is)

sound_at : (covered : ℕ) (before : List Hinted) (r : Hinted) (later : List Hinted)
    → AllByRecursion (IsSoundRow covered) (before ++ r ∷ later) → IsSoundRow covered r
sound_at covered [] r later all = all.0
sound_at covered (b ∷ before) r later all = sound_at covered before r later all.1

no_bad : (covered : ℕ) (rows : List Hinted) (n : ℕ)
    → IsFirstBad covered rows n → AllByRecursion (IsSoundRow covered) rows → ⊥
no_bad covered rows n first all =
    first.bad (sound_at covered first.before first.row first.later
    (subst (AllByRecursion (IsSoundRow covered)) first.whole all))

longer : (bytes : List ℕ) (len said d : ℕ) (rows more : List Hinted)
    → IsHint bytes said rows (crc_of (rows_text rows)) → len < said
    → IsHint bytes d more (crc_of (rows_text more)) → d ≤ len → ⊥
longer bytes len said d rows more p above q within =
    let same = one_hint bytes said d rows more _ _ p q in omega (arith, same.covered_is)

apart : (bytes : List ℕ) (len : ℕ) (v w : Verdict) → rank v < rank w
    → IsVerdict bytes len v → IsVerdict bytes len w → ⊥
apart bytes len NotWhole (BadCheck s c) lt p q = p q.0 q.1 s q.2
apart bytes len NotWhole (LengthDiffers s i) lt p q = p s q.0 _ q.1
apart bytes len NotWhole (BadRow n) lt p q = p q.0 q.1 _ q.2
apart bytes len NotWhole (Good c n) lt p q = p c q.0 _ q.1.hint
apart bytes len (BadCheck s c) (LengthDiffers t i) lt p q = wrong_check bytes p.0 t p.1 q.0 s c p.2 p.3 p.4 q.1
apart bytes len (BadCheck s c) (BadRow n) lt p q = wrong_check bytes p.0 q.0 p.1 q.1 s c p.2 p.3 p.4 q.2
apart bytes len (BadCheck s c) (Good d n) lt p q = wrong_check bytes p.0 d p.1 q.0 s c p.2 p.3 p.4 q.1.hint
apart bytes len (LengthDiffers s i) (BadRow n) lt p q = longer bytes len s q.0 p.0 q.1 p.1 p.3 q.2 q.3
apart bytes len (LengthDiffers s i) (Good d n) lt p q = longer bytes len s d p.0 q.0 p.1 p.3 q.1.hint q.1.within
apart bytes len (BadRow n) (Good d m) lt p q =
    let same = one_hint bytes p.0 d p.1 q.0 _ _ p.2 q.1.hint in
    no_bad d q.0 n
    (subst (λ (x : List Hinted). IsFirstBad d x n) same.rows_are
    (subst (λ (c : ℕ). IsFirstBad c p.1 n) same.covered_is p.4)) q.1.sound
apart bytes len v w lt p q = absurd (omega (arith, rank_le w))

-- the first bad row has one place
one_place : (covered : ℕ) (xs ys : List Hinted) (r s : Hinted) (later rest : List Hinted)
    → AllByRecursion (IsSoundRow covered) xs → (IsSoundRow covered r → ⊥)
    → AllByRecursion (IsSoundRow covered) ys → (IsSoundRow covered s → ⊥)
    → xs ++ r ∷ later ≡ ys ++ s ∷ rest → length xs ≡ length ys
one_place covered [] [] r s later rest a b c d e = refl
one_place covered [] (y ∷ ys) r s later rest a b c d e =
    let same : r ≡ y = cc in absurd (b (subst (IsSoundRow covered) (sym same) c.0))
one_place covered (x ∷ xs) [] r s later rest a b c d e =
    let same : x ≡ s = cc in absurd (d (subst (IsSoundRow covered) same a.0))
one_place covered (x ∷ xs) (y ∷ ys) r s later rest a b c d e =
    let tails : xs ++ r ∷ later ≡ ys ++ s ∷ rest = cc in
    ap suc (one_place covered xs ys r s later rest a.1 b c.1 d tails)

same_rank : (bytes : List ℕ) (len : ℕ) (v w : Verdict) → rank v ≡ rank w
    → IsVerdict bytes len v → IsVerdict bytes len w → v ≡ w
same_rank bytes len NotWhole NotWhole e p q = refl
same_rank bytes len (BadCheck s c) (BadCheck t d) e p q =
    let same = one_hint bytes p.0 q.0 p.1 q.1 s t p.2 q.2 in
    let computed : c ≡ d = p.3 ∙ ap (λ (x : List Hinted). crc_of (rows_text x)) same.rows_are ∙ sym q.3 in
    λ i. BadCheck (same.crc_is i) (computed i)
same_rank bytes len (LengthDiffers s m) (LengthDiffers t n) e p q =
    let same = one_hint bytes s t p.0 q.0 _ _ p.1 q.1 in
    let length_is : m ≡ n = p.2 ∙ sym q.2 in
    λ i. LengthDiffers (same.covered_is i) (length_is i)
same_rank bytes len (BadRow n) (BadRow m) e p q =
    let same = one_hint bytes p.0 q.0 p.1 q.1 _ _ p.2 q.2 in
    let a = p.4 in
    let b = subst (λ (x : List Hinted). IsFirstBad p.0 x m) (sym same.rows_are)
    (subst (λ (c : ℕ). IsFirstBad c q.1 m) (sym same.covered_is) q.4) in
    let place : n ≡ m =
    a.place ∙ one_place p.0 a.before b.before a.row b.row a.later b.later a.sound a.bad b.sound b.bad
    (sym a.whole ∙ b.whole) ∙ sym b.place in
    ap BadRow place
same_rank bytes len (Good c n) (Good d m) e p q =
    let same = one_hint bytes c d p.0 q.0 _ _ p.1.hint q.1.hint in
    let number : n ≡ m = p.2 ∙ ap length same.rows_are ∙ sym q.2 in
    λ i. Good (same.covered_is i) (number i)
same_rank bytes len _ _ e p q = absurd (omega arith)

pub one_verdict : (bytes : List ℕ) (len : ℕ) (v w : Verdict)
    → IsVerdict bytes len v → IsVerdict bytes len w → v ≡ w
one_verdict bytes len v w p q =
    elim (cases_lt (rank v) (rank w)) [
      | inl lt ↦ absurd (apart bytes len v w lt p q)
      | inr le ↦ elim (cases_lt (rank w) (rank v)) [
        | inl gt ↦ absurd (apart bytes len w v gt q p)
        | inr ge ↦ same_rank bytes len v w (omega arith) p q
      ]
    ]
