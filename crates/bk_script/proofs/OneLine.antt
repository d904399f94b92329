-- No two lines have one text.
use Rattle.std.proofs.Common.{◌≡◌, ◌≢◌, ◌==◌, ℕ, suc, ◌+◌, ◌*◌, ◌<◌, ◌^◌, List, [], ◌∷◌, ◌++◌, length, get_or, drop, map, Option, Some, None, refl, sym, ap, ◌∙◌, decimal, arith, append_assoc}
use Rattle.std.specs.List.{All, slice_split}
use Rattle.std.proofs.lemmas.Fmt.{decimal_injective, decimal_nonempty, digits_decimal}
use Rattle.std.proofs.lemmas.Str.Parse.{digit_at}
use Rattle.bk_script.specs.declared.lines.Line.{Line}
use Rattle.bk_script.specs.declared.lines.Line.TheVariants.{Max, Ttl, At, Fail, Fuse, By, Stop}
use Rattle.bk_script.specs.declared.lines.Action.{Action}
use Rattle.bk_script.specs.declared.lines.Action.TheVariants.{Put, Big, Delete, Reap, Get, Read, Sync, Fold, Next, End}
use Rattle.bk_script.specs.Lines.{Fits, FitsAction, FitsKeep, action_words, keep_word, line_text, line_words}
use Rattle.bk_script.specs.Words.{line_bytes}
use Rattle.bk_script.proofs.Numbers.{numerals}
use Rattle.bk_script.proofs.Texts.{line_no_end, words_again}

-- the first word by its length and two of its bytes
abbrev mark : List (List ℕ) → ℕ
mark words = get_or (get_or words 0 []) 0 0 + 256 * get_or (get_or words 0 []) 1 0
    + 65536 * get_or (get_or words 0 []) 3 0 + 16777216 * length (get_or words 0 [])

abbrev nth : ℕ → List (List ℕ) → List ℕ
nth k words = get_or words k []

same_numbers : (ms ns : List ℕ) → All (λ n. n < 2 ^ 64) ms → All (λ n. n < 2 ^ 64) ns
    → map decimal ms ≡ map decimal ns → ms ≡ ns
same_numbers [] [] p q e = refl
same_numbers [] (n ∷ ns) p q e = absurd cc
same_numbers (m ∷ ms) [] p q e = absurd cc
same_numbers (m ∷ ms) (n ∷ ns) p q e =
    let one = decimal_injective m n (p 0 0 (omega arith)) (q 0 0 (omega arith)) (ap (nth 0) e) in
    let others =
    same_numbers ms ns (λ i d within. p (suc i) d (omega (arith, within))) (λ i d within. q (suc i) d (omega (arith, within)))
    (ap (λ ws. drop 1 ws) e) in
    (λ i. one i ∷ others i)

number_is_not_all : (n : ℕ) → n < 2 ^ 64 → keep_word None ≡ decimal n → ⊥
number_is_not_all n fits e =
    let digit = digit_at (decimal n) 0 (digits_decimal numerals n fits) (decimal_nonempty n fits) in
    omega (arith, digit.1, ap (λ (w : List ℕ). get_or w 0 0) e)

same_keep : (a b : Option ℕ) → FitsKeep a → FitsKeep b → keep_word a ≡ keep_word b → a ≡ b
same_keep None None p q e = refl
same_keep None (Some n) p q e = absurd (number_is_not_all n q e)
same_keep (Some m) None p q e = absurd (number_is_not_all m p (sym e))
same_keep (Some m) (Some n) p q e = ap Some (decimal_injective m n p q e)

same_action : (a b : Action) → FitsAction a → FitsAction b → action_words a ≡ action_words b
    → mark (action_words a) ≡ mark (action_words b) → a ≡ b
same_action (Put k v) (Put j w) p q e m = (λ i. Put (ap (nth 1) e i) (ap (nth 2) e i))
same_action (Put k v) _ p q e m = absurd (omega (arith, m))
same_action (Big k n) (Big j l) p q e m =
    let len = decimal_injective n l (omega (arith, p.1)) (omega (arith, q.1)) (ap (nth 2) e) in
    (λ i. Big (ap (nth 1) e i) (len i))
same_action (Big k n) _ p q e m = absurd (omega (arith, m))
same_action (Delete k) (Delete j) p q e m = ap Delete (ap (nth 1) e)
same_action (Delete k) _ p q e m = absurd (omega (arith, m))
same_action (Reap k) (Reap j) p q e m = ap Reap (ap (nth 1) e)
same_action (Reap k) _ p q e m = absurd (omega (arith, m))
same_action (Get k) (Get j) p q e m = ap Get (ap (nth 1) e)
same_action (Get k) _ p q e m = absurd (omega (arith, m))
same_action Read Read p q e m = refl
same_action Read _ p q e m = absurd (omega (arith, m))
same_action Sync Sync p q e m = refl
same_action Sync _ p q e m = absurd (omega (arith, m))
same_action Fold Fold p q e m = refl
same_action Fold _ p q e m = absurd (omega (arith, m))
same_action (Next s) (Next t) p q e m =
    ap Next (decimal_injective s t (omega (arith, p)) (omega (arith, q)) (ap (nth 1) e))
same_action (Next s) _ p q e m = absurd (omega (arith, m))
same_action (End s) (End t) p q e m =
    ap End (decimal_injective s t (omega (arith, p)) (omega (arith, q)) (ap (nth 1) e))
same_action (End s) _ p q e m = absurd (omega (arith, m))

same_words : (a b : Line) → Fits a → Fits b → line_words a ≡ line_words b → mark (line_words a) ≡ mark (line_words b)
    → a ≡ b
same_words (Max n) (Max l) p q e m =
    ap Max (decimal_injective n l (omega (arith, p.1)) (omega (arith, q.1)) (ap (nth 1) e))
same_words (Max n) _ p q e m = absurd (omega (arith, m))
same_words (Ttl n) (Ttl l) p q e m =
    ap Ttl (decimal_injective n l (omega (arith, p)) (omega (arith, q)) (ap (nth 1) e))
same_words (Ttl n) _ p q e m = absurd (omega (arith, m))
same_words (At now) (At then) p q e m =
    let same = decimal_injective now.0 then.0 (omega (arith, p)) (omega (arith, q)) (ap (nth 1) e) in
    (λ i. At (record { 0 = same i }))
same_words (At now) _ p q e m = absurd (omega (arith, m))
same_words (Fail n f) (Fail l g) p q e m =
    let one = decimal_injective n l p.1 q.1 (ap (nth 1) e) in
    let two = decimal_injective f g p.2 q.2 (ap (nth 2) e) in
    (λ i. Fail (one i) (two i))
same_words (Fail n f) _ p q e m = absurd (omega (arith, m))
same_words (Fuse n f) (Fuse l g) p q e m =
    let one = decimal_injective n l p.0 q.0 (ap (nth 1) e) in
    let two = decimal_injective f g p.1 q.1 (ap (nth 2) e) in
    (λ i. Fuse (one i) (two i))
same_words (Fuse n f) _ p q e m = absurd (omega (arith, m))
same_words (By a x) (By b y) p q e m =
    let actor : a.0 ≡ b.0 = omega (arith, m) in
    let words : action_words x ≡ action_words y = ap (λ ws. drop 1 ws) e in
    let action = same_action x y p.2 q.2 words (ap mark words) in
    (λ i. By (record { 0 = actor i }) (action i))
same_words (By a x) _ p q e m = absurd (omega (arith, m, p.1))
same_words (Stop k fs) (Stop j gs) p q e m =
    let keep = same_keep k j p.0 q.0 (ap (nth 1) e) in
    let flips = same_numbers fs gs p.1 q.1 (ap (λ ws. drop 2 ws) e) in
    (λ i. Stop (keep i) (flips i))
same_words (Stop k fs) _ p q e m = absurd (omega (arith, m))

pub same_line : (a b : Line) → Fits a → Fits b → line_bytes a ≡ line_bytes b → a ≡ b
same_line a b p q e =
    let words : line_words a ≡ line_words b =
    sym (words_again a p) ∙ ap (slice_split (λ b. b == 32)) e ∙ words_again b q in
    same_words a b p q words (ap mark words)

-- lists up to their first line feed
pub same_cut : (xs ys es fs : List ℕ) → All (λ b. b ≢ 10) xs → All (λ b. b ≢ 10) ys
    → xs ++ 10 ∷ es ≡ ys ++ 10 ∷ fs → (xs ≡ ys) × (es ≡ fs)
same_cut [] [] es fs p q e = (refl, cc)
same_cut [] (y ∷ ys) es fs p q e = absurd (q 0 0 (omega arith) cc)
same_cut (x ∷ xs) [] es fs p q e = absurd (p 0 0 (omega arith) cc)
same_cut (x ∷ xs) (y ∷ ys) es fs p q e =
    let same =
    same_cut xs ys es fs (λ i d within. p (suc i) d (omega (arith, within)))
    (λ i d within. q (suc i) d (omega (arith, within))) cc in
    (cc, same.1)

-- a line's text and a rest, as its bytes, the line feed and the rest
pub text_apart : (l : Line) (rest : List ℕ) → line_text l ++ rest ≡ line_bytes l ++ 10 ∷ rest
text_apart l rest = append_assoc (line_bytes l) (10 ∷ []) rest

pub same_text : (a b : Line) (xs ys : List ℕ) → Fits a → Fits b → line_text a ++ xs ≡ line_text b ++ ys
    → (a ≡ b) × (xs ≡ ys)
same_text a b xs ys p q e =
    let cut =
    same_cut (line_bytes a) (line_bytes b) xs ys (line_no_end a p) (line_no_end b q)
    (sym (text_apart a xs) ∙ e ∙ text_apart b ys) in
    (same_line a b p q cut.0, cut.1)
