-- The text of a line: its words have neither spaces nor line feeds, so they can be told from it.
use Rattle.std.proofs.Common.{◌≡◌, ◌≢◌, ℕ, suc, ◌+◌, ◌<◌, ◌≤◌, ◌^◌, ◌==◌, false, true, List, [], ◌∷◌, length, map, Option, Some, None, Result, Ok, Err, refl, sym, ap, ◌∙◌, decimal, arith, codes, leb-true}
use Rattle.std.specs.Char.{is_ascii_graphic}
use Rattle.std.specs.List.{All, AllByRecursion, join_with_byte, list_all, slice_split}
use Rattle.std.proofs.lemmas.Bool.{ne_eqb, and_parts}
use Rattle.std.proofs.lemmas.Fmt.{digits_decimal}
use Rattle.std.proofs.lemmas.List.Elements.{All-append, All-cons, All-nil, All-from_get_or}
use Rattle.std.proofs.lemmas.List.Splits.{join_with_byte-slice_split, slice_split_at, slice_split_none}
use Rattle.std.proofs.lemmas.List.Sums.{AllPass-from_list_all}
use Rattle.std.proofs.lemmas.Str.Parse.{digit_at}
use Rattle.bk_script.specs.declared.lines.Line.{Line}
use Rattle.bk_script.specs.declared.lines.Line.TheVariants.{Max, Ttl, At, Fail, Fuse, By, Stop}
use Rattle.bk_script.specs.declared.lines.Action.{Action}
use Rattle.bk_script.specs.declared.lines.Action.TheVariants.{Put, Big, Delete, Reap, Get, Read, Sync, Fold, Next, End}
use Rattle.bk_script.specs.Lines.{Fits, FitsAction, FitsKeep, action_words, keep_word, line_words}
use Rattle.bk_script.specs.declared.unread.Unread.{Unread}
use Rattle.bk_script.specs.declared.unread.Unread.TheVariants.{Bad, Memory}
use Rattle.bk_script.specs.Words.{Reads, line_bytes}
use Rattle.bk_script.proofs.Numbers.{numerals}

-- ---- the words of a line are printable

abbrev pub IsShown : List ℕ → Type 0
IsShown word = All (λ b. (33 ≤ b) × (b ≤ 126)) word

abbrev pub AreShown : List (List ℕ) → Type 0
AreShown words = AllByRecursion IsShown words

printed : (word : List ℕ) → list_all is_ascii_graphic word ≡ true → IsShown word
printed word e i d within =
    let parts = and_parts _ _ (AllPass-from_list_all is_ascii_graphic word e i d within) in
    (leb-true 33 _ parts.0, leb-true _ 126 parts.1)

number_shown : (n : ℕ) → n < 2 ^ 64 → IsShown (decimal n)
number_shown n fits =
    All-from_get_or (λ b. (33 ≤ b) × (b ≤ 126)) (decimal n) 0
    (λ i within. let digit = digit_at (decimal n) i (digits_decimal numerals n fits) within in
    (omega (arith, digit.0), omega (arith, digit.1)))

numbers_shown : (ns : List ℕ) → All (λ n. n < 2 ^ 64) ns → AreShown (map decimal ns)
numbers_shown [] fit = tt
numbers_shown (n ∷ ns) fit =
    (number_shown n (fit 0 0 (omega arith)), numbers_shown ns (λ i d within. fit (suc i) d (omega (arith, within))))

keep_shown : (keep : Option ℕ) → FitsKeep keep → IsShown (keep_word keep)
keep_shown None fit = printed (keep_word None) refl
keep_shown (Some keep) fit = number_shown keep fit

action_shown : (a : Action) → FitsAction a → AreShown (action_words a)
action_shown (Put key value) fit = (printed (codes "put") refl, (fit.0.printable, (fit.1.printable, tt)))
action_shown (Big key len) fit = (printed (codes "big") refl, (fit.0.printable, (number_shown len (omega (arith, fit.1)), tt)))
action_shown (Delete key) fit = (printed (codes "del") refl, (fit.printable, tt))
action_shown (Reap key) fit = (printed (codes "reap") refl, (fit.printable, tt))
action_shown (Get key) fit = (printed (codes "get") refl, (fit.printable, tt))
action_shown Read fit = (printed (codes "read") refl, tt)
action_shown Sync fit = (printed (codes "sync") refl, tt)
action_shown Fold fit = (printed (codes "fold") refl, tt)
action_shown (Next slot) fit = (printed (codes "next") refl, (number_shown slot (omega (arith, fit)), tt))
action_shown (End slot) fit = (printed (codes "end") refl, (number_shown slot (omega (arith, fit)), tt))

letter_shown : (n : ℕ) → 1 ≤ n → n ≤ 26 → IsShown ((96 + n) ∷ [])
letter_shown n low high =
    All-cons (λ b. (33 ≤ b) × (b ≤ 126)) (96 + n) [] (omega arith, omega (arith, high))
    (All-nil (λ b. (33 ≤ b) × (b ≤ 126)))

line_shown : (l : Line) → Fits l → AreShown (line_words l)
line_shown (Max n) fit = (printed (codes "max") refl, (number_shown n (omega (arith, fit.1)), tt))
line_shown (Ttl n) fit = (printed (codes "ttl") refl, (number_shown n (omega (arith, fit)), tt))
line_shown (At now) fit = (printed (codes "at") refl, (number_shown now.0 (omega (arith, fit)), tt))
line_shown (Fail nth effect) fit = (printed (codes "fail") refl, (number_shown nth fit.1, (number_shown effect fit.2, tt)))
line_shown (Fuse calls effect) fit = (printed (codes "fuse") refl, (number_shown calls fit.0, (number_shown effect fit.1, tt)))
line_shown (By actor action) fit = (letter_shown actor.0 fit.0 fit.1, action_shown action fit.2)
line_shown (Stop keep flips) fit = (printed (codes "stop") refl, (keep_shown keep fit.0, numbers_shown flips fit.1))

-- ---- and can be told from its bytes

no_space : (word : List ℕ) → IsShown word → All (λ b. (b == 32) ≡ false) word
no_space word shown i d within = ne_eqb _ 32 (λ e. omega (arith, e, (shown i d within).0))

no_end : (word : List ℕ) → IsShown word → All (λ b. b ≢ 10) word
no_end word shown i d within e = omega (arith, e, (shown i d within).0)

split_again : (words : List (List ℕ)) → 0 < length words → AreShown words
    → slice_split (λ b. b == 32) (join_with_byte 32 words) ≡ words
split_again [] some shown = absurd (omega arith)
split_again (w ∷ []) some shown = slice_split_none (λ b. b == 32) w (no_space w shown.0)
split_again (w ∷ v ∷ ws) some shown =
    slice_split_at (λ b. b == 32) w 32 (join_with_byte 32 (v ∷ ws)) (no_space w shown.0) refl
    ∙ ap (λ parts. w ∷ parts) (split_again (v ∷ ws) (omega arith) shown.1)

joined_no_end : (words : List (List ℕ)) → AreShown words → All (λ b. b ≢ 10) (join_with_byte 32 words)
joined_no_end [] shown = All-nil (λ b. b ≢ 10)
joined_no_end (w ∷ []) shown = no_end w shown.0
joined_no_end (w ∷ v ∷ ws) shown =
    All-append (λ b. b ≢ 10) w (32 ∷ join_with_byte 32 (v ∷ ws)) (no_end w shown.0)
    (All-cons (λ b. b ≢ 10) 32 (join_with_byte 32 (v ∷ ws)) (λ e. omega (arith, e)) (joined_no_end (v ∷ ws) shown.1))

some_words : (l : Line) → 0 < length (line_words l)
some_words (Max n) = omega arith
some_words _ = omega arith

pub words_again : (l : Line) → Fits l → slice_split (λ b. b == 32) (line_bytes l) ≡ line_words l
words_again l fit = split_again (line_words l) (some_words l) (line_shown l fit)

pub line_no_end : (l : Line) → Fits l → All (λ b. b ≢ 10) (line_bytes l)
line_no_end l fit = joined_no_end (line_words l) (line_shown l fit)

-- what is read of the words is read of the bytes
pub read_split : (r : Result Line Unread) (words : List (List ℕ)) (bytes : List ℕ)
    → words ≡ slice_split (λ b. b == 32) bytes → Reads Fits line_words r words → Reads Fits line_bytes r bytes
read_split (Ok l) words bytes split reads =
    (reads.0, ap (join_with_byte 32) (reads.1 ∙ split) ∙ join_with_byte-slice_split 32 bytes)
read_split (Err Bad) words bytes split reads = λ l fit same.
    reads l fit (sym (words_again l fit) ∙ ap (slice_split (λ b. b == 32)) same ∙ sym split)
read_split (Err Memory) words bytes split reads = tt
