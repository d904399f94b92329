-- The word that begins a reply is a code: no word begins another.
use Rattle.std.proofs.Common.{◌≡◌, ℕ, zero, suc, Bool, true, ◌&&◌, ◌⊎◌, List, [], ◌∷◌, ◌++◌, Result, Ok, Err, refl, ap, ◌∙◌, inl, inr}
use Rattle.std.proofs.lemmas.Bool.{and_parts}
use Rattle.bk_base.specs.declared.requests.Full.TheVariants.{Seq, Files, Folds, Turns}
use Rattle.bk_wire.specs.declared.stops.Stop.{Stop}
use Rattle.bk_wire.specs.declared.stops.Stop.TheVariants.{Short, Bad}
use Rattle.bk_wire.specs.declared.words.Word.{Word}
use Rattle.bk_wire.specs.declared.words.Word.TheVariants.{Value, Pair, Key, Line as line_word}
use Rattle.bk_wire.specs.declared.words.Line.TheVariants.{Absent, Numbered, End, Synced, Merged, Held, Job, Stat, Bye}
use Rattle.bk_wire.specs.declared.words.Line.TheVariants.{Memory, Disk, Read, Damaged, Cut, Full, Syntax}
use Rattle.bk_wire.specs.declared.words.TheConstants.{WORDS}
use Rattle.bk_wire.specs.Reading.{word_at, or_else}
use Rattle.bk_wire.specs.ReplyReading.{word_text, words_at}
use Rattle.bk_wire.proofs.Codes.{IsCode, recoded, reread, either_code}
use Rattle.bk_wire.proofs.Choices.{made_code, refuses, refused}
use Rattle.bk_wire.proofs.FieldCodes.{literal_code}

-- the word stands at place i of the list
unfoldable pub Stands : List Word → ℕ → Word → Type 0
Stands [] i v = ⊥
Stands (w ∷ ws) zero v = v ≡ w
Stands (w ∷ ws) (suc i) v = Stands ws i v

abbrev pub IsIn : List Word → Word → Type 0
IsIn ws v = (i : ℕ) × Stands ws i v

-- no word of the list begins as this one
unfoldable all_other : Word → List Word → Bool
all_other w [] = true
all_other w (v ∷ vs) = refuses (word_text w) (word_text v) && all_other w vs

unfoldable are_apart : List Word → Bool
are_apart [] = true
are_apart (w ∷ ws) = all_other w ws && are_apart ws

other_in : (w : Word) (ws : List Word) (i : ℕ) (v : Word) → all_other w ws ≡ true → Stands ws i v
    → refuses (word_text w) (word_text v) ≡ true
unfolding Stands all_other
other_in w [] i v all here = absurd here
other_in w (u ∷ us) zero v all here =
    ap (λ (x : Word). refuses (word_text w) (word_text x)) here ∙ (and_parts _ _ all).0
other_in w (u ∷ us) (suc i) v all here = other_in w us i v (and_parts _ _ all).1 here

word_code : (w : Word) → IsCode word_text (λ v. v ≡ w) (word_at (word_text w) w)
word_code w =
    made_code (λ _. w) word_text (λ v. v ≡ w) (literal_code (word_text w)) (λ _ _. refl)
    (λ v is. (tt, is, tt)) (λ _ _. refl)

or_nothing : {A : Type 0} (r : Result A Stop) → or_else r (Err Bad) ≡ r
or_nothing (Ok x) = refl
or_nothing (Err Short) = refl
or_nothing (Err Bad) = refl

split : (w : Word) (ws : List Word) (v : Word) (i : ℕ) → Stands (w ∷ ws) i v → (v ≡ w) ⊎ IsIn ws v
unfolding Stands
split w ws v zero here = inl here
split w ws v (suc i) here = inr (i, here)

put : (w : Word) (ws : List Word) (v : Word) → (v ≡ w) ⊎ IsIn ws v → IsIn (w ∷ ws) v
unfolding Stands
put w ws v (inl is) = (0, is)
put w ws v (inr later) = (suc later.0, later.1)

one_only : (w v : Word) → (v ≡ w) ⊎ IsIn [] v → v ≡ w
unfolding Stands
one_only w v (inl is) = is
one_only w v (inr later) = absurd later.1

words_code : (w : Word) (ws : List Word) → are_apart (w ∷ ws) ≡ true
    → IsCode word_text (IsIn (w ∷ ws)) (words_at (w ∷ ws))
unfolding words_at are_apart
words_code w [] apart =
    recoded (λ v is. put w [] v (inl is)) (λ v in_w. one_only w v (split w [] v in_w.0 in_w.1)) (λ v _. refl)
    (reread (λ bytes. or_nothing (word_at (word_text w) w bytes)) (word_code w))
words_code w (u ∷ us) apart =
    recoded (λ v which. put w (u ∷ us) v which) (λ v in_w. split w (u ∷ us) v in_w.0 in_w.1) (λ v _. refl)
    (either_code word_text (λ v. v ≡ w) (IsIn (u ∷ us)) (word_at (word_text w) w) (words_at (u ∷ us))
    (word_code w) (words_code u us (and_parts _ _ apart).1)
    (λ v rest later. word_refused w v rest (other_in w (u ∷ us) later.0 v (and_parts _ _ apart).0 later.1)))
  where
    word_refused : (w v : Word) (rest : List ℕ) → refuses (word_text w) (word_text v) ≡ true
        → word_at (word_text w) w (word_text v ++ rest) ≡ Err Bad
    word_refused w v rest other = rw (refused (word_text w) (word_text v) rest other) refl

-- ---- the words of replies

place : Word → ℕ
place Value = 0
place Pair = 1
place Key = 2
place (line_word Absent) = 3
place (line_word Numbered) = 4
place (line_word End) = 5
place (line_word Synced) = 6
place (line_word Merged) = 7
place (line_word Held) = 8
place (line_word Job) = 9
place (line_word Stat) = 10
place (line_word Bye) = 11
place (line_word Memory) = 12
place (line_word Disk) = 13
place (line_word Read) = 14
place (line_word Damaged) = 15
place (line_word Cut) = 16
place (line_word (Full Seq)) = 17
place (line_word (Full Files)) = 18
place (line_word (Full Folds)) = 19
place (line_word (Full Turns)) = 20
place (line_word Syntax) = 21

stands : (w : Word) → Stands WORDS (place w) w
unfolding Stands place
stands (line_word (Full Seq)) = refl
stands _ = refl

pub each_word : (w : Word) → IsIn WORDS w
each_word w = (place w, stands w)

pub first_word_code : IsCode word_text (IsIn WORDS) (words_at WORDS)
unfolding are_apart all_other refuses
first_word_code = words_code Value _ refl
