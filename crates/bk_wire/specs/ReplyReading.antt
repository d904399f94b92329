-- What reading a reply answers, as in Reading: a word, and then what that word has behind it.
use Rattle.std.specs.Prelude.{ℕ, zero, suc, ◌+◌, ◌-◌, ◌*◌, ◌^◌, Bool, cond, ◌&&◌, nat_le, List, [], ◌∷◌, codes, Result, Ok, Err}
use Rattle.std.specs.Char.{is_ascii_digit}
use Rattle.bk_base.specs.declared.limits.TheConstants.{LONGEST_KEY, LONGEST_VALUE}
use Rattle.bk_base.specs.declared.requests.Full.TheVariants.{Seq, Files, Folds, Turns}
use Rattle.bk_base.specs.declared.requests.Reply.{Reply}
use Rattle.bk_base.specs.declared.requests.Reply.TheVariants.{Value, Absent, Numbered, Pair, Key, End, Synced, Merged, Held}
use Rattle.bk_base.specs.declared.requests.Reply.TheVariants.{Job, Stat, Bye, Memory, Disk, Read, Damaged, Cut, Full, Syntax}
use Rattle.bk_wire.specs.declared.stops.Stop.{Stop}
use Rattle.bk_wire.specs.declared.stops.Stop.TheVariants.{Short, Bad}
use Rattle.bk_wire.specs.declared.words.Word.{Word}
use Rattle.bk_wire.specs.declared.words.Word.TheVariants.{Value as value_word, Pair as pair_word, Key as key_word, Line as line_word}
use Rattle.bk_wire.specs.declared.words.Line.{Line}
use Rattle.bk_wire.specs.declared.words.Line.TheVariants.{Absent as absent_line, Numbered as numbered_line, End as end_line}
use Rattle.bk_wire.specs.declared.words.Line.TheVariants.{Synced as synced_line, Merged as merged_line, Held as held_line}
use Rattle.bk_wire.specs.declared.words.Line.TheVariants.{Job as job_line, Stat as stat_line, Bye as bye_line, Memory as memory_line}
use Rattle.bk_wire.specs.declared.words.Line.TheVariants.{Disk as disk_line, Read as read_line, Damaged as damaged_line}
use Rattle.bk_wire.specs.declared.words.Line.TheVariants.{Cut as cut_line, Full as full_line, Syntax as syntax_line}
use Rattle.bk_wire.specs.declared.words.TheConstants.{WORDS}
use Rattle.bk_wire.specs.Reading.{◌>>=◌, literal_at, number_at, sized_at, paired_at, made, word_at, or_else}

-- ---- numbers

abbrev pub short_at : ℕ → List ℕ → Result (ℕ × List ℕ) Stop
short_at end bytes = number_at 0 (2 ^ 32 - 1) end bytes

abbrev pub long_at : ℕ → List ℕ → Result (ℕ × List ℕ) Stop
long_at end bytes = number_at 0 (2 ^ 64 - 1) end bytes

abbrev pub wide_at : ℕ → List ℕ → Result (ℕ × List ℕ) Stop
wide_at end bytes = number_at 0 (2 ^ 128 - 1) end bytes

abbrev pub is_hex_letter : ℕ → Bool
is_hex_letter b = nat_le 97 b && nat_le b 102

-- a hexadecimal digit in lower case
unfoldable pub digit_at : List ℕ → Result (ℕ × List ℕ) Stop
digit_at [] = Err Short
digit_at (b ∷ bytes) =
    cond (is_ascii_digit b) (Ok (b - 48, bytes)) (cond (is_hex_letter b) (Ok (b - 87, bytes)) (Err Bad))

-- a number of k such digits
unfoldable pub hex_digits_at : ℕ → List ℕ → Result (ℕ × List ℕ) Stop
hex_digits_at zero bytes = Ok (0, bytes)
hex_digits_at (suc k) bytes =
    hex_digits_at k bytes >>= λ front. digit_at front.1 >>= λ last. Ok (front.0 * 16 + last.0, last.1)

-- a number of eight such digits and the byte that ends it
unfoldable pub hex_at : ℕ → List ℕ → Result (ℕ × List ℕ) Stop
hex_at end bytes = do
  digits ← hex_digits_at 8 bytes
  last ← literal_at (end ∷ []) digits.1
  Ok (digits.0, last.1)

-- one after the other
abbrev pub both : {A B : Type 0} → (List ℕ → Result (A × List ℕ) Stop) → (List ℕ → Result (B × List ℕ) Stop)
    → List ℕ → Result ((A × B) × List ℕ) Stop
both first second bytes = first bytes >>= λ x. second x.1 >>= λ y. Ok ((x.0, y.0), y.1)

-- ---- words

abbrev pub line_text : Line → List ℕ
line_text absent_line = codes "NONE\n"
line_text numbered_line = codes "OK "
line_text end_line = codes "END "
line_text synced_line = codes "SYNCED "
line_text merged_line = codes "MERGED "
line_text held_line = codes "HELD "
line_text job_line = codes "JOB "
line_text stat_line = codes "STAT "
line_text bye_line = codes "BYE\n"
line_text memory_line = codes "MEMORY\n"
line_text disk_line = codes "DISK\n"
line_text read_line = codes "READ\n"
line_text damaged_line = codes "DAMAGED "
line_text cut_line = codes "CUT "
line_text (full_line Seq) = codes "FULL seq\n"
line_text (full_line Files) = codes "FULL files\n"
line_text (full_line Folds) = codes "FULL folds\n"
line_text (full_line Turns) = codes "FULL turns\n"
line_text syntax_line = codes "SYNTAX "

abbrev pub word_text : Word → List ℕ
word_text value_word = codes "VALUE "
word_text pair_word = codes "PAIR "
word_text key_word = codes "KEY "
word_text (line_word line) = line_text line

-- the first of these words that stands there
unfoldable pub words_at : List Word → List ℕ → Result (Word × List ℕ) Stop
words_at [] bytes = Err Bad
words_at (word ∷ words) bytes = or_else (word_at (word_text word) word bytes) (words_at words bytes)

-- ---- what a word has behind it

abbrev pub line_at : Line → List ℕ → Result (Reply × List ℕ) Stop
line_at absent_line bytes = Ok (Absent, bytes)
line_at numbered_line bytes = made (λ n. Numbered (record { 0 = n })) (long_at 10 bytes)
line_at end_line bytes = made End (long_at 10 bytes)
line_at synced_line bytes = made (λ n. Synced (record { 0 = n })) (long_at 10 bytes)
line_at merged_line bytes = made (λ x. Merged x.0 x.1) (both (short_at 32) (short_at 10) bytes)
line_at held_line bytes = made Held (short_at 10 bytes)
line_at job_line bytes = made (λ n. Job (record { 0 = n })) (short_at 10 bytes)
line_at stat_line bytes =
    made (λ x. Stat x.0 x.1.0 x.1.1.0 x.1.1.1)
    (both (long_at 32) (both (long_at 32) (both (wide_at 32) (wide_at 10))) bytes)
line_at bye_line bytes = Ok (Bye, bytes)
line_at memory_line bytes = Ok (Memory, bytes)
line_at disk_line bytes = Ok (Disk, bytes)
line_at read_line bytes = Ok (Read, bytes)
line_at damaged_line bytes =
    made (λ x. Damaged (record { at = x.1.0; file = record { 0 = x.0 }; kept = x.1.1.0; found = x.1.1.1 }))
    (both (short_at 32) (both (long_at 32) (both (hex_at 32) (hex_at 10))) bytes)
line_at cut_line bytes =
    made (λ x. Cut (record { 0 = x.0 }) x.1.0 x.1.1) (both (short_at 32) (both (long_at 32) (long_at 10)) bytes)
line_at (full_line full) bytes = Ok (Full full, bytes)
line_at syntax_line bytes = made Syntax (long_at 10 bytes)

abbrev pub rest_at : Word → List ℕ → Result (Reply × List ℕ) Stop
rest_at value_word bytes = made Value (sized_at 0 LONGEST_VALUE bytes)
rest_at pair_word bytes = made (λ pair. Pair pair.0 pair.1) (paired_at [] bytes)
rest_at key_word bytes = made Key (sized_at 1 LONGEST_KEY bytes)
rest_at (line_word line) bytes = line_at line bytes

unfoldable pub reply_at : List ℕ → Result (Reply × List ℕ) Stop
reply_at bytes = words_at WORDS bytes >>= λ word. rest_at word.0 word.1
