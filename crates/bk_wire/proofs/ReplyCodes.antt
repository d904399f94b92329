-- A reply is a code: its word, and then the fields that this word has behind it. Each word has a shape, which
-- is a code for its fields.
use Rattle.std.proofs.Common.{◌≡◌, ℕ, ◌-◌, ◌^◌, ◌<◌, ◌≤◌, List, [], ◌∷◌, ◌++◌, Result, codes, decimal, length, Ok, refl, subst, lit<, lit≤, append_assoc}
use Rattle.bk_base.specs.declared.limits.TheConstants.{LONGEST_KEY, LONGEST_VALUE}
use Rattle.bk_base.specs.declared.requests.Full.TheVariants.{Seq}
use Rattle.bk_base.specs.declared.requests.Reply.{Reply}
use Rattle.bk_base.specs.declared.requests.Reply.TheVariants.{Value, Absent, Numbered, Pair, Key, End, Synced, Merged, Held}
use Rattle.bk_base.specs.declared.requests.Reply.TheVariants.{Job, Stat, Bye, Memory, Disk, Read, Damaged, Cut, Full, Syntax}
use Rattle.bk_laws.specs.Wire.{FitsKey, FitsValue, FitsReply, reply_text, hex_of}
use Rattle.bk_wire.specs.declared.stops.Stop.{Stop}
use Rattle.bk_wire.specs.declared.words.Word.{Word}
use Rattle.bk_wire.specs.declared.words.Word.TheVariants.{Value as value_word, Pair as pair_word, Key as key_word, Line as line_word}
use Rattle.bk_wire.specs.declared.words.Line.TheVariants.{Absent as absent_line, Numbered as numbered_line, End as end_line}
use Rattle.bk_wire.specs.declared.words.Line.TheVariants.{Synced as synced_line, Merged as merged_line, Held as held_line}
use Rattle.bk_wire.specs.declared.words.Line.TheVariants.{Job as job_line, Stat as stat_line, Bye as bye_line, Memory as memory_line}
use Rattle.bk_wire.specs.declared.words.Line.TheVariants.{Disk as disk_line, Read as read_line, Damaged as damaged_line}
use Rattle.bk_wire.specs.declared.words.Line.TheVariants.{Cut as cut_line, Full as full_line, Syntax as syntax_line}
use Rattle.bk_wire.specs.declared.words.TheConstants.{WORDS}
use Rattle.bk_wire.specs.Reading.{number_at, sized_at, paired_at, made}
use Rattle.bk_wire.specs.ReplyReading.{hex_at, both, word_text, words_at, rest_at, reply_at}
use Rattle.bk_wire.proofs.Codes.{IsCode, joined, done_code, recoded, reread}
use Rattle.bk_wire.proofs.Choices.{made_code}
use Rattle.bk_wire.proofs.PartCodes.{sized_text, key_code, value_code, paired_text, paired_code}
use Rattle.bk_wire.proofs.NumberCodes.{below_code, both_code, hex_code}
use Rattle.bk_wire.proofs.WordCodes.{IsIn, each_word, first_word_code}

-- ---- shapes

record Shape : Type 1 where
  Field : Type 0
  text : Field → List ℕ
  fits : Field → Type 0
  read : List ℕ → Result (Field × List ℕ) Stop
  code : IsCode text fits read

abbrev alone : Shape
alone = record {
  Field = Unit {0};
  text = λ _. [];
  fits = λ _. Unit {0};
  read = λ bytes. Ok (tt, bytes);
  code = recoded (λ _ _. tt) (λ _ _. refl) (λ _ _. refl) (done_code tt);
}

abbrev piece : (fits : List ℕ → Type 0) (read : List ℕ → Result (List ℕ × List ℕ) Stop)
    → IsCode sized_text fits read → Shape
piece fits read code = record { Field = List ℕ; text = sized_text; fits = fits; read = read; code = code }

abbrev number : (bound end : ℕ) → bound - 1 < 10 ^ 64 → 9 ≤ bound - 1 → end < 48 → Shape
number bound end small high apart = record {
  Field = ℕ;
  text = λ n. decimal n ++ end ∷ [];
  fits = λ n. n < bound;
  read = λ bytes. number_at 0 (bound - 1) end bytes;
  code = below_code bound end small high apart;
}

abbrev short : (end : ℕ) → end < 48 → Shape
short end apart = number (2 ^ 32) end (lit< tt) (lit≤ tt) apart

abbrev long : (end : ℕ) → end < 48 → Shape
long end apart = number (2 ^ 64) end (lit< tt) (lit≤ tt) apart

abbrev wide : (end : ℕ) → end < 48 → Shape
wide end apart = number (2 ^ 128) end (lit< tt) (lit≤ tt) apart

abbrev hexadecimal : ℕ → Shape
hexadecimal end = record {
  Field = ℕ;
  text = λ n. hex_of 8 n ++ end ∷ [];
  fits = λ n. n < 2 ^ 32;
  read = hex_at end;
  code = hex_code end;
}

abbrev then : Shape → Shape → Shape
then one two = record {
  Field = one.Field × two.Field;
  text = λ x. one.text x.0 ++ two.text x.1;
  fits = λ x. one.fits x.0 × two.fits x.1;
  read = both one.read two.read;
  code = both_code one.code two.code;
}

abbrev pair : Shape
pair = record {
  Field = List ℕ × List ℕ;
  text = paired_text [];
  fits = λ x. FitsKey x.0 × FitsValue x.1;
  read = paired_at [];
  code = paired_code [];
}

abbrev shape : Word → Shape
shape value_word = piece FitsValue (sized_at 0 LONGEST_VALUE) value_code
shape pair_word = pair
shape key_word = piece FitsKey (sized_at 1 LONGEST_KEY) key_code
shape (line_word absent_line) = alone
shape (line_word numbered_line) = long 10 (lit< tt)
shape (line_word end_line) = long 10 (lit< tt)
shape (line_word synced_line) = long 10 (lit< tt)
shape (line_word merged_line) = then (short 32 (lit< tt)) (short 10 (lit< tt))
shape (line_word held_line) = short 10 (lit< tt)
shape (line_word job_line) = short 10 (lit< tt)
shape (line_word stat_line) =
    then (long 32 (lit< tt)) (then (long 32 (lit< tt)) (then (wide 32 (lit< tt)) (wide 10 (lit< tt))))
shape (line_word bye_line) = alone
shape (line_word memory_line) = alone
shape (line_word disk_line) = alone
shape (line_word read_line) = alone
shape (line_word damaged_line) =
    then (short 32 (lit< tt)) (then (long 32 (lit< tt)) (then (hexadecimal 32) (hexadecimal 10)))
shape (line_word cut_line) = then (short 32 (lit< tt)) (then (long 32 (lit< tt)) (long 10 (lit< tt)))
shape (line_word (full_line full)) = alone
shape (line_word syntax_line) = long 10 (lit< tt)

-- ---- a reply is a word and its fields

abbrev make : (w : Word) → (shape w).Field → Reply
make value_word x = Value x
make pair_word x = Pair x.0 x.1
make key_word x = Key x
make (line_word absent_line) x = Absent
make (line_word numbered_line) x = Numbered (record { 0 = x })
make (line_word end_line) x = End x
make (line_word synced_line) x = Synced (record { 0 = x })
make (line_word merged_line) x = Merged x.0 x.1
make (line_word held_line) x = Held x
make (line_word job_line) x = Job (record { 0 = x })
make (line_word stat_line) x = Stat x.0 x.1.0 x.1.1.0 x.1.1.1
make (line_word bye_line) x = Bye
make (line_word memory_line) x = Memory
make (line_word disk_line) x = Disk
make (line_word read_line) x = Read
make (line_word damaged_line) x = Damaged (record { at = x.1.0; file = record { 0 = x.0 }; kept = x.1.1.0; found = x.1.1.1 })
make (line_word cut_line) x = Cut (record { 0 = x.0 }) x.1.0 x.1.1
make (line_word (full_line full)) x = Full full
make (line_word syntax_line) x = Syntax x

abbrev word_of : Reply → Word
word_of (Value value) = value_word
word_of Absent = line_word absent_line
word_of (Numbered seq) = line_word numbered_line
word_of (Pair key value) = pair_word
word_of (Key key) = key_word
word_of (End lines) = line_word end_line
word_of (Synced seq) = line_word synced_line
word_of (Merged inputs outputs) = line_word merged_line
word_of (Held files) = line_word held_line
word_of (Job id) = line_word job_line
word_of (Stat keys files total live) = line_word stat_line
word_of Bye = line_word bye_line
word_of Memory = line_word memory_line
word_of Disk = line_word disk_line
word_of Read = line_word read_line
word_of (Damaged d) = line_word damaged_line
word_of (Cut file total at) = line_word cut_line
word_of (Full full) = line_word (full_line full)
word_of (Syntax offset) = line_word syntax_line

abbrev field_of : (r : Reply) → (shape (word_of r)).Field
field_of (Value value) = value
field_of Absent = tt
field_of (Numbered seq) = seq.0
field_of (Pair key value) = (key, value)
field_of (Key key) = key
field_of (End lines) = lines
field_of (Synced seq) = seq.0
field_of (Merged inputs outputs) = (inputs, outputs)
field_of (Held files) = files
field_of (Job id) = id.0
field_of (Stat keys files total live) = (keys, (files, (total, live)))
field_of Bye = tt
field_of Memory = tt
field_of Disk = tt
field_of Read = tt
field_of (Damaged d) = (d.file.0, (d.at, (d.kept, d.found)))
field_of (Cut file total at) = (file.0, (total, at))
field_of (Full full) = tt
field_of (Syntax offset) = offset

back : (r : Reply) → r ≡ make (word_of r) (field_of r)
back (Value value) = refl
back _ = refl

-- what a field must be is what its reply must be
fields_fit : (r : Reply) → FitsReply r → (shape (word_of r)).fits (field_of r)
fields_fit (Stat keys files total live) fit = (fit.0, (fit.1, (fit.2, fit.3)))
fields_fit (Damaged d) fit = (fit.0, (fit.1, (fit.2, fit.3)))
fields_fit (Cut file total at) fit = (fit.0, (fit.1, fit.2))
fields_fit _ fit = fit

-- the bytes behind the word
abbrev rest_text : Reply → List ℕ
rest_text r = (shape (word_of r)).text (field_of r)

abbrev Has : Word → Reply → Type 0
Has w r = FitsReply r × (word_of r ≡ w)

made_fits : (w : Word) (x : (shape w).Field) → (shape w).fits x → Has w (make w x)
made_fits (line_word stat_line) x fit = ((fit.0, fit.1.0, fit.1.1.0, fit.1.1.1), refl)
made_fits (line_word damaged_line) x fit = ((fit.0, fit.1.0, fit.1.1.0, fit.1.1.1), refl)
made_fits (line_word cut_line) x fit = ((fit.0, fit.1.0, fit.1.1), refl)
made_fits _ x fit = (fit, refl)

made_from : (w : Word) (r : Reply) → Has w r → (x : (shape w).Field) × (r ≡ make w x) × (shape w).fits x
made_from w r has =
    subst (λ (v : Word). (x : (shape v).Field) × (r ≡ make v x) × (shape v).fits x) has.1
    (field_of r, back r, fields_fit r has.0)

made_text : (w : Word) (x : (shape w).Field) → (shape w).text x ≡ rest_text (make w x)
made_text (line_word absent_line) x = refl
made_text _ x = refl

read_rest : (w : Word) (bytes : List ℕ) → rest_at w bytes ≡ made (make w) ((shape w).read bytes)
read_rest (line_word absent_line) bytes = refl
read_rest _ bytes = refl

rest_code : (w : Word) → IsCode rest_text (Has w) (rest_at w)
rest_code w =
    reread (read_rest w)
    (made_code (make w) rest_text (Has w) (shape w).code (made_fits w) (made_from w) (λ x _. made_text w x))

-- ---- the whole text

two_numbers : (word a b : List ℕ)
    → word ++ ((a ++ 32 ∷ []) ++ (b ++ 10 ∷ [])) ≡ ((word ++ a) ++ 32 ∷ b) ++ 10 ∷ []
two_numbers word a b = simp append_assoc

three_numbers : (word a b c : List ℕ)
    → word ++ ((a ++ 32 ∷ []) ++ ((b ++ 32 ∷ []) ++ (c ++ 10 ∷ [])))
    ≡ (((word ++ a) ++ 32 ∷ b) ++ 32 ∷ c) ++ 10 ∷ []
three_numbers word a b c = simp append_assoc

four_numbers : (word a b c d : List ℕ)
    → word ++ ((a ++ 32 ∷ []) ++ ((b ++ 32 ∷ []) ++ ((c ++ 32 ∷ []) ++ (d ++ 10 ∷ []))))
    ≡ ((((word ++ a) ++ 32 ∷ b) ++ 32 ∷ c) ++ 32 ∷ d) ++ 10 ∷ []
four_numbers word a b c d = simp append_assoc

behind_word : (word a b body : List ℕ)
    → word ++ (((a ++ 32 ∷ b) ++ 10 ∷ []) ++ (body ++ 10 ∷ []))
    ≡ (((word ++ a) ++ 32 ∷ b) ++ 10 ∷ []) ++ (body ++ 10 ∷ [])
behind_word word a b body = simp append_assoc

whole_text : (r : Reply) → word_text (word_of r) ++ rest_text r ≡ reply_text r
unfolding reply_text
whole_text (Merged inputs outputs) = two_numbers (codes "MERGED ") (decimal inputs) (decimal outputs)
whole_text (Stat keys files total live) =
    four_numbers (codes "STAT ") (decimal keys) (decimal files) (decimal total) (decimal live)
whole_text (Damaged d) =
    four_numbers (codes "DAMAGED ") (decimal d.file.0) (decimal d.at) (hex_of 8 d.kept) (hex_of 8 d.found)
whole_text (Cut file total at) = three_numbers (codes "CUT ") (decimal file.0) (decimal total) (decimal at)
whole_text (Pair key value) = behind_word (codes "PAIR ") (decimal (length key)) (decimal (length value)) (key ++ value)
whole_text (Full Seq) = refl
whole_text _ = refl

pub reply_code : IsCode reply_text FitsReply reply_at
unfolding reply_at
reply_code =
    recoded (λ r h. h.1.0) (λ r fit. (each_word (word_of r), (fit, refl))) (λ r _. whole_text r)
    (joined word_of word_text (IsIn WORDS) (words_at WORDS) rest_text Has rest_at first_word_code
    (λ w _. rest_code w) (λ w r has. has.1))
