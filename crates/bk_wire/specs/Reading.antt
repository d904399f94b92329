-- What reading answers, as functions on lists: what was read and the bytes after it, or why nothing was.
-- Only the clauses of private functions speak of these; what a caller sees rests on the wire grammar alone.
use Rattle.std.specs.Prelude.{◌≡◌, ℕ, ◌+◌, ◌-◌, ◌*◌, Bool, cond, ◌&&◌, ◌==◌, nat_lt, nat_le, List, [], ◌∷◌, length, take, drop, codes, Result, Ok, Err}
use Rattle.std.specs.Char.{is_ascii_digit}
use Rattle.bk_base.specs.declared.limits.TheConstants.{LONGEST_KEY, LONGEST_VALUE}
use Rattle.bk_base.specs.declared.requests.Request.{Request}
use Rattle.bk_base.specs.declared.requests.Request.TheVariants.{Get, Put, Delete, Fold, Keys, Sync, Stat, Quit}
use Rattle.bk_wire.specs.declared.stops.Stop.{Stop}
use Rattle.bk_wire.specs.declared.stops.Stop.TheVariants.{Short, Bad}

infixl 10 ◌>>=◌
abbrev pub ◌>>=◌ : {A B : Type 0} → Result A Stop → (A → Result B Stop) → Result B Stop
(Ok x) >>= f = f x
(Err e) >>= f = Err e

-- what a function returned, seen by view, is what reading answers
abbrev pub Gives : {X Y : Type 0} → (X → Y) → Result X Stop → Result Y Stop → Type 0
Gives view (Ok x) read = read ≡ Ok (view x)
Gives view (Err stop) read = read ≡ Err stop

-- this text
unfoldable pub literal_at : List ℕ → List ℕ → Result (Unit {0} × List ℕ) Stop
literal_at [] bytes = Ok (tt, bytes)
literal_at (c ∷ text) [] = Err Short
literal_at (c ∷ text) (b ∷ bytes) = cond (b == c) (literal_at text bytes) (Err Bad)

-- a digit goes on from the number n: what begins with 0 has no further digit
abbrev pub goes_on : ℕ → ℕ → ℕ → Bool
goes_on most n b = nat_lt 0 n && (is_ascii_digit b && nat_le (n * 10 + (b - 48)) most)

-- a number, of which n is read, and the byte that ends it
unfoldable pub digits_at : ℕ → ℕ → ℕ → List ℕ → Result (ℕ × List ℕ) Stop
digits_at most end n [] = Err Short
digits_at most end n (b ∷ bytes) =
    cond (b == end) (Ok (n, bytes)) (cond (goes_on most n b) (digits_at most end (n * 10 + (b - 48)) bytes) (Err Bad))

abbrev pub begins : ℕ → ℕ → ℕ → Bool
begins least most b = is_ascii_digit b && (nat_le least (b - 48) && nat_le (b - 48) most)

unfoldable pub number_at : ℕ → ℕ → ℕ → List ℕ → Result (ℕ × List ℕ) Stop
number_at least most end [] = Err Short
number_at least most end (b ∷ bytes) = cond (begins least most b) (digits_at most end (b - 48) bytes) (Err Bad)

-- this many bytes
unfoldable pub piece_at : ℕ → List ℕ → Result (List ℕ × List ℕ) Stop
piece_at n bytes = cond (nat_lt (length bytes) n) (Err Short) (Ok (take n bytes, drop n bytes))

-- the length of a piece, and the piece in a line of its own
unfoldable pub sized_at : ℕ → ℕ → List ℕ → Result (List ℕ × List ℕ) Stop
sized_at least most bytes = do
  len ← number_at least most 10 bytes
  piece ← piece_at len.0 len.1
  last ← literal_at (10 ∷ []) piece.1
  Ok (piece.0, last.1)

-- behind this verb the length of a key, and the key
unfoldable pub keyed_at : List ℕ → List ℕ → Result (List ℕ × List ℕ) Stop
keyed_at verb bytes = literal_at verb bytes >>= λ begun. sized_at 1 LONGEST_KEY begun.1

-- behind this verb the lengths of a key and of a value, and both
unfoldable pub paired_at : List ℕ → List ℕ → Result ((List ℕ × List ℕ) × List ℕ) Stop
paired_at verb bytes = do
  begun ← literal_at verb bytes
  key_len ← number_at 1 LONGEST_KEY 32 begun.1
  value_len ← number_at 0 LONGEST_VALUE 10 key_len.1
  key ← piece_at key_len.0 value_len.1
  value ← piece_at value_len.0 key.1
  last ← literal_at (10 ∷ []) value.1
  Ok ((key.0, value.0), last.1)

-- what is made of what was read
abbrev pub made : {A B : Type 0} → (B → A) → Result (B × List ℕ) Stop → Result (A × List ℕ) Stop
made make read = read >>= λ x. Ok (make x.0, x.1)

-- a word that is all of a line
abbrev pub word_at : {A : Type 0} → List ℕ → A → List ℕ → Result (A × List ℕ) Stop
word_at text value bytes = made (λ _. value) (literal_at text bytes)

-- the second, where the first isn't there however the bytes go on
abbrev pub or_else : {A : Type 0} → Result A Stop → Result A Stop → Result A Stop
or_else (Ok x) other = Ok x
or_else (Err Short) other = Err Short
or_else (Err Bad) other = other

abbrev pub get_at : List ℕ → Result (Request × List ℕ) Stop
get_at bytes = made Get (keyed_at (codes "GET ") bytes)

abbrev pub put_at : List ℕ → Result (Request × List ℕ) Stop
put_at bytes = made (λ pair. Put pair.0 pair.1) (paired_at (codes "PUT ") bytes)

abbrev pub delete_at : List ℕ → Result (Request × List ℕ) Stop
delete_at bytes = made Delete (keyed_at (codes "DEL ") bytes)

unfoldable pub command_at : List ℕ → Result (Request × List ℕ) Stop
command_at bytes =
    or_else (word_at (codes "FOLD\n") Fold bytes)
    (or_else (word_at (codes "KEYS\n") Keys bytes)
    (or_else (word_at (codes "SYNC\n") Sync bytes)
    (or_else (word_at (codes "STAT\n") Stat bytes) (word_at (codes "QUIT\n") Quit bytes))))

unfoldable pub request_at : List ℕ → Result (Request × List ℕ) Stop
request_at bytes = or_else (get_at bytes) (or_else (put_at bytes) (or_else (delete_at bytes) (command_at bytes)))
