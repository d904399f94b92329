-- A request is a code: its header line, then its key and its value.
use Rattle.std.proofs.Common.{◌≡◌, ℕ, ◌<◌, ◌≤◌, true, List, [], ◌∷◌, ◌++◌, codes, get_or, Err, refl, arith}
use Rattle.bk_base.specs.declared.requests.Request.{Request}
use Rattle.bk_base.specs.declared.requests.Request.TheVariants.{Get, Put, Delete, Fold, Keys, Sync, Stat, Quit}
use Rattle.bk_laws.specs.Wire.{FitsKey, FitsValue, Fits, request_text}
use Rattle.bk_wire.specs.declared.stops.Stop.TheVariants.{Bad}
use Rattle.bk_wire.specs.Reading.{literal_at, word_at, get_at, put_at, delete_at, command_at, request_at}
use Rattle.bk_wire.proofs.Codes.{IsCode, recoded}
use Rattle.bk_wire.proofs.Choices.{IsKind, IsFrom, made_code, from_code, last_code, refuses, refused, all_below, below}
use Rattle.bk_wire.proofs.FieldCodes.{literal_code}
use Rattle.bk_wire.proofs.PartCodes.{keyed_code, keyed_refused, paired_code, paired_refused}

kind : Request → ℕ
kind (Get key) = 0
kind (Put key value) = 1
kind (Delete key) = 2
kind Fold = 3
kind Keys = 4
kind Sync = 5
kind Stat = 6
kind Quit = 7

-- what a request of each kind begins with
words : List (List ℕ)
words = codes "GET " ∷ codes "PUT " ∷ codes "DEL " ∷ codes "FOLD\n" ∷ codes "KEYS\n" ∷ codes "SYNC\n"
    ∷ codes "STAT\n" ∷ codes "QUIT\n" ∷ []

word : ℕ → List ℕ
word n = get_or words n []

-- no request begins as one of an earlier kind
all_apart : (r : Request) → all_below (kind r) (λ n. refuses (word n) (request_text r)) ≡ true
unfolding kind words word all_below refuses request_text
all_apart (Get key) = refl
all_apart _ = refl

apart : (n : ℕ) (r : Request) (rest : List ℕ) → n < kind r → literal_at (word n) (request_text r ++ rest) ≡ Err Bad
apart n r rest earlier =
    refused (word n) (request_text r) rest
    (below (kind r) (λ m. refuses (word m) (request_text r)) n (all_apart r) earlier)

abbrev Kind : ℕ → Request → Type 0
Kind = IsKind request_text Fits kind

from_get : (r : Request) → Kind 0 r → (key : List ℕ) × (r ≡ Get key) × FitsKey key
unfolding kind
from_get (Get key) is = (key, refl, is.0)
from_get _ is = absurd (omega (arith, is.1))

from_put : (r : Request) → Kind 1 r → (pair : List ℕ × List ℕ) × (r ≡ Put pair.0 pair.1)
    × (FitsKey pair.0 × FitsValue pair.1)
unfolding kind
from_put (Put key value) is = ((key, value), refl, is.0)
from_put _ is = absurd (omega (arith, is.1))

from_delete : (r : Request) → Kind 2 r → (key : List ℕ) × (r ≡ Delete key) × FitsKey key
unfolding kind
from_delete (Delete key) is = (key, refl, is.0)
from_delete _ is = absurd (omega (arith, is.1))

from_fold : (r : Request) → Kind 3 r → (u : Unit {0}) × (r ≡ Fold) × Unit {0}
unfolding kind
from_fold Fold is = (tt, refl, tt)
from_fold _ is = absurd (omega (arith, is.1))

from_keys : (r : Request) → Kind 4 r → (u : Unit {0}) × (r ≡ Keys) × Unit {0}
unfolding kind
from_keys Keys is = (tt, refl, tt)
from_keys _ is = absurd (omega (arith, is.1))

from_sync : (r : Request) → Kind 5 r → (u : Unit {0}) × (r ≡ Sync) × Unit {0}
unfolding kind
from_sync Sync is = (tt, refl, tt)
from_sync _ is = absurd (omega (arith, is.1))

from_stat : (r : Request) → Kind 6 r → (u : Unit {0}) × (r ≡ Stat) × Unit {0}
unfolding kind
from_stat Stat is = (tt, refl, tt)
from_stat _ is = absurd (omega (arith, is.1))

from_quit : (r : Request) → Kind 7 r → (u : Unit {0}) × (r ≡ Quit) × Unit {0}
unfolding kind
from_quit Quit is = (tt, refl, tt)
from_quit _ is = absurd (omega (arith, is.1))

get_code : IsCode request_text (Kind 0) get_at
unfolding kind request_text
get_code =
    made_code Get request_text (Kind 0) (keyed_code (codes "GET ")) (λ key fit. (fit, refl)) from_get
    (λ key _. refl)

put_code : IsCode request_text (Kind 1) put_at
unfolding kind request_text
put_code =
    made_code (λ (pair : List ℕ × List ℕ). Put pair.0 pair.1) request_text (Kind 1) (paired_code (codes "PUT "))
    (λ pair fit. (fit, refl)) from_put (λ pair _. refl)

delete_code : IsCode request_text (Kind 2) delete_at
unfolding kind request_text
delete_code =
    made_code Delete request_text (Kind 2) (keyed_code (codes "DEL ")) (λ key fit. (fit, refl))
    from_delete (λ key _. refl)

fold_code : IsCode request_text (Kind 3) (word_at (codes "FOLD\n") Fold)
unfolding kind request_text
fold_code =
    made_code (λ _. Fold) request_text (Kind 3) (literal_code (codes "FOLD\n")) (λ _ _. (tt, refl))
    from_fold (λ _ _. refl)

keys_code : IsCode request_text (Kind 4) (word_at (codes "KEYS\n") Keys)
unfolding kind request_text
keys_code =
    made_code (λ _. Keys) request_text (Kind 4) (literal_code (codes "KEYS\n")) (λ _ _. (tt, refl))
    from_keys (λ _ _. refl)

sync_code : IsCode request_text (Kind 5) (word_at (codes "SYNC\n") Sync)
unfolding kind request_text
sync_code =
    made_code (λ _. Sync) request_text (Kind 5) (literal_code (codes "SYNC\n")) (λ _ _. (tt, refl))
    from_sync (λ _ _. refl)

stat_code : IsCode request_text (Kind 6) (word_at (codes "STAT\n") Stat)
unfolding kind request_text
stat_code =
    made_code (λ _. Stat) request_text (Kind 6) (literal_code (codes "STAT\n")) (λ _ _. (tt, refl))
    from_stat (λ _ _. refl)

quit_code : IsCode request_text (Kind 7) (word_at (codes "QUIT\n") Quit)
unfolding kind request_text
quit_code =
    made_code (λ _. Quit) request_text (Kind 7) (literal_code (codes "QUIT\n")) (λ _ _. (tt, refl))
    from_quit (λ _ _. refl)

last : (r : Request) → kind r ≤ 7
unfolding kind
last (Get key) = omega arith
last _ = omega arith

-- a word of a later kind
word_refused : (text : List ℕ) (value : Request) (bytes : List ℕ) → literal_at text bytes ≡ Err Bad
    → word_at text value bytes ≡ Err Bad
word_refused text value bytes refused = rw refused

abbrev From : ℕ → Request → Type 0
From = IsFrom request_text Fits kind

command_code : IsCode request_text (From 3) command_at
unfolding command_at words word
command_code =
    from_code request_text Fits kind 3 fold_code
    (from_code request_text Fits kind 4 keys_code
    (from_code request_text Fits kind 5 sync_code
    (from_code request_text Fits kind 6 stat_code (last_code request_text Fits kind 7 last quit_code)
    (λ r rest later. word_refused (codes "STAT\n") Stat (request_text r ++ rest) (apart 6 r rest later)))
    (λ r rest later. word_refused (codes "SYNC\n") Sync (request_text r ++ rest) (apart 5 r rest later)))
    (λ r rest later. word_refused (codes "KEYS\n") Keys (request_text r ++ rest) (apart 4 r rest later)))
    (λ r rest later. word_refused (codes "FOLD\n") Fold (request_text r ++ rest) (apart 3 r rest later))

get_apart : (r : Request) (rest : List ℕ) → 0 < kind r → get_at (request_text r ++ rest) ≡ Err Bad
unfolding words word
get_apart r rest later = rw (keyed_refused (codes "GET ") (request_text r ++ rest) (apart 0 r rest later)) refl

put_apart : (r : Request) (rest : List ℕ) → 1 < kind r → put_at (request_text r ++ rest) ≡ Err Bad
unfolding words word
put_apart r rest later = rw (paired_refused (codes "PUT ") (request_text r ++ rest) (apart 1 r rest later)) refl

delete_apart : (r : Request) (rest : List ℕ) → 2 < kind r → delete_at (request_text r ++ rest) ≡ Err Bad
unfolding words word
delete_apart r rest later = rw (keyed_refused (codes "DEL ") (request_text r ++ rest) (apart 2 r rest later)) refl

pub request_code : IsCode request_text Fits request_at
unfolding request_at
request_code =
    recoded (λ r from. from.0) (λ r fit. (fit, omega arith)) (λ r _. refl)
    (from_code request_text Fits kind 0 get_code
    (from_code request_text Fits kind 1 put_code
    (from_code request_text Fits kind 2 delete_code command_code delete_apart) put_apart)
    get_apart)
