-- What reading the words of a line answers. Only the clauses of private functions speak of these.
use Rattle.std.specs.Prelude.{◌≡◌, ℕ, ◌+◌, ◌≤◌, ◌⊎◌, List, [], ◌∷◌, get_or, map, Result, Ok, Err, codes}
use Rattle.std.specs.Fmt.{decimal}
use Rattle.std.specs.List.{join_with_byte}
use denote.Ref.{Bor}
use Rattle.bk_script.specs.declared.lines.Line.{Line}
use Rattle.bk_script.specs.declared.lines.Line.TheVariants.{Max as max_line, Ttl as ttl_line, At as at_line, Fail as fail_line, Fuse as fuse_line, By as by_line, Stop as stop_line}
use Rattle.bk_script.specs.declared.lines.Action.{Action}
use Rattle.bk_script.specs.declared.lines.Action.TheVariants.{Put as put_action, Big as big_action, Delete as delete_action, Reap as reap_action, Get as get_action}
use Rattle.bk_script.specs.declared.lines.Action.TheVariants.{Read as read_action, Sync as sync_action, Fold as fold_action, Next as next_action, End as end_action}
use Rattle.bk_script.specs.Lines.{Fits, FitsAction, action_words, keep_word, line_words}
use Rattle.bk_script.specs.Script.{Allows, Script}
use Rattle.bk_script.specs.declared.unread.Unread.{Unread}
use Rattle.bk_script.specs.declared.unread.Unread.TheVariants.{Bad, Memory}
use Rattle.bk_script.specs.declared.verbs.Head.{Head}
use Rattle.bk_script.specs.declared.verbs.Head.TheVariants.{Max, Ttl, At, Fail, Fuse, By, Stop}
use Rattle.bk_script.specs.declared.verbs.Verb.{Verb}
use Rattle.bk_script.specs.declared.verbs.Verb.TheVariants.{Put, Big, Delete, Reap, Get, Read, Sync, Fold, Next, End}

-- what was read fits and has these words, or nothing that fits has them
abbrev pub Reads : {A W : Type 0} → (A → Type 0) → (A → W) → Result A Unread → W → Type 0
Reads {A} {W} fits written (Ok a) words = fits a × (written a ≡ words)
Reads {A} {W} fits written (Err Bad) words = (a : A) → fits a → written a ≡ words → ⊥
Reads {A} {W} fits written (Err Memory) words = Unit {0}

abbrev pub head_word : Head → List ℕ
head_word Max = codes "max"
head_word Ttl = codes "ttl"
head_word At = codes "at"
head_word Fail = codes "fail"
head_word Fuse = codes "fuse"
head_word (By actor) = (96 + actor.0) ∷ []
head_word Stop = codes "stop"

abbrev pub FitsHead : Head → Type 0
FitsHead (By actor) = (1 ≤ actor.0) × (actor.0 ≤ 26)
FitsHead head = Unit {0}

abbrev pub verb_word : Verb → List ℕ
verb_word Put = codes "put"
verb_word Big = codes "big"
verb_word Delete = codes "del"
verb_word Reap = codes "reap"
verb_word Get = codes "get"
verb_word Read = codes "read"
verb_word Sync = codes "sync"
verb_word Fold = codes "fold"
verb_word Next = codes "next"
verb_word End = codes "end"

-- it is 0 alone, or its first byte is another digit
abbrev pub BeginsAsNumber : List ℕ → Type 0
BeginsAsNumber word = (word ≡ 48 ∷ []) ⊎ ((49 ≤ get_or word 0 0) × (get_or word 0 0 ≤ 57))

-- the words that some references show
abbrev pub now_of : List (Bor (List ℕ)) → List (List ℕ)
now_of words = map (λ w. w.now) words

-- the bytes of a line before its line feed
abbrev pub line_bytes : Line → List ℕ
line_bytes line = join_with_byte 32 (line_words line)

-- ---- a line by its first word, and an action by its own

abbrev pub head_of : Line → Head
head_of (max_line n) = Max
head_of (ttl_line n) = Ttl
head_of (at_line now) = At
head_of (fail_line nth effect) = Fail
head_of (fuse_line calls effect) = Fuse
head_of (by_line actor action) = By actor
head_of (stop_line keep flips) = Stop

-- the words behind it
abbrev pub line_operands : Line → List (List ℕ)
line_operands (max_line n) = decimal n ∷ []
line_operands (ttl_line n) = decimal n ∷ []
line_operands (at_line now) = decimal now.0 ∷ []
line_operands (fail_line nth effect) = decimal nth ∷ decimal effect ∷ []
line_operands (fuse_line calls effect) = decimal calls ∷ decimal effect ∷ []
line_operands (by_line actor action) = action_words action
line_operands (stop_line keep flips) = keep_word keep ∷ map decimal flips

abbrev pub verb_of : Action → Verb
verb_of (put_action key value) = Put
verb_of (big_action key len) = Big
verb_of (delete_action key) = Delete
verb_of (reap_action key) = Reap
verb_of (get_action key) = Get
verb_of read_action = Read
verb_of sync_action = Sync
verb_of fold_action = Fold
verb_of (next_action slot) = Next
verb_of (end_action slot) = End

abbrev pub action_operands : Action → List (List ℕ)
action_operands (put_action key value) = key ∷ value ∷ []
action_operands (big_action key len) = key ∷ decimal len ∷ []
action_operands (delete_action key) = key ∷ []
action_operands (reap_action key) = key ∷ []
action_operands (get_action key) = key ∷ []
action_operands (next_action slot) = decimal slot ∷ []
action_operands (end_action slot) = decimal slot ∷ []
action_operands action = []

abbrev pub IsHeadedBy : Head → Line → Type 0
IsHeadedBy head line = Fits line × (head_of line ≡ head)

abbrev pub IsBy : Verb → Action → Type 0
IsBy verb action = FitsAction action × (verb_of action ≡ verb)

-- the line is one of the table, and the script allows it next
abbrev pub IsNext : Script → Line → Type 0
IsNext script line = Fits line × Allows script line
