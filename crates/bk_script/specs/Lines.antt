-- The lines of a script: their texts, and what stands at the front of a script.
use Rattle.std.specs.Prelude.{ℕ, ◌+◌, ◌^◌, ◌<◌, ◌≤◌, List, [], ◌∷◌, length, map, codes, Option, Some, None}
use Rattle.std.specs.Fmt.{decimal}
use Rattle.std.specs.List.{All, join_with_byte}
use Rattle.bk_base.specs.declared.limits.TheConstants.{LONGEST_VALUE}
use Rattle.bk_laws.specs.Wire.{line}
use Rattle.bk_policy.specs.Settings.{least, greatest}
use Rattle.bk_policy.specs.declared.names.SettingName.TheVariants.{MaxFile, Ttl as ttl_setting}
use Rattle.bk_script.specs.declared.limits.TheConstants.{LONGEST_WORD}
use Rattle.bk_script.specs.declared.lines.Line.{Line}
use Rattle.bk_script.specs.declared.lines.Line.TheVariants.{Max, Ttl, At, Fail, Fuse, By, Stop}
use Rattle.bk_script.specs.declared.lines.Action.{Action}
use Rattle.bk_script.specs.declared.lines.Action.TheVariants.{Put, Big, Delete, Reap, Get, Read, Sync, Fold, Next, End}

-- what an actor does, by its words
abbrev pub action_words : Action → List (List ℕ)
action_words (Put key value) = codes "put" ∷ key ∷ value ∷ []
action_words (Big key len) = codes "big" ∷ key ∷ decimal len ∷ []
action_words (Delete key) = codes "del" ∷ key ∷ []
action_words (Reap key) = codes "reap" ∷ key ∷ []
action_words (Get key) = codes "get" ∷ key ∷ []
action_words Read = codes "read" ∷ []
action_words Sync = codes "sync" ∷ []
action_words Fold = codes "fold" ∷ []
action_words (Next slot) = codes "next" ∷ decimal slot ∷ []
action_words (End slot) = codes "end" ∷ decimal slot ∷ []

abbrev pub keep_word : Option ℕ → List ℕ
keep_word None = codes "all"
keep_word (Some keep) = decimal keep

-- the words of a line; actor 1 is the letter a, which is 97
abbrev pub line_words : Line → List (List ℕ)
line_words (Max n) = codes "max" ∷ decimal n ∷ []
line_words (Ttl n) = codes "ttl" ∷ decimal n ∷ []
line_words (At now) = codes "at" ∷ decimal now.0 ∷ []
line_words (Fail nth effect) = codes "fail" ∷ decimal nth ∷ decimal effect ∷ []
line_words (Fuse calls effect) = codes "fuse" ∷ decimal calls ∷ decimal effect ∷ []
line_words (By actor action) = ((96 + actor.0) ∷ []) ∷ action_words action
line_words (Stop keep flips) = codes "stop" ∷ keep_word keep ∷ map decimal flips

-- the text of a line: its words with one space, 32, between each two, and a line feed
abbrev pub line_text : Line → List ℕ
line_text l = line (join_with_byte 32 (line_words l))

-- ---- which lines there are

-- a key or a value that a line spells out: 1 to 64 bytes from 33 to 126, so no space and no line feed
pub record IsWord (bytes : List ℕ) : Type 0 where
  pub some : 1 ≤ length bytes
  pub short : length bytes ≤ LONGEST_WORD
  pub printable : All (λ b. (33 ≤ b) × (b ≤ 126)) bytes

abbrev pub FitsAction : Action → Type 0
FitsAction (Put key value) = IsWord key × IsWord value
FitsAction (Big key len) = IsWord key × (len ≤ LONGEST_VALUE)
FitsAction (Delete key) = IsWord key
FitsAction (Reap key) = IsWord key
FitsAction (Get key) = IsWord key
FitsAction (Next slot) = slot < 2 ^ 8
FitsAction (End slot) = slot < 2 ^ 8
FitsAction action = Unit {0}

abbrev pub FitsKeep : Option ℕ → Type 0
FitsKeep None = Unit {0}
FitsKeep (Some keep) = keep < 2 ^ 64

-- each number is in its range
abbrev pub Fits : Line → Type 0
Fits (Max n) = (least MaxFile ≤ n) × (n ≤ greatest MaxFile)
Fits (Ttl n) = n ≤ greatest ttl_setting
Fits (At now) = now.0 < 2 ^ 32
Fits (Fail nth effect) = (1 ≤ nth) × (nth < 2 ^ 64) × (effect < 2 ^ 64)
Fits (Fuse calls effect) = (calls < 2 ^ 64) × (effect < 2 ^ 64)
Fits (By actor action) = (1 ≤ actor.0) × (actor.0 ≤ 26) × FitsAction action
Fits (Stop keep flips) = FitsKeep keep × All (λ n. n < 2 ^ 64) flips
