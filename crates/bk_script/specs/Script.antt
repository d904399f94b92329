-- What a reader of a script holds, what stands at its front, and what the reader answers.
use Rattle.std.specs.Prelude.{◌≡◌, ◌≢◌, ℕ, ◌+◌, ◌<◌, ◌≤◌, ◌||◌, not, Bool, true, false, List, ◌++◌, length}
use Rattle.std.specs.List.{All}
use Rattle.bk_script.specs.declared.limits.TheConstants.{LONGEST_LINE, MOST_LINES}
use Rattle.bk_script.specs.declared.lines.Line.{Line}
use Rattle.bk_script.specs.declared.lines.Line.TheVariants.{Max, Ttl}
use Rattle.bk_script.specs.declared.reader.Next.{Next}
use Rattle.bk_script.specs.declared.reader.Next.TheVariants.{Need, Line as line_next, Bad}
use Rattle.bk_script.specs.Lines.{line_text, Fits}

pub record Script : Type 0 where
  -- the bytes that were taken and aren't read yet
  pub rest : List ℕ
  -- how many bytes were read before them
  pub offset : ℕ
  -- the most bytes that may be taken in all
  pub most : ℕ
  -- how many lines were read
  pub lines : ℕ
  -- a line was read that is no setting, behind which no setting may stand
  pub begun : Bool

-- how many bytes were taken in all
abbrev pub taken : Script → ℕ
taken script = script.offset + length script.rest

-- the line is a setting
abbrev pub is_setting : Line → Bool
is_setting (Max n) = true
is_setting (Ttl n) = true
is_setting line = false

-- there are at most 65,536 lines, and settings come first
pub record Allows (script : Script) (line : Line) : Type 0 where
  pub numbered : script.lines < MOST_LINES
  pub settings_first : script.begun ≡ true → is_setting line ≡ false

-- the line is the next of the script, and the rest follows it
pub record StandsNext (script : Script) (line : Line) (rest : List ℕ) : Type 0 where
  pub fits : Fits line
  pub short : length (line_text line) ≤ LONGEST_LINE
  pub allowed : Allows script line
  pub whole : script.rest ≡ line_text line ++ rest

-- no line is the next
abbrev pub NoneStands : Script → Type 0
NoneStands script = (line : Line) (rest : List ℕ) → StandsNext script line rest → ⊥

-- the bytes have no line feed, and are fewer than a line may have
pub record IsUnended (bytes : List ℕ) : Type 0 where
  pub no_end : All (λ b. b ≢ 10) bytes
  pub room : length bytes < LONGEST_LINE

-- a line's worth of bytes is there, and is none
pub record IsRefused (script : Script) : Type 0 where
  pub ended : IsUnended script.rest → ⊥
  pub none : NoneStands script

-- the script behind this line
abbrev pub after : Script → Line → List ℕ → Script
after script line rest =
    record script {
      rest = rest;
      offset = script.offset + length (line_text line);
      lines = script.lines + 1;
      begun = script.begun || not (is_setting line);
    }

abbrev pub Answers : Next → Script → Script → Type 0
Answers Need old new = IsUnended old.rest × (new ≡ old)
Answers (line_next line) old new = StandsNext old line new.rest × (new ≡ after old line new.rest)
Answers (Bad offset) old new = IsRefused old × (offset ≡ old.offset) × (new ≡ old)
