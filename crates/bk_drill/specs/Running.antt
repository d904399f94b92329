-- How far a drill has come between two lines, and what each step of its loop does to that.
use Rattle.std.specs.Prelude.{◌≡◌, ℕ, ◌+◌, ◌*◌, ◌-◌, ◌<◌, ◌≤◌, Bool, false, IsTrue, List, [], ◌++◌, length}
use Rattle.std.specs.Prelude.{Option, None, Some, Result, Ok, Err}
use Rattle.bk_disk.specs.Streams.{LeftOver, Wrote}
use Rattle.bk_exchange.specs.Sessions.{IsStart}
use Rattle.bk_script.specs.declared.lines.Line.{Line}
use Rattle.bk_script.specs.declared.printed.Printed.{Printed}
use Rattle.bk_script.specs.Script.{Script, taken}
use Rattle.bk_drill.specs.declared.drills.Drill.{Drill}
use Rattle.bk_drill.specs.declared.ends.DrillEnd.{DrillEnd}
use Rattle.bk_drill.specs.declared.ends.DrillEnd.TheVariants.{Sink as sink_end, Syntax, Memory as no_memory}
use Rattle.bk_drill.specs.declared.inbox.Input.{Input}
use Rattle.bk_drill.specs.declared.inbox.Input.TheVariants.{Taken, Ended, Long, Failed, Memory}
use Rattle.bk_drill.specs.Between.{Between}
use Rattle.bk_drill.specs.Drills.{AreDone, AreLines, Done, Drilled, IsTest, Opens, Streams, Telling, printed_by, script_of}
use Rattle.bk_drill.specs.Drills.{syntax_text, text_of, texts_of, traffic}
use Rattle.bk_drill.specs.Lines.{Test}
use Rattle.bk_drill.specs.Progress.{RunsAs}
use Rattle.bk_drill.specs.Shown.{IsAt}

-- ---- between two lines

-- These lines were run since the start: the reader stands behind them, what they printed was written, and the drill is
-- where they lead.
pub record HasCome (test : Test) (tells : Telling) (start now : Streams) (script : Script) (drill : Drill) : Type 0 where
  pub first : Between
  pub opens : Opens first
  pub lines : List Done
  pub here : Between
  pub done : AreDone test first lines here
  pub are : AreLines 0 false lines
  pub stands : IsAt drill here
  pub reads : script ≡ script_of script.most lines script.rest
  pub took : IsTrue tells.source → start.left ≡ (texts_of lines ++ script.rest) ++ now.left
  pub wrote : IsTrue tells.sink → now.written ≡ start.written ++ printed_by lines

-- a drill that began there has ended so
pub record HasEnded (test : Test) (tells : Telling) (most : ℕ) (start now : Streams) (end : DrillEnd) : Type 0 where
  pub drilled : Drilled test tells most (traffic start now) end
  pub behind : IsTrue tells.sink → IsStart start.written now.written

-- wherever it began, it has come further
abbrev pub ComesOn : Telling → Drill → Streams → Script → Drill → Streams → Script → Type 0
ComesOn tells drill old script next new later = (test : Test) → IsTest test → (start : Streams)
    → HasCome test tells start old script drill → HasCome test tells start new later next

-- wherever it began, it has come to this end
abbrev pub ComesToEnd : Telling → Drill → Streams → Script → Streams → DrillEnd → Type 0
ComesToEnd tells drill old script new end = (test : Test) → IsTest test → (start : Streams)
    → HasCome test tells start old script drill → HasEnded test tells script.most start new end

-- how a drill goes on
abbrev pub Goes : Result Drill DrillEnd → Telling → Drill → Streams → Script → Streams → Script → Type 0
Goes (Ok next) tells drill old script new later = ComesOn tells drill old script next new later
Goes (Err end) tells drill old script new later = ComesToEnd tells drill old script new end

-- how it goes on where no line is run
abbrev pub GoesOn : Option DrillEnd → Telling → Drill → Streams → Script → Streams → Script → Type 0
GoesOn None tells drill old script new later = ComesOn tells drill old script drill new later
GoesOn (Some end) tells drill old script new later = ComesToEnd tells drill old script new end

-- what is left to be read falls with each step
abbrev pub work_left : Script → ℕ
work_left script = 2 * (script.most - script.offset) - length script.rest

-- ---- what is read

-- the piece of the script that was taken
pub record TakesPiece (tells : Bool) (old new : Script) (left later : List ℕ) : Type 0 where
  pub piece : List ℕ
  pub some : 0 < length piece
  pub script : new ≡ record old { rest = old.rest ++ piece }
  pub bytes : IsTrue tells → left ≡ piece ++ later

-- a piece that there was no memory for
pub record LosesPiece (tells : Bool) (old : Script) (left later : List ℕ) : Type 0 where
  pub piece : List ℕ
  pub within : taken old + length piece ≤ old.most
  pub bytes : IsTrue tells → left ≡ piece ++ later

-- What asking a source for more gives.
abbrev pub TakesMore : Input → Bool → Script → Script → List ℕ → List ℕ → Type 0
TakesMore Taken tells old new left later = TakesPiece tells old new left later
TakesMore Ended tells old new left later =
    (new ≡ old) × (taken old < old.most) × (IsTrue tells → (left ≡ []) × (later ≡ []))
TakesMore Long tells old new left later = (new ≡ old) × (taken old ≡ old.most) × (IsTrue tells → later ≡ left)
TakesMore Failed tells old new left later =
    (new ≡ old) × (taken old < old.most) × (IsTrue tells → later ≡ left)
TakesMore Memory tells old new left later = (new ≡ old) × LosesPiece tells old left later

-- ---- what is written

-- The line was run and all that it printed was written, or a first part of it where the sink failed. Where memory ran
-- out, nothing of it was.
abbrev pub RunsLine : Result Drill DrillEnd → Line → Drill → Bool → List ℕ → List ℕ → Type 0
RunsLine (Ok next) line drill tells before now =
    (lines : List Printed) × RunsAs line lines drill next × (IsTrue tells → Wrote before now (text_of lines))
RunsLine (Err sink_end) line drill tells before now = (next : Drill) × (lines : List Printed)
    × RunsAs line lines drill next × (IsTrue tells → LeftOver before now (text_of lines))
RunsLine (Err no_memory) line drill tells before now = IsTrue tells → now ≡ before
RunsLine (Err end) line drill tells before now = ⊥

-- The line SYNTAX was written, or a first part of it where the sink failed; or there was no memory for it.
abbrev pub SaysSyntax : ℕ → DrillEnd → Bool → List ℕ → List ℕ → Type 0
SaysSyntax offset (Syntax at) tells before now =
    (at ≡ offset) × (IsTrue tells → Wrote before now (syntax_text offset))
SaysSyntax offset sink_end tells before now = IsTrue tells → LeftOver before now (syntax_text offset)
SaysSyntax offset no_memory tells before now = IsTrue tells → now ≡ before
SaysSyntax offset end tells before now = ⊥
