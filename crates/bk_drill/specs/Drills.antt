-- A drill: its lines one after the other, how it ends, and what it read and wrote.
use Rattle.std.specs.Prelude.{◌≡◌, ◌⊎◌, ℕ, ◌+◌, ◌<◌, ◌≤◌, ◌||◌, not, Bool, true, false, IsTrue, List, [], ◌∷◌, ◌++◌}
use Rattle.std.specs.Prelude.{drop, length}
use Rattle.std.specs.List.{flat_map, list_any}
use Rattle.bk_disk.specs.Streams.{LeftOver}
use Rattle.bk_disk.specs.Told.{Front, Image, Table}
use Rattle.bk_image.specs.Chance.{NoChance}
use Rattle.bk_policy.specs.Settings.{defaults}
use Rattle.bk_script.specs.declared.lines.Line.{Line}
use Rattle.bk_script.specs.declared.printed.Printed.{Printed}
use Rattle.bk_script.specs.declared.printed.Printed.TheVariants.{Syntax as syntax_line}
use Rattle.bk_script.specs.Lines.{Fits, line_text}
use Rattle.bk_script.specs.Printed.{printed_text}
use Rattle.bk_script.specs.Script.{IsRefused, IsUnended, NoneStands, Script, is_setting, taken}
use Rattle.bk_script.specs.declared.limits.TheConstants.{LONGEST_LINE, MOST_LINES}
use Rattle.bk_store.specs.Shown.{settings_of}
use Rattle.bk_drill.specs.declared.ends.DrillEnd.{DrillEnd}
use Rattle.bk_drill.specs.declared.ends.DrillEnd.TheVariants.{End, Syntax, Source, Sink, Long}
use Rattle.bk_drill.specs.Between.{Between, IsEmpty}
use Rattle.bk_drill.specs.Lines.{LineIs, Test}

-- ---- the lines

-- a line of the script, the lines that it printed, and what there was behind it
pub record Done : Type 0 where
  pub line : Line
  pub printed : List Printed
  pub later : Between

abbrev pub texts_of : List Done → List ℕ
texts_of = flat_map (λ (d : Done). line_text d.line)

abbrev pub text_of : List Printed → List ℕ
text_of = flat_map printed_text

abbrev pub printed_by : List Done → List ℕ
printed_by = flat_map (λ (d : Done). text_of d.printed)

-- each goes on where the one before it ended
abbrev pub AreDone : Test → Between → List Done → Between → Type 0
AreDone test b [] later = later ≡ b
AreDone test b (d ∷ ds) later = LineIs test b d.line d.printed d.later × AreDone test d.later ds later

-- The lines may stand so behind so many others, and behind a line that is no setting or none: each is one of the
-- table, none is too long, there are not too many, and settings come first.
abbrev pub AreLines : ℕ → Bool → List Done → Type 0
AreLines n begun [] = Unit {0}
AreLines n begun (d ∷ ds) =
    Fits d.line × (length (line_text d.line) ≤ LONGEST_LINE) × (n < MOST_LINES)
    × (begun ≡ true → is_setting d.line ≡ false) × AreLines (n + 1) (begun || not (is_setting d.line)) ds

-- what a reader has of the script that read these lines, took this part behind them, and may take so much in all
abbrev pub script_of : ℕ → List Done → List ℕ → Script
script_of most ds part = record {
  rest = part;
  offset = length (texts_of ds);
  most = most;
  lines = length ds;
  begun = list_any (λ (d : Done). not (is_setting d.line)) ds;
}

-- ---- what was read

-- No line stands behind those that were run: a line's worth of bytes was taken and is none, or fewer bytes were taken
-- than may be, and the end was seen within a line.
pub record IsSyntax (s : Script) (left : List ℕ) : Type 0 where
  pub some : 0 < length s.rest
  pub none : NoneStands (record s { rest = s.rest ++ left })
  pub seen : IsRefused s ⊎ ((left ≡ []) × (taken s < s.most))

-- How far a drill that ends so has read: what a reader has behind the lines that were run, and what is left. Where it
-- reads no further, no whole line is left in what it has.
abbrev pub EndsReading : DrillEnd → Script → List ℕ → Type 0
EndsReading End s left = (s.rest ≡ []) × (left ≡ []) × (taken s < s.most)
EndsReading (Syntax at) s left = IsSyntax s left
EndsReading Source s left = IsUnended s.rest × (taken s < s.most)
EndsReading Long s left = IsUnended s.rest × (taken s ≡ s.most)
EndsReading end s left = Unit {0}

pub record Reads (most : ℕ) (end : DrillEnd) (ds : List Done) (input left : List ℕ) : Type 0 where
  pub part : List ℕ
  pub whole : input ≡ (texts_of ds ++ part) ++ left
  pub within : length (texts_of ds ++ part) ≤ most
  pub ends : EndsReading end (script_of most ds part) left

-- the offset that Syntax names is that behind the lines that were run
abbrev pub NamesOffset : DrillEnd → ℕ → Type 0
NamesOffset (Syntax at) offset = at ≡ offset
NamesOffset end offset = Unit {0}

-- ---- what was written

abbrev pub syntax_text : ℕ → List ℕ
syntax_text offset = printed_text (syntax_line offset)

-- the sink failed at what the last line printed, and took a first part of it
pub record BreaksOff (ds : List Done) (output : List ℕ) : Type 0 where
  pub before : List Done
  pub last : Done
  pub lines : ds ≡ before ++ last ∷ []
  pub part : LeftOver (printed_by before) output (text_of last.printed)

-- What all lines printed was written, unless the sink failed: at what the last line printed, or at the line SYNTAX
-- where that was due. Of a line for which memory ran out nothing is written.
abbrev pub Writes : DrillEnd → List Done → Type 0 → List ℕ → Type 0
Writes (Syntax at) ds due output = output ≡ printed_by ds ++ syntax_text at
Writes Sink ds due output =
    BreaksOff ds output ⊎ (due × LeftOver (printed_by ds) output (syntax_text (length (texts_of ds))))
Writes end ds due output = output ≡ printed_by ds

-- ---- the whole

-- what a drill's source and sink tell
pub record Telling : Type 0 where
  pub source : Bool
  pub sink : Bool

abbrev pub telling : Bool → Bool → Telling
telling source sink = record { source = source; sink = sink }

-- what a drill's source has still to give, and what its sink took
pub record Streams : Type 0 where
  pub left : List ℕ
  pub written : List ℕ

abbrev pub streams_of : List ℕ → List ℕ → Streams
streams_of left written = record { left = left; written = written }

-- what passed: what the source had left to give as the drill began and as it ended, and what the sink took
pub record Traffic : Type 0 where
  pub input : List ℕ
  pub left : List ℕ
  pub output : List ℕ

abbrev pub traffic : Streams → Streams → Traffic
traffic old new = record {
  input = old.left;
  left = new.left;
  output = drop (length old.written) new.written;
}

-- the drill begins over an empty disk, with the settings that no file changes
abbrev pub Opens : Between → Type 0
Opens b = IsEmpty (settings_of defaults) b

pub record Drilled (test : Test) (tells : Telling) (most : ℕ) (t : Traffic) (end : DrillEnd) : Type 0 where
  pub first : Between
  pub opens : Opens first
  pub lines : List Done
  pub later : Between
  pub done : AreDone test first lines later
  pub are : AreLines 0 false lines
  pub at : NamesOffset end (length (texts_of lines))
  pub reads : IsTrue tells.source → Reads most end lines t.input t.left
  pub writes : IsTrue tells.sink
      → Writes end lines (IsTrue tells.source → Reads most (Syntax (length (texts_of lines))) lines t.input t.left) t.output

-- No torn bytes are a record by chance where the test says so.
abbrev pub IsTest : Test → Type 0
IsTest test = (fronts : Table Front) (image : Image) → test fronts image ≡ true → NoChance fronts image

-- It is so for each test. So where the stops met no chance match, all is said by a test that says so.
abbrev pub IsDrill : Telling → ℕ → Traffic → DrillEnd → Type 0
IsDrill tells most t end = (test : Test) → IsTest test → Drilled test tells most t end
