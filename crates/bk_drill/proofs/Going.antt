-- How a drill goes on from line to line, and how it ends.
use Rattle.std.proofs.Common.{◌≡◌, ◌∙◌, ℕ, ◌+◌, ◌<◌, ◌≤◌, List, [], ◌∷◌, ◌++◌, length, drop, Bool, true, false}
use Rattle.std.proofs.Common.{refl, sym, ap, subst, arith, inl, inr, append_assoc, IsTrue, None, Result, Ok, Err, OnOk, ◌≢◌, lit<, rules}
use Rattle.std.specs.Prelude.{◌||◌, not}
use Rattle.std.specs.List.{list_any}
use Rattle.std.proofs.Math.Bool.{or-false, or_assoc}
use Rattle.std.proofs.Math.Seq.{drop-append_seam}
use Rattle.std.proofs.lemmas.Bool.{true≢false}
use Rattle.std.proofs.lemmas.List.{append-nil, flat_map_more, length-append}
use Rattle.std.proofs.lemmas.List.Elements.{All-nil}
use Rattle.std.proofs.lemmas.List.Folds.{list_any-append}
use Rattle.bk_disk.specs.Streams.{LeftOver, Wrote}
use Rattle.bk_memdisk.specs.Plans.{nothing_chosen}
use Rattle.bk_policy.specs.Settings.{defaults}
use Rattle.bk_policy.specs.declared.settings.Settings.{Settings}
use Rattle.bk_script.specs.declared.limits.TheConstants.{LONGEST_LINE, MOST_LINES}
use Rattle.bk_script.specs.declared.lines.Line.{Line}
use Rattle.bk_script.specs.declared.printed.Printed.{Printed}
use Rattle.bk_script.specs.Lines.{Fits, line_text}
use Rattle.bk_script.specs.Script.{IsRefused, IsUnended, Script, StandsNext, after, is_setting, taken}
use Rattle.bk_script.proofs.Standing.{refused_still, text_length, unended_none}
use Rattle.bk_store.specs.Shown.{settings_of}
use Rattle.bk_drill.specs.declared.drills.Drill.{Drill}
use Rattle.bk_drill.specs.declared.ends.DrillEnd.{DrillEnd}
use Rattle.bk_drill.specs.declared.ends.DrillEnd.TheVariants.{End, Syntax, Source, Sink, Long, Memory}
use Rattle.bk_drill.specs.Between.{Between, IsEmpty}
use Rattle.bk_drill.specs.Drills.{AreDone, AreLines, Done, EndsReading, IsSyntax, IsTest, NamesOffset}
use Rattle.bk_drill.specs.Drills.{Opens, Reads, Streams, Telling, Writes, printed_by, script_of, streams_of, syntax_text}
use Rattle.bk_drill.specs.Drills.{text_of, texts_of}
use Rattle.bk_drill.specs.Lines.{LineIs, Test}
use Rattle.bk_drill.specs.Progress.{IsNew, RunsAs}
use Rattle.bk_drill.specs.Running.{ComesOn, ComesToEnd, Goes, HasCome, HasEnded, LosesPiece, RunsLine, SaysSyntax, TakesPiece}
use Rattle.bk_drill.specs.Running.{work_left}
use Rattle.bk_drill.specs.Shown.{IsAt}
use Rattle.bk_session.proofs.Ways.{reads_on}

-- ---- one line more

pub done_more : (test : Test) (b : Between) (ds : List Done) (mid : Between) (d : Done)
    → AreDone test b ds mid → LineIs test mid d.line d.printed d.later → AreDone test b (ds ++ d ∷ []) d.later
done_more test b [] mid d same is = (subst (λ (x : Between). LineIs test x d.line d.printed d.later) same is, refl)
done_more test b (e ∷ ds) mid d done is = (done.0, done_more test e.later ds mid d done.1 is)

-- the line is no setting
abbrev pub is_other : Done → Bool
is_other d = not (is_setting d.line)

pub lines_more : (n : ℕ) (begun : Bool) (ds : List Done) (d : Done) → AreLines n begun ds
    → Fits d.line → length (line_text d.line) ≤ LONGEST_LINE → n + length ds < MOST_LINES
    → ((begun || list_any is_other ds) ≡ true → is_setting d.line ≡ false) → AreLines n begun (ds ++ d ∷ [])
lines_more n begun [] d are fits short many first =
    (fits, short, omega (arith, many), λ b. first (or-false begun ∙ b), tt)
lines_more n begun (e ∷ ds) d are fits short many first = (
  are.0,
  are.1,
  are.2,
  are.3,
  lines_more (n + 1) (begun || is_other e) ds d are.4 fits short (omega (arith, many))
      (λ b. first (sym (or_assoc begun (is_other e) (list_any is_other ds)) ∙ b)),
)

texts_more : (ds : List Done) (d : Done) → texts_of (ds ++ d ∷ []) ≡ texts_of ds ++ line_text d.line
texts_more ds d = sym (flat_map_more (λ (e : Done). line_text e.line) [] ds d)

printed_more : (ds : List Done) (d : Done) → printed_by (ds ++ d ∷ []) ≡ printed_by ds ++ text_of d.printed
printed_more ds d = sym (flat_map_more (λ (e : Done). text_of e.printed) [] ds d)

-- the reader stands behind one line more
script_more : (most : ℕ) (ds : List Done) (d : Done) (rest more : List ℕ)
    → after (script_of most ds rest) d.line more ≡ script_of most (ds ++ d ∷ []) more
script_more most ds d rest more =
    let texts : length (texts_of ds) + length (line_text d.line) ≡ length (texts_of (ds ++ d ∷ [])) =
    omega (arith, ap (λ (l : List ℕ). length l) (texts_more ds d), length-append (texts_of ds) (line_text d.line)) in
    let count : length ds + 1 ≡ length (ds ++ d ∷ []) = omega (arith, length-append ds (d ∷ [])) in
    let begun : (list_any is_other ds || is_other d) ≡ list_any is_other (ds ++ d ∷ []) =
    ap (λ (b : Bool). list_any is_other ds || b) (sym (or-false (is_other d)))
    ∙ sym (list_any-append is_other ds (d ∷ [])) in
    (λ i. record { rest = more; offset = texts i; most = most; lines = count i; begun = begun i })

-- One line more was run than these.
record HasRun (test : Test) (tells : Telling) (start : Streams) (left : List ℕ) (later : Script) (next : Drill)
    (ds : List Done) (printed : List Printed) : Type 0 where
  pub d : Done
  pub prints : d.printed ≡ printed
  pub first : Between
  pub opens : Opens first
  pub done : AreDone test first (ds ++ d ∷ []) d.later
  pub are : AreLines 0 false (ds ++ d ∷ [])
  pub stands : IsAt next d.later
  pub reads : later ≡ script_of later.most (ds ++ d ∷ []) later.rest
  pub took : IsTrue tells.source → start.left ≡ (texts_of (ds ++ d ∷ []) ++ later.rest) ++ left

run_one : (test : Test) (right : IsTest test) (tells : Telling) (start : Streams) (left before : List ℕ)
    (script later : Script) (drill next : Drill) (line : Line) (printed : List Printed)
    (a : HasCome test tells start (streams_of left before) script drill)
    → StandsNext script line later.rest → later ≡ after script line later.rest → RunsAs line printed drill next
    → HasRun test tells start left later next a.lines printed
run_one test right tells start left before script later drill next line printed a stands is runs =
    let (behind, does, at) = runs test right a.here a.stands in
    let d : Done = record { line = line; printed = printed; later = behind } in
    let ds = a.lines ++ d ∷ [] in
    record {
      d = d;
      prints = refl;
      first = a.first;
      opens = a.opens;
      done = done_more test a.first a.lines a.here d a.done does;
      are = lines_more 0 false a.lines d a.are stands.fits stands.short
          (omega (arith, stands.allowed.numbered, ap (λ (s : Script). s.lines) a.reads))
          (λ b. stands.allowed.settings_first (ap (λ (s : Script). s.begun) a.reads ∙ b));
      stands = at;
      reads = is ∙ ap (λ (s : Script). after s line later.rest) a.reads
          ∙ script_more script.most a.lines d script.rest later.rest
          ∙ ap (λ (m : ℕ). script_of m ds later.rest) (sym (ap (λ (s : Script). s.most) is));
      took = λ t. reads_on start.left (texts_of a.lines) script.rest (line_text line) later.rest left (a.took t)
          stands.whole
          ∙ ap (λ (l : List ℕ). (l ++ later.rest) ++ left) (sym (texts_more a.lines d));
    }

-- ---- what was written

-- the output, where the sink has this behind what it had
output_is : (start final out : List ℕ) → final ≡ start ++ out → drop (length start) final ≡ out
output_is start final out is = ap (λ (l : List ℕ). drop (length start) l) is ∙ drop-append_seam start out

wrote_on : (start before final made text : List ℕ) → before ≡ start ++ made → Wrote before final text
    → final ≡ start ++ (made ++ text)
wrote_on start before final made text was wrote =
    wrote ∙ ap (λ (l : List ℕ). l ++ text) was ∙ append_assoc start made text

-- a first part of a text went out behind what was written before
record PartOut (start final made text : List ℕ) : Type 0 where
  pub out : List ℕ
  pub wrote : final ≡ start ++ out
  pub part : LeftOver made out text

part_out : (start before final made text : List ℕ) → before ≡ start ++ made → LeftOver before final text
    → PartOut start final made text
part_out start before final made text was (part, rest, is, split) = record {
  out = made ++ part;
  wrote = wrote_on start before final made part was is;
  part = (part, rest, refl, split);
}

-- ---- ends

-- the line SYNTAX is due
abbrev pub IsDue : Telling → ℕ → List Done → List ℕ → List ℕ → Type 0
IsDue tells most ds input left = IsTrue tells.source → Reads most (Syntax (length (texts_of ds))) ds input left

-- what the sink took since the start, and that it is what such an end says
abbrev pub Output : Telling → ℕ → DrillEnd → List Done → Streams → Streams → Type 0
Output tells most end ds start now = (out : List ℕ) × (now.written ≡ start.written ++ out)
    × Writes end ds (IsDue tells most ds start.left now.left) out

-- the lines that a drill ran
pub record HasDone (test : Test) (ds : List Done) : Type 0 where
  pub first : Between
  pub opens : Opens first
  pub later : Between
  pub done : AreDone test first ds later
  pub are : AreLines 0 false ds

pub ends : (test : Test) (tells : Telling) (most : ℕ) (start now : Streams) (end : DrillEnd) (ds : List Done)
    → HasDone test ds → NamesOffset end (length (texts_of ds))
    → (IsTrue tells.source → Reads most end ds start.left now.left)
    → (IsTrue tells.sink → Output tells most end ds start now) → HasEnded test tells most start now end
ends test tells most start now end ds h offset reads out = record {
  drilled = record {
    first = h.first;
    opens = h.opens;
    lines = ds;
    later = h.later;
    done = h.done;
    are = h.are;
    at = offset;
    reads = reads;
    writes = λ t. let o = out t in
        subst (λ (l : List ℕ). Writes end ds (IsDue tells most ds start.left now.left) l)
        (sym (output_is start.written now.written o.0 o.1)) o.2;
  };
  behind = λ t. let o = out t in (o.0, sym o.1);
}

-- the lines so far
done_so : (test : Test) (tells : Telling) (start now : Streams) (script : Script) (drill : Drill)
    (a : HasCome test tells start now script drill) → HasDone test a.lines
done_so test tells start now script drill a =
    record { first = a.first; opens = a.opens; later = a.here; done = a.done; are = a.are }

-- how much was read
reads_so : (end : DrillEnd) (script : Script) (ds : List Done) (input left : List ℕ)
    → script ≡ script_of script.most ds script.rest → input ≡ (texts_of ds ++ script.rest) ++ left
    → taken script ≤ script.most → EndsReading end script left → Reads script.most end ds input left
reads_so end script ds input left is whole few reading = record {
  part = script.rest;
  whole = whole;
  within = omega (arith, few, ap (λ (s : Script). s.offset) is, length-append (texts_of ds) script.rest);
  ends = subst (λ (s : Script). EndsReading end s left) is reading;
}

-- an end that comes between two lines, all that they printed being written
pub record Closing (end : DrillEnd) : Type 0 where
  pub at : (n : ℕ) → NamesOffset end n
  pub writes : (tells : Telling) (most : ℕ) (ds : List Done) (input left output : List ℕ) → output ≡ printed_by ds
      → Writes end ds (IsDue tells most ds input left) output

pub at_end : Closing End
at_end = record { at = λ n. tt; writes = λ tells most ds input left output is. is }

pub at_source : Closing Source
at_source = record { at = λ n. tt; writes = λ tells most ds input left output is. is }

pub at_long : Closing Long
at_long = record { at = λ n. tt; writes = λ tells most ds input left output is. is }

pub at_memory : Closing Memory
at_memory = record { at = λ n. tt; writes = λ tells most ds input left output is. is }

pub closes : (end : DrillEnd) (tells : Telling) (drill : Drill) (old new : Streams) (script : Script) → Closing end
    → taken script ≤ script.most → (IsTrue tells.source → new.left ≡ old.left)
    → (IsTrue tells.sink → new.written ≡ old.written) → (IsTrue tells.source → EndsReading end script new.left)
    → ComesToEnd tells drill old script new end
closes end tells drill old new script b few left written reading = λ test right start a.
    ends test tells script.most start new end a.lines (done_so test tells start old script drill a)
    (b.at (length (texts_of a.lines)))
    (λ t. reads_so end script a.lines start.left new.left a.reads
    (a.took t ∙ ap (λ (l : List ℕ). (texts_of a.lines ++ script.rest) ++ l) (sym (left t))) few (reading t))
    (λ t. (
      printed_by a.lines,
      written t ∙ a.wrote t,
      b.writes tells script.most a.lines start.left new.left (printed_by a.lines) refl,
    ))

-- there was no memory for a piece that was read
pub loses : (tells : Telling) (drill : Drill) (left later written : List ℕ) (script : Script)
    → LosesPiece tells.source script left later
    → ComesToEnd tells drill (streams_of left written) script (streams_of later written) Memory
loses tells drill left later written script lost = λ test right start a.
    let ds = a.lines in
    ends test tells script.most start (streams_of later written) Memory ds
    (done_so test tells start (streams_of left written) script drill a) tt
    (λ t. record {
      part = script.rest ++ lost.piece;
      whole = a.took t ∙ ap (λ (l : List ℕ). (texts_of ds ++ script.rest) ++ l) (lost.bytes t)
          ∙ sym (append_assoc (texts_of ds ++ script.rest) lost.piece later)
          ∙ ap (λ (l : List ℕ). l ++ later) (append_assoc (texts_of ds) script.rest lost.piece);
      within = omega (
        arith,
        lost.within,
        ap (λ (s : Script). s.offset) a.reads,
        length-append (texts_of ds) (script.rest ++ lost.piece),
        length-append script.rest lost.piece,
      );
      ends = tt;
    })
    (λ t. (printed_by ds, a.wrote t, refl))

-- ---- SYNTAX

pub says_syntax : (end : DrillEnd) (tells : Telling) (drill : Drill) (old new : Streams) (script : Script) (offset : ℕ)
    → taken script ≤ script.most → offset ≡ script.offset → (IsTrue tells.source → new.left ≡ old.left)
    → (IsTrue tells.source → IsSyntax script new.left)
    → SaysSyntax offset end tells.sink old.written new.written → ComesToEnd tells drill old script new end
says_syntax (Syntax at) tells drill old new script offset few here left syntax (is, wrote) = λ test right start a.
    let ds = a.lines in
    ends test tells script.most start new (Syntax at) ds (done_so test tells start old script drill a)
    (is ∙ here ∙ ap (λ (s : Script). s.offset) a.reads)
    (λ t. reads_so (Syntax at) script ds start.left new.left a.reads
    (a.took t ∙ ap (λ (l : List ℕ). (texts_of ds ++ script.rest) ++ l) (sym (left t))) few (syntax t))
    (λ t. (
      printed_by ds ++ syntax_text offset,
      wrote_on start.written old.written new.written (printed_by ds) (syntax_text offset) (a.wrote t) (wrote t),
      ap (λ (n : ℕ). printed_by ds ++ syntax_text n) (sym is),
    ))
says_syntax Sink tells drill old new script offset few here left syntax failed = λ test right start a.
    let ds = a.lines in
    let took : IsTrue tells.source → start.left ≡ (texts_of ds ++ script.rest) ++ new.left =
    λ t. a.took t ∙ ap (λ (l : List ℕ). (texts_of ds ++ script.rest) ++ l) (sym (left t)) in
    ends test tells script.most start new Sink ds (done_so test tells start old script drill a) tt
    (λ t. reads_so Sink script ds start.left new.left a.reads (took t) few tt)
    (λ t.
    let p = part_out start.written old.written new.written (printed_by ds) (syntax_text offset) (a.wrote t) (failed t) in (
      p.out,
      p.wrote,
      inr (
        λ told. reads_so (Syntax (length (texts_of ds))) script ds start.left new.left a.reads (took told) few (syntax told),
        subst (λ (n : ℕ). LeftOver (printed_by ds) p.out (syntax_text n))
            (here ∙ ap (λ (s : Script). s.offset) a.reads) p.part,
      ),
    ))
says_syntax Memory tells drill old new script offset few here left syntax kept =
    closes Memory tells drill old new script at_memory few left kept (λ t. tt)
says_syntax end tells drill old new script offset few here left syntax none = absurd none

some_bytes : (bytes : List ℕ) → (IsUnended bytes → ⊥) → 0 < length bytes
some_bytes [] never = absurd (never (record { no_end = All-nil (λ (b : ℕ). b ≢ 10); room = lit< tt }))
some_bytes (b ∷ bytes) never = omega arith

refused_syntax : (script : Script) (left : List ℕ) → IsRefused script → IsSyntax script left
refused_syntax script left refused = record {
  some = some_bytes script.rest refused.ended;
  none = (refused_still script left refused).none;
  seen = inl refused;
}

-- the input ended within a line
cut_syntax : (script : Script) (left : List ℕ) → IsUnended script.rest → 0 < length script.rest → left ≡ []
    → taken script < script.most → IsSyntax script left
cut_syntax script left unended some none few = record {
  some = some;
  none = unended_none (record script { rest = script.rest ++ left })
      (subst IsUnended (sym (ap (λ (l : List ℕ). script.rest ++ l) none ∙ append-nil script.rest)) unended);
  seen = inr (none, few);
}

-- no line stands at the front of what was taken, however it goes on
pub bad_front : (end : DrillEnd) (tells : Telling) (drill : Drill) (left before now : List ℕ) (script : Script) (offset : ℕ)
    → taken script ≤ script.most → IsRefused script → offset ≡ script.offset
    → SaysSyntax offset end tells.sink before now
    → ComesToEnd tells drill (streams_of left before) script (streams_of left now) end
bad_front end tells drill left before now script offset few refused here says =
    says_syntax end tells drill (streams_of left before) (streams_of left now) script offset few here (λ t. refl)
    (λ t. refused_syntax script left refused) says

-- ---- behind a line

pub goes_by_line : (r : Result Drill DrillEnd) (tells : Telling) (drill : Drill) (left before now : List ℕ)
    (script later : Script) (line : Line)
    → StandsNext script line later.rest → later ≡ after script line later.rest → taken script ≤ script.most
    → RunsLine r line drill tells.sink before now
    → Goes r tells drill (streams_of left before) script (streams_of left now) later
goes_by_line (Ok next) tells drill left before now script later line stands is few (printed, runs, wrote) =
    λ test right start a.
    let one = run_one test right tells start left before script later drill next line printed a stands is runs in
    record {
      first = one.first;
      opens = one.opens;
      lines = a.lines ++ one.d ∷ [];
      here = one.d.later;
      done = one.done;
      are = one.are;
      stands = one.stands;
      reads = one.reads;
      took = one.took;
      wrote = λ t. wrote_on start.written before now (printed_by a.lines) (text_of printed) (a.wrote t) (wrote t)
          ∙ ap (λ (l : List ℕ). start.written ++ l)
          (ap (λ (l : List Printed). printed_by a.lines ++ text_of l) (sym one.prints) ∙ sym (printed_more a.lines one.d));
    }
goes_by_line (Err Sink) tells drill left before now script later line stands is few (next, printed, runs, failed) =
    λ test right start a.
    let one = run_one test right tells start left before script later drill next line printed a stands is runs in
    let ds = a.lines ++ one.d ∷ [] in
    let most : later.most ≡ script.most = ap (λ (s : Script). s.most) is in
    ends test tells script.most start (streams_of left now) Sink ds
    (record { first = one.first; opens = one.opens; later = one.d.later; done = one.done; are = one.are }) tt
    (λ t. record {
      part = later.rest;
      whole = one.took t;
      within = omega (
        arith,
        few,
        ap (λ (s : Script). s.offset) one.reads,
        ap (λ (s : Script). s.offset) is,
        ap length stands.whole,
        length-append (line_text line) later.rest,
        length-append (texts_of ds) later.rest,
      );
      ends = tt;
    })
    (λ t.
    let p = part_out start.written before now (printed_by a.lines) (text_of printed) (a.wrote t) (failed t) in (
      p.out,
      p.wrote,
      inl (record {
        before = a.lines;
        last = one.d;
        lines = refl;
        part = subst (λ (l : List Printed). LeftOver (printed_by a.lines) p.out (text_of l)) (sym one.prints) p.part;
      }),
    ))
goes_by_line (Err Memory) tells drill left before now script later line stands is few kept =
    closes Memory tells drill (streams_of left before) (streams_of left now) script at_memory few (λ t. refl) kept
    (λ t. tt)
goes_by_line (Err end) tells drill left before now script later line stands is few none = absurd none

-- ---- where a drill reads on

pub taken_more : (tells : Telling) (drill : Drill) (left later written : List ℕ) (old new : Script)
    → TakesPiece tells.source old new left later
    → ComesOn tells drill (streams_of left written) old drill (streams_of later written) new
taken_more tells drill left later written old new took = λ test right start a.
    let ds = a.lines in
    let rest : new.rest ≡ old.rest ++ took.piece = ap (λ (s : Script). s.rest) took.script in
    let most : new.most ≡ old.most = ap (λ (s : Script). s.most) took.script in
    record {
      first = a.first;
      opens = a.opens;
      lines = ds;
      here = a.here;
      done = a.done;
      are = a.are;
      stands = a.stands;
      reads = took.script ∙ ap (λ (s : Script). record s { rest = old.rest ++ took.piece }) a.reads
          ∙ (λ i. script_of (sym most i) ds (sym rest i));
      took = λ t. a.took t ∙ ap (λ (l : List ℕ). (texts_of ds ++ old.rest) ++ l) (took.bytes t)
          ∙ sym (append_assoc (texts_of ds ++ old.rest) took.piece later)
          ∙ ap (λ (l : List ℕ). l ++ later)
          (append_assoc (texts_of ds) old.rest took.piece ∙ ap (λ (r : List ℕ). texts_of ds ++ r) (sym rest));
      wrote = a.wrote;
    }

-- the input has ended
pub ended_whole : (tells : Telling) (drill : Drill) (left later written : List ℕ) (old new : Script)
    → (new ≡ old) × (taken old < old.most) × (IsTrue tells.source → (left ≡ []) × (later ≡ [])) → new.rest ≡ []
    → ComesToEnd tells drill (streams_of left written) old (streams_of later written) End
ended_whole tells drill left later written old new (same, few, ended) empty =
    closes End tells drill (streams_of left written) (streams_of later written) old at_end (omega (arith, few))
    (λ t. (ended t).1 ∙ sym (ended t).0) (λ t. refl)
    (λ t. (ap (λ (s : Script). s.rest) (sym same) ∙ empty, (ended t).1, few))

pub ended_within : (end : DrillEnd) (tells : Telling) (drill : Drill) (left later before now : List ℕ) (old new : Script)
    (offset : ℕ) → (new ≡ old) × (taken old < old.most) × (IsTrue tells.source → (left ≡ []) × (later ≡ []))
    → IsUnended old.rest → (offset ≡ new.offset) × (0 < length new.rest) → SaysSyntax offset end tells.sink before now
    → ComesToEnd tells drill (streams_of left before) old (streams_of later now) end
ended_within end tells drill left later before now old new offset (same, few, ended) unended some says =
    says_syntax end tells drill (streams_of left before) (streams_of later now) old offset (omega (arith, few))
    (some.0 ∙ ap (λ (s : Script). s.offset) same) (λ t. (ended t).1 ∙ sym (ended t).0)
    (λ t. cut_syntax old later unended (subst (λ (s : Script). 0 < length s.rest) same some.1) (ended t).1 few) says

pub taken_all : (tells : Telling) (drill : Drill) (left later written : List ℕ) (old new : Script)
    → (new ≡ old) × (taken old ≡ old.most) × (IsTrue tells.source → later ≡ left) → IsUnended old.rest
    → ComesToEnd tells drill (streams_of left written) old (streams_of later written) Long
taken_all tells drill left later written old new (same, all, kept) unended =
    closes Long tells drill (streams_of left written) (streams_of later written) old at_long (omega (arith, all)) kept
    (λ t. refl) (λ t. (unended, all))

pub failed_source : (tells : Telling) (drill : Drill) (left later written : List ℕ) (old new : Script)
    → (new ≡ old) × (taken old < old.most) × (IsTrue tells.source → later ≡ left) → IsUnended old.rest
    → ComesToEnd tells drill (streams_of left written) old (streams_of later written) Source
failed_source tells drill left later written old new (same, few, kept) unended =
    closes Source tells drill (streams_of left written) (streams_of later written) old at_source (omega (arith, few)) kept
    (λ t. refl) (λ t. (unended, few))

-- there was no memory to read the next line
pub lacks : (tells : Telling) (drill : Drill) (streams : Streams) (script : Script) → taken script ≤ script.most
    → ComesToEnd tells drill streams script streams Memory
lacks tells drill streams script few =
    closes Memory tells drill streams streams script at_memory few (λ t. refl) (λ t. refl) (λ t. tt)

-- where the reader stayed as it was
pub ends_as : (end : DrillEnd) (tells : Telling) (drill : Drill) (old new : Streams) (script same : Script)
    → same ≡ script → ComesToEnd tells drill old same new end → ComesToEnd tells drill old script new end
ends_as end tells drill old new script same is comes =
    subst (λ (s : Script). ComesToEnd tells drill old s new end) is comes

-- ---- the work that is left

fewer_run : (script later : Script) (line : Line) → StandsNext script line later.rest
    → later ≡ after script line later.rest → taken later ≤ later.most → work_left later < work_left script
fewer_run script later line stands is few =
    omega (
      arith,
      few,
      ap (λ (s : Script). s.offset) is,
      ap (λ (s : Script). s.most) is,
      ap length stands.whole,
      length-append (line_text line) later.rest,
      text_length line,
    )

-- the work is less, also where the line ended the drill
pub fewer_by_line : (r : Result Drill DrillEnd) (script later : Script) (line : Line)
    → StandsNext script line later.rest → later ≡ after script line later.rest → taken later ≤ later.most
    → OnOk r (work_left later < work_left script)
fewer_by_line (Ok next) script later line stands is few = fewer_run script later line stands is few
fewer_by_line (Err end) script later line stands is few = tt

pub fewer_taken : (tells : Bool) (old new : Script) (left later : List ℕ) → TakesPiece tells old new left later
    → taken new ≤ new.most → work_left new < work_left old
fewer_taken tells old new left later took few =
    omega (
      arith,
      few,
      took.some,
      ap (λ (s : Script). s.offset) took.script,
      ap (λ (s : Script). s.most) took.script,
      ap (λ (s : Script). length s.rest) took.script,
      length-append old.rest took.piece,
    )

-- ---- the beginning

pub nothing_come : (test : Test) (tells : Telling) (start : Streams) (script : Script) (drill : Drill)
    (settings : Settings) (most : ℕ) → settings ≡ defaults
    → script ≡ record { rest = []; offset = 0; most = most; lines = 0; begun = false } → IsNew settings drill
    → HasCome test tells start start script drill
nothing_come test tells start script drill settings most plain is (b, empty, stands) = record {
  first = b;
  opens = subst (λ (s : Settings). IsEmpty (settings_of s) b) plain empty;
  lines = [];
  here = b;
  done = refl;
  are = tt;
  stands = stands;
  reads = is ∙ (λ i. script_of (sym (ap (λ (s : Script). s.most) is) i) [] (sym (ap (λ (s : Script). s.rest) is) i));
  took = λ t. ap (λ (l : List ℕ). l ++ start.left) (sym (ap (λ (s : Script). s.rest) is));
  wrote = λ t. sym (append-nil start.written);
}

-- a store without any write
abbrev pub nothing_there : Between
nothing_there = record {
  opening = record {
    log = [];
    folds = [];
    snapshot = record { rows = []; written = []; job = None; last_file = record { 0 = 0 } };
    settings = settings_of defaults;
    faults = 0;
    views = 0;
    outs = 0;
    whole = true;
  };
  steps = [];
  tried = [];
  sound = true;
  moment = record { 0 = 0 };
  kept = λ actor. None;
  plan = nothing_chosen;
}

is_empty : Opens nothing_there
is_empty = search rules

-- there was no memory to begin with
pub not_begun : (tells : Telling) (most : ℕ) (start : Streams) (test : Test) → HasEnded test tells most start start Memory
not_begun tells most start test =
    ends test tells most start start Memory []
    (record { first = nothing_there; opens = is_empty; later = nothing_there; done = refl; are = tt }) tt
    (λ t. record { part = []; whole = refl; within = omega arith; ends = tt })
    (λ t. ([], sym (append-nil start.written), refl))

-- a test that never says so
abbrev pub no_test : Test
no_test fronts image = false

pub no_test_is : IsTest no_test
no_test_is fronts image says = absurd (true≢false (sym says))
