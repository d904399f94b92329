-- What goes out, one text behind the other.
use Rattle.std.proofs.Common.{◌≡◌, ◌∙◌, ℕ, List, [], ◌∷◌, ◌++◌, sym, ap, subst}
use Rattle.std.specs.List.{flat_map}
use Rattle.std.proofs.lemmas.List.{append-nil, append_assoc}
use Rattle.std.proofs.lemmas.List.Concat.{flat_map-append}
use Rattle.bk_base.specs.declared.requests.Reply.{Reply}
use Rattle.bk_laws.specs.Wire.{reply_text}
use Rattle.bk_session.specs.declared.serving.Onward.{Onward}
use Rattle.bk_session.specs.declared.serving.Onward.TheVariants.{Next, Quit, Sink, Memory}
use Rattle.bk_session.specs.Outgoing.{Loses, Outgoing, Sends, Stops, outgoing}
use Rattle.bk_session.specs.Serving.{SendsAs}

-- nothing went out
pub sends_none : (old : Outgoing) → Sends old [] old
sends_none old = record {
  out = [];
  wrote = sym (append-nil old.written);
  all = sym (append-nil old.gathered);
}

written_on : (old mid new a b : List ℕ) → mid ≡ old ++ a → new ≡ mid ++ b → new ≡ old ++ (a ++ b)
written_on old mid new a b first then = then ∙ ap (λ (l : List ℕ). l ++ b) first ∙ append_assoc old a b

-- what stands behind the first text goes on with the second
texts_on : (a b rest mid old first then : List ℕ) → a ++ mid ≡ old ++ first → b ++ rest ≡ mid ++ then
    → (a ++ b) ++ rest ≡ old ++ (first ++ then)
texts_on a b rest mid old first then one two =
    append_assoc a b rest ∙ ap (λ (l : List ℕ). a ++ l) two ∙ sym (append_assoc a mid then)
    ∙ ap (λ (l : List ℕ). l ++ then) one ∙ append_assoc old first then

sends_on : (old mid new : Outgoing) (first then : List ℕ) → Sends old first mid → Sends mid then new
    → Sends old (first ++ then) new
sends_on old mid new first then s t = record {
  out = s.out ++ t.out;
  wrote = written_on old.written mid.written new.written s.out t.out s.wrote t.wrote;
  all = texts_on s.out t.out new.gathered mid.gathered old.gathered first then s.all t.all;
}

stops_on : (old mid new : Outgoing) (first then : List ℕ) → Sends old first mid → Stops mid then new
    → Stops old (first ++ then) new
stops_on old mid new first then s t = record {
  out = s.out ++ t.out;
  lost = t.lost;
  wrote = written_on old.written mid.written new.written s.out t.out s.wrote t.wrote;
  start = texts_on s.out t.out t.lost mid.gathered old.gathered first then s.all t.start;
}

loses_on : (old mid new : Outgoing) (first then : List ℕ) → Sends old first mid → Loses mid then new
    → Loses old (first ++ then) new
loses_on old mid new first then s t = record {
  out = s.out ++ t.out;
  lost = t.lost;
  wrote = written_on old.written mid.written new.written s.out t.out s.wrote t.wrote;
  start = ap (λ (l : List ℕ). l ++ t.lost) (append_assoc s.out t.out new.gathered)
      ∙ append_assoc s.out (t.out ++ new.gathered) t.lost
      ∙ ap (λ (l : List ℕ). s.out ++ l) t.start ∙ sym (append_assoc s.out mid.gathered then)
      ∙ ap (λ (l : List ℕ). l ++ then) s.all ∙ append_assoc old.gathered first then;
}

pub sends_then : (onward : Onward) (old mid new : Outgoing) (first then : List ℕ) → Sends old first mid
    → SendsAs onward mid then new → SendsAs onward old (first ++ then) new
sends_then Next old mid new first then s t = sends_on old mid new first then s t
sends_then Quit old mid new first then s t = sends_on old mid new first then s t
sends_then Sink old mid new first then s t = stops_on old mid new first then s t
sends_then Memory old mid new first then s t = loses_on old mid new first then s t

-- the text of lines, and of one line behind them
pub lines_text : (lines : List Reply) (line : Reply)
    → flat_map reply_text (lines ++ line ∷ []) ≡ flat_map reply_text lines ++ reply_text line
lines_text lines line =
    flat_map-append reply_text lines (line ∷ [])
    ∙ ap (λ (l : List ℕ). flat_map reply_text lines ++ l) (append-nil (reply_text line))

pub sends_lines : (onward : Onward) (old mid new : Outgoing) (lines : List Reply) (line : Reply)
    → Sends old (flat_map reply_text lines) mid → SendsAs onward mid (reply_text line) new
    → SendsAs onward old (flat_map reply_text (lines ++ line ∷ [])) new
sends_lines onward old mid new lines line s t =
    subst (λ (l : List ℕ). SendsAs onward old l new) (sym (lines_text lines line))
    (sends_then onward old mid new (flat_map reply_text lines) (reply_text line) s t)

-- there was no room for the text, and nothing changed
pub loses_same : (written later gathered waiting text : List ℕ) → later ≡ written → waiting ≡ gathered
    → Loses (outgoing written gathered) text (outgoing later waiting)
loses_same written later gathered waiting text same_written same = record {
  out = [];
  lost = text;
  wrote = same_written ∙ sym (append-nil written);
  start = ap (λ (l : List ℕ). l ++ text) same;
}

pub outgoing_same : (written later gathered waiting : List ℕ) → later ≡ written → waiting ≡ gathered
    → outgoing later waiting ≡ outgoing written gathered
outgoing_same written later gathered waiting same_written same =
    ap (λ (l : List ℕ). outgoing l waiting) same_written ∙ ap (outgoing written) same

-- what goes out from there on
pub sends_from : (onward : Onward) (written later gathered waiting text : List ℕ) (new : Outgoing) → later ≡ written
    → waiting ≡ gathered → SendsAs onward (outgoing later waiting) text new → SendsAs onward (outgoing written gathered) text new
sends_from onward written later gathered waiting text new same_written same sent =
    subst (λ (old : Outgoing). SendsAs onward old text new) (outgoing_same written later gathered waiting same_written same) sent
