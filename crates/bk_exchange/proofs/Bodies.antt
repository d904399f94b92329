-- What a body shows of its exchange, a line for each event: steps of others may stand before each
-- of its own.
use Rattle.std.proofs.Common.{◌≡◌, ◌∙◌, ℕ, List, [], ◌∷◌, ◌++◌, true, refl, sym, ap, subst, inl}
use Rattle.std.proofs.lemmas.List.{append-nil, append_assoc, map-append}
use Rattle.bk_base.specs.declared.calls.Answer.{Answer}
use Rattle.bk_base.specs.declared.calls.Answer.TheVariants.{Done, Pair, Fold}
use Rattle.bk_base.specs.declared.calls.Call.{Call}
use Rattle.bk_base.specs.declared.calls.Call.TheVariants.{Quiet, FoldOpen, FoldNext}
use Rattle.bk_base.specs.declared.calls.Entry.{Entry}
use Rattle.bk_base.specs.declared.histories.Step.{Step}
use Rattle.bk_base.specs.declared.numbers.Moment.{Moment}
use Rattle.bk_base.specs.declared.numbers.Seq.{Seq}
use Rattle.bk_base.specs.declared.requests.Reply.{Reply}
use Rattle.bk_base.specs.declared.requests.Request.{Request}
use Rattle.bk_exchange.specs.Points.{AreOthers, AtOne, Event, Point, Said, calls_of, events, heard}
use Rattle.bk_exchange.specs.Points.{own}
use Rattle.bk_exchange.specs.Points.{point_after, said}
use Rattle.bk_exchange.specs.Listings.{Row, listing_calls, opening_call, row_call, row_calls}
use Rattle.bk_exchange.specs.Answers.{Context, OneCall, own_calls}
use Rattle.bk_exchange.specs.Refusals.{Cause, Refuses, may_refuse}
use Rattle.bk_exchange.proofs.Events.{own_behind, own_calls-append}

abbrev pub entry_of : Context → Call → Answer → Entry
entry_of c call answer = record { caller = c.who; call = call; reply = answer }

-- the calls of one event
pub calls_behind : (c : Context) (p : Point) (others : List Step) (step : Step) (call : Call)
    (answer : Answer)
    → AreOthers c.who others → step.entry ≡ entry_of c call answer
    → own_calls c (events p (others ++ step ∷ [])) ≡ heard call answer
calls_behind c p others step call answer apart is =
    ap calls_of (own_behind c.who p others step apart (ap (λ (e : Entry). e.caller) is))
    ∙ append-nil (heard step.entry.call step.entry.reply)
    ∙ ap (λ (e : Entry). heard e.call e.reply) is

-- and of one more
pub calls_on : (c : Context) (p : Point) (steps others : List Step) (step : Step) (call : Call)
    (answer : Answer)
    → AreOthers c.who others → step.entry ≡ entry_of c call answer
    → own_calls c (events p (steps ++ (others ++ step ∷ [])))
    ≡ own_calls c (events p steps) ++ heard call answer
calls_on c p steps others step call answer apart is =
    own_calls-append c p steps (others ++ step ∷ [])
    ∙ ap (λ (l : List Said). own_calls c (events p steps) ++ l)
    (calls_behind c (point_after p steps) others step call answer apart is)

-- a request that one call answers
pub one_answer : (c : Context) (p : Point) (others : List Step) (step : Step) (call : Call)
    (answer : Answer)
    (Shows : Answer → Reply → Type 0) (reply : Reply)
    → AreOthers c.who others → step.entry ≡ entry_of c call answer
    → heard call answer ≡ said call answer ∷ [] → Shows answer reply
    → OneCall call Shows (own_calls c (events p (others ++ step ∷ []))) (reply ∷ [])
one_answer c p others step call answer Shows reply apart is loud shows = record {
  answer = answer;
  reply = reply;
  called = calls_behind c p others step call answer apart is ∙ loud;
  lines = refl;
  shows = shows;
}

-- a fact of its one event
pub at_own : (c : Context) (p : Point) (others : List Step) (step : Step) (P : Event → Type 0)
    → AreOthers c.who others → step.entry.caller ≡ c.who
    → P (record { before = point_after p others; step = step })
    → AtOne P (own c.who (events p (others ++ step ∷ [])))
at_own c p others step P apart is fact =
    subst (AtOne P) (sym (own_behind c.who p others step apart is)) (inl fact)

-- a request whose one call was refused
pub one_refusal : (c : Context) (p : Point) (others : List Step) (step : Step) (request : Request)
    (line : Reply)
    → AreOthers c.who others → step.entry ≡ entry_of c Quiet Done → may_refuse request line ≡ true
    → Cause c request line (events p (others ++ step ∷ []))
    → Refuses c request (events p (others ++ step ∷ [])) (line ∷ [])
one_refusal c p others step request line apart is may cause = record {
  line = line;
  called = calls_behind c p others step Quiet Done apart is;
  lines = refl;
  may = may;
  cause = cause;
}

-- ---- a listing

-- the fold was opened
pub listing_opened : (c : Context) (p : Point) (others : List Step) (step : Step) (now : Moment)
    (epoch : Seq) (slot : ℕ)
    → AreOthers c.who others → step.entry ≡ entry_of c (FoldOpen now) (Fold epoch slot)
    → own_calls c (events p (others ++ step ∷ [])) ≡ listing_calls now epoch slot [] []
listing_opened c p others step now epoch slot apart is =
    calls_behind c p others step (FoldOpen now) (Fold epoch slot) apart is

listing_more : (now : Moment) (epoch : Seq) (slot : ℕ) (rows : List Row) (row : Row)
    → listing_calls now epoch slot rows [] ++ row_call slot row ∷ []
    ≡ listing_calls now epoch slot (rows ++ row ∷ []) []
listing_more now epoch slot rows row =
    ap (λ (l : List Said). opening_call now epoch slot ∷ l)
    (ap (λ (l : List Said). l ++ row_call slot row ∷ []) (append-nil (row_calls slot rows))
    ∙ sym (map-append (row_call slot) rows (row ∷ []))
    ∙ sym (append-nil (row_calls slot (rows ++ row ∷ []))))

-- it gave one pair more
pub listing_on : (c : Context) (p : Point) (steps others : List Step) (step : Step) (now : Moment)
    (epoch : Seq)
    (slot : ℕ) (rows : List Row) (row : Row)
    → own_calls c (events p steps) ≡ listing_calls now epoch slot rows []
    → AreOthers c.who others → step.entry ≡ entry_of c (FoldNext slot) (Pair row.key row.value)
    → own_calls c (events p (steps ++ (others ++ step ∷ [])))
    ≡ listing_calls now epoch slot (rows ++ row ∷ []) []
listing_on c p steps others step now epoch slot rows row so_far apart is =
    calls_on c p steps others step (FoldNext slot) (Pair row.key row.value) apart is
    ∙ ap (λ (l : List Said). l ++ row_call slot row ∷ []) so_far
    ∙ listing_more now epoch slot rows row

-- another call stands behind the pairs: the fold's end, its close, or one that was refused
pub listing_behind : (c : Context) (p : Point) (steps others : List Step) (step : Step)
    (now : Moment) (epoch : Seq)
    (slot : ℕ) (rows : List Row) (behind : List Said) (call : Call) (answer : Answer)
    → own_calls c (events p steps) ≡ listing_calls now epoch slot rows behind
    → AreOthers c.who others → step.entry ≡ entry_of c call answer
    → own_calls c (events p (steps ++ (others ++ step ∷ [])))
    ≡ listing_calls now epoch slot rows (behind ++ heard call answer)
listing_behind c p steps others step now epoch slot rows behind call answer so_far apart is =
    calls_on c p steps others step call answer apart is
    ∙ ap (λ (l : List Said). l ++ heard call answer) so_far
    ∙ ap (λ (l : List Said). opening_call now epoch slot ∷ l)
    (append_assoc (row_calls slot rows) behind (heard call answer))
