-- A reply says what the history says at the caller's own event.
use Rattle.std.proofs.Common.{◌≡◌, ◌∙◌, ◌⊎◌, ℕ, List, [], ◌∷◌, ◌++◌, Bool, true, false, Some, None}
use Rattle.std.proofs.Common.{refl, sym, ap, subst, inl, inr, eqb-true, cond}
use Rattle.std.specs.Prelude.{is_some, ◌==◌}
use Rattle.std.proofs.lemmas.Bool.{true≢false}
use Rattle.bk_base.specs.declared.calls.Answer.{Answer}
use Rattle.bk_base.specs.declared.calls.Answer.TheVariants.{Nothing, Found}
use Rattle.bk_base.specs.declared.calls.Answer.TheVariants.{Numbered as numbered_answer, Done}
use Rattle.bk_base.specs.declared.calls.Call.{Call}
use Rattle.bk_base.specs.declared.calls.Call.TheVariants.{Delete as delete_call, Get as get_call}
use Rattle.bk_base.specs.declared.calls.Call.TheVariants.{Put as put_call, Quiet, Sync as sync_call}
use Rattle.bk_base.specs.declared.histories.Step.{Step}
use Rattle.bk_base.specs.declared.numbers.Moment.{Moment}
use Rattle.bk_base.specs.declared.numbers.Seq.{Seq}
use Rattle.bk_base.specs.declared.requests.Reply.{Reply}
use Rattle.bk_base.specs.declared.requests.Reply.TheVariants.{Value, Absent, Numbered, Synced}
use Rattle.bk_base.specs.declared.requests.Request.{Request}
use Rattle.bk_base.specs.declared.requests.Request.TheVariants.{Get, Put, Delete, Sync}
use Rattle.bk_base.specs.declared.writes.Write.{Write}
use Rattle.bk_laws.specs.History.{IsLegal, IsReply, State, entries}
use Rattle.bk_laws.specs.Log.{last_seq, live, next_seq, put_of, winner}
use Rattle.bk_exchange.specs.Points.{AtOne, Event, Point, Said, calls_of, events, heard, next_point}
use Rattle.bk_exchange.specs.Points.{own, said}
use Rattle.bk_exchange.specs.Answers.{Context, ShowsDelete, ShowsGet, ShowsPut, ShowsSync}
use Rattle.bk_exchange.specs.Answers.{own_calls}
use Rattle.bk_exchange.specs.Refusals.{may_refuse, may_spoil}
use Rattle.bk_exchange.specs.Exchanges.{Before, Exchange, IsExchange, Replies, moment_of}

-- ---- an answered call is legal at its event

abbrev first_said : List Said → Said
first_said [] = said Quiet Done
first_said (s ∷ later) = s

heard_first : (call other : Call) (answer reply : Answer) (later : List Said)
    → heard call answer ++ later ≡ said other reply ∷ []
    → ((call ≡ other) × (answer ≡ reply)) ⊎ (later ≡ said other reply ∷ [])
heard_first Quiet other answer reply later is = inr is
heard_first call other answer reply later is =
    inl (
      ap (λ (l : List Said). (first_said l).call) is,
      ap (λ (l : List Said).
          (first_said l).answer) is,
    )

moved : (ttl : ℕ) (s : State) (caller who : ℕ) (call other : Call) (answer reply : Answer)
    → caller ≡ who
    → call ≡ other → answer ≡ reply → IsReply ttl s caller call answer
    → IsReply ttl s who other reply
moved ttl s caller who call other answer reply is_caller is_call is_answer legal =
    subst (λ (n : ℕ). IsReply ttl s n other reply) is_caller
    (subst (λ (k : Call). IsReply ttl s caller k reply) is_call
    (subst (λ (a : Answer). IsReply ttl s caller call a) is_answer legal))

-- the event is of this call, and the answer is legal there
abbrev pub IsLegalAt : ℕ → ℕ → Call → Answer → Event → Type 0
IsLegalAt ttl who call answer e =
    (e.step.entry.call ≡ call) × IsReply ttl e.before.state who call answer

pub legal_at : (ttl who : ℕ) (call : Call) (answer : Answer) (p : Point) (steps : List Step)
    → IsLegal ttl p.state (entries steps) → calls_of (own who
    (events p steps)) ≡ said call answer ∷ []
    → AtOne (IsLegalAt ttl who call answer) (own who (events p steps))
legal_at ttl who call answer p [] legal is = absurd (cc is)
legal_at ttl who call answer p (step ∷ steps) legal is =
    go (step.entry.caller == who) refl is (legal_at ttl who call answer
    (next_point p step) steps legal.1)
  where
    later : List Event
    later = own who (events (next_point p step) steps)

    e : Event
    e = record { before = p; step = step }

    P : Event → Type 0
    P = IsLegalAt ttl who call answer

    go : (b : Bool) → (step.entry.caller == who) ≡ b
        → calls_of (cond b (e ∷ later) later) ≡ said call answer ∷ []
        → (calls_of later ≡ said call answer ∷ [] → AtOne P later)
        → AtOne P (cond b (e ∷ later) later)
    go true test called goes_on =
        elim (heard_first step.entry.call call step.entry.reply answer (calls_of later) called) [
          | inl same ↦
              inl (
                same.0,
                moved ttl p.state step.entry.caller who step.entry.call call
                    step.entry.reply answer (eqb-true step.entry.caller who test) same.0 same.1 legal.0,
              )
          | inr none ↦ inr (goes_on none)
        ]
    go false test called goes_on = goes_on called

-- ---- which answer a line shows

shows_value : (answer : Answer) (value : List ℕ) → ShowsGet answer (Value value)
    → answer ≡ Found value
shows_value (Found other) value is = ap Found is
shows_value answer value shows = absurd shows

shows_none : (answer : Answer) → ShowsGet answer Absent → answer ≡ Nothing
shows_none Nothing shows = refl
shows_none answer shows = absurd shows

shows_no_put : (answer : Answer) → ShowsDelete answer Absent → answer ≡ Nothing
shows_no_put Nothing shows = refl
shows_no_put answer shows = absurd shows

got_value : (c : Context) (key value : List ℕ) (now : Moment) (es : List Event)
    (replies : List Reply)
    → replies ≡ Value value ∷ [] → Replies c (Get key) now es replies
    → own_calls c es ≡ said (get_call key now) (Found value) ∷ []
got_value c key value now es replies is (inl a) =
    let line : a.reply ≡ Value value = cc (a.lines, is) in
    let answer = shows_value a.answer value (subst (ShowsGet a.answer) line a.shows) in
    a.called ∙ ap (λ (x : Answer). said (get_call key now) x ∷ []) answer
got_value c key value now es replies is (inr (inl r)) =
    let line : r.line ≡ Value value = cc (r.lines, is) in
    let may : may_refuse (Get key) (Value value) ≡ true = ap (may_refuse (Get key)) (sym line)
    ∙ r.may in
    absurd (true≢false (sym may))
got_value c key value now es replies is (inr (inr f)) =
    let line : f.line ≡ Value value = cc (f.lines, is) in
    let may : may_spoil (Value value) ≡ true = ap may_spoil (sym line) ∙ f.may in
    absurd (true≢false (sym may))

got_none : (c : Context) (key : List ℕ) (now : Moment) (es : List Event) (replies : List Reply)
    → replies ≡ Absent ∷ [] → Replies c (Get key) now es replies
    → own_calls c es ≡ said (get_call key now) Nothing ∷ []
got_none c key now es replies is (inl a) =
    let line : a.reply ≡ Absent = cc (a.lines, is) in
    let answer = shows_none a.answer (subst (ShowsGet a.answer) line a.shows) in
    a.called ∙ ap (λ (x : Answer). said (get_call key now) x ∷ []) answer
got_none c key now es replies is (inr (inl r)) =
    let line : r.line ≡ Absent = cc (r.lines, is) in
    let may : may_refuse (Get key) Absent ≡ true = ap (may_refuse (Get key)) (sym line) ∙ r.may in
    absurd (true≢false (sym may))
got_none c key now es replies is (inr (inr f)) =
    let line : f.line ≡ Absent = cc (f.lines, is) in
    let may : may_spoil Absent ≡ true = ap may_spoil (sym line) ∙ f.may in
    absurd (true≢false (sym may))

found_no_put : (c : Context) (key : List ℕ) (now : Moment) (es : List Event) (replies : List Reply)
    → replies ≡ Absent ∷ [] → Replies c (Delete key) now es replies
    → own_calls c es ≡ said (delete_call key now) Nothing ∷ []
found_no_put c key now es replies is (inl a) =
    let line : a.reply ≡ Absent = cc (a.lines, is) in
    let answer = shows_no_put a.answer (subst (ShowsDelete a.answer) line a.shows) in
    a.called ∙ ap (λ (x : Answer). said (delete_call key now) x ∷ []) answer
found_no_put c key now es replies is (inr (inl r)) =
    let line : r.line ≡ Absent = cc (r.lines, is) in
    let may : may_refuse (Delete key) Absent ≡ true = ap (may_refuse (Delete key)) (sym line)
    ∙ r.may in
    absurd (true≢false (sym may))
found_no_put c key now es replies is (inr (inr f)) = absurd f

shows_synced : (answer : Answer) (n : Seq) → ShowsSync answer (Synced n)
    → answer ≡ numbered_answer n
shows_synced (numbered_answer seq) n is = ap numbered_answer is
shows_synced answer n shows = absurd shows

shows_number : (answer : Answer) (n : Seq) → ShowsPut answer (Numbered n)
    → answer ≡ numbered_answer n
shows_number (numbered_answer seq) n is = ap numbered_answer is
shows_number answer n shows = absurd shows

synced_to : (c : Context) (n : Seq) (now : Moment) (es : List Event) (replies : List Reply)
    → replies ≡ Synced n ∷ [] → Replies c Sync now es replies
    → own_calls c es ≡ said sync_call (numbered_answer n) ∷ []
synced_to c n now es replies is (inl a) =
    let line : a.reply ≡ Synced n = cc (a.lines, is) in
    let answer = shows_synced a.answer n (subst (ShowsSync a.answer) line a.shows) in
    a.called ∙ ap (λ (x : Answer). said sync_call x ∷ []) answer
synced_to c n now es replies is (inr (inl r)) =
    let line : r.line ≡ Synced n = cc (r.lines, is) in
    let may : may_refuse Sync (Synced n) ≡ true = ap (may_refuse Sync) (sym line) ∙ r.may in
    absurd (true≢false (sym may))
synced_to c n now es replies is (inr (inr f)) = absurd f

put_as : (c : Context) (key value : List ℕ) (n : Seq) (now : Moment) (es : List Event)
    (replies : List Reply) → replies ≡ Numbered n ∷ [] → Replies c (Put key value) now es replies
    → own_calls c es ≡ said (put_call key value now) (numbered_answer n) ∷ []
put_as c key value n now es replies is (inl a) =
    let line : a.reply ≡ Numbered n = cc (a.lines, is) in
    let answer = shows_number a.answer n (subst (ShowsPut a.answer) line a.shows) in
    a.called ∙ ap (λ (x : Answer). said (put_call key value now) x ∷ []) answer
put_as c key value n now es replies is (inr (inl r)) =
    let line : r.line ≡ Numbered n = cc (r.lines, is) in
    let may : may_refuse (Put key value) (Numbered n) ≡ true = ap (may_refuse (Put key value))
    (sym line) ∙ r.may in
    absurd (true≢false (sym may))
put_as c key value n now es replies is (inr (inr f)) = absurd f

-- ---- exchanges

-- what the request was
of_request : (c : Context) (p : Point) (x : Exchange) (request : Request) → IsExchange c p x
    → x.request ≡ request
    → Replies c request (moment_of x.now) (events p x.steps) x.replies
of_request c p x request is asked =
    subst (λ (r : Request). Replies c r (moment_of x.now)
    (events p x.steps) x.replies) asked is.replied

pub value_live : (c : Context) (p : Point) (x : Exchange) (key value : List ℕ) → IsExchange c p x
    → IsLegal c.opening.settings.ttl p.state (entries x.steps) → x.request ≡ Get key
    → x.replies ≡ Value value ∷ []
    → Before c p x (get_call key (moment_of x.now)) (λ (log : List Write). live log key
    (moment_of x.now).0 c.opening.settings.ttl ≡ Some value)
value_live c p x key value is legal asked said_so =
    let now = moment_of x.now in
    legal_at c.opening.settings.ttl c.who (get_call key now) (Found value) p x.steps legal
    (got_value c key value now (events p x.steps) x.replies said_so (of_request c p x
    (Get key) is asked))

pub none_live : (c : Context) (p : Point) (x : Exchange) (key : List ℕ) → IsExchange c p x
    → IsLegal c.opening.settings.ttl p.state (entries x.steps) → x.request ≡ Get key
    → x.replies ≡ Absent ∷ []
    → Before c p x (get_call key (moment_of x.now)) (λ (log : List Write). live log key
    (moment_of x.now).0 c.opening.settings.ttl ≡ None)
none_live c p x key is legal asked said_so =
    let now = moment_of x.now in
    legal_at c.opening.settings.ttl c.who (get_call key now) Nothing p x.steps legal
    (got_none c key now (events p x.steps) x.replies said_so (of_request c p x (Get key) is asked))

pub none_put : (c : Context) (p : Point) (x : Exchange) (key : List ℕ) → IsExchange c p x
    → IsLegal c.opening.settings.ttl p.state (entries x.steps) → x.request ≡ Delete key
    → x.replies ≡ Absent ∷ []
    → Before c p x (delete_call key (moment_of x.now)) (λ (log : List Write). is_some (put_of
    (winner log key)) ≡ false)
none_put c p x key is legal asked said_so =
    let now = moment_of x.now in
    legal_at c.opening.settings.ttl c.who (delete_call key now) Nothing p x.steps legal
    (found_no_put c key now (events p x.steps) x.replies said_so (of_request c p x
    (Delete key) is asked))

pub synced_last : (c : Context) (p : Point) (x : Exchange) (n : Seq) → IsExchange c p x
    → IsLegal c.opening.settings.ttl p.state (entries x.steps) → x.request ≡ Sync
    → x.replies ≡ Synced n ∷ []
    → Before c p x sync_call (λ (log : List Write). n.0 ≡ last_seq log)
synced_last c p x n is legal asked said_so =
    let now = moment_of x.now in
    legal_at c.opening.settings.ttl c.who sync_call (numbered_answer n) p x.steps legal
    (synced_to c n now (events p x.steps) x.replies said_so (of_request c p x Sync is asked))

pub put_next : (c : Context) (p : Point) (x : Exchange) (key value : List ℕ) (n : Seq)
    → IsExchange c p x
    → IsLegal c.opening.settings.ttl p.state (entries x.steps) → x.request ≡ Put key value
    → x.replies ≡ Numbered n ∷ []
    → Before c p x (put_call key value (moment_of x.now)) (λ (log : List Write). n.0 ≡ next_seq log)
put_next c p x key value n is legal asked said_so =
    let now = moment_of x.now in
    legal_at c.opening.settings.ttl c.who (put_call key value now)
    (numbered_answer n) p x.steps legal
    (put_as c key value n now (events p x.steps) x.replies said_so (of_request c p x
    (Put key value) is asked))
