-- Where all steps are one caller's, the log gains what its OK lines tell.
use Rattle.std.proofs.Common.{◌≡◌, ◌∙◌, ◌⊎◌, ℕ, ◌+◌, List, [], ◌∷◌, ◌++◌, Bool, cond, refl, sym, ap}
use Rattle.std.proofs.Common.{subst, eq-eqb, inl, inr, arith}
use Rattle.std.specs.List.{AllByRecursion}
use Rattle.std.proofs.lemmas.List.{append-nil, append_assoc}
use Rattle.bk_base.specs.declared.calls.Answer.{Answer}
use Rattle.bk_base.specs.declared.calls.Answer.TheVariants.{Done, Fold, Numbered, Pair}
use Rattle.bk_base.specs.declared.calls.Call.{Call}
use Rattle.bk_base.specs.declared.calls.Call.TheVariants.{Put, Delete, Reap, FoldOpen, FoldNext}
use Rattle.bk_base.specs.declared.calls.Call.TheVariants.{FoldClose, Quiet}
use Rattle.bk_base.specs.declared.calls.Entry.{Entry}
use Rattle.bk_base.specs.declared.histories.Step.{Step}
use Rattle.bk_base.specs.declared.numbers.Moment.{Moment}
use Rattle.bk_base.specs.declared.requests.Reply.{Reply}
use Rattle.bk_base.specs.declared.requests.Reply.TheVariants.{Numbered as numbered_line}
use Rattle.bk_base.specs.declared.requests.Request.{Request}
use Rattle.bk_base.specs.declared.requests.Request.TheVariants.{Put as put_request}
use Rattle.bk_base.specs.declared.requests.Request.TheVariants.{Delete as delete_request}
use Rattle.bk_base.specs.declared.statuses.SessionEnd.{SessionEnd}
use Rattle.bk_base.specs.declared.writes.Write.{Write}
use Rattle.bk_laws.specs.History.{State, changed, log_of}
use Rattle.bk_exchange.specs.Points.{AtOne, Event, Point, calls_of, events, heard, next_point, own}
use Rattle.bk_exchange.specs.Points.{point_after}
use Rattle.bk_exchange.specs.Points.{point_of}
use Rattle.bk_exchange.specs.Answers.{Context}
use Rattle.bk_exchange.specs.Exchanges.{Exchange, IsExchange, moment_of, steps_of}
use Rattle.bk_exchange.specs.Sessions.{Session, Telling, Traffic, exchanges}
use Rattle.bk_exchange.specs.OneThread.{IsAlone, IsOwn, OneThread, one_if_quiet, quiet_in}
use Rattle.bk_exchange.specs.Writes.{IsAskedBy, IsOneOf, Tells, told_by, told_writes, writes_in}
use Rattle.bk_exchange.specs.Writes.{written}
use Rattle.bk_exchange.proofs.Bodies.{entry_of}
use Rattle.bk_exchange.proofs.Events.{point_of-append, state_of_point}
use Rattle.bk_exchange.proofs.OkLines.{exchange_tells, session_tells, writes-append}

-- ---- the log

log-changed : (caller : ℕ) (call : Call) (answer : Answer) (s : State)
    → (changed caller call answer s).log ≡ s.log ++ written call answer
log-changed caller (Put key value now) (Numbered n) s = refl
log-changed caller (Delete key now) (Numbered n) s = refl
log-changed caller (Reap key now) (Numbered n) s = refl
log-changed caller (FoldOpen now) (Fold epoch slot) s = sym (append-nil s.log)
log-changed caller (FoldNext slot) (Pair key value) s = sym (append-nil s.log)
log-changed caller (FoldClose slot) Done s = sym (append-nil s.log)
log-changed caller call answer s = sym (append-nil s.log)

written_heard : (call : Call) (answer : Answer)
    → writes_in (heard call answer) ≡ written call answer
written_heard Quiet answer = refl
written_heard call answer = append-nil (written call answer)

pub log_at : (p : Point) (steps : List Step)
    → (point_after p steps).state.log ≡ p.state.log ++ writes_in (calls_of (events p steps))
log_at p [] = sym (append-nil p.state.log)
log_at p (step ∷ steps) =
    let entry = step.entry in
    let later = calls_of (events (next_point p step) steps) in
    log_at (next_point p step) steps
    ∙ ap (λ (l : List Write). l ++ writes_in later)
    (log-changed entry.caller entry.call entry.reply p.state)
    ∙ append_assoc p.state.log (written entry.call entry.reply) (writes_in later)
    ∙ ap (λ (ws : List Write). p.state.log ++ (ws ++ writes_in later)) (sym
    (written_heard entry.call entry.reply))
    ∙ ap (λ (ws : List Write). p.state.log ++ ws) (sym (writes-append
    (heard entry.call entry.reply) later))

-- ---- one caller

pub alone_all : (who : ℕ) (p : Point) (steps : List Step) → IsAlone who steps
    → own who (events p steps) ≡ events p steps
alone_all who p [] alone = refl
alone_all who p (step ∷ steps) alone =
    let e : Event = record { before = p; step = step } in
    let later = events (next_point p step) steps in
    ap (λ (b : Bool). cond b (e ∷ own who later) (own who later))
    (eq-eqb step.entry.caller who alone.0)
    ∙ ap (λ (es : List Event). e ∷ es) (alone_all who (next_point p step) steps alone.1)

alone-append : (who : ℕ) (h k : List Step) → IsAlone who h → IsAlone who k → IsAlone who (h ++ k)
alone-append who [] k a b = b
alone-append who (step ∷ h) k a b = (a.0, alone-append who h k a.1 b)

pub all_alone : (c : Context) (xs : List Exchange) → AllByRecursion (IsOwn c) xs
    → IsAlone c.who (steps_of xs)
all_alone c [] all = tt
all_alone c (x ∷ xs) all = alone-append c.who x.steps (steps_of xs) all.0.alone
    (all_alone c xs all.1)

pub log_gains : (c : Context) (tells : Telling) (most : ℕ) (h h2 : List Step) (t : Traffic)
    (end : SessionEnd)
    (first tried : List Write) (s : Session c tells most h h2 t end)
    → OneThread c h2 first tried s.transcript
    → log_of c.opening h2 ≡ log_of c.opening h ++ told_writes (exchanges s.transcript)
log_gains c tells most h h2 t end first tried s one =
    let o = c.opening in
    let xs = exchanges s.transcript in
    let p = point_of o h in
    let alone = all_alone c xs one.own in
    ap (log_of o) s.steps
    ∙ ap (λ (q : State). q.log) (sym (state_of_point o (h ++ steps_of xs)))
    ∙ ap (λ (q : Point). q.state.log) (point_of-append o h (steps_of xs))
    ∙ log_at p (steps_of xs)
    ∙ ap (λ (q : State). q.log ++ writes_in (calls_of (events p (steps_of xs))))
    (state_of_point o h)
    ∙ ap (λ (es : List Event). log_of o h ++ writes_in (calls_of es)) (sym (alone_all c.who p
    (steps_of xs) alone))
    ∙ ap (λ (ws : List Write). log_of o h ++ ws) (session_tells c p end s.transcript s.said)

-- one exchange more of its own
pub own_more : (c : Context) (xs : List Exchange) (x : Exchange) → AllByRecursion (IsOwn c) xs
    → IsOwn c x
    → AllByRecursion (IsOwn c) (xs ++ x ∷ [])
own_more c [] x all here = (here, tt)
own_more c (y ∷ xs) x all here = (all.0, own_more c xs x all.1 here)

-- the steps of an exchange on one thread, one after the other
pub alone_on : (c : Context) (steps : List Step) (step : Step) (call : Call) (answer : Answer)
    → IsAlone c.who steps → step.entry ≡ entry_of c call answer → IsAlone c.who (steps ++ step ∷ [])
alone_on c steps step call answer alone is =
    alone-append c.who steps (step ∷ []) alone (ap (λ (e : Entry). e.caller) is, tt)

pub quiet_on : (c : Context) (steps : List Step) (step : Step) (call : Call) (answer : Answer)
    → step.entry ≡ entry_of c call answer → quiet_in
    (steps ++ step ∷ []) ≡ quiet_in steps + one_if_quiet call
quiet_on c [] step call answer is = ap (λ (e : Entry). one_if_quiet e.call + 0) is ∙ omega arith
quiet_on c (first ∷ steps) step call answer is =
    let more = quiet_on c steps step call answer is in
    omega arith

-- the log behind one exchange more
pub log_on : (c : Context) (h : List Step) (x : Exchange) → IsExchange c (point_of c.opening h) x
    → IsOwn c x
    → log_of c.opening (h ++ x.steps)
    ≡ log_of c.opening h ++ told_by x.request (moment_of x.now) x.replies
log_on c h x is own_steps =
    let o = c.opening in
    let p = point_of o h in
    ap (λ (q : State). q.log) (sym (state_of_point o (h ++ x.steps)))
    ∙ ap (λ (q : Point). q.state.log) (point_of-append o h x.steps)
    ∙ log_at p x.steps
    ∙ ap (λ (q : State). q.log ++ writes_in (calls_of (events p x.steps))) (state_of_point o h)
    ∙ ap (λ (es : List Event). log_of o h ++ writes_in (calls_of es)) (sym
    (alone_all c.who p x.steps own_steps.alone))
    ∙ ap (λ (ws : List Write). log_of o h ++ ws) (exchange_tells c p x is)

-- ---- who asked

at_one_of : {X : Type 0} (P : X → Type 0) (xs ys : List X) → AtOne P (xs ++ ys)
    → AtOne P xs ⊎ AtOne P ys
at_one_of P [] ys h = inr h
at_one_of P (x ∷ xs) ys (inl here) = inl (inl here)
at_one_of P (x ∷ xs) ys (inr later) =
    elim (at_one_of P xs ys later) [
      | inl front ↦ inl (inr front)
      | inr back ↦ inr back
    ]

told_is : (request : Request) (now : Moment) (replies : List Reply) (w : Write)
    → IsOneOf (told_by request now replies) w
    → IsAskedBy request w × ((w.moment ≡ now) × (replies ≡ numbered_line w.seq ∷ []))
told_is (put_request key value) now (numbered_line n ∷ []) w (inl is) = (
  (ap (λ (v : Write). v.key) (sym is), ap (λ (v : Write). v.body) (sym is)),
  (ap (λ (v : Write). v.moment) (sym is), ap (λ (v : Write). numbered_line v.seq ∷ []) is),
)
told_is (put_request key value) now (numbered_line n ∷ []) w (inr later) = absurd later
told_is (delete_request key) now (numbered_line n ∷ []) w (inl is) = (
  (ap (λ (v : Write). v.key) (sym is), ap (λ (v : Write). v.body) (sym is)),
  (ap (λ (v : Write). v.moment) (sym is), ap (λ (v : Write). numbered_line v.seq ∷ []) is),
)
told_is (delete_request key) now (numbered_line n ∷ []) w (inr later) = absurd later
told_is request now replies w none = absurd none

pub told_asked : (xs : List Exchange) (w : Write) → IsOneOf (told_writes xs) w → AtOne (Tells w) xs
told_asked [] w none = absurd none
told_asked (x ∷ xs) w h =
    elim (at_one_of (λ (v : Write). v ≡ w) (told_by x.request (moment_of x.now) x.replies)
    (told_writes xs) h) [
      | inl here ↦
          let is = told_is x.request (moment_of x.now) x.replies w here in
          inl (record { asked = is.0; moment = is.1.0; line = is.1.1 })
      | inr later ↦ inr (told_asked xs w later)
    ]

pub asked_or_there : (c : Context) (h2 : List Step) (xs : List Exchange) (old : List Write)
    (w : Write)
    → log_of c.opening h2 ≡ old ++ told_writes xs → IsOneOf (log_of c.opening h2) w
    → IsOneOf old w ⊎ AtOne (Tells w) xs
asked_or_there c h2 xs old w is there =
    elim (at_one_of (λ (v : Write). v ≡ w) old (told_writes xs) (subst_in is there)) [
      | inl front ↦ inl front
      | inr back ↦ inr (told_asked xs w back)
    ]
  where
    subst_in : log_of c.opening h2 ≡ old ++ told_writes xs → IsOneOf (log_of c.opening h2) w
        → IsOneOf (old ++ told_writes xs) w
    subst_in e at = subst (λ (ws : List Write). IsOneOf ws w) e at
