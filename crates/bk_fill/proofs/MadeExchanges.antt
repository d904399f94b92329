-- One exchange more of a command with its store.
use Rattle.std.proofs.Common.{◌≡◌, ◌∙◌, ℕ, ◌+◌, Bool, false, List, [], ◌∷◌, ◌++◌, Option, Some, true, refl, sym, ap, subst}
use Rattle.std.proofs.Common.{◌⊎◌, arith, inl, inr, IsTrue}
use Rattle.std.specs.Prelude.{is_some}
use Rattle.std.specs.List.{AllByRecursion}
use Rattle.std.proofs.lemmas.List.{append-nil, append_assoc}
use Rattle.bk_base.specs.declared.calls.Answer.{Answer}
use Rattle.bk_base.specs.declared.calls.Call.{Call}
use Rattle.bk_base.specs.declared.calls.Call.TheVariants.{Quiet}
use Rattle.bk_base.specs.declared.calls.Entry.{Entry}
use Rattle.bk_base.specs.declared.histories.Opening.{Opening}
use Rattle.bk_base.specs.declared.histories.Step.{Step}
use Rattle.bk_base.specs.declared.numbers.Moment.{Moment}
use Rattle.bk_base.specs.declared.requests.Reply.{Reply}
use Rattle.bk_base.specs.declared.requests.Reply.TheVariants.{Memory}
use Rattle.bk_base.specs.declared.requests.Request.{Request}
use Rattle.bk_base.specs.declared.writes.Write.{Write}
use Rattle.bk_disk.specs.Told.{clock}
use Rattle.bk_exchange.proofs.Bodies.{calls_behind}
use Rattle.bk_exchange.proofs.Events.{point_of-append}
use Rattle.bk_exchange.proofs.OneCaller.{log_on, own_more}
use Rattle.bk_exchange.proofs.Stretches.{served-append, steps-append}
use Rattle.bk_exchange.proofs.Tries.{told-append}
use Rattle.bk_exchange.specs.Answers.{OneCall, own_calls}
use Rattle.bk_exchange.specs.Exchanges.{Exchange, IsExchange, asks_clock, moment_of, steps_of}
use Rattle.bk_exchange.specs.OneThread.{IsOwn, MayBeTried, QuietCalls, one_if_quiet}
use Rattle.bk_exchange.specs.Points.{Point, Said, events, heard, point_of, said}
use Rattle.bk_exchange.specs.Refusals.{Refuses, is_quit, may_refuse}
use Rattle.bk_exchange.specs.Sessions.{AreServed}
use Rattle.bk_exchange.specs.Writes.{told_by, told_writes}
use Rattle.bk_fill.specs.Making.{AreMade}
use Rattle.bk_laws.specs.History.{log_of}
use Rattle.bk_laws.specs.Wire.{Fits}
use Rattle.bk_session.proofs.OneLine.{at_told, is_later}
use Rattle.bk_session.proofs.Steps.{crashes_on, tries_on}
use Rattle.bk_session.specs.Following.{Follows, own_context}
use Rattle.bk_session.specs.Replying.{Replied, exchange_of}
use Rattle.bk_session.specs.Serving.{CrashesWithin, IsSince, Tries}
use Rattle.bk_store.proofs.Pasts.{past_same}
use Rattle.bk_store.specs.Events.{KeepsPast, entry_by}
use Rattle.bk_store.specs.Shown.{Shown}

pub made_nothing : (known : Bool) (v : Shown) (o : Opening) (h : List Step) (first : List Write)
    → Follows known v o h first → AreMade known v v o h first []
made_nothing known v o h first f = record {
  tried = first;
  served = tt;
  own = tt;
  log = ap (log_of o) (append-nil h) ∙ sym (append-nil (log_of o h));
  tries = inr (inl (refl, refl));
  follows = subst (λ (k : List Step). Follows known v o k first) (sym (append-nil h)) f;
  crash = λ tell k low high. absurd (omega (arith, low, high));
}

-- the steps of one exchange more
pub steps_on : (h : List Step) (xs : List Exchange) (x : Exchange)
    → h ++ steps_of (xs ++ x ∷ []) ≡ (h ++ steps_of xs) ++ x.steps
steps_on h xs x =
    ap (λ (k : List Step). h ++ k) (steps-append xs (x ∷ []))
    ∙ ap (λ (k : List Step). h ++ (steps_of xs ++ k)) (append-nil x.steps)
    ∙ sym (append_assoc h (steps_of xs) x.steps)

-- the writes that one exchange more tells
pub told_on : (xs : List Exchange) (x : Exchange)
    → told_writes (xs ++ x ∷ []) ≡ told_writes xs ++ told_by x.request (moment_of x.now) x.replies
told_on xs x =
    told-append xs (x ∷ [])
    ∙ ap (λ (ws : List Write). told_writes xs ++ ws) (append-nil (told_by x.request (moment_of x.now) x.replies))

-- what one line and one step make
pub is_exchange : (known : Bool) (m u : Shown) (o : Opening) (h : List Step) (tried : List Write) (request : Request)
    (now : Option Moment) (reply : Reply) → Fits request → is_some now ≡ asks_clock request
    → (r : Replied known request now reply m u o h tried)
    → IsExchange (own_context o) (point_of o h) (exchange_of request now (r.step ∷ []) (reply ∷ []))
is_exchange known m u o h tried request now reply fits asks r =
    record { fits = fits; clock = asks; replied = r.replied }

pub is_own : (known : Bool) (m u : Shown) (o : Opening) (h : List Step) (tried : List Write) (request : Request)
    (now : Option Moment) (reply : Reply) (r : Replied known request now reply m u o h tried)
    → IsOwn (own_context o) (exchange_of request now (r.step ∷ []) (reply ∷ []))
is_own known m u o h tried request now reply r = record {
  alone = (r.caller, tt);
  few = λ other. omega arith;
  quiet = subst (QuietCalls (Some reply)) (one_more (one_if_quiet r.step.entry.call)) r.quiet;
}
  where
    one_more : (n : ℕ) → n ≡ n + 0
    one_more n = omega arith

module _ (known : Bool) (v m u : Shown) (o : Opening) (h : List Step) (first : List Write) (xs : List Exchange)
    (a : AreMade known v m o h first xs) where
  made_on : (x : Exchange) (left : List Write) → IsExchange (own_context o) (point_of o (h ++ steps_of xs)) x
      → is_quit x.request ≡ false → IsOwn (own_context o) x
      → Tries (log_of o (h ++ steps_of xs)) a.tried x left
      → Follows known u o ((h ++ steps_of xs) ++ x.steps) left
      → (IsTrue known → KeepsPast m.files.told u.files.told)
      → (IsTrue known → AllByRecursion (IsSince (clock m.files.told)) x.steps)
      → (IsTrue known → CrashesWithin m.files.told u.files.told o (h ++ steps_of xs) a.tried x)
      → AreMade known v u o h first (xs ++ x ∷ [])
  made_on x left is goes own tries follows past since crash =
      let c = own_context o in
      let h2 = h ++ steps_of xs in
      let all = sym (steps_on h xs x) in
      record {
        tried = left;
        served = served-append c (point_of o h) xs (x ∷ []) a.served
            (subst (λ (q : Point). AreServed c q (x ∷ [])) (point_of-append o h (steps_of xs)) (is, goes, tt));
        own = own_more c xs x a.own own;
        log = ap (log_of o) (steps_on h xs x) ∙ log_on c h2 x is own
            ∙ ap (λ (ws : List Write). ws ++ told_by x.request (moment_of x.now) x.replies) a.log
            ∙ append_assoc (log_of o h) (told_writes xs) (told_by x.request (moment_of x.now) x.replies)
            ∙ ap (λ (ws : List Write). log_of o h ++ ws) (sym (told_on xs x));
        tries = subst (λ (k : List Step). MayBeTried (log_of o k) first (xs ++ x ∷ []) left) all
            (tries_on (log_of o h2) (log_of o (h2 ++ x.steps)) first a.tried left xs x (log_on c h2 x is own) a.tries
            tries);
        follows = subst (λ (k : List Step). Follows known u o k left) all follows;
        crash = λ t. crashes_on v.files.told m.files.told u.files.told o h h2 first a.tried xs x refl a.tries
            (a.crash t) (past t) (since t) (crash t);
      }

  -- a request that one line answers, by one step
  pub made_more : (request : Request) (now : Option Moment) (reply : Reply) → Fits request
      → is_quit request ≡ false → is_some now ≡ asks_clock request
      → (r : Replied known request now reply m u o (h ++ steps_of xs) a.tried)
      → AreMade known v u o h first (xs ++ exchange_of request now (r.step ∷ []) (reply ∷ []) ∷ [])
  made_more request now reply fits goes asks r =
      made_on (exchange_of request now (r.step ∷ []) (reply ∷ [])) r.left
      (is_exchange known m u o (h ++ steps_of xs) a.tried request now reply fits asks r) goes
      (is_own known m u o (h ++ steps_of xs) a.tried request now reply r)
      r.tries r.follows r.past
      (λ tell. (
        (clock u.files.told, r.at ∙ at_told known u.files.told tell, (r.past tell).later),
        tt,
      ))
      (λ tell k low high. record {
        later = (is_later known u.files.told r.step k tell r.at high, tt);
        meets = r.crash tell k low (omega (arith, high));
      })

-- memory was refused before the store was asked
pub made_unasked : (known : Bool) (v m : Shown) (o : Opening) (h : List Step) (first : List Write) (xs : List Exchange)
    (request : Request) (now : Option Moment) → Fits request → may_refuse request Memory ≡ true
    → is_quit request ≡ false → is_some now ≡ asks_clock request
    → told_by request (moment_of now) (Memory ∷ []) ≡ []
    → AreMade known v m o h first xs
    → AreMade known v m o h first (xs ++ exchange_of request now [] (Memory ∷ []) ∷ [])
made_unasked known v m o h first xs request now fits may goes asks told a =
    let x = exchange_of request now [] (Memory ∷ []) in
    let h2 = h ++ steps_of xs in
    made_on known v m m o h first xs a x a.tried
    (record {
      fits = fits;
      clock = asks;
      replied = inr (inl (record { line = Memory; called = refl; lines = refl; may = may; cause = tt }));
    })
    goes
    (record { alone = tt; few = λ other. omega arith; quiet = omega arith })
    (inr (inl (refl, told)))
    (subst (λ (k : List Step). Follows known m o k a.tried) (sym (append-nil h2)) a.follows)
    (λ tell. past_same m.files.told m.files.told refl)
    (λ tell. tt)
    (λ tell k low high. absurd (omega (arith, low, high)))

-- ---- the entry of the one step of a request that was answered

heard_said : (call : Call) (answer : Answer) (s : Said) → heard call answer ≡ s ∷ [] → said call answer ≡ s
heard_said Quiet answer s is = absurd (cc is)
heard_said call answer s is = cc is

entry_said : (e : Entry) (s : Said) → e.caller ≡ 0 → said e.call e.reply ≡ s → e ≡ entry_by 0 s.call s.answer
entry_said e s caller is =
    let by : ℕ → Said → Entry = λ n t. entry_by n t.call t.answer in
    ap (λ (n : ℕ). by n (said e.call e.reply)) caller ∙ ap (by 0) is

first_is : (a b : Reply) → a ∷ [] ≡ b ∷ [] → a ≡ b
first_is a b is = cc is

-- the caller's one call
pub entry_called : (o : Opening) (p : Point) (step : Step) (call : Call) (answer : Answer) → step.entry.caller ≡ 0
    → own_calls (own_context o) (events p (step ∷ [])) ≡ said call answer ∷ []
    → step.entry ≡ entry_by 0 call answer
entry_called o p step call answer caller is =
    entry_said step.entry (said call answer) caller
    (heard_said step.entry.call step.entry.reply (said call answer)
    (sym (calls_behind (own_context o) p [] step step.entry.call step.entry.reply tt
    (entry_said step.entry (said step.entry.call step.entry.reply) caller refl)) ∙ is))

-- Where a reply is no refusal of the request, the one step of the request is the call whose answer the reply shows.
pub entry_shown : (o : Opening) (p : Point) (request : Request) (step : Step) (call : Call) (answer : Answer)
    (Shows : Answer → Reply → Type 0) (reply : Reply) → step.entry.caller ≡ 0
    → ((a : Answer) (shown : Reply) → reply ≡ shown → Shows a shown → a ≡ answer)
    → (may_refuse request reply ≡ true → ⊥)
    → OneCall call Shows (own_calls (own_context o) (events p (step ∷ []))) (reply ∷ [])
    ⊎ (Refuses (own_context o) request (events p (step ∷ [])) (reply ∷ []) ⊎ ⊥)
    → step.entry ≡ entry_by 0 call answer
entry_shown o p request step call answer Shows reply caller same never (inl one) =
    entry_called o p step call one.answer caller one.called
    ∙ ap (entry_by 0 call) (same one.answer one.reply (first_is reply one.reply one.lines) one.shows)
entry_shown o p request step call answer Shows reply caller same never (inr (inl refuses)) =
    absurd (never (subst (λ (l : Reply). may_refuse request l ≡ true)
    (sym (first_is reply refuses.line refuses.lines)) refuses.may))
entry_shown o p request step call answer Shows reply caller same never (inr (inr fails)) = absurd fails
