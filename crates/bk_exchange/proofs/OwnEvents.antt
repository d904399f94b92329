-- On one thread a refusal is shown by the one event of its request.
use Rattle.std.proofs.Common.{◌≡◌, ◌∙◌, ℕ, ◌+◌, ◌≤◌, List, [], ◌∷◌, length, false, refl, sym, ap}
use Rattle.std.proofs.Common.{subst, inl, inr, arith}
use Rattle.std.proofs.lemmas.Bool.{true≢false}
use Rattle.std.proofs.lemmas.List.{length-append}
use Rattle.bk_base.specs.declared.calls.Answer.{Answer}
use Rattle.bk_base.specs.declared.calls.Call.{Call}
use Rattle.bk_base.specs.declared.calls.Call.TheVariants.{Quiet}
use Rattle.bk_base.specs.declared.histories.Step.{Step}
use Rattle.bk_base.specs.declared.numbers.Moment.{Moment}
use Rattle.bk_base.specs.declared.requests.Reply.{Reply}
use Rattle.bk_base.specs.declared.requests.Reply.TheVariants.{Disk, Read}
use Rattle.bk_base.specs.declared.requests.Request.{Request}
use Rattle.bk_base.specs.declared.requests.Request.TheVariants.{Get, Put, Delete, Sync, Stat, Quit}
use Rattle.bk_exchange.specs.Points.{AtOne, Event, Point, Said, calls_of, events, heard, next_point}
use Rattle.bk_exchange.specs.Points.{own}
use Rattle.bk_exchange.specs.Answers.{Context, own_calls}
use Rattle.bk_exchange.specs.Refusals.{is_listing, may_refuse, may_spoil}
use Rattle.bk_exchange.specs.Exchanges.{Exchange, IsExchange, Replies, last_of, moment_of}
use Rattle.bk_exchange.specs.OneThread.{HasOneStep, IsOwn, QuietCalls, one_if_quiet, quiet_in}
use Rattle.bk_exchange.proofs.Causes.{caused, delete_answers, get_answers, no_refusal, put_answers}
use Rattle.bk_exchange.proofs.Causes.{sync_answers}
use Rattle.bk_exchange.proofs.OneCaller.{alone_all}

-- ---- how many steps there are

one_each : (call : Call) (answer : Answer) → length (heard call answer) + one_if_quiet call ≡ 1
one_each Quiet answer = refl
one_each call answer = refl

steps_counted : (p : Point) (steps : List Step)
    → length steps ≡ length (calls_of (events p steps)) + quiet_in steps
steps_counted p [] = refl
steps_counted p (step ∷ steps) =
    let later = calls_of (events (next_point p step) steps) in
    let here = one_each step.entry.call step.entry.reply in
    let both = length-append (heard step.entry.call step.entry.reply) later in
    let more = steps_counted (next_point p step) steps in
    omega arith

one_of : (steps : List Step) → length steps ≡ 1 → (step : Step) × (steps ≡ step ∷ [])
one_of [] is = absurd (omega arith)
one_of (step ∷ []) is = (step, refl)
one_of (step ∷ next ∷ steps) is = absurd (omega arith)

counted : (c : Context) (p : Point) (x : Exchange) (n : ℕ) (said : List Said) → IsOwn c x
    → own_calls c (events p x.steps) ≡ said → quiet_in x.steps ≡ n → length said + n ≡ 1
    → length x.steps ≡ 1
counted c p x n said alone calls quiet one =
    let all = steps_counted p x.steps in
    let is : length (calls_of (events p x.steps)) ≡ length said =
    ap (λ (es : List Event). length (calls_of es)) (sym (alone_all c.who p x.steps alone.alone))
    ∙ ap length calls in
    omega arith

-- ---- the calls behind a line

none_for_disk : (c : Context) (request : Request) (now : Moment) (es : List Event)
    (replies : List Reply)
    → Replies c request now es replies → is_listing request ≡ false → replies ≡ Disk ∷ []
    → own_calls c es ≡ []
none_for_disk c request now es replies (inr (inl r)) other is = r.called
none_for_disk c (Get key) now es replies (inl a) other is =
    no_refusal [] [] Disk a.reply replies is a.lines refl (get_answers a.answer a.reply a.shows)
none_for_disk c (Get key) now es replies (inr (inr f)) other is =
    let line : f.line ≡ Disk = cc (f.lines, is) in absurd (true≢false (sym (ap may_spoil
    (sym line) ∙ f.may)))
none_for_disk c (Put key value) now es replies (inl a) other is =
    no_refusal [] [] Disk a.reply replies is a.lines refl (put_answers a.answer a.reply a.shows)
none_for_disk c (Put key value) now es replies (inr (inr f)) other is = absurd f
none_for_disk c (Delete key) now es replies (inl a) other is =
    no_refusal [] [] Disk a.reply replies is a.lines refl (delete_answers a.answer a.reply a.shows)
none_for_disk c (Delete key) now es replies (inr (inr f)) other is = absurd f
none_for_disk c Sync now es replies (inl a) other is =
    no_refusal [] [] Disk a.reply replies is a.lines refl (sync_answers a.answer a.reply a.shows)
none_for_disk c Sync now es replies (inr (inr f)) other is = absurd f
none_for_disk c Stat now es replies (inl a) other is = a.called
none_for_disk c Stat now es replies (inr (inr f)) other is = absurd f
none_for_disk c Quit now es replies (inl a) other is = a.called
none_for_disk c Quit now es replies (inr (inr f)) other is = absurd f
none_for_disk c request now es replies replied other is = absurd (true≢false other)

abbrev Finds : Context → List Event → Type 0
Finds c es = (call : Said) × (own_calls c es ≡ call ∷ [])

found_for_read : (c : Context) (request : Request) (now : Moment) (es : List Event)
    (replies : List Reply)
    → Replies c request now es replies → is_listing request ≡ false → replies ≡ Read ∷ []
    → Finds c es
found_for_read c request now es replies (inr (inl r)) other is =
    let line : r.line ≡ Read = cc (r.lines, is) in
    absurd (true≢false (sym (ap (may_refuse request) (sym line) ∙ r.may)))
found_for_read c (Get key) now es replies (inl a) other is =
    no_refusal [] [] Read a.reply replies is a.lines refl (get_answers a.answer a.reply a.shows)
found_for_read c (Get key) now es replies (inr (inr f)) other is = (_, f.called)
found_for_read c (Put key value) now es replies (inl a) other is =
    no_refusal [] [] Read a.reply replies is a.lines refl (put_answers a.answer a.reply a.shows)
found_for_read c (Put key value) now es replies (inr (inr f)) other is = absurd f
found_for_read c (Delete key) now es replies (inl a) other is =
    no_refusal [] [] Read a.reply replies is a.lines refl (delete_answers a.answer a.reply a.shows)
found_for_read c (Delete key) now es replies (inr (inr f)) other is = absurd f
found_for_read c Sync now es replies (inl a) other is =
    no_refusal [] [] Read a.reply replies is a.lines refl (sync_answers a.answer a.reply a.shows)
found_for_read c Sync now es replies (inr (inr f)) other is = absurd f
found_for_read c Stat now es replies
    (inl a) other is = no_refusal [] [] Read _ replies is a.lines refl refl
found_for_read c Stat now es replies (inr (inr f)) other is = absurd f
found_for_read c Quit now es replies
    (inl a) other is = no_refusal [] [] Read _ replies is a.lines refl refl
found_for_read c Quit now es replies (inr (inr f)) other is = absurd f
found_for_read c request now es replies replied other is = absurd (true≢false other)

-- ---- the one event

at_the_one : (c : Context) (p : Point) (x : Exchange) (P : Step → Type 0) → IsOwn c x
    → length x.steps ≡ 1
    → AtOne (λ (e : Event). P e.step) (own c.who (events p x.steps)) → HasOneStep P x.steps
at_the_one c p x P alone one at =
    let it = one_of x.steps one in
    let all = subst (AtOne (λ (e : Event). P e.step)) (alone_all c.who p x.steps alone.alone) at in
    record {
      step = it.0;
      all = it.1;
      fact = only (record { before = p; step = it.0 }) (subst (λ (steps : List Step). AtOne (λ
          (e : Event). P e.step) (events p steps)) it.1 all);
    }
  where
    only : (e : Event) → AtOne (λ (f : Event). P f.step) (e ∷ []) → P e.step
    only e (inl here) = here
    only e (inr none) = absurd none

pub disk_is_its_own : (c : Context) (p : Point) (x : Exchange) → IsExchange c p x → IsOwn c x
    → is_listing x.request ≡ false → x.replies ≡ Disk ∷ []
    → HasOneStep (λ (step : Step). 1 ≤ step.faults) x.steps
disk_is_its_own c p x is alone other disk =
    let calls = none_for_disk c x.request (moment_of x.now)
    (events p x.steps) x.replies is.replied other disk in
    let quiet = subst (λ (l : List Reply). QuietCalls (last_of l)
    (quiet_in x.steps)) disk alone.quiet in
    at_the_one c p x (λ (step : Step). 1 ≤ step.faults) alone
    (counted c p x 1 [] alone calls quiet refl)
    (caused c p x [] Disk is disk refl)

pub read_is_its_own : (c : Context) (p : Point) (x : Exchange) → IsExchange c p x → IsOwn c x
    → is_listing x.request ≡ false → x.replies ≡ Read ∷ []
    → HasOneStep (λ (step : Step). 1 ≤ step.views) x.steps
read_is_its_own c p x is alone other unread =
    let calls = found_for_read c x.request (moment_of x.now)
    (events p x.steps) x.replies is.replied other unread in
    let quiet = subst (λ (l : List Reply). QuietCalls (last_of l)
    (quiet_in x.steps)) unread alone.quiet in
    at_the_one c p x (λ (step : Step). 1 ≤ step.views) alone
    (counted c p x 0 (calls.0 ∷ []) alone calls.1 quiet refl) (caused c p x [] Read is unread refl)
