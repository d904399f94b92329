-- Each refusal line has its cause in its own exchange, and DISK lines are at most as many as the
-- disk's faults.
use Rattle.std.proofs.Common.{◌≡◌, ◌∙◌, ◌⊎◌, ℕ, ◌+◌, ◌≤◌, List, [], ◌∷◌, ◌++◌, Bool, true, false}
use Rattle.std.proofs.Common.{Option, Some, None}
use Rattle.std.proofs.Common.{refl, sym, ap, subst, inl, inr, arith}
use Rattle.std.specs.Prelude.{◌==◌, cond}
use Rattle.std.proofs.lemmas.Bool.{true≢false}
use Rattle.std.proofs.lemmas.List.{same_from_push}
use Rattle.bk_base.specs.declared.calls.Answer.{Answer}
use Rattle.bk_base.specs.declared.calls.Answer.TheVariants.{Nothing, Found}
use Rattle.bk_base.specs.declared.calls.Answer.TheVariants.{Numbered as numbered_answer}
use Rattle.bk_base.specs.declared.histories.Step.{Step}
use Rattle.bk_base.specs.declared.numbers.Moment.{Moment}
use Rattle.bk_base.specs.declared.requests.Reply.{Reply}
use Rattle.bk_base.specs.declared.requests.Reply.TheVariants.{Value, Absent, Numbered, Synced}
use Rattle.bk_base.specs.declared.requests.Reply.TheVariants.{Stat as stat_line, Bye, Disk}
use Rattle.bk_base.specs.declared.requests.Request.{Request}
use Rattle.bk_base.specs.declared.requests.Request.TheVariants.{Get, Put, Delete, Fold, Keys, Sync}
use Rattle.bk_base.specs.declared.requests.Request.TheVariants.{Stat, Quit}
use Rattle.bk_base.specs.declared.statuses.SessionEnd.{SessionEnd}
use Rattle.bk_base.specs.declared.statuses.SessionEnd.TheVariants.{Quit as quit_end, Sink}
use Rattle.bk_base.specs.declared.statuses.SessionEnd.TheVariants.{Memory as memory_end, Disk as disk_end}
use Rattle.bk_exchange.specs.Points.{AtOne, Event, Point, events, next_point, own, point_after}
use Rattle.bk_exchange.specs.Listings.{Row, row_lines}
use Rattle.bk_exchange.specs.Answers.{Context, ShowsDelete, ShowsGet, ShowsPut, ShowsSync}
use Rattle.bk_exchange.specs.Refusals.{Cause, is_refusal}
use Rattle.bk_exchange.specs.Exchanges.{Exchange, IsCut, IsExchange, Replies, last_of, moment_of}
use Rattle.bk_exchange.specs.Exchanges.{steps_of}
use Rattle.bk_exchange.specs.Exchanges.{disk_lines, faults_in, one_if_disk}
use Rattle.bk_exchange.specs.Sessions.{AreServed, IsLast, IsQuit, IsTranscript, Transcript, as_list}
use Rattle.bk_exchange.specs.Sessions.{exchanges}
use Rattle.bk_exchange.proofs.EndFacts.{closed}
use Rattle.bk_exchange.proofs.Stretches.{steps-append}

-- ---- causes

pub get_answers : (answer : Answer) (reply : Reply) → ShowsGet answer reply
    → is_refusal reply ≡ false
get_answers (Found value) (Value shown) shows = refl
get_answers Nothing Absent shows = refl
get_answers answer reply shows = absurd shows

pub put_answers : (answer : Answer) (reply : Reply) → ShowsPut answer reply
    → is_refusal reply ≡ false
put_answers (numbered_answer seq) (Numbered shown) shows = refl
put_answers answer reply shows = absurd shows

pub delete_answers : (answer : Answer) (reply : Reply) → ShowsDelete answer reply
    → is_refusal reply ≡ false
delete_answers (numbered_answer seq) (Numbered shown) shows = refl
delete_answers Nothing Absent shows = refl
delete_answers answer reply shows = absurd shows

pub sync_answers : (answer : Answer) (reply : Reply) → ShowsSync answer reply
    → is_refusal reply ≡ false
sync_answers (numbered_answer seq) (Synced shown) shows = refl
sync_answers answer reply shows = absurd shows

last_is : (lines rows : List Reply) (line other : Reply) (replies : List Reply)
    → replies ≡ lines ++ line ∷ []
    → replies ≡ rows ++ other ∷ [] → other ≡ line
last_is lines rows line other replies is so = sym (same_from_push lines rows line other (sym is
    ∙ so)).1

pub no_refusal : {A : Type 0} (lines rows : List Reply) (line other : Reply) (replies : List Reply)
    → replies ≡ lines ++ line ∷ [] → replies ≡ rows ++ other ∷ [] → is_refusal line ≡ true
    → is_refusal other ≡ false → A
no_refusal lines rows line other replies is so refusal none =
    absurd (true≢false (sym (ap is_refusal (last_is lines rows line other replies is so)
    ∙ refusal) ∙ none))

its_cause : (c : Context) (request : Request) (es : List Event) (lines rows : List Reply)
    (line other : Reply)
    (replies : List Reply) → replies ≡ lines ++ line ∷ [] → replies ≡ rows ++ other ∷ []
    → Cause c request other es → Cause c request line es
its_cause c request es lines rows line other replies is so cause =
    subst (λ (l : Reply). Cause c request l es) (last_is lines rows line other replies is so) cause

caused_of : (c : Context) (request : Request) (now : Moment) (es : List Event)
    (lines : List Reply) (line : Reply)
    (replies : List Reply) → Replies c request now es replies → replies ≡ lines ++ line ∷ []
    → is_refusal line ≡ true → Cause c request line es
caused_of c request now es lines line replies (inr (inl r)) is refusal =
    its_cause c request es lines [] line r.line replies is r.lines r.cause
caused_of c (Get key) now es lines line replies (inl a) is refusal =
    no_refusal lines [] line a.reply replies is a.lines refusal
    (get_answers a.answer a.reply a.shows)
caused_of c (Get key) now es lines line replies (inr (inr f)) is refusal =
    its_cause c (Get key) es lines [] line f.line replies is f.lines f.cause
caused_of c (Put key value) now es lines line replies (inl a) is refusal =
    no_refusal lines [] line a.reply replies is a.lines refusal
    (put_answers a.answer a.reply a.shows)
caused_of c (Put key value) now es lines line replies (inr (inr f)) is refusal = absurd f
caused_of c (Delete key) now es lines line replies (inl a) is refusal =
    no_refusal lines [] line a.reply replies is a.lines refusal
    (delete_answers a.answer a.reply a.shows)
caused_of c (Delete key) now es lines line replies (inr (inr f)) is refusal = absurd f
caused_of c Fold now es lines line replies (inl a) is refusal =
    no_refusal lines (row_lines Fold a.rows) line _ replies is a.lines refusal refl
caused_of c Fold now es lines line replies (inr (inr f)) is refusal =
    its_cause c Fold es lines (row_lines Fold f.rows) line f.line replies is f.lines f.cause
caused_of c Keys now es lines line replies (inl a) is refusal =
    no_refusal lines (row_lines Keys a.rows) line _ replies is a.lines refusal refl
caused_of c Keys now es lines line replies (inr (inr f)) is refusal =
    its_cause c Keys es lines (row_lines Keys f.rows) line f.line replies is f.lines f.cause
caused_of c Sync now es lines line replies (inl a) is refusal =
    no_refusal lines [] line a.reply replies is a.lines refusal
    (sync_answers a.answer a.reply a.shows)
caused_of c Sync now es lines line replies (inr (inr f)) is refusal = absurd f
caused_of c Stat now es lines line replies (inl a) is refusal =
    no_refusal lines [] line
    (stat_line a.keys a.files a.total a.live) replies is a.lines refusal refl
caused_of c Stat now es lines line replies (inr (inr f)) is refusal = absurd f
caused_of c Quit now es lines line replies (inl a) is refusal =
    no_refusal lines [] line Bye replies is a.lines refusal refl
caused_of c Quit now es lines line replies (inr (inr f)) is refusal = absurd f

pub caused : (c : Context) (p : Point) (x : Exchange) (lines : List Reply) (line : Reply)
    → IsExchange c p x
    → x.replies ≡ lines ++ line ∷ [] → is_refusal line ≡ true
    → Cause c x.request line (events p x.steps)
caused c p x lines line is lines_are refusal =
    caused_of c x.request (moment_of x.now)
    (events p x.steps) lines line x.replies is.replied lines_are refusal

-- ---- counts

pub last-append : (lines : List Reply) (line : Reply) → last_of (lines ++ line ∷ []) ≡ Some line
last-append [] line = refl
last-append (first ∷ []) line = refl
last-append (first ∷ next ∷ lines) line = last-append (next ∷ lines) line

-- where one of the caller's events had a fault, the steps had one
one_fault : (who : ℕ) (p : Point) (steps : List Step)
    → AtOne (λ (e : Event). 1 ≤ e.step.faults) (own who (events p steps)) → 1 ≤ faults_in steps
one_fault who p [] none = absurd none
one_fault who p (step ∷ steps) at = go (step.entry.caller == who) at (one_fault who
    (next_point p step) steps)
  where
    e : Event
    e = record { before = p; step = step }

    later : List Event
    later = own who (events (next_point p step) steps)

    go : (b : Bool) → AtOne (λ (f : Event). 1 ≤ f.step.faults) (cond b (e ∷ later) later)
        → (AtOne (λ (f : Event). 1 ≤ f.step.faults) later → 1 ≤ faults_in steps)
        → 1 ≤ step.faults + faults_in steps
    go true (inl here) goes_on = omega arith
    go true (inr behind) goes_on = let more = goes_on behind in omega arith
    go false behind goes_on = let more = goes_on behind in omega arith

one_line_faults : (c : Context) (p : Point) (x : Exchange) (lines : List Reply) (line : Reply)
    → IsExchange c p x
    → x.replies ≡ lines ++ line ∷ [] → one_if_disk (Some line) ≤ faults_in x.steps
one_line_faults c p x lines Disk is lines_are =
    one_fault c.who p x.steps (caused c p x lines Disk is lines_are refl)
one_line_faults c p x lines line is lines_are = omega arith

exchange_faults : (c : Context) (p : Point) (x : Exchange) → IsExchange c p x
    → one_if_disk (last_of x.replies) ≤ faults_in x.steps
exchange_faults c p x is =
    let shut = closed c p x is in
    let rows = row_lines x.request shut.rows in
    subst (λ (o : Option Reply). one_if_disk o ≤ faults_in x.steps)
    (sym (ap last_of shut.lines ∙ last-append rows shut.line))
    (one_line_faults c p x rows shut.line is shut.lines)

pub faults-append : (h k : List Step) → faults_in (h ++ k) ≡ faults_in h + faults_in k
faults-append [] k = omega arith
faults-append (step ∷ h) k = let more = faults-append h k in omega arith

pub disk_lines-append : (xs ys : List Exchange)
    → disk_lines (xs ++ ys) ≡ disk_lines xs + disk_lines ys
disk_lines-append [] ys = omega arith
disk_lines-append (x ∷ xs) ys = let more = disk_lines-append xs ys in omega arith

served_faults : (c : Context) (p : Point) (xs : List Exchange) → AreServed c p xs
    → disk_lines xs ≤ faults_in (steps_of xs)
served_faults c p [] s = omega arith
served_faults c p (x ∷ xs) s =
    let here = exchange_faults c p x s.0 in
    let later = served_faults c (point_after p x.steps) xs s.2 in
    let all = faults-append x.steps (steps_of xs) in
    omega arith

no_disk_row : (request : Request) (rows : List Row)
    → one_if_disk (last_of (row_lines request rows)) ≡ 0
no_disk_row request [] = refl
no_disk_row Keys (row ∷ []) = refl
no_disk_row request (row ∷ []) = refl
no_disk_row request (row ∷ next ∷ rows) = no_disk_row request (next ∷ rows)

either_faults : (c : Context) (p : Point) (x : Exchange) → IsQuit c p x ⊎ IsCut c p x
    → disk_lines (x ∷ []) ≤ faults_in (steps_of (x ∷ []))
either_faults c p x (inl quit) =
    let here = exchange_faults c p x quit.1 in
    let all = faults-append x.steps [] in
    omega arith
either_faults c p x (inr cut) =
    let none : one_if_disk (last_of x.replies) ≡ 0 =
    ap (λ (l : List Reply). one_if_disk (last_of l)) cut.lines ∙ no_disk_row x.request cut.rows in
    omega arith

last_faults : (c : Context) (p : Point) (end : SessionEnd) (last : Option Exchange)
    → IsLast c p end last
    → disk_lines (as_list last) ≤ faults_in (steps_of (as_list last))
last_faults c p end None is = omega arith
last_faults c p quit_end (Some x) is = either_faults c p x (inl is)
last_faults c p Sink (Some x) is = either_faults c p x is
last_faults c p memory_end (Some x) is = either_faults c p x is
last_faults c p disk_end (Some x) is = either_faults c p x is
last_faults c p end (Some x) is = absurd is

pub session_faults : (c : Context) (p : Point) (end : SessionEnd) (t : Transcript)
    → IsTranscript c p end t
    → disk_lines (exchanges t) ≤ faults_in (steps_of (exchanges t))
session_faults c p end t said =
    let served = served_faults c p t.served said.served in
    let last = last_faults c (point_after p (steps_of t.served)) end t.last said.last in
    let lines = disk_lines-append t.served (as_list t.last) in
    let steps = ap faults_in (steps-append t.served (as_list t.last)) in
    let faults = faults-append (steps_of t.served) (steps_of (as_list t.last)) in
    omega arith
