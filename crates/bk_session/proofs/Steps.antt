-- What one exchange more does to a session on one thread: to the log, to what was tried, and to what a crash
-- leaves.
use Rattle.std.proofs.Common.{◌≡◌, ◌∙◌, ◌⊎◌, ℕ, ◌<◌, ◌≤◌, List, [], ◌∷◌, ◌++◌, length, take, refl, sym, ap}
use Rattle.std.proofs.Common.{subst, arith, inl, inr, append_assoc, Some}
use Rattle.std.specs.List.{AllByRecursion}
use Rattle.std.proofs.lemmas.Bool.{cases_lt}
use Rattle.std.proofs.lemmas.List.{append-nil, length-append, take-append-le}
use Rattle.bk_base.specs.declared.histories.Opening.{Opening}
use Rattle.bk_base.specs.declared.histories.Step.{Step}
use Rattle.bk_base.specs.declared.numbers.Moment.{Moment}
use Rattle.bk_base.specs.declared.requests.Reply.TheVariants.{Disk}
use Rattle.bk_base.specs.declared.requests.Request.{Request}
use Rattle.bk_base.specs.declared.requests.Request.TheVariants.{Put, Delete}
use Rattle.bk_base.specs.declared.statuses.SessionEnd.TheVariants.{Memory as memory_end}
use Rattle.bk_base.specs.declared.writes.Write.{Write}
use Rattle.bk_disk.specs.Crashes.{fronts_at}
use Rattle.bk_disk.specs.Told.{Front, Image, Table, Told, clock}
use Rattle.bk_exchange.proofs.Events.{point_of-append, state_of_point}
use Rattle.bk_exchange.proofs.OkLines.{session_tells}
use Rattle.bk_exchange.proofs.OneCaller.{alone_all, log_at}
use Rattle.bk_exchange.proofs.Stretches.{steps-append}
use Rattle.bk_exchange.proofs.Tries.{tried_kept, tried_new}
use Rattle.bk_exchange.specs.Answers.{Context}
use Rattle.bk_exchange.specs.Exchanges.{Exchange, IsCut, moment_of, steps_of}
use Rattle.bk_exchange.specs.OneThread.{IsOwn, MayBeTried}
use Rattle.bk_exchange.specs.Points.{Event, Point, calls_of, events, own, point_of}
use Rattle.bk_exchange.specs.Sessions.{IsQuit}
use Rattle.bk_exchange.specs.Writes.{told_by, write_asked, writes_in}
use Rattle.bk_image.specs.Prefix.{MeetsEither, Prefix}
use Rattle.bk_laws.specs.History.{State, log_of}
use Rattle.bk_laws.specs.Log.{SameMap}
use Rattle.bk_session.specs.Crashes.{CrashesBetween, asked_first}
use Rattle.bk_session.specs.Serving.{CrashesWithin, IsLater, IsSince, Tries}
use Rattle.bk_store.specs.Events.{KeepsPast}
use Rattle.bk_store.specs.History.{kept_of}

-- ---- the log

-- the exchange within which a session ended
pub log_last : (c : Context) (h : List Step) (x : Exchange)
    → IsQuit c (point_of c.opening h) x ⊎ IsCut c (point_of c.opening h) x → IsOwn c x
    → log_of c.opening (h ++ x.steps)
    ≡ log_of c.opening h ++ told_by x.request (moment_of x.now) x.replies
log_last c h x is own_steps =
    let o = c.opening in
    let p = point_of o h in
    let tells = session_tells c p memory_end (record { served = []; last = Some x })
    (record { served = tt; last = is }) in
    ap (λ (q : State). q.log) (sym (state_of_point o (h ++ x.steps)))
    ∙ ap (λ (q : Point). q.state.log) (point_of-append o h x.steps)
    ∙ log_at p x.steps
    ∙ ap (λ (q : State). q.log ++ writes_in (calls_of (events p x.steps))) (state_of_point o h)
    ∙ ap (λ (es : List Event). log_of o h ++ writes_in (calls_of es)) (sym
    (alone_all c.who p x.steps own_steps.alone))
    ∙ ap (λ (ws : List Write). log_of o h ++ ws)
    (ap (λ (steps : List Step). writes_in (calls_of (own c.who (events p steps)))) (sym (append-nil x.steps))
    ∙ tells ∙ append-nil (told_by x.request (moment_of x.now) x.replies))

-- ---- what was tried

told_disk : (request : Request) (now : Moment) → told_by request now (Disk ∷ []) ≡ []
told_disk (Put key value) now = refl
told_disk (Delete key) now = refl
told_disk request now = refl

-- a log to which nothing was added
same_log : (log later told : List Write) → later ≡ log ++ told → told ≡ [] → log ≡ later
same_log log later told is none =
    sym (is ∙ ap (λ (ws : List Write). log ++ ws) none ∙ append-nil log)

pub tries_on : (log later first tried left : List Write) (xs : List Exchange) (x : Exchange)
    → later ≡ log ++ told_by x.request (moment_of x.now) x.replies
    → MayBeTried log first xs tried → Tries log tried x left
    → MayBeTried later first (xs ++ x ∷ []) left
tries_on log later first tried left xs x gains so (inl none) = inl none
tries_on log later first tried left xs x gains so (inr (inl kept)) =
    subst (λ (ws : List Write). MayBeTried later first (xs ++ x ∷ []) ws) (sym kept.0)
    (tried_kept later first tried xs x
    (subst (λ (ws : List Write). MayBeTried ws first xs tried)
    (same_log log later (told_by x.request (moment_of x.now) x.replies) gains kept.1) so) kept.1)
tries_on log later first tried left xs x gains so (inr (inr new)) =
    let none : told_by x.request (moment_of x.now) x.replies ≡ [] =
    ap (told_by x.request (moment_of x.now)) new.0 ∙ told_disk x.request (moment_of x.now) in
    subst (λ (ws : List Write). MayBeTried later first (xs ++ x ∷ []) ws)
    (ap (write_asked x.request (moment_of x.now))
    (sym (same_log log later (told_by x.request (moment_of x.now) x.replies) gains none)) ∙ sym new.1)
    (tried_new later first xs x new.0)

-- ---- crashes

-- what a prefix of a log meets, it meets with anything tried behind the log
longer : (image : Image) (log : List Write) (kept : ℕ) (more : List Write) → Prefix image log kept []
    → Prefix image log kept more
longer image log kept more p =
    let few : p.part.n ≤ length log = omega (arith, p.part.high, ap length (append-nil log)) in
    record {
      found = p.found;
      sound = p.sound;
      part = record {
        n = p.part.n;
        low = p.part.low;
        high = omega (arith, few, length-append log more);
        same_map = subst (λ (ws : List Write). SameMap p.found ws)
            (ap (take p.part.n) (append-nil log) ∙ sym (take-append-le p.part.n log more few)) p.part.same_map;
      };
    }

-- where nothing is asked, something may be
meets_more : (log tried more : List Write) (kept : ℕ) (fronts : Table Front)
    → MeetsEither log kept tried [] fronts → MeetsEither log kept tried more fronts
meets_more log tried more kept fronts meets image may chance =
    elim (meets image may chance) [
      | inl before ↦ inl before
      | inr none ↦ inr (longer image log kept more none)
    ]

one_more : (log tried : List Write) (kept : ℕ) (fronts : Table Front) (rest : List Exchange) (x : Exchange)
    → MeetsEither log kept tried (asked_first rest log) fronts
    → MeetsEither log kept tried (asked_first (rest ++ x ∷ []) log) fronts
one_more log tried kept fronts [] x meets =
    meets_more log tried (write_asked x.request (moment_of x.now) log) kept fronts meets
one_more log tried kept fronts (y ∷ rest) x meets = meets

all-append : {X : Type 0} (P : X → Type 0) (xs ys : List X) → AllByRecursion P xs → AllByRecursion P ys
    → AllByRecursion P (xs ++ ys)
all-append P [] ys a b = b
all-append P (x ∷ xs) ys a b = (a.0, all-append P xs ys a.1 b)

-- steps that ended from a moment on, ended later than one before it
later_than : (k n : ℕ) (steps : List Step) → k < n → AllByRecursion (IsSince n) steps
    → AllByRecursion (IsLater k) steps
later_than k n [] before since = tt
later_than k n (step ∷ steps) before since =
    let (at, is, from) = since.0 in
    ((at, is, omega (arith, before, from)), later_than k n steps before since.1)

steps_on : (k : ℕ) (rest : List Exchange) (x : Exchange) → AllByRecursion (IsLater k) (steps_of rest)
    → AllByRecursion (IsLater k) x.steps → AllByRecursion (IsLater k) (steps_of (rest ++ x ∷ []))
steps_on k rest x all here =
    subst (AllByRecursion (IsLater k)) (sym (steps-append rest (x ∷ [])))
    (all-append (IsLater k) (steps_of rest) (steps_of (x ∷ [])) all
    (subst (AllByRecursion (IsLater k)) (sym (append-nil x.steps)) here))

-- the moments of one exchange more come behind those before it
pub crashes_on : (start old new : Told) (o : Opening) (h h2 : List Step) (first tried : List Write)
    (xs : List Exchange) (x : Exchange)
    → h2 ≡ h ++ steps_of xs → MayBeTried (log_of o h2) first xs tried
    → CrashesBetween start old o h first xs → KeepsPast old new
    → AllByRecursion (IsSince (clock old)) x.steps → CrashesWithin old new o h2 tried x
    → CrashesBetween start new o h first (xs ++ x ∷ [])
crashes_on start old new o h h2 first tried xs x is so before past since within k low high =
    elim (cases_lt k (clock old)) [
      | inl lt ↦
          let c = before k low lt in
          record {
            done = c.done;
            rest = c.rest ++ x ∷ [];
            tried = c.tried;
            are = sym (append_assoc c.done c.rest (x ∷ []))
                ∙ ap (λ (l : List Exchange). l ++ x ∷ []) c.are;
            later = steps_on k c.rest x c.later (later_than k (clock old) x.steps lt since);
            tries = c.tries;
            meets = subst
                (λ (f : Table Front). MeetsEither (log_of o (h ++ steps_of c.done))
                (kept_of o (h ++ steps_of c.done)) c.tried
                (asked_first (c.rest ++ x ∷ []) (log_of o (h ++ steps_of c.done))) f)
                (sym (past.same k (omega (arith, lt))))
                (one_more (log_of o (h ++ steps_of c.done)) c.tried (kept_of o (h ++ steps_of c.done))
                (fronts_at old k) c.rest x c.meets);
          }
      | inr ge ↦
          let w = within k ge high in
          record {
            done = xs;
            rest = x ∷ [];
            tried = tried;
            are = refl;
            later = subst (AllByRecursion (IsLater k)) (sym (append-nil x.steps)) w.later;
            tries = subst (λ (s : List Step). MayBeTried (log_of o s) first xs tried) is so;
            meets = subst
                (λ (s : List Step). MeetsEither (log_of o s) (kept_of o s) tried
                (write_asked x.request (moment_of x.now) (log_of o s)) (fronts_at new k)) is w.meets;
          }
    ]
