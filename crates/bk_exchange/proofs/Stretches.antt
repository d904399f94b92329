-- How a session goes on: nothing yet, one exchange, two stretches one after the other; and how it
-- ends.
use Rattle.std.proofs.Common.{◌≡◌, ◌∙◌, List, [], ◌∷◌, ◌++◌, Bool, true, false, length, refl, sym}
use Rattle.std.proofs.Common.{ap, subst}
use Rattle.std.proofs.Common.{Option, Some, None, ℕ}
use Rattle.std.specs.Prelude.{IsTrue}
use Rattle.std.specs.List.{flat_map}
use Rattle.std.specs.Option.{is_none}
use Rattle.std.proofs.lemmas.List.{append-nil, append_assoc}
use Rattle.std.proofs.lemmas.List.Concat.{flat_map-append}
use Rattle.bk_base.specs.declared.histories.Step.{Step}
use Rattle.bk_base.specs.declared.numbers.Moment.{Moment}
use Rattle.bk_base.specs.declared.statuses.SessionEnd.{SessionEnd}
use Rattle.bk_laws.specs.Wire.{reply_text, request_text}
use Rattle.bk_exchange.specs.Points.{Point, point_after, point_of}
use Rattle.bk_exchange.specs.Answers.{Context}
use Rattle.bk_exchange.specs.Refusals.{is_quit}
use Rattle.bk_exchange.specs.Exchanges.{Exchange, IsExchange, asked_in, moments_of, replies_of}
use Rattle.bk_exchange.specs.Exchanges.{requests_of, steps_of}
use Rattle.bk_exchange.specs.Sessions.{AreServed, IsAt, IsLast, Reads, Session, SoFar, Telling}
use Rattle.bk_exchange.specs.Sessions.{Ticks, Traffic}
use Rattle.bk_exchange.specs.Sessions.{Writes, later_moments}
use Rattle.bk_exchange.proofs.Events.{point_after-append, point_of-append}

pub requests-append : (xs ys : List Exchange)
    → requests_of (xs ++ ys) ≡ requests_of xs ++ requests_of ys
requests-append xs ys = flat_map-append (λ (x : Exchange). request_text x.request) xs ys

pub replies-append : (xs ys : List Exchange)
    → replies_of (xs ++ ys) ≡ replies_of xs ++ replies_of ys
replies-append xs ys = flat_map-append (λ (x : Exchange). flat_map reply_text x.replies) xs ys

pub steps-append : (xs ys : List Exchange) → steps_of (xs ++ ys) ≡ steps_of xs ++ steps_of ys
steps-append xs ys = flat_map-append (λ (x : Exchange). x.steps) xs ys

pub moments-append : (xs ys : List Exchange)
    → moments_of (xs ++ ys) ≡ moments_of xs ++ moments_of ys
moments-append xs ys = flat_map-append (λ (x : Exchange). asked_in x.now) xs ys

ticks-append : (ms ns old middle new : List Moment) → Ticks ms old middle → Ticks ns middle new
    → Ticks (ms ++ ns) old new
ticks-append [] ns old middle new a b = subst (λ (l : List Moment). Ticks ns l new) a b
ticks-append (m ∷ ms) ns old middle new a b = (
  a.0,
  ticks-append ms ns
      (later_moments old) middle new a.1 b,
)

pub served-append : (c : Context) (p : Point) (xs ys : List Exchange) → AreServed c p xs
    → AreServed c (point_after p (steps_of xs)) ys → AreServed c p (xs ++ ys)
served-append c p [] ys a b = b
served-append c p (x ∷ xs) ys a b = (
  a.0,
  a.1,
  served-append c (point_after p x.steps) xs ys a.2
      (subst (λ (q : Point). AreServed c q ys) (point_after-append p x.steps (steps_of xs)) b),
)

pub nothing_yet : (c : Context) (ticking : Bool) (h : List Step) (moments : List Moment)
    → SoFar c ticking h h [] [] moments moments []
nothing_yet c ticking h moments = record {
  served = tt;
  steps = sym (append-nil h);
  read = refl;
  wrote = refl;
  ticks = λ tells. refl;
}

pub one_exchange : (c : Context) (ticking : Bool) (h : List Step) (moments later : List Moment)
    (x : Exchange)
    → IsExchange c (point_of c.opening h) x → is_quit x.request ≡ false
    → (IsTrue ticking → Ticks (asked_in x.now) moments later)
    → SoFar c ticking h (h ++ x.steps) (request_text x.request)
    (flat_map reply_text x.replies) moments later (x ∷ [])
one_exchange c ticking h moments later x is goes_on ticks = record {
  served = (is, goes_on, tt);
  steps = ap (λ (k : List Step). h ++ k) (sym (append-nil x.steps));
  read = sym (append-nil (request_text x.request));
  wrote = sym (append-nil (flat_map reply_text x.replies));
  ticks = λ tells.
      subst (λ (ms : List Moment). Ticks ms moments later) (sym (append-nil (asked_in x.now)))
      (ticks tells);
}

-- where a stretch ends
at_end : (c : Context) (ticking : Bool) (h h2 : List Step) (taken made : List ℕ)
    (moments later : List Moment)
    (xs : List Exchange) → SoFar c ticking h h2 taken made moments later xs
    → point_of c.opening h2 ≡ point_after (point_of c.opening h) (steps_of xs)
at_end c ticking h h2 taken made moments later xs s =
    ap (point_of c.opening) s.steps ∙ point_of-append c.opening h (steps_of xs)

pub goes_on : (c : Context) (ticking : Bool) (h h2 h3 : List Step) (taken more made told : List ℕ)
    (moments middle later : List Moment) (xs ys : List Exchange)
    → SoFar c ticking h h2 taken made moments middle xs
    → SoFar c ticking h2 h3 more told middle later ys
    → SoFar c ticking h h3 (taken ++ more) (made ++ told) moments later (xs ++ ys)
goes_on c ticking h h2 h3 taken more made told moments middle later xs ys a b = record {
  served = served-append c (point_of c.opening h) xs ys a.served
      (subst (λ (q : Point). AreServed c q ys)
      (at_end c ticking h h2 taken made moments middle xs a) b.served);
  steps = b.steps ∙ ap (λ (k : List Step). k ++ steps_of ys) a.steps
      ∙ append_assoc h (steps_of xs) (steps_of ys)
      ∙ ap (λ (k : List Step). h ++ k) (sym (steps-append xs ys));
  read = ap (λ (l : List ℕ). l ++ more) a.read ∙ ap (λ (l : List ℕ). requests_of xs ++ l) b.read
      ∙ sym (requests-append xs ys);
  wrote = ap (λ (l : List ℕ). l ++ told) a.wrote ∙ ap (λ (l : List ℕ). replies_of xs ++ l) b.wrote
      ∙ sym (replies-append xs ys);
  ticks = λ tells.
      subst (λ (ms : List Moment). Ticks ms moments later) (sym (moments-append xs ys))
      (ticks-append (moments_of xs) (moments_of ys) moments middle later (a.ticks tells)
      (b.ticks tells));
}

-- ---- the end

-- what an end shows of its traffic, with what was read and written in whole
pub record EndsSo (c : Context) (tells : Telling) (most : ℕ) (t : Traffic) (end : SessionEnd)
    (last : Option Exchange)
    (taken made : List ℕ) : Type 0 where
  pub offset : IsAt end (length taken)
  pub reads : IsTrue tells.source → Reads most end taken t.input t.left
  pub writes : IsTrue tells.sink → Writes tells most end t (is_none last) taken made

-- the session ended between two requests
pub ends_between : (c : Context) (tells : Telling) (most : ℕ) (h h2 : List Step)
    (taken made : List ℕ) (t : Traffic)
    (end : SessionEnd) (xs : List Exchange)
    → SoFar c tells.clock h h2 taken made t.moments t.later xs
    → IsLast c (point_of c.opening h2) end None → EndsSo c tells most t end None taken made
    → (s : Session c tells most h h2 t end)
    × (s.transcript ≡ (record { served = xs; last = None }))
ends_between c tells most h h2 taken made t end xs s last e =
    let all : xs ++ [] ≡ xs = append-nil xs in
    let is_taken : taken ≡ requests_of (xs ++ []) = s.read ∙ ap requests_of (sym all) in
    let is_made : made ≡ replies_of (xs ++ []) = s.wrote ∙ ap replies_of (sym all) in
    let session : Session c tells most h h2 t end = record {
      transcript = record { served = xs; last = None };
      said = record {
        served = s.served;
        last = subst (λ (q : Point). IsLast c q end None)
            (at_end c tells.clock h h2 taken made t.moments t.later xs s) last;
      };
      steps = s.steps ∙ ap (λ (ys : List Exchange). h ++ steps_of ys) (sym all);
      offset = subst (λ (l : List ℕ). IsAt end (length l)) is_taken e.offset;
      reads = λ told. subst (λ (l : List ℕ). Reads most end l t.input t.left) is_taken
          (e.reads told);
      writes = λ told. subst (λ (l : List ℕ). Writes tells most end t true l (replies_of
          (xs ++ []))) is_taken
          (subst (λ (l : List ℕ). Writes tells most end t true taken l) is_made (e.writes told));
      ticks = λ told. subst (λ (ys : List Exchange). Ticks (moments_of ys) t.moments t.later)
          (sym all) (s.ticks told);
    } in (session, refl)

-- it ended with QUIT, or within a listing
pub ends_within : (c : Context) (tells : Telling) (most : ℕ) (h h2 : List Step)
    (taken made : List ℕ) (t : Traffic)
    (middle : List Moment) (end : SessionEnd) (xs : List Exchange) (x : Exchange)
    → SoFar c tells.clock h h2 taken made t.moments middle xs
    → IsLast c (point_of c.opening h2) end (Some x)
    → (IsTrue tells.clock → Ticks (asked_in x.now) middle t.later)
    → EndsSo c tells most t end (Some x) (taken ++ request_text x.request)
    (made ++ flat_map reply_text x.replies)
    → (s : Session c tells most h (h2 ++ x.steps) t end)
    × (s.transcript ≡ (record { served = xs; last = Some x }))
ends_within c tells most h h2 taken made t middle end xs x s last ticks e =
    let is_taken : taken ++ request_text x.request ≡ requests_of (xs ++ x ∷ []) =
    ap (λ (l : List ℕ). l ++ request_text x.request) s.read
    ∙ ap (λ (l : List ℕ). requests_of xs ++ l) (sym (append-nil (request_text x.request)))
    ∙ sym (requests-append xs (x ∷ [])) in
    let is_made : made ++ flat_map reply_text x.replies ≡ replies_of (xs ++ x ∷ []) =
    ap (λ (l : List ℕ). l ++ flat_map reply_text x.replies) s.wrote
    ∙ ap (λ (l : List ℕ). replies_of xs ++ l) (sym (append-nil (flat_map reply_text x.replies)))
    ∙ sym (replies-append xs (x ∷ [])) in
    let taken_all = taken ++ request_text x.request in
    let session : Session c tells most h (h2 ++ x.steps) t end = record {
      transcript = record { served = xs; last = Some x };
      said = record {
        served = s.served;
        last = subst (λ (q : Point). IsLast c q end (Some x))
            (at_end c tells.clock h h2 taken made t.moments middle xs s) last;
      };
      steps = ap (λ (k : List Step). k ++ x.steps) s.steps ∙ append_assoc h (steps_of xs) x.steps
          ∙ ap (λ (k : List Step). h ++ (steps_of xs ++ k)) (sym (append-nil x.steps))
          ∙ ap (λ (k : List Step). h ++ k) (sym (steps-append xs (x ∷ [])));
      offset = subst (λ (l : List ℕ). IsAt end (length l)) is_taken e.offset;
      reads = λ told. subst (λ (l : List ℕ). Reads most end l t.input t.left) is_taken
          (e.reads told);
      writes = λ told. subst (λ (l : List ℕ). Writes tells most end t false l (replies_of
          (xs ++ x ∷ []))) is_taken
          (subst (λ (l : List ℕ). Writes tells most end t false taken_all l) is_made
          (e.writes told));
      ticks = λ told. subst (λ (ms : List Moment). Ticks ms t.moments t.later) (sym
          (moments-append xs (x ∷ [])))
          (ticks-append (moments_of xs) (moments_of (x ∷ [])) t.moments middle t.later
          (s.ticks told)
          (subst (λ (ms : List Moment). Ticks ms middle t.later) (sym (append-nil
          (asked_in x.now))) (ticks told)));
    } in (session, refl)
