-- Steps that stand one behind the other: their points, their events, and a caller's own calls
-- among them.
use Rattle.std.proofs.Common.{◌≡◌, ◌∙◌, ℕ, List, [], ◌∷◌, ◌++◌, Bool, cond, refl, ap, eq-eqb}
use Rattle.std.proofs.lemmas.List.Concat.{flat_map-append}
use Rattle.std.proofs.lemmas.List.Elements.{filter-append}
use Rattle.bk_base.specs.declared.histories.Opening.{Opening}
use Rattle.bk_base.specs.declared.histories.Step.{Step}
use Rattle.bk_laws.specs.History.{entries, state_after, state_of}
use Rattle.bk_exchange.specs.Points.{AreOthers, Event, Point, calls_of, events, heard, is_by}
use Rattle.bk_exchange.specs.Points.{next_point}
use Rattle.bk_exchange.specs.Points.{opening_point, own, point_after, point_of}
use Rattle.bk_exchange.specs.Answers.{Context, own_calls}

pub point_after-append : (p : Point) (h k : List Step)
    → point_after p (h ++ k) ≡ point_after (point_after p h) k
point_after-append p [] k = refl
point_after-append p (step ∷ h) k = point_after-append (next_point p step) h k

pub point_of-append : (o : Opening) (h k : List Step)
    → point_of o (h ++ k) ≡ point_after (point_of o h) k
point_of-append o h k = point_after-append (opening_point o) h k

-- a point has the state that the steps leave
state_at : (p : Point) (h : List Step) → (point_after p h).state ≡ state_of p.state (entries h)
state_at p [] = refl
state_at p (step ∷ h) = state_at (next_point p step) h

pub state_of_point : (o : Opening) (h : List Step) → (point_of o h).state ≡ state_after o h
state_of_point o h = state_at (opening_point o) h

pub events-append : (p : Point) (h k : List Step)
    → events p (h ++ k) ≡ events p h ++ events (point_after p h) k
events-append p [] k = refl
events-append p (step ∷ h) k =
    ap (λ (es : List Event). (record { before = p; step = step }) ∷ es)
    (events-append (next_point p step) h k)

pub calls_of-append : (es fs : List Event) → calls_of (es ++ fs) ≡ calls_of es ++ calls_of fs
calls_of-append es fs =
    flat_map-append (λ (e : Event). heard e.step.entry.call e.step.entry.reply) es fs

pub own-append : (who : ℕ) (es fs : List Event) → own who (es ++ fs) ≡ own who es ++ own who fs
own-append who es fs = filter-append (is_by who) es fs

pub own_calls-append : (c : Context) (p : Point) (h k : List Step)
    → own_calls c (events p (h ++ k)) ≡ own_calls c (events p h) ++ own_calls c (events
    (point_after p h) k)
own_calls-append c p h k =
    ap (own_calls c) (events-append p h k)
    ∙ ap calls_of (own-append c.who (events p h) (events (point_after p h) k))
    ∙ calls_of-append (own c.who (events p h)) (own c.who (events (point_after p h) k))

-- ---- others' steps, and one of its own

pub own_none : (who : ℕ) (p : Point) (others : List Step) → AreOthers who others
    → own who (events p others) ≡ []
own_none who p [] h = refl
own_none who p (step ∷ others) h =
    ap (λ (b : Bool). cond b ((record { before = p; step = step }) ∷ own who (events
    (next_point p step) others))
    (own who (events (next_point p step) others))) h.0
    ∙ own_none who (next_point p step) others h.1

own_one : (who : ℕ) (p : Point) (step : Step) → step.entry.caller ≡ who
    → own who (events p (step ∷ [])) ≡ (record { before = p; step = step }) ∷ []
own_one who p step is =
    ap (λ (b : Bool). cond b ((record { before = p; step = step }) ∷ []) [])
    (eq-eqb step.entry.caller who is)

pub own_behind : (who : ℕ) (p : Point) (others : List Step) (step : Step) → AreOthers who others
    → step.entry.caller ≡ who
    → own who (events p (others ++ step ∷ []))
    ≡ (record { before = point_after p others; step = step }) ∷ []
own_behind who p others step apart is =
    ap (own who) (events-append p others (step ∷ []))
    ∙ own-append who (events p others) (events (point_after p others) (step ∷ []))
    ∙ ap (λ (es : List Event). es ++ own who (events (point_after p others) (step ∷ [])))
    (own_none who p others apart)
    ∙ own_one who (point_after p others) step is
