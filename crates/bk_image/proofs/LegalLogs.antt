-- The log of a legal history: it rises, and a step adds at most one write to it, with the next seq.
use Rattle.std.proofs.Common.{◌≡◌, ℕ, List, [], ◌∷◌, ◌++◌, refl, sym, ap, subst, ◌∙◌, arith}
use Rattle.std.proofs.lemmas.List.{append-nil, map-append}
use Rattle.bk_base.specs.declared.calls.Answer.{Answer}
use Rattle.bk_base.specs.declared.calls.Answer.TheVariants.{Done, Fold, Numbered, Pair}
use Rattle.bk_base.specs.declared.calls.Call.{Call}
use Rattle.bk_base.specs.declared.calls.Call.TheVariants.{Put, Delete, Reap, FoldOpen, FoldNext}
use Rattle.bk_base.specs.declared.calls.Call.TheVariants.{FoldClose}
use Rattle.bk_base.specs.declared.calls.Entry.{Entry}
use Rattle.bk_base.specs.declared.histories.Opening.{Opening}
use Rattle.bk_base.specs.declared.histories.Step.{Step}
use Rattle.bk_laws.specs.History.{IsLegal, IsLegalHistory, IsReply, State, after, changed, entries}
use Rattle.bk_laws.specs.History.{log_of, opened, state_after, state_of}
use Rattle.bk_laws.specs.Log.{IsLog, RisesAbove, last_seq}
use Rattle.bk_image.specs.Growth.{written_by}
use Rattle.bk_image.proofs.Logs.{rises-append}

-- One call

pub log-changed : (caller : ℕ) (call : Call) (reply : Answer) (s : State)
    → (changed caller call reply s).log ≡ s.log ++ written_by call reply
log-changed caller (Put key value now) (Numbered n) s = refl
log-changed caller (Delete key now) (Numbered n) s = refl
log-changed caller (Reap key now) (Numbered n) s = refl
log-changed caller (FoldOpen now) (Fold epoch slot) s = sym (append-nil s.log)
log-changed caller (FoldNext slot) (Pair key value) s = sym (append-nil s.log)
log-changed caller (FoldClose slot) Done s = sym (append-nil s.log)
log-changed caller call reply s = sym (append-nil s.log)

written_next : (ttl : ℕ) (s : State) (caller : ℕ) (call : Call) (reply : Answer)
    → IsReply ttl s caller call reply
    → RisesAbove (last_seq s.log) (written_by call reply)
written_next ttl s caller (Put key value now) (Numbered n) h = (omega (arith, h), tt)
written_next ttl s caller (Delete key now) (Numbered n) h = (omega (arith, h.1), tt)
written_next ttl s caller (Reap key now) (Numbered n) h = (omega (arith, h.1), tt)
written_next ttl s caller call reply h = tt

pub rises-changed : (ttl : ℕ) (s : State) (caller : ℕ) (call : Call) (reply : Answer)
    → IsReply ttl s caller call reply
    → IsLog s.log → IsLog (changed caller call reply s).log
rises-changed ttl s caller call reply legal rises =
    subst IsLog (sym (log-changed caller call reply s))
    (rises-append 0 s.log (written_by call reply) rises
    (written_next ttl s caller call reply legal))

-- Entries one after the other

pub state_of-append : (s : State) (es fs : List Entry)
    → state_of s (es ++ fs) ≡ state_of (state_of s es) fs
state_of-append s [] fs = refl
state_of-append s (e ∷ es) fs = state_of-append (after s e) es fs

pub legal-append : (ttl : ℕ) (s : State) (es fs : List Entry) → IsLegal ttl s es
    → IsLegal ttl (state_of s es) fs
    → IsLegal ttl s (es ++ fs)
legal-append ttl s [] fs h k = k
legal-append ttl s (e ∷ es) fs h k = (h.0, legal-append ttl (after s e) es fs h.1 k)

legal_rises : (ttl : ℕ) (s : State) (es : List Entry) → IsLog s.log → IsLegal ttl s es
    → IsLog (state_of s es).log
legal_rises ttl s [] rises legal = rises
legal_rises ttl s (e ∷ es) rises legal =
    legal_rises ttl (after s e) es
    (rises-changed ttl s e.caller e.call e.reply legal.0 rises) legal.1

-- Histories

entries-append : (h k : List Step) → entries (h ++ k) ≡ entries h ++ entries k
entries-append h k = map-append (λ (step : Step). step.entry) h k

pub state_after-step : (o : Opening) (h : List Step) (step : Step)
    → state_after o (h ++ step ∷ []) ≡ after (state_after o h) step.entry
state_after-step o h step =
    ap (state_of (opened o)) (entries-append h (step ∷ []))
    ∙ state_of-append (opened o) (entries h) (step.entry ∷ [])

-- a step adds to the log what its call wrote
pub log_grows : (o : Opening) (h : List Step) (step : Step)
    → log_of o (h ++ step ∷ []) ≡ log_of o h ++ written_by step.entry.call step.entry.reply
log_grows o h step =
    ap (λ (s : State). s.log) (state_after-step o h step)
    ∙ log-changed step.entry.caller step.entry.call step.entry.reply (state_after o h)

pub legal_step : (o : Opening) (h : List Step) (step : Step) → IsLegalHistory o h
    → IsReply o.settings.ttl (state_after o h) step.entry.caller step.entry.call step.entry.reply
    → IsLegalHistory o (h ++ step ∷ [])
legal_step o h step legal reply =
    subst (λ (es : List Entry). IsLegal o.settings.ttl (opened o) es)
    (sym (entries-append h (step ∷ [])))
    (legal-append o.settings.ttl (opened o) (entries h) (step.entry ∷ []) legal (reply, tt))

-- the log of a legal history rises
pub legal_log : (o : Opening) (h : List Step) → IsLog o.log → IsLegalHistory o h
    → IsLog (log_of o h)
legal_log o h rises legal = legal_rises o.settings.ttl (opened o) (entries h) rises legal
