-- One step more: what an event has to show so that the store stands for a history that has it.
use Rattle.std.proofs.Common.{◌≡◌, ℕ, ◌+◌, Bool, false, List, [], ◌∷◌, ◌++◌, length, get_or, refl, sym, ap, subst, ◌∙◌, arith}
use Rattle.std.specs.Prelude.{sum_by}
use Rattle.std.proofs.lemmas.List.{map-append}
use Rattle.std.proofs.lemmas.List.Sums.{sum_by-append}
use Rattle.bk_base.specs.declared.calls.Entry.{Entry}
use Rattle.bk_base.specs.declared.histories.Opening.{Opening}
use Rattle.bk_base.specs.declared.histories.Snapshot.{Snapshot}
use Rattle.bk_base.specs.declared.histories.Step.{Step}
use Rattle.bk_base.specs.declared.histories.StoreSettings.{StoreSettings}
use Rattle.bk_base.specs.declared.writes.Write.{Write}
use Rattle.bk_disk.specs.Counts.{Counted}
use Rattle.bk_disk.specs.Crashes.{AtEach}
use Rattle.bk_disk.specs.Told.{Front, Table, Told, clock}
use Rattle.bk_disk.proofs.Counts.{counted_on}
use Rattle.bk_image.specs.Prefix.{MeetsEither}
use Rattle.bk_image.proofs.HoldsCourse.{begins}
use Rattle.bk_image.proofs.LegalLogs.{legal_step, state_after-step}
use Rattle.bk_laws.specs.History.{IsReply, State, after, entries, log_of, opened, state_after, state_of}
use Rattle.bk_laws.specs.Log.{last_seq}
use Rattle.bk_store.specs.Events.{CrashMeets, IsStepOf}
use Rattle.bk_store.specs.History.{kept_after, kept_now, kept_of, snapshot_after}
use Rattle.bk_store.specs.Shown.{Shown, settings_of}
use Rattle.bk_store.specs.Standing.{Content, ContentStands, StandsFor, content_of}

-- ---- what a step adds to what the history says

kept-append : (s : State) (kept : ℕ) (es : List Entry) (e : Entry)
    → kept_after s kept (es ++ e ∷ []) ≡ kept_now e.call e.reply (state_of s es) (kept_after s kept es)
kept-append s kept [] e = refl
kept-append s kept (d ∷ es) e = kept-append (after s d) (kept_now d.call d.reply s kept) es e

pub snapshot-append : (s : Snapshot) (h : List Step) (step : Step) → snapshot_after s (h ++ step ∷ []) ≡ step.snapshot
snapshot-append s [] step = refl
snapshot-append s (first ∷ h) step = snapshot-append first.snapshot h step

-- what a store has to have after an entry
abbrev pub content_next : Opening → List Step → Entry → List Write → Content
content_next o h e left = record {
  log = (after (state_after o h) e).log;
  folds = (after (state_after o h) e).folds;
  kept = kept_now e.call e.reply (state_after o h) (kept_of o h);
  tried = left;
}

-- the same, for a state and a count that are said
content_at : State → ℕ → List Write → Content
content_at s kept left = record { log = s.log; folds = s.folds; kept = kept; tried = left }

pub content_is : (o : Opening) (h : List Step) (s : Step) (e : Entry) (left : List Write) → s.entry ≡ e
    → content_of o (h ++ s ∷ []) left ≡ content_next o h e left
unfolding content_at
content_is o h s e left is =
    let state : state_after o (h ++ s ∷ []) ≡ after (state_after o h) e =
    state_after-step o h s ∙ ap (after (state_after o h)) is in
    let kept : kept_of o (h ++ s ∷ []) ≡ kept_now e.call e.reply (state_after o h) (kept_of o h) =
    ap (kept_after (opened o) (length o.log)) (map-append (λ (step : Step). step.entry) h (s ∷ []))
    ∙ kept-append (opened o) (length o.log) (entries h) s.entry
    ∙ ap (λ (d : Entry). kept_now d.call d.reply (state_after o h) (kept_of o h)) is in
    ap (λ (t : State). content_at t (kept_of o (h ++ s ∷ [])) left) state
    ∙ ap (λ (k : ℕ). content_at (after (state_after o h) e) k left) kept

pub counted_step : (f : Step → ℕ) (before middle now : ℕ) (h : List Step) (s : Step) → Counted false before (sum_by f h) middle
    → Counted false middle (f s) now → Counted false before (sum_by f (h ++ s ∷ [])) now
counted_step f before middle now h s first then =
    let sum : sum_by f h + f s ≡ sum_by f (h ++ s ∷ []) = omega (arith, sum_by-append f h (s ∷ [])) in
    subst (λ (n : ℕ). Counted false before n now) sum
    (counted_on false false before (sum_by f h) middle (f s) now first then)

-- ---- the step

-- The store stands for a step more, whose entry is this one: its reply is legal, and the store has what
-- the history then says.
pub one_step : (tells : Bool) (v w : Shown) (o : Opening) (h : List Step) (tried left : List Write) (s : Step) (e : Entry)
    → StandsFor v o h tried → IsStepOf tells v w s → s.entry ≡ e
    → IsReply v.settings.ttl (state_after o h) e.caller e.call e.reply
    → w.settings ≡ v.settings → w.seq ≡ last_seq (after (state_after o h) e).log
    → ContentStands v.settings.ttl w.files w.keys (content_next o h e left)
    → StandsFor w o (h ++ s ∷ []) left
one_step tells v w o h tried left s e stood step is reply settings seq content =
    let log_is = ap (λ (c : Content). c.log) (content_is o h s e left is) in
    let ttl : o.settings.ttl ≡ v.settings.ttl = ap (λ (x : StoreSettings). x.ttl) stood.settings in
    record {
      legal = legal_step o h s stood.legal
          (subst (λ (d : Entry). IsReply o.settings.ttl (state_after o h) d.caller d.call d.reply) (sym is)
          (subst (λ (n : ℕ). IsReply n (state_after o h) e.caller e.call e.reply) (sym ttl) reply));
      seq = seq ∙ ap last_seq (sym log_is);
      settings = stood.settings ∙ ap settings_of (sym settings);
      content = subst (ContentStands w.settings.ttl w.files w.keys) (sym (content_is o h s e left is))
          (subst (λ x. ContentStands x.ttl w.files w.keys (content_next o h e left)) (sym settings) content);
      snapshot = snapshot-append o.snapshot h s ∙ step.snapshot;
      counts = record {
        faults = counted_step (λ (x : Step). x.faults) o.faults v.files.faults w.files.faults h s stood.counts.faults step.faults;
        views = counted_step (λ (x : Step). x.views) o.views v.files.fallible_views w.files.fallible_views h s
            stood.counts.views step.views;
        outs = counted_step (λ (x : Step). x.outs) o.outs v.files.fallible_outs w.files.fallible_outs h s
            stood.counts.outs step.outs;
      };
    }

-- ---- crashes within an event that changes no file

pub at_each_same : (t u : Told) (from : ℕ) (P : Table Front → Type 0) → u.past ≡ t.past → u.fronts ≡ t.fronts
    → AtEach t from P → AtEach u from P
at_each_same t u from P past fronts each k low high =
    subst (λ (f : Table Front). P (get_or u.past k f)) (sym fronts)
    (subst (λ (p : List (Table Front)). P (get_or p k t.fronts)) (sym past)
    (each k low (omega (arith, high, ap length past))))

pub crash_still : (v w : Shown) (more : List Write) → w.files.told.past ≡ v.files.told.past
    → w.files.told.fronts ≡ v.files.told.fronts → CrashMeets more v w
crash_still v w more past fronts o h tried stood =
    let so = begins more stood.content.disk.holds in
    at_each_same v.files.told w.files.told (clock v.files.told) (MeetsEither (log_of o h) (kept_of o h) tried more) past fronts so.each
