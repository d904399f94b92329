-- From an event of the store to the line that answers its request.
use Rattle.std.proofs.Common.{◌≡◌, ◌∙◌, ℕ, ◌+◌, ◌-◌, ◌≤◌, Bool, true, false, List, [], ◌∷◌, ◌++◌, Option, Some}
use Rattle.std.proofs.Common.{refl, sym, ap, subst, arith, inl, inr}
use Rattle.std.specs.Prelude.{IsTrue}
use Rattle.bk_base.specs.declared.calls.Answer.{Answer}
use Rattle.bk_base.specs.declared.calls.Answer.TheVariants.{Numbered as numbered_answer}
use Rattle.bk_base.specs.declared.calls.Call.{Call}
use Rattle.bk_base.specs.declared.calls.Entry.{Entry}
use Rattle.bk_base.specs.declared.histories.Opening.{Opening}
use Rattle.bk_base.specs.declared.histories.Snapshot.{Snapshot}
use Rattle.bk_base.specs.declared.histories.Step.{Step}
use Rattle.bk_base.specs.declared.histories.StoreSettings.{StoreSettings}
use Rattle.bk_base.specs.declared.limits.TheConstants.{LAST_FILE, LAST_SEQ}
use Rattle.bk_base.specs.declared.numbers.Moment.{Moment}
use Rattle.bk_base.specs.declared.numbers.Seq.{Seq}
use Rattle.bk_base.specs.declared.requests.Reply.{Reply}
use Rattle.bk_base.specs.declared.requests.Reply.TheVariants.{Numbered}
use Rattle.bk_base.specs.declared.requests.Request.{Request}
use Rattle.bk_base.specs.declared.writes.Write.{Write}
use Rattle.bk_disk.specs.Causes.{Rose}
use Rattle.bk_disk.specs.Counts.{Counted}
use Rattle.bk_disk.specs.Crashes.{AtEach}
use Rattle.bk_disk.specs.Told.{clock}
use Rattle.bk_disk.proofs.Counts.{counted_at_least, counted_exactly, counted_rise, counts_rose}
use Rattle.bk_exchange.specs.Answers.{Context}
use Rattle.bk_exchange.specs.Exchanges.{Replies, moment_of}
use Rattle.bk_exchange.specs.OneThread.{QuietCalls, one_if_quiet}
use Rattle.bk_exchange.specs.Points.{AtOne, Event, Point, events, own, point_of}
use Rattle.bk_exchange.specs.Refusals.{HasNoFile, active_len, needs_file, size_asked}
use Rattle.bk_exchange.specs.Writes.{told_by, write_asked}
use Rattle.bk_exchange.proofs.Bodies.{at_own}
use Rattle.bk_exchange.proofs.Events.{state_of_point}
use Rattle.bk_files.specs.Files.{is_due}
use Rattle.bk_image.specs.Prefix.{MeetsEither}
use Rattle.bk_laws.specs.History.{State, changed, log_of, state_after}
use Rattle.bk_laws.specs.Log.{last_seq}
use Rattle.bk_store.specs.Events.{CrashMeets, GoesOn, IsStepOf, Keeps, KeepsPast, clock_of, entry_by}
use Rattle.bk_store.specs.History.{kept_of}
use Rattle.bk_store.specs.Shown.{Shown}
use Rattle.bk_store.specs.Standing.{StandsFor}
use Rattle.bk_session.specs.Following.{Agrees, Follows, own_context, snapshot_in}
use Rattle.bk_session.specs.Replying.{RepliesOnce, exchange_of}
use Rattle.bk_session.specs.Serving.{Tries}
use Rattle.bk_session.proofs.ActiveRows.{last_in, needs_in, snapshot_of_point}
use Rattle.bk_session.proofs.Following.{Counts, KeepsSettings, follows_still, follows_write, snapshot_told}

-- ---- the step that tells what an event did

-- by how much the counts rose in an event
pub record Rises (v u : Shown) (faults views : ℕ) : Type 0 where
  pub faults_rise : Counted false v.files.faults faults u.files.faults
  pub views_rise : Counted false v.files.fallible_views views u.files.fallible_views
  pub outs_stay : u.files.fallible_outs ≡ v.files.fallible_outs

pub no_views : (before now : ℕ) → now ≡ before → Counted false before 0 now
no_views before now same = counted_exactly before 0 now (omega (arith, same))

pub rises_by_faults : (v u : Shown) → v.files.faults ≤ u.files.faults
    → u.files.fallible_views ≡ v.files.fallible_views → u.files.fallible_outs ≡ v.files.fallible_outs
    → Rises v u (u.files.faults - v.files.faults) 0
rises_by_faults v u later views outs = record {
  faults_rise = counted_rise v.files.faults u.files.faults later;
  views_rise = no_views v.files.fallible_views u.files.fallible_views views;
  outs_stay = outs;
}

-- a fault of the disk was counted
pub record RisesByFault (v u : Shown) : Type 0 where
  pub n : ℕ
  pub some : 1 ≤ n
  pub rises : Rises v u n 0

pub rises_by_fault : (v u : Shown) → v.files.faults ≤ u.files.faults → Rose v.files.faults u.files.faults
    → u.files.fallible_views ≡ v.files.fallible_views → u.files.fallible_outs ≡ v.files.fallible_outs → RisesByFault v u
rises_by_fault v u later rose views outs =
    let (n, counted) = counts_rose v.files.faults u.files.faults later rose in
    record {
      n = n;
      some = counted.some refl;
      rises = record {
        faults_rise = counted_at_least true v.files.faults n u.files.faults counted;
        views_rise = no_views v.files.fallible_views u.files.fallible_views views;
        outs_stay = outs;
      };
    }

abbrev pub step_of : Bool → Entry → ℕ → ℕ → Shown → Step
step_of tells e faults views u = record {
  entry = e;
  faults = faults;
  views = views;
  outs = 0;
  at = clock_of tells u.files.told;
  snapshot = snapshot_in tells u;
  clean = false;
}

pub counts_of : (tells : Bool) (e : Entry) (faults views : ℕ) (v u : Shown) → Rises v u faults views
    → Counts tells v u (step_of tells e faults views u)
counts_of tells e faults views v u rises = record {
  faults = rises.faults_rise;
  views = rises.views_rise;
  outs = no_views v.files.fallible_outs u.files.fallible_outs rises.outs_stay;
  snapshot = refl;
}

pub is_step_of : (tells : Bool) (e : Entry) (faults views : ℕ) (v u : Shown) → IsTrue tells → Rises v u faults views
    → IsStepOf tells v u (step_of tells e faults views u)
is_step_of tells e faults views v u tell rises = record {
  faults = rises.faults_rise;
  views = rises.views_rise;
  outs = no_views v.files.fallible_outs u.files.fallible_outs rises.outs_stay;
  at = refl;
  snapshot = snapshot_told tells u tell;
  clean = refl;
}

-- ---- an event that changes neither the log nor the folds

pub record Still (v u : Shown) : Type 0 where
  pub kept : KeepsSettings v u
  pub seq : u.seq ≡ v.seq
  pub slots : u.keys.slots ≡ v.keys.slots

-- what is tried after it
pub record Leaves (tells : Bool) (request : Request) (now : Option Moment) (reply : Reply) (step : Step) (u : Shown)
    (o : Opening) (h : List Step) (tried : List Write) : Type 0 where
  pub left : List Write
  pub tries : Tries (log_of o h) tried (exchange_of request now (step ∷ []) (reply ∷ [])) left
  pub stands : IsTrue tells → StandsFor u o (h ++ step ∷ []) left

-- What was tried stays so.
pub leaves_kept : (tells : Bool) (request : Request) (now : Option Moment) (reply : Reply) (e : Entry) (faults views : ℕ)
    (v u : Shown) (o : Opening) (h : List Step) (tried : List Write) → Follows tells v o h tried → Rises v u faults views
    → told_by request (moment_of now) (reply ∷ []) ≡ [] → (IsTrue tells → Keeps tells e v u)
    → Leaves tells request now reply (step_of tells e faults views u) u o h tried
leaves_kept tells request now reply e faults views v u o h tried f rises told keeps = record {
  left = tried;
  tries = inr (inl (refl, told));
  stands = λ tell. keeps tell o h tried (step_of tells e faults views u) (f.stands tell)
      (is_step_of tells e faults views v u tell rises) refl;
}

-- of every history: the reply is a line of this event, whose entry this is
pub still_replies : (tells : Bool) (request : Request) (now : Option Moment) (reply : Reply) (call : Call) (answer : Answer)
    (faults views : ℕ) (v u : Shown) → Rises v u faults views → Still v u
    → ((s : State) → changed 0 call answer s ≡ s) → QuietCalls (Some reply) (one_if_quiet call)
    → ((o : Opening) (h : List Step) (tried : List Write) → Follows tells v o h tried
    → Replies (own_context o) request (moment_of now)
    (events (point_of o h) (step_of tells (entry_by 0 call answer) faults views u ∷ [])) (reply ∷ []))
    → ((o : Opening) (h : List Step) (tried : List Write) → Follows tells v o h tried
    → Leaves tells request now reply (step_of tells (entry_by 0 call answer) faults views u) u o h tried)
    → (IsTrue tells → KeepsPast v.files.told u.files.told)
    → ((o : Opening) (h : List Step) (tried : List Write) → Follows tells v o h tried → IsTrue tells
    → AtEach u.files.told (clock v.files.told)
    (MeetsEither (log_of o h) (kept_of o h) tried (write_asked request (moment_of now) (log_of o h))))
    → RepliesOnce tells request now reply v u
still_replies tells request now reply call answer faults views v u rises still same quiet replies leaves past crash o h tried f =
    let e = entry_by 0 call answer in
    let step = step_of tells e faults views u in
    let l = leaves o h tried f in
    record {
      step = step;
      left = l.left;
      caller = refl;
      at = refl;
      past = past;
      replied = replies o h tried f;
      quiet = quiet;
      follows = follows_still tells v u o h tried l.left step e f (counts_of tells e faults views v u rises) refl
          (same (state_after o h)) still.kept still.seq still.slots l.stands;
      tries = l.tries;
      crash = crash o h tried f;
    }

-- ---- an event that writes

pub wrote_replies : (tells : Bool) (request : Request) (now : Moment) (call : Call) (seq : Seq) (w : Write) (more : List Write)
    (v u : Shown) → v.files.faults ≤ u.files.faults → u.files.fallible_views ≡ v.files.fallible_views
    → u.files.fallible_outs ≡ v.files.fallible_outs → KeepsSettings v u → u.keys.slots ≡ v.keys.slots
    → ((c : Context) (p : Point) (step : Step) → step.entry ≡ record { caller = c.who; call = call; reply = numbered_answer seq }
    → Replies c request now (events p (step ∷ [])) (Numbered seq ∷ []))
    → one_if_quiet call ≡ 0
    → ((s : State) → changed 0 call (numbered_answer seq) s ≡ record s { log = s.log ++ w ∷ [] })
    → w.seq.0 ≡ v.seq + 1 → u.seq ≡ v.seq + 1
    → ((log : List Write) → v.seq ≡ last_seq log → more ≡ write_asked request now log)
    → (IsTrue tells → GoesOn tells (entry_by 0 call (numbered_answer seq)) v u)
    → (IsTrue tells → KeepsPast v.files.told u.files.told) → (IsTrue tells → CrashMeets more v u)
    → RepliesOnce tells request (Some now) (Numbered seq) v u
wrote_replies tells request now call seq w more v u later views outs kept slots replies quiet writes next seq_next asked goes past
    crash o h tried f =
    let e = entry_by 0 call (numbered_answer seq) in
    let n = u.files.faults - v.files.faults in
    let rises = rises_by_faults v u later views outs in
    let step = step_of tells e n 0 u in
    record {
      step = step;
      left = [];
      caller = refl;
      at = refl;
      past = past;
      replied = replies (own_context o) (point_of o h) step refl;
      quiet = quiet;
      follows = follows_write tells v u o h tried [] step e w f (counts_of tells e n 0 v u rises) refl
          (writes (state_after o h)) next kept seq_next slots
          (λ tell. goes tell o h tried step (f.stands tell) (is_step_of tells e n 0 v u tell rises) refl);
      tries = inl refl;
      crash = λ tell. subst (λ (ws : List Write). AtEach u.files.told (clock v.files.told)
          (MeetsEither (log_of o h) (kept_of o h) tried ws)) (asked (log_of o h) f.agrees.seq)
          (crash tell o h tried (f.stands tell));
    }

-- ---- causes

-- a fact of the request's one event
pub at_event : (o : Opening) (h : List Step) (step : Step) (P : Event → Type 0) → step.entry.caller ≡ 0
    → P (record { before = point_of o h; step = step })
    → AtOne P (own 0 (events (point_of o h) (step ∷ [])))
at_event o h step P caller fact = at_own (own_context o) (point_of o h) [] step P tt caller fact

pub seq_is_full : (tells : Bool) (v : Shown) (o : Opening) (h : List Step) → Agrees tells v o h → LAST_SEQ ≤ v.seq
    → LAST_SEQ ≤ last_seq (point_of o h).state.log
seq_is_full tells v o h a full =
    subst (λ (n : ℕ). LAST_SEQ ≤ n)
    (a.seq ∙ ap (λ (s : State). last_seq s.log) (sym (state_of_point o h))) full

pub files_are_full : (tells : Bool) (v : Shown) (o : Opening) (h : List Step) (tried : List Write) (request : Request) (size : ℕ)
    (step : Step) → Follows tells v o h tried → size ≡ size_asked request → is_due size v.files ≡ true
    → LAST_FILE ≤ v.files.catalog.last
    → HasNoFile (own_context o) request (record { before = point_of o h; step = step })
files_are_full tells v o h tried request size step f is due last =
    let snapshot : (point_of o h).snapshot ≡ snapshot_in tells v = snapshot_of_point o h ∙ f.agrees.snapshot in
    let limit : v.files.catalog.max_file ≡ o.settings.max_file =
    f.agrees.limit ∙ ap (λ (x : StoreSettings). x.max_file) (sym f.agrees.settings) in
    record {
      due = subst (λ (s : Snapshot). needs_file (size_asked request) o.settings.max_file (active_len s.rows) ≡ true) (sym snapshot)
          (subst (λ (n : ℕ). needs_file (size_asked request) n (active_len (snapshot_in tells v).rows) ≡ true) limit
          (subst (λ (n : ℕ). needs_file n v.files.catalog.max_file (active_len (snapshot_in tells v).rows) ≡ true) is
          (needs_in tells size v (λ tell. (f.stands tell).content.disk.consistent) due)));
      last = subst (λ (s : Snapshot). LAST_FILE ≤ s.last_file.0) (sym snapshot)
          (subst (λ (n : ℕ). LAST_FILE ≤ n) (sym (last_in tells v)) last);
    }
