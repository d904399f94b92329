-- GET, SYNC and STAT: from what the store did to the line.
use Rattle.std.proofs.Common.{◌≡◌, ◌∙◌, ℕ, ◌-◌, ◌≤◌, Bool, true, false, List, [], ◌∷◌, length, get_or, drop}
use Rattle.std.proofs.Common.{Option, Some, None, refl, sym, ap, subst, arith, inl, inr}
use Rattle.std.specs.Prelude.{IsTrue, sum_by}
use Rattle.std.proofs.lemmas.Bool.{false_from_ne_true}
use Rattle.bk_base.specs.declared.calls.Answer.{Answer}
use Rattle.bk_base.specs.declared.calls.Answer.TheVariants.{Done, Found, Nothing, Numbered as numbered_answer}
use Rattle.bk_base.specs.declared.calls.Call.TheVariants.{Get as get_call, Quiet, Sync as sync_call}
use Rattle.bk_base.specs.declared.histories.Opening.{Opening}
use Rattle.bk_base.specs.declared.histories.Snapshot.{Snapshot}
use Rattle.bk_base.specs.declared.histories.Step.{Step}
use Rattle.bk_base.specs.declared.numbers.Moment.{Moment}
use Rattle.bk_base.specs.declared.numbers.Seq.{Seq}
use Rattle.bk_base.specs.declared.requests.Reply.{Reply}
use Rattle.bk_base.specs.declared.requests.Reply.TheVariants.{Absent, Damaged, Disk, Memory, Read, Stat as stat_line}
use Rattle.bk_base.specs.declared.requests.Reply.TheVariants.{Synced, Value}
use Rattle.bk_base.specs.declared.requests.Request.TheVariants.{Get, Stat, Sync}
use Rattle.bk_base.specs.declared.rows.Row.{Row}
use Rattle.bk_base.specs.declared.writes.Write.{Write}
use Rattle.bk_disk.specs.Causes.{Rose, bumped}
use Rattle.bk_disk.specs.Told.{Front, Table, Told, untold}
use Rattle.bk_disk.proofs.Counts.{counted_at_least, counted_rise, counts_bumped}
use Rattle.bk_exchange.specs.Answers.{IsCount, ShowsGet, ShowsSync, map_size}
use Rattle.bk_exchange.specs.Exchanges.{Replies}
use Rattle.bk_exchange.specs.OneThread.{QuietCalls}
use Rattle.bk_exchange.specs.Points.{Event, events, point_of}
use Rattle.bk_exchange.specs.Refusals.{Cause, may_spoil}
use Rattle.bk_exchange.specs.Writes.{told_by}
use Rattle.bk_exchange.proofs.Bodies.{calls_behind, one_answer, one_refusal}
use Rattle.bk_exchange.proofs.Events.{state_of_point}
use Rattle.bk_laws.specs.History.{State, log_of}
use Rattle.bk_laws.specs.Log.{winner}
use Rattle.bk_store.specs.declared.errors.LocateError.{LocateError}
use Rattle.bk_store.specs.declared.errors.LocateError.TheVariants.{Disk as locate_disk, Memory as locate_memory}
use Rattle.bk_store.specs.declared.sweeps.Stat.{Stat as counted_stat}
use Rattle.bk_store.specs.Events.{CrashMeets, GoesOn, Keeps, KeepsPast, Refuses, entry_by, quiet_by}
use Rattle.bk_store.specs.Loans.{LendsWrite, Lent, Views, ViewsNothing}
use Rattle.bk_store.specs.Shown.{Shown, known_bytes}
use Rattle.bk_store.specs.Sweeps.{IsStat}
use Rattle.bk_store.specs.Writes.{KeepsRest}
use Rattle.bk_store.proofs.Events.{put_says}
use Rattle.bk_keydir.specs.Keydir.{newest_of, versions_of}
use Rattle.bk_files.specs.Catalog.{Known}
use Rattle.bk_session.specs.Following.{Follows, own_context, snapshot_in}
use Rattle.bk_session.specs.Refusing.{line_of_locate}
use Rattle.bk_session.specs.Replying.{IsGiven, RepliesOnce}
use Rattle.bk_session.proofs.ActiveRows.{files_in, lives_in, snapshot_of_point, totals_in}
use Rattle.bk_session.proofs.Events.{Leaves, Rises, Still, at_event, is_step_of, leaves_kept}
use Rattle.bk_session.proofs.Events.{rises_by_fault, rises_by_faults, step_of, still_replies}
use Rattle.bk_session.proofs.Sizes.{size_is}
use Rattle.bk_store.proofs.Pasts.{past_same}
use Rattle.bk_store.proofs.Lending.{lent_checked}

-- ---- what a call does that makes at most one view

pub views_past : (found : Option Lent) (t u : Told) → Views found t u → KeepsPast t u
views_past None t u is = rw is (record { later = omega arith; same = λ k low. refl })
views_past (Some l) t u is = rw is (record { later = omega arith; same = λ k low. refl })

pub nothing_past : (t u : Told) → ViewsNothing t u → KeepsPast t u
nothing_past t u n = record {
  later = omega (arith, ap (λ (p : List (Table Front)). length p) n.past);
  same = λ k low. ap (λ (f : Table Front). get_or u.past k f) n.fronts
      ∙ ap (λ (p : List (Table Front)). get_or p k t.fronts) n.past;
}

-- a view was made, which may fail or not
pub record RisesByView (fallible : Bool) (v u : Shown) : Type 0 where
  pub n : ℕ
  pub some : fallible ≡ true → 1 ≤ n
  pub rises : Rises v u (u.files.faults - v.files.faults) n

pub rises_by_view : (fallible : Bool) (v u : Shown) → v.files.faults ≤ u.files.faults
    → u.files.fallible_views ≡ bumped fallible v.files.fallible_views → u.files.fallible_outs ≡ v.files.fallible_outs
    → RisesByView fallible v u
rises_by_view fallible v u later views outs =
    let (n, counted) = counts_bumped fallible v.files.fallible_views u.files.fallible_views views in
    record {
      n = n;
      some = counted.some;
      rises = record {
        faults_rise = counted_rise v.files.faults u.files.faults later;
        views_rise = counted_at_least fallible v.files.fallible_views n u.files.fallible_views counted;
        outs_stay = outs;
      };
    }

pub still_files : (v u : Shown) → u ≡ record v { files = u.files } → u.files.catalog ≡ v.files.catalog → Still v u
still_files v u same catalog = record {
  kept = record {
    settings = ap (λ (x : Shown). x.settings) same;
    limit = ap (λ (k : Known). k.max_file) catalog;
  };
  seq = ap (λ (x : Shown). x.seq) same;
  slots = ap (λ (x : Shown). x.keys.slots) same;
}

-- ---- GET

module _ (tells : Bool) (key : List ℕ) (now : Moment) (v u : Shown) (still : Still v u)
    (later : v.files.faults ≤ u.files.faults) (outs : u.files.fallible_outs ≡ v.files.fallible_outs)
    (past : IsTrue tells → KeepsPast v.files.told u.files.told) (crash : IsTrue tells → CrashMeets [] v u) where
  get_replies : (reply : Reply) (answer : Answer) (views : ℕ) → Rises v u (u.files.faults - v.files.faults) views
      → ((s : State) → s ≡ s) → QuietCalls (Some reply) 0 → told_by (Get key) now (reply ∷ []) ≡ []
      → (IsTrue tells → Keeps tells (entry_by 0 (get_call key now) answer) v u)
      → ((o : Opening) (h : List Step) (tried : List Write) → Follows tells v o h tried
      → Replies (own_context o) (Get key) now
      (events (point_of o h)
      (step_of tells (entry_by 0 (get_call key now) answer) (u.files.faults - v.files.faults) views u ∷ [])) (reply ∷ []))
      → RepliesOnce tells (Get key) (Some now) reply v u
  get_replies reply answer views rises same quiet told keeps replies =
      still_replies tells (Get key) (Some now) reply (get_call key now) answer (u.files.faults - v.files.faults) views v u rises
      still (λ s. refl) quiet replies
      (λ o h tried f. leaves_kept tells (Get key) (Some now) reply (entry_by 0 (get_call key now) answer)
      (u.files.faults - v.files.faults) views v u o h tried f rises told keeps)
      past (λ o h tried f tell. crash tell o h tried (f.stands tell))

  -- nothing is live there
  pub get_finds_none : u.files.fallible_views ≡ v.files.fallible_views
      → (IsTrue tells → (who : ℕ) → Keeps tells (entry_by who (get_call key now) Nothing) v u)
      → RepliesOnce tells (Get key) (Some now) Absent v u
  get_finds_none views keeps =
      get_replies Absent Nothing 0 (rises_by_faults v u later views outs) (λ s. refl) refl refl (λ tell. keeps tell 0)
      (λ o h tried f. inl (one_answer (own_context o) (point_of o h) []
      (step_of tells (entry_by 0 (get_call key now) Nothing) (u.files.faults - v.files.faults) 0 u)
      (get_call key now) Nothing ShowsGet Absent tt refl refl tt))

  -- the call was refused
  pub get_refused : (e : LocateError) → u.files.fallible_views ≡ v.files.fallible_views
      → (e ≡ locate_disk → Rose v.files.faults u.files.faults) → (IsTrue tells → (who : ℕ) → Keeps tells (quiet_by who) v u)
      → RepliesOnce tells (Get key) (Some now) (line_of_locate e) v u
  get_refused locate_disk views rose keeps =
      let r = rises_by_fault v u later (rose refl) views outs in
      still_replies tells (Get key) (Some now) Disk Quiet Done r.n 0 v u r.rises still (λ s. refl) refl
      (λ o h tried f. inr (inl (one_refusal (own_context o) (point_of o h) [] (step_of tells (quiet_by 0) r.n 0 u) (Get key) Disk
      tt refl refl (at_event o h (step_of tells (quiet_by 0) r.n 0 u) (λ (e : Event). 1 ≤ e.step.faults) refl r.some))))
      (λ o h tried f. leaves_kept tells (Get key) (Some now) Disk (quiet_by 0) r.n 0 v u o h tried f r.rises refl
      (λ tell. keeps tell 0))
      past (λ o h tried f tell. crash tell o h tried (f.stands tell))
  get_refused locate_memory views rose keeps =
      let n = u.files.faults - v.files.faults in
      let rises = rises_by_faults v u later views outs in
      still_replies tells (Get key) (Some now) Memory Quiet Done n 0 v u rises still (λ s. refl) (omega arith)
      (λ o h tried f. inr (inl (one_refusal (own_context o) (point_of o h) [] (step_of tells (quiet_by 0) n 0 u) (Get key) Memory
      tt refl refl tt)))
      (λ o h tried f. leaves_kept tells (Get key) (Some now) Memory (quiet_by 0) n 0 v u o h tried f rises refl
      (λ tell. keeps tell 0))
      past (λ o h tried f tell. crash tell o h tried (f.stands tell))

  -- a value was found, and wasn't shown
  spoiled : (l : Lent) (line : Reply) (r : RisesByView l.fallible v u) → may_spoil line ≡ true → QuietCalls (Some line) 0
      → told_by (Get key) now (line ∷ []) ≡ []
      → (IsTrue tells → (who : ℕ) → Keeps tells (entry_by who (get_call key now) (Found (drop l.value_at l.left))) v u)
      → ((o : Opening) (h : List Step) (tried : List Write) → Follows tells v o h tried
      → Cause (own_context o) (Get key) line (events (point_of o h)
      (step_of tells (entry_by 0 (get_call key now) (Found (drop l.value_at l.left))) (u.files.faults - v.files.faults) r.n u ∷ [])))
      → RepliesOnce tells (Get key) (Some now) line v u
  spoiled l line r may quiet told keeps cause =
      let value = drop l.value_at l.left in
      get_replies line (Found value) r.n r.rises (λ s. refl) quiet told (λ tell. keeps tell 0)
      (λ o h tried f. inr (inr (record {
        value = value;
        line = line;
        called = calls_behind (own_context o) (point_of o h) []
            (step_of tells (entry_by 0 (get_call key now) (Found value)) (u.files.faults - v.files.faults) r.n u)
            (get_call key now) (Found value) tt refl;
        lines = refl;
        may = may;
        cause = cause o h tried f;
      })))

  -- the value of a loan was shown, or why it couldn't be read
  pub get_given : (views_tell : Bool) (l : Lent) (reply : Reply) → IsGiven views_tell l reply
      → (IsTrue tells → IsTrue views_tell)
      → u.files.fallible_views ≡ bumped l.fallible v.files.fallible_views
      → (IsTrue tells → (who : ℕ) → Keeps tells (entry_by who (get_call key now) (Found (drop l.value_at l.left))) v u)
      → (IsTrue tells → (o : Opening) (h : List Step) (tried : List Write) → Follows tells v o h tried
      → LendsWrite (winner (log_of o h) key) (Some l))
      → RepliesOnce tells (Get key) (Some now) reply v u
  get_given views_tell l (Value value) given hears views keeps lends =
      let r = rises_by_view l.fallible v u later views outs in
      get_replies (Value value) (Found value) r.n r.rises (λ s. refl) refl refl
      (λ tell. subst (λ (x : List ℕ). Keeps tells (entry_by 0 (get_call key now) (Found x)) v u) (sym (given (hears tell)))
      (keeps tell 0))
      (λ o h tried f. inl (one_answer (own_context o) (point_of o h) []
      (step_of tells (entry_by 0 (get_call key now) (Found value)) (u.files.faults - v.files.faults) r.n u)
      (get_call key now) (Found value) ShowsGet (Value value) tt refl refl refl))
  get_given views_tell l Read given hears views keeps lends =
      let r = rises_by_view l.fallible v u later views outs in
      spoiled l Read r refl refl refl keeps
      (λ o h tried f. at_event o h
      (step_of tells (entry_by 0 (get_call key now) (Found (drop l.value_at l.left))) (u.files.faults - v.files.faults) r.n u)
      (λ (e : Event). 1 ≤ e.step.views) refl (r.some given))
  get_given views_tell l (Damaged d) given hears views keeps lends =
      let r = rises_by_view l.fallible v u later views outs in
      spoiled l (Damaged d) r refl refl refl keeps
      (λ o h tried f. (
        given.2,
        false_from_ne_true o.whole (λ whole.
            let tell = f.whole whole in
            given.2 (given.3 ∙ sym (lent_checked (winner (log_of o h) key) l (lends tell o h tried f))
            ∙ sym (given.4 (hears tell)))),
      ))
  get_given views_tell l Memory given hears views keeps lends =
      spoiled l Memory (rises_by_view l.fallible v u later views outs) refl (omega arith) refl keeps (λ o h tried f. tt)
  get_given views_tell l reply given hears views keeps lends = absurd given

-- ---- SYNC

module _ (tells : Bool) (v u : Shown) (rest : KeepsRest v u) (same : u ≡ record v { files = u.files })
    (past : IsTrue tells → KeepsPast v.files.told u.files.told) (crash : IsTrue tells → CrashMeets [] v u) where
  still_synced : Still v u
  still_synced = record {
    kept = record { settings = rest.settings; limit = rest.limit };
    seq = ap (λ (x : Shown). x.seq) same;
    slots = rest.slots;
  }

  pub sync_replies : (seq : Seq) → (IsTrue tells → (who : ℕ) → GoesOn tells (entry_by who sync_call (numbered_answer seq)) v u)
      → RepliesOnce tells Sync None (Synced seq) v u
  sync_replies seq goes =
      let n = u.files.faults - v.files.faults in
      let rises = rises_by_faults v u rest.later rest.views rest.outs in
      let e = entry_by 0 sync_call (numbered_answer seq) in
      let step = step_of tells e n 0 u in
      still_replies tells Sync None (Synced seq) sync_call (numbered_answer seq) n 0 v u rises still_synced (λ s. refl) refl
      (λ o h tried f. inl (one_answer (own_context o) (point_of o h) [] step sync_call (numbered_answer seq) ShowsSync (Synced seq)
      tt refl refl refl))
      (λ o h tried f. record {
        left = [];
        tries = inl refl;
        stands = λ tell. goes tell 0 o h tried step (f.stands tell) (is_step_of tells e n 0 v u tell rises) refl;
      })
      past (λ o h tried f tell. crash tell o h tried (f.stands tell))

  -- which of both may be tried still
  leaves_sync : (heard : Bool) → heard ≡ tells → (faults : ℕ) (rises : Rises v u faults 0) (o : Opening) (h : List Step)
      (tried : List Write) → Follows tells v o h tried → (IsTrue tells → (who : ℕ) → Refuses tells who [] v u)
      → Leaves tells Sync None Disk (step_of tells (quiet_by 0) faults 0 u) u o h tried
  leaves_sync true is faults rises o h tried f refuses =
      let tell : IsTrue tells = sym is in
      let step = step_of tells (quiet_by 0) faults 0 u in
      let (left, is_left, stands) = refuses tell 0 o h tried step (f.stands tell)
      (is_step_of tells (quiet_by 0) faults 0 v u tell rises) refl in
      elim is_left [
        | inl kept ↦ record { left = left; tries = inr (inl (kept, refl)); stands = λ t. stands }
        | inr (inl none) ↦ record { left = left; tries = inl none; stands = λ t. stands }
        | inr (inr none) ↦ record { left = left; tries = inl none; stands = λ t. stands }
      ]
  leaves_sync false is faults rises o h tried f refuses =
      record { left = []; tries = inl refl; stands = λ tell. untold (is ∙ tell) }

  pub sync_refused : Rose v.files.faults u.files.faults → (IsTrue tells → (who : ℕ) → Refuses tells who [] v u)
      → RepliesOnce tells Sync None Disk v u
  sync_refused rose refuses =
      let r = rises_by_fault v u rest.later rose rest.views rest.outs in
      let step = step_of tells (quiet_by 0) r.n 0 u in
      still_replies tells Sync None Disk Quiet Done r.n 0 v u r.rises still_synced (λ s. refl) refl
      (λ o h tried f. inr (inl (one_refusal (own_context o) (point_of o h) [] step Sync Disk tt refl refl
      (at_event o h step (λ (e : Event). 1 ≤ e.step.faults) refl r.some))))
      (λ o h tried f. leaves_sync tells refl r.n r.rises o h tried f refuses)
      past (λ o h tried f tell. crash tell o h tried (f.stands tell))

-- ---- STAT

keys_of_map : (tells : Bool) (s : counted_stat) (v : Shown) (o : Opening) (h : List Step) (tried : List Write)
    → IsStat s v → Follows tells v o h tried → o.whole ≡ true → s.keys ≡ map_size (point_of o h).state.log
keys_of_map tells s v o h tried stat f whole =
    let stood = f.stands (f.whole whole) in
    stat.keys
    ∙ size_is v.keys.entries (log_of o h) stat.once
    (λ key. put_says (known_bytes v.files) (newest_of (versions_of key v.keys.entries)) (winner (log_of o h) key)
    (stood.content.newest.newest key))
    ∙ ap (λ (x : State). map_size x.log) (sym (state_of_point o h))

pub stat_replies : (tells : Bool) (s : counted_stat) (v u : Shown) → u ≡ v → IsStat s v
    → (IsTrue tells → (who : ℕ) → Keeps tells (quiet_by who) v u) → (IsTrue tells → CrashMeets [] v u)
    → RepliesOnce tells Stat None (stat_line s.keys s.files s.total s.live) v u
stat_replies tells s v u same stat keeps crash =
    let n = u.files.faults - v.files.faults in
    let rises = rises_by_faults v u (omega (arith, ap (λ (x : Shown). x.files.faults) same))
    (ap (λ (x : Shown). x.files.fallible_views) same) (ap (λ (x : Shown). x.files.fallible_outs) same) in
    let step = step_of tells (quiet_by 0) n 0 u in
    let line = stat_line s.keys s.files s.total s.live in
    still_replies tells Stat None line Quiet Done n 0 v u rises
    (still_files v u (subst (λ (x : Shown). x ≡ record v { files = x.files }) (sym same) refl)
    (ap (λ (x : Shown). x.files.catalog) same))
    (λ x. refl) refl
    (λ o h tried f.
    let before : snapshot_in tells v ≡ (point_of o h).snapshot = sym (snapshot_of_point o h ∙ f.agrees.snapshot) in
    inl (record {
      keys = s.keys;
      files = s.files;
      total = s.total;
      live = s.live;
      called = calls_behind (own_context o) (point_of o h) [] step Quiet Done tt refl;
      lines = refl;
      counted = at_event o h step (IsCount (own_context o) s.keys s.files s.total s.live) refl (record {
        quiet = refl;
        still = ap (snapshot_in tells) same ∙ before;
        shows_keys = keys_of_map tells s v o h tried stat f;
        shows_files = stat.files ∙ sym (files_in tells v) ∙ ap (λ (x : Snapshot). length x.rows) before;
        shows_total = stat.total ∙ sym (totals_in tells v) ∙ ap (λ (x : Snapshot). sum_by (λ (r : Row). r.total) x.rows) before;
        shows_live = stat.live ∙ sym (lives_in tells v) ∙ ap (λ (x : Snapshot). sum_by (λ (r : Row). r.live) x.rows) before;
      });
    }))
    (λ o h tried f. leaves_kept tells Stat None line (quiet_by 0) n 0 v u o h tried f rises refl (λ tell. keeps tell 0))
    (λ tell. past_same v.files.told u.files.told (ap (λ (x : Shown). x.files.told) same))
    (λ o h tried f tell. crash tell o h tried (f.stands tell))
