-- The sync at the end of a run: what a store follows then.
use Rattle.std.proofs.Common.{◌≡◌, ◌∙◌, ℕ, ◌-◌, List, [], ◌∷◌, ◌++◌, Bool, true, false, refl, sym, ap, subst, inl, inr, IsTrue}
use Rattle.bk_base.specs.declared.calls.Answer.TheVariants.{Numbered}
use Rattle.bk_base.specs.declared.calls.Call.TheVariants.{Sync}
use Rattle.bk_base.specs.declared.calls.Entry.{Entry}
use Rattle.bk_base.specs.declared.histories.Opening.{Opening}
use Rattle.bk_base.specs.declared.histories.Step.{Step}
use Rattle.bk_base.specs.declared.numbers.Seq.{Seq}
use Rattle.bk_base.specs.declared.statuses.SessionEnd.{SessionEnd}
use Rattle.bk_base.specs.declared.statuses.SessionEnd.TheVariants.{Quit, End, Syntax as syntax_end, Source as source_end, Sink as sink_end, Long as long_end, Memory as memory_end, Disk as disk_end}
use Rattle.bk_base.specs.declared.statuses.Status.{Status}
use Rattle.bk_base.specs.declared.statuses.Status.TheVariants.{Disk}
use Rattle.bk_base.specs.declared.writes.Write.{Write}
use Rattle.bk_disk.specs.Causes.{Rose}
use Rattle.bk_disk.specs.Told.{untold}
use Rattle.bk_image.proofs.HoldsCrashes.{holds_at_rest}
use Rattle.bk_laws.specs.History.{log_of}
use Rattle.bk_session.specs.Following.{Follows}
use Rattle.bk_session.proofs.Events.{Rises, Still, counts_of, is_step_of, rises_by_fault, rises_by_faults, step_of}
use Rattle.bk_session.proofs.Following.{follows_still, known_way}
use Rattle.bk_store.specs.Events.{CrashMeets, GoesOn, Refuses, clock_of, entry_by, quiet_by}
use Rattle.bk_store.specs.Shown.{Shown}
use Rattle.bk_store.specs.Standing.{FilesStand, StandsFor}
use Rattle.bk_store.specs.Writes.{KeepsRest}
use Rattle.bk_store.proofs.Stepping.{content_is}
use Rattle.bitcaskd.specs.Closing.{ClosesBy, CrashesWithin, IsLeft, OfEach, Synced, Unsynced, status_of}
use Rattle.bitcaskd.specs.Run.{Closes, IsAllSynced}

-- ---- the sync

module _ (known : Bool) (v u : Shown) (rest : KeepsRest v u) (same : u ≡ record v { files = u.files })
    (crash : IsTrue known → CrashMeets [] v u) where
  still : Still v u
  still = record {
    kept = record { settings = rest.settings; limit = rest.limit };
    seq = ap (λ (x : Shown). x.seq) same;
    slots = rest.slots;
  }

  pub syncs : (seq : Seq) → (IsTrue known → (who : ℕ) → GoesOn known (entry_by who Sync (Numbered seq)) v u)
      → (o : Opening) (h : List Step) (tried : List Write) → Follows known v o h tried → Synced known v u o h tried
  syncs seq goes o h tried f =
      let n = u.files.faults - v.files.faults in
      let rises = rises_by_faults v u rest.later rest.views rest.outs in
      let e = entry_by 0 Sync (Numbered seq) in
      let step = step_of known e n 0 u in
      record {
        seq = seq;
        step = step;
        entry = refl;
        at = refl;
        follows = follows_still known v u o h tried [] step e f (counts_of known e n 0 v u rises) refl refl still.kept
            still.seq still.slots
            (λ tell. goes tell 0 o h tried step (f.stands tell) (is_step_of known e n 0 v u tell rises) refl);
        crash = λ tell. crash tell o h tried (f.stands tell);
      }

  -- what is tried after a sync that was refused
  left_over : (heard : Bool) → heard ≡ known → (faults : ℕ) (rises : Rises v u faults 0) (o : Opening) (h : List Step)
      (tried : List Write) → Follows known v o h tried → (IsTrue known → (who : ℕ) → Refuses known who [] v u)
      → (left : List Write) × IsLeft tried left
      × (IsTrue known → StandsFor u o (h ++ step_of known (quiet_by 0) faults 0 u ∷ []) left)
  left_over true is faults rises o h tried f refuses =
      let tell : IsTrue known = sym is in
      let (left, is_left, stands) = refuses tell 0 o h tried (step_of known (quiet_by 0) faults 0 u) (f.stands tell)
      (is_step_of known (quiet_by 0) faults 0 v u tell rises) refl in
      elim is_left [
        | inl kept ↦ (left, inr kept, (λ t. stands))
        | inr (inl none) ↦ (left, inl none, (λ t. stands))
        | inr (inr none) ↦ (left, inl none, (λ t. stands))
      ]
  left_over false is faults rises o h tried f refuses = ([], inl refl, (λ t. untold (is ∙ t)))

  pub syncs_not : Rose v.files.faults u.files.faults → (IsTrue known → (who : ℕ) → Refuses known who [] v u)
      → (o : Opening) (h : List Step) (tried : List Write) → Follows known v o h tried → Unsynced known v u o h tried
  syncs_not rose refuses o h tried f =
      let r = rises_by_fault v u rest.later rose rest.views rest.outs in
      let e = quiet_by 0 in
      let step = step_of known e r.n 0 u in
      let (left, is_left, stands) = left_over known refl r.n r.rises o h tried f refuses in
      record {
        step = step;
        failed = r.some;
        entry = refl;
        at = refl;
        left = left;
        is_left = is_left;
        follows = follows_still known v u o h tried left step e f (counts_of known e r.n 0 v u r.rises) refl refl still.kept
            still.seq still.slots stands;
        crash = λ tell. crash tell o h tried (f.stands tell);
      }

-- with all that is known
pub all_synced : (tells : Bool) (v u : Shown) (seq : Seq) → KeepsRest v u → u ≡ record v { files = u.files }
    → (IsTrue tells → CrashMeets [] v u) → (IsTrue tells → (who : ℕ) → GoesOn tells (entry_by who Sync (Numbered seq)) v u)
    → OfEach Synced tells v u
all_synced tells v u seq rest same crash goes known sub =
    known_way known tells
    (λ (b : Bool). (o : Opening) (h : List Step) (tried : List Write) → Follows b v o h tried → Synced b v u o h tried) sub
    (syncs tells v u rest same crash seq goes)
    (syncs false v u rest same (λ t. untold t) seq (λ t. untold t))

pub none_synced : (tells : Bool) (v u : Shown) → KeepsRest v u → u ≡ record v { files = u.files }
    → (IsTrue tells → CrashMeets [] v u) → Rose v.files.faults u.files.faults
    → (IsTrue tells → (who : ℕ) → Refuses tells who [] v u) → OfEach Unsynced tells v u
none_synced tells v u rest same crash rose refuses known sub =
    known_way known tells
    (λ (b : Bool). (o : Opening) (h : List Step) (tried : List Write) → Follows b v o h tried → Unsynced b v u o h tried) sub
    (syncs_not tells v u rest same crash rose refuses)
    (syncs_not false v u rest same (λ t. untold t) rose (λ t. untold t))

-- ---- the last step of a run

-- a crash after a sync takes nothing
sync_takes_nothing : (v : Shown) (o : Opening) (h : List Step) (step : Step) (seq : Seq)
    → step.entry ≡ entry_by 0 Sync (Numbered seq) → StandsFor v o (h ++ step ∷ []) []
    → IsAllSynced v.files.told (log_of o h)
sync_takes_nothing v o h step seq is stands =
    holds_at_rest
    (subst (FilesStand v.files) (content_is o h step (entry_by 0 Sync (Numbered seq)) [] is) stands.content.disk).holds

-- whether the sync was answered or not
pub record LastStep (known : Bool) (v u : Shown) (o : Opening) (h : List Step) (tried : List Write) (end : SessionEnd)
    (status : Status) : Type 0 where
  pub step : Step
  pub own : step.entry.caller ≡ 0
  pub closes : Closes known u.files.told (log_of o h) end status step
  pub at : step.at ≡ clock_of known u.files.told
  pub left : List Write
  pub is_left : IsLeft tried left
  pub follows : Follows known u o (h ++ step ∷ []) left
  pub crash : CrashesWithin known v u o h tried

pub last_step : (tells known : Bool) (v u : Shown) (o : Opening) (h : List Step) (tried : List Write) (end : SessionEnd)
    (status : Status) → ClosesBy (status_of end) status tells v u → (IsTrue known → IsTrue tells) → Follows known v o h tried
    → LastStep known v u o h tried end status
last_step tells known v u o h tried end status (inl (is, each)) sub f =
    let s = each known sub o h tried f in
    record {
      step = s.step;
      own = ap (λ (e : Entry). e.caller) s.entry;
      closes = inl (
        record {
          call = ap (λ (e : Entry). e.call) s.entry;
          synced = λ t. sync_takes_nothing u o h s.step s.seq s.entry (s.follows.stands t);
        },
        is,
      );
      at = s.at;
      left = [];
      is_left = inl refl;
      follows = s.follows;
      crash = s.crash;
    }
last_step tells known v u o h tried end status (inr (is, rose, each)) sub f =
    let s = each known sub o h tried f in
    record {
      step = s.step;
      own = ap (λ (e : Entry). e.caller) s.entry;
      closes = inr (record { call = ap (λ (e : Entry). e.call) s.entry; failed = s.failed }, is);
      at = s.at;
      left = s.left;
      is_left = s.is_left;
      follows = s.follows;
      crash = s.crash;
    }

-- ---- the status

only_disk : (end : SessionEnd) → status_of end ≡ Disk → end ≡ disk_end
only_disk Quit is = absurd (cc is)
only_disk End is = absurd (cc is)
only_disk (syntax_end offset) is = absurd (cc is)
only_disk source_end is = absurd (cc is)
only_disk sink_end is = absurd (cc is)
only_disk long_end is = absurd (cc is)
only_disk memory_end is = absurd (cc is)
only_disk disk_end is = refl

-- where the session didn't end by the disk, only the sync makes the run end so
pub sync_rose : (tells : Bool) (end : SessionEnd) (status : Status) (v u : Shown) → (end ≡ disk_end → ⊥)
    → ClosesBy (status_of end) status tells v u → status ≡ Disk → Rose v.files.faults u.files.faults
sync_rose tells end status v u never (inl (is, each)) disk = absurd (never (only_disk end (sym is ∙ disk)))
sync_rose tells end status v u never (inr (is, rose, each)) disk = rose
