-- From a session and the sync behind it to the whole run.
use Rattle.std.proofs.Common.{◌≡◌, ◌∙◌, ◌⊎◌, ℕ, ◌+◌, ◌≤◌, List, [], Bool, true, false, drop}
use Rattle.std.proofs.Common.{refl, sym, subst, arith, inl, inr, IsTrue}
use Rattle.bk_base.specs.declared.histories.Opening.{Opening}
use Rattle.bk_base.specs.declared.statuses.SessionEnd.{SessionEnd}
use Rattle.bk_base.specs.declared.statuses.SessionEnd.TheVariants.{Disk as disk_end}
use Rattle.bk_base.specs.declared.statuses.Status.{Status}
use Rattle.bk_base.specs.declared.statuses.Status.TheVariants.{Disk}
use Rattle.bk_base.specs.declared.writes.Write.{Write}
use Rattle.bk_disk.specs.Causes.{Rose, most}
use Rattle.bk_disk.specs.Counts.{Counted}
use Rattle.bk_disk.specs.Shown.{DiskShown}
use Rattle.bk_disk.specs.Told.{Front, Table, clock}
use Rattle.bk_exchange.specs.Sessions.{exchanges}
use Rattle.bk_files.specs.Files.{disk_shown}
use Rattle.bk_image.proofs.HoldsCrashes.{holds_now, holds_prefix}
use Rattle.bk_image.specs.SoundDirectory.{IsSoundDisk}
use Rattle.bk_session.specs.Crashes.{CrashesAt}
use Rattle.bk_session.specs.Following.{Follows}
use Rattle.bk_session.specs.Sessions.{IsHeldFor, sides_of}
use Rattle.bk_session.proofs.Entering.{follows_untold, untold_opening}
use Rattle.bk_session.proofs.Following.{follows_standing}
use Rattle.bk_session.proofs.OneLine.{at_told}
use Rattle.bk_store.specs.Events.{KeepsPast}
use Rattle.bk_store.specs.Shown.{Shown}
use Rattle.bk_store.specs.Starting.{opening_of}
use Rattle.bk_store.proofs.Starting.{no_slot}
use Rattle.bitcaskd.specs.Closing.{ClosesBy, status_of}
use Rattle.bitcaskd.specs.Opening.{IsRested, Opens}
use Rattle.bitcaskd.specs.Run.{IsOpenedBy, IsRun, Outside, Telling, client_tells, most_taken}
use Rattle.bitcaskd.proofs.ClosingLaws.{last_step, sync_rose}
use Rattle.bitcaskd.proofs.OpeningLaws.{opens_at}
use Rattle.bk_store.proofs.Pasts.{past_then}

-- ---- the opening

-- the opening that a store began with: of the log that the directory held, or of a log with its last seq
abbrev pub opening_with : Bool → List Write → Shown → Opening
opening_with true log v = opening_of log v
opening_with false log v = untold_opening v

follows_rested : (v : Shown) → IsRested v → Follows false v (untold_opening v) [] []
follows_rested v rested = follows_untold v rested.limit (λ n. no_slot v.keys.slots n rested.no_fold)

pub follows_with : (tells whole : Bool) (was : DiskShown) (log : List Write) (v : Shown) → Opens tells was v
    → (IsTrue whole → IsTrue tells × IsSoundDisk was.told log) → Follows whole v (opening_with whole log v) [] []
follows_with tells true was log v opens known =
    follows_standing true v (opening_of log v) [] [] refl opens.rested.limit
    (opens.stands (known refl).0 log (known refl).1)
follows_with tells false was log v opens known = follows_rested v opens.rested

pub opened_by : (tells : Telling) (old : Outside) (v : Shown) (log : List Write) (whole : Bool)
    → Opens tells.disk old.disk v → IsOpenedBy tells old log whole (opening_with whole log v)
opened_by tells old v log true opens = record {
  log = λ t. refl;
  folds = refl;
  whole = refl;
  settings = v.settings;
  says = opens.says;
  are = refl;
  faults = opens.came.faults;
  views = opens.came.views;
  outs = opens.came.outs;
}
opened_by tells old v log false opens = record {
  log = λ t. absurd (cc t);
  folds = refl;
  whole = refl;
  settings = v.settings;
  says = opens.says;
  are = refl;
  faults = opens.came.faults;
  views = opens.came.views;
  outs = opens.came.outs;
}

-- ---- the run

-- what the objects show as the run ends: the store's disk, and the streams
abbrev pub with_disk : Shown → Outside → Outside
with_disk u o = record o { disk = disk_shown u.files }

-- what a session does, with all that is known of the store
abbrev pub IsServed : Telling → Shown → Shown → Outside → Outside → SessionEnd → Type 0
IsServed tells v m old new end = (known : Bool) → (IsTrue known → IsTrue tells.disk)
    → IsHeldFor known (client_tells tells) most_taken
    (sides_of v (drop old.taken old.whole) old.written old.moments)
    (sides_of m (drop new.taken new.whole) new.written new.moments) end

rose_behind : (first n before now : ℕ) → Counted false first n before → Rose before now → Rose first now
rose_behind first n before now counted rose = go counted.goes where
  go : (before ≡ first + n) ⊎ (most ≤ before) → Rose first now
  go (inl is) = omega (arith, is, rose)
  go (inr full) = omega (arith, full, rose)

module _ (tells : Telling) (old new : Outside) (v m u : Shown) (end : SessionEnd) (status : Status)
    (served : IsServed tells v m old new end) (past : IsTrue tells.disk → KeepsPast v.files.told m.files.told)
    (source : IsTrue tells.source → new.whole ≡ old.whole) (closes : ClosesBy (status_of end) status tells.disk m u)
    (behind : IsTrue tells.disk → KeepsPast m.files.told u.files.told) where
  -- The session and the sync are one run.
  pub runs : (log : List Write) (whole : Bool) → Opens tells.disk old.disk v
      → (IsTrue whole → IsTrue tells.disk × IsSoundDisk old.disk.told log)
      → IsRun tells old (with_disk u new) status log whole
  runs log whole opens known =
      let o = opening_with whole log v in
      let is_opened = opened_by tells old v log whole opens in
      let sub : IsTrue whole → IsTrue tells.disk = λ t. (known t).0 in
      let held = served whole sub o [] [] (follows_with tells.disk whole old.disk log v opens known) in
      let last = last_step tells.disk whole m u o held.h2 held.tried end status closes sub held.follows in
      record {
        opening = o;
        is_opened = is_opened;
        end = end;
        steps = held.h2;
        output = held.output;
        session = held.session;
        tried = held.tried;
        one_thread = held.one_thread;
        source = source;
        wrote = held.wrote;
        closing = last.step;
        own = last.own;
        closes = last.closes;
        closed = λ t. last.at ∙ at_told whole u.files.told t;
        legal = λ t. (last.follows.stands t).legal;
        left = λ t. record {
          left = last.left;
          is_left = last.is_left;
          image = holds_now (last.follows.stands t).content.disk.holds;
          crash = holds_prefix (last.follows.stands t).content.disk.holds;
        };
        crash = λ t. record {
          opened = clock v.files.told;
          ended = clock m.files.told;
          opens = opens_at old.disk.told v.files.told u.files.told o.log (opens.came.goes (sub t))
              (subst (λ (l : List Write). IsSoundDisk old.disk.told l) (sym (is_opened.log t)) (known t).1)
              (past_then v.files.told m.files.told u.files.told (past (sub t)) (behind (sub t)));
          serves = record {
            later = (past (sub t)).later;
            within = (behind (sub t)).later;
            crash = λ k low high.
                subst (λ (f : Table Front). CrashesAt o [] [] (exchanges held.session.transcript) k f)
                (sym ((behind (sub t)).same k (omega (arith, high)))) (held.crash t k low high);
          };
          closes = λ k low high. last.crash t k low high;
        };
        faults = last.follows.agrees.counts.faults;
        views = last.follows.agrees.counts.views;
        outs = last.follows.agrees.counts.outs;
      }

  -- A run whose session didn't end by the disk ends by it only where it failed.
  pub disk_rose : IsRested v → (end ≡ disk_end → ⊥) → status ≡ Disk → Rose v.files.faults u.files.faults
  disk_rose rested never is =
      let held = served false (λ t. absurd (cc t)) (untold_opening v) [] [] (follows_rested v rested) in
      rose_behind v.files.faults _ m.files.faults u.files.faults held.follows.agrees.counts.faults
      (sync_rose tells.disk end status m u never closes is)
