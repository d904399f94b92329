-- A drill over a store that was recovered: from what a crash left, and from an empty disk.
use Rattle.std.proofs.Common.{◌≡◌, ◌∙◌, ℕ, Bool, true, false, List, [], ◌∷◌, length, map, Option, None}
use Rattle.std.proofs.Common.{refl, sym, ap, subst}
use Rattle.std.specs.Prelude.{IsTrue, ◌&&◌, min}
use Rattle.std.proofs.Math.Nat.{zero-min}
use Rattle.bk_base.specs.declared.limits.TheConstants.{MOST_FOLDS}
use Rattle.bk_base.specs.declared.histories.OpenFold.{OpenFold}
use Rattle.bk_base.specs.declared.histories.Opening.{Opening}
use Rattle.bk_base.specs.declared.numbers.Moment.{Moment}
use Rattle.bk_base.specs.declared.writes.Write.{Write}
use Rattle.bk_disk.specs.Crashes.{IsSynced, MayLeaveNow}
use Rattle.bk_disk.specs.Told.{IsWell, Told, nothing_told}
use Rattle.bk_disk.specs.Told.{at as file_at}
use Rattle.bk_disk.specs.Told.{Image, listing}
use Rattle.bk_disk.proofs.Leaves.{well_left}
use Rattle.bk_disk.proofs.Unique.{from_test, to_test}
use Rattle.bk_exchange.specs.Answers.{map_size}
use Rattle.bk_image.specs.Chance.{NoChance}
use Rattle.bk_image.specs.Prefix.{MeetsPrefix, Prefix}
use Rattle.bk_image.specs.SoundDirectory.{IsSoundDisk}
use Rattle.bk_image.proofs.HoldsCrashes.{holds_now, holds_prefix}
use Rattle.bk_image.proofs.HoldsOpening.{sound_empty}
use Rattle.bk_keydir.specs.declared.loads.Loaded.{Loaded}
use Rattle.bk_keydir.specs.declared.loads.Torn.{Torn}
use Rattle.bk_keydir.specs.Keydir.{Shown as KeydirShown}
use Rattle.bk_keydir.specs.Keydir.{newest_of, versions_of}
use Rattle.bk_keydir.specs.Slots.{has_open}
use Rattle.bk_load.specs.Directory.{greatest_in}
use Rattle.bk_load.specs.Loads.{IsLoadedFrom}
use Rattle.bk_load.specs.Tidying.{Tidied}
use Rattle.bk_laws.specs.Log.{last_seq, winner}
use Rattle.bk_memdisk.specs.Crash.{crashed}
use Rattle.bk_memdisk.specs.Plans.{Planned, counted_to, nothing_chosen}
use Rattle.bk_policy.specs.declared.settings.Settings.{Settings}
use Rattle.bk_script.specs.declared.lines.Line.TheVariants.{Stop}
use Rattle.bk_script.specs.declared.printed.Printed.{Printed}
use Rattle.bk_script.specs.declared.printed.Printed.TheVariants.{Reopened}
use Rattle.bk_store.specs.History.{kept_of}
use Rattle.bk_store.specs.Loans.{Lent}
use Rattle.bk_store.specs.Shown.{Shown, known_bytes, settings_of}
use Rattle.bk_store.specs.Standing.{StandsFor}
use Rattle.bk_store.specs.declared.sweeps.Stat.{Stat}
use Rattle.bk_store.specs.Starting.{IsInOrder, opening_of}
use Rattle.bk_store.specs.Sweeps.{IsStat, last_count}
use Rattle.bk_store.proofs.Events.{put_says}
use Rattle.bk_store.proofs.Starting.{no_slot}
use Rattle.bk_session.specs.Following.{Follows}
use Rattle.bk_session.proofs.Entering.{follows_untold, untold_opening}
use Rattle.bk_session.proofs.Following.{follows_standing}
use Rattle.bk_session.proofs.Sizes.{size_is}
use Rattle.bk_drill.specs.declared.drills.Drill.{Drill}
use Rattle.bk_drill.specs.declared.stops.Recovered.{Recovered}
use Rattle.bk_drill.specs.Actions.{listed_by}
use Rattle.bk_drill.specs.Between.{Begins, Between, log_at}
use Rattle.bk_drill.specs.Drills.{IsTest}
use Rattle.bk_drill.specs.Lines.{Crash, IsDiskOf, Stops, Test, crash_of, is_clear, line_of_torn}
use Rattle.bk_drill.specs.Progress.{IsNew, IsOver, IsRecovered, IsStopped, RunsAs, reopened_lines}
use Rattle.bk_drill.specs.Shown.{IsAt, LoanIs}
use Rattle.bk_drill.proofs.Flipless.{flipless_no_chance}

-- ---- a drill over a store that was just opened

-- a history before its first step
abbrev pub opened_with : Opening → Bool → Moment → Planned → Between
opened_with o sound moment plan = record {
  opening = o;
  steps = [];
  tried = [];
  sound = sound;
  moment = moment;
  kept = λ actor. None;
  plan = plan;
}

begins_with : (o : Opening) (sound : Bool) (moment : Moment) (plan : Planned) → o.folds ≡ []
    → plan ≡ counted_to plan.calls nothing_chosen → Begins (opened_with o sound moment plan)
begins_with o sound moment plan folds none = record {
  steps = refl;
  folds = folds;
  tried = refl;
  kept = λ actor. refl;
  plan = none;
}

opened_at : (r : Recovered) (now moment : Moment) (given : Settings) (d : Drill) (o : Opening) (sound : Bool)
    → IsOver r.store given now r.plan d → r.store.settings ≡ given → moment ≡ now → o.folds ≡ []
    → length r.store.keys.slots ≡ MOST_FOLDS → Follows sound r.store o [] []
    → IsAt d (opened_with o sound moment r.plan)
opened_at r now moment given d o sound is settings same folds slots follows = record {
  follows = subst (λ (v : Shown). Follows sound v o [] []) (sym is.store_is) follows;
  moment = same ∙ sym is.now_is;
  plan = sym is.plan_is;
  settings = ap (λ (v : Shown). v.settings) is.store_is ∙ settings ∙ sym is.settings_are;
  slots = ap (λ (v : Shown). length v.keys.slots) is.store_is ∙ slots;
  loans = λ n. subst (λ (l : Option Lent). LoanIs sound l None) (sym (is.no_loan n)) tt;
  listed = λ n low. is.no_tally n
      ∙ sym (ap (λ (fs : List OpenFold). min (listed_by fs n) last_count) folds ∙ zero-min last_count);
}

limit_is : (settings : Settings) (t : Told) (r : Recovered) → IsRecovered settings t r
    → r.store.files.catalog.max_file ≡ r.store.settings.max_file
limit_is settings t r is = is.limit ∙ ap (λ (x : Settings). x.max_file) (sym is.settings_are)

-- ---- over an empty disk

empty_sound : IsSoundDisk nothing_told []
empty_sound =
    sound_empty (record { once = tt; paired = refl }) refl (λ id. refl) (λ l has. absurd (cc has.there))

pub new_is : (settings : Settings) (t : Told) (r : Recovered) (d : Drill) → t ≡ nothing_told → IsRecovered settings t r
    → IsOver r.store settings (record { 0 = 0 }) r.plan d → IsNew settings d
new_is settings t r d empty is over =
    let o = opening_of [] r.store in
    let stands : StandsFor r.store o [] [] =
    is.stands [] (subst (λ (x : Told). IsSoundDisk x []) (sym empty) empty_sound) in (
      opened_with o true (record { 0 = 0 }) r.plan,
      record {
        begins = begins_with o true (record { 0 = 0 }) r.plan refl is.plan;
        log = refl;
        last_file = is.last_file ∙ ap (λ (x : Told). greatest_in (listing x.image)) empty;
        settings = ap settings_of is.settings_are;
        sound = refl;
        moment = refl;
      },
      opened_at r (record { 0 = 0 }) (record { 0 = 0 }) settings d o true over is.settings_are refl refl is.slots
          (follows_standing true r.store o [] [] refl (limit_is settings t r is) stands),
    )

-- ---- over what a crash left

both : (a b : Bool) → (a && b) ≡ true → (a ≡ true) × (b ≡ true)
both true true is = (refl, refl)
both true false is = absurd (cc is)
both false b is = absurd (cc is)

keys_are : (settings : Settings) (u : Told) (r : Recovered) (found : List Write) → IsRecovered settings u r
    → StandsFor r.store (opening_of found r.store) [] [] → r.keys ≡ map_size found
keys_are settings u r found is stood =
    is.keys ∙ is.counted.keys
    ∙ size_is r.store.keys.entries found is.counted.once
    (λ key. put_says (known_bytes r.store.files) (newest_of (versions_of key r.store.keys.entries)) (winner found key)
    (stood.content.newest.newest key))

lines_are : (settings : Settings) (u : Told) (r : Recovered) (seq : ℕ) (is : IsRecovered settings u r) → r.store.seq ≡ seq
    → reopened_lines r.seq r.keys r.torn.items
    ≡ Reopened (record { 0 = seq }) r.keys (length is.loaded.report.torn.items) ∷ map line_of_torn is.loaded.report.torn.items
lines_are settings u r seq is same =
    ap (λ (ts : List Torn). reopened_lines r.seq r.keys ts) is.torn
    ∙ ap (λ (n : ℕ). Reopened (record { 0 = n }) r.keys (length is.loaded.report.torn.items)
    ∷ map line_of_torn is.loaded.report.torn.items) (is.seq ∙ same)

module _ (test : Test) (is_test : IsTest test) (old new : Drill) (b : Between) (keep : Option ℕ) (flips : List ℕ) (t u : Told)
    (r : Recovered) (at : IsAt old b) (told : t ≡ old.store.files.told)
    (image : u.image ≡ crashed keep flips t.fronts t.image) (allowed : MayLeaveNow t u.image) (synced : IsSynced u)
    (is : IsRecovered old.settings u r) (over : IsOver r.store old.settings old.now r.plan new) where
  abbrev crash_is : Crash
  crash_is = record { fronts = t.fronts; before = t.image; image = u.image }

  settings_stay : settings_of r.store.settings ≡ b.opening.settings
  settings_stay = ap settings_of (is.settings_are ∙ sym at.settings) ∙ sym at.follows.agrees.settings

  disk_is : IsTrue b.sound → IsDiskOf b crash_is
  disk_is s =
      let stood = at.follows.stands s in
      record {
        map_is = subst (λ (x : Told). Prefix x.image (log_at b) (length (log_at b)) b.tried) (sym told)
            (holds_now stood.content.disk.holds);
        crash = subst (λ (x : Told). MeetsPrefix (log_at b) (kept_of b.opening b.steps) b.tried x.fronts) (sym told)
            (holds_prefix stood.content.disk.holds);
      }

  well_is : IsTrue b.sound → IsWell u
  well_is s =
      let before : IsWell t = subst IsWell (sym told) (at.follows.stands s).content.disk.holds.well in
      from_test u (well_left t u (to_test t before) allowed synced)

  flipless_is : IsTrue b.sound → flips ≡ [] → NoChance t.fronts u.image
  flipless_is s none =
      subst (λ (i : Image). NoChance t.fronts i)
      (sym (image ∙ ap (λ (fs : List ℕ). crashed keep fs t.fronts t.image) none))
      (subst (λ (x : Told). NoChance x.fronts (crashed keep [] x.fronts x.image)) (sym told)
      (flipless_no_chance keep (at.follows.stands s).content.disk.holds))

  clear_is : (fs : List ℕ) → flips ≡ fs → IsTrue b.sound → is_clear test fs crash_is ≡ true → NoChance t.fronts u.image
  clear_is [] none s clear = flipless_is s none
  clear_is (f ∷ fs) some s clear = is_test t.fronts u.image clear

  crash_own : crash_is ≡ crash_of keep flips old.store.files.told
  crash_own = ap (λ (i : Image). record { fronts = t.fronts; before = t.image; image = i }) image ∙ ap (crash_of keep flips) told

  stops_with : (sound : Bool) → sound ≡ (b.sound && is_clear test flips crash_is)
      → (later : Between) × (stops : Stops test b keep flips (reopened_lines r.seq r.keys r.torn.items) later)
      × (stops.crash ≡ crash_of keep flips old.store.files.told) × IsAt new later
  stops_with true says =
      let met = both b.sound (is_clear test flips crash_is) (sym says) in
      let p = (disk_is met.0).crash u.image allowed (clear_is flips refl met.0 met.1) in
      let stands = is.stands p.found (record { well = well_is met.0; sound = p.sound; synced = synced }) in
      let o = opening_of p.found r.store in (
        opened_with o true b.moment r.plan,
        record {
          crash = crash_is;
          is = record { chosen = image; allowed = allowed };
          disk = disk_is;
          flipless = flipless_is;
          sound = says;
          reopened = λ s. record { sound = p.sound; part = p.part };
          begins = begins_with o true b.moment r.plan refl is.plan;
          last_file = is.last_file;
          settings = settings_stay;
          moment = refl;
          prints = record {
            recovered = r.store.files.told.image;
            tidied = is.tidied;
            loaded = is.loaded;
            is = is.from;
            keys = r.keys;
            size = λ s. keys_are old.settings u r p.found is stands;
            are = lines_are old.settings u r (last_seq p.found) is stands.seq;
          };
        },
        crash_own,
        opened_at r old.now b.moment old.settings new o true over is.settings_are at.moment refl is.slots
            (follows_standing true r.store o [] [] refl (limit_is old.settings u r is) stands),
      )
  stops_with false says =
      let o = untold_opening r.store in (
        opened_with o false b.moment r.plan,
        record {
          crash = crash_is;
          is = record { chosen = image; allowed = allowed };
          disk = disk_is;
          flipless = flipless_is;
          sound = says;
          reopened = λ s. absurd (cc s);
          begins = begins_with o false b.moment r.plan refl is.plan;
          last_file = is.last_file;
          settings = settings_stay;
          moment = refl;
          prints = record {
            recovered = r.store.files.told.image;
            tidied = is.tidied;
            loaded = is.loaded;
            is = is.from;
            keys = r.keys;
            size = λ s. absurd (cc s);
            are = lines_are old.settings u r r.store.seq is refl;
          };
        },
        crash_own,
        opened_at r old.now b.moment old.settings new o false over is.settings_are at.moment refl is.slots
            (follows_untold r.store (limit_is old.settings u r is) (λ n. no_slot r.store.keys.slots n is.no_fold)),
      )

  stopped_at : (later : Between) × (stops : Stops test b keep flips (reopened_lines r.seq r.keys r.torn.items) later)
      × (stops.crash ≡ crash_of keep flips old.store.files.told) × IsAt new later
  stopped_at = stops_with (b.sound && is_clear test flips crash_is) refl

module _ (old new : Drill) (keep : Option ℕ) (flips : List ℕ) (t u : Told) (r : Recovered) (told : t ≡ old.store.files.told)
    (image : u.image ≡ crashed keep flips t.fronts t.image) (allowed : MayLeaveNow t u.image) (synced : IsSynced u)
    (is : IsRecovered old.settings u r) (over : IsOver r.store old.settings old.now r.plan new) where
  left_is : Tidied (file_at (crash_of keep flips old.store.files.told).image) (file_at new.store.files.told.image)
  left_is =
      subst (λ (x : Told). Tidied (file_at (crashed keep flips x.fronts x.image)) (file_at new.store.files.told.image)) told
      (subst (λ (v : Shown). Tidied (file_at (crashed keep flips t.fronts t.image)) (file_at v.files.told.image)) (sym over.store_is)
      (subst (λ (i : Image). Tidied (file_at i) (file_at r.store.files.told.image)) image is.tidied))

  pub is_stopped : IsStopped keep flips (reopened_lines r.seq r.keys r.torn.items) old new
  is_stopped = record {
    left = left_is;
    stops = λ test is_test b at. stopped_at test is_test old new b keep flips t u r at told image allowed synced is over;
  }

pub runs_stopped : (old new : Drill) (keep : Option ℕ) (flips : List ℕ) (lines : List Printed) → IsStopped keep flips lines old new
    → RunsAs (Stop keep flips) lines old new
runs_stopped old new keep flips lines is test is_test b at =
    let (later, stops, own, stands) = is.stops test is_test b at in (later, stops, stands)

-- ---- a recovery

pub plan_is : (p : Planned) (n : ℕ) → p ≡ counted_to n nothing_chosen → p ≡ counted_to p.calls nothing_chosen
plan_is p n is = is ∙ ap (λ (k : ℕ). counted_to k nothing_chosen) (sym (ap (λ (q : Planned). q.calls) is))

pub recovered_is : (settings : Settings) (t u : Told) (loaded : Loaded) (v : Shown) (stat : Stat) (r : Recovered)
    → r.store ≡ v → v.files.told ≡ u → v.files.catalog.max_file ≡ settings.max_file → v.keys ≡ loaded.keydir
    → v.seq ≡ loaded.last_seq.0 → v.settings ≡ settings → IsInOrder loaded → IsLoadedFrom (file_at u.image) loaded
    → Tidied (file_at t.image) (file_at u.image) → v.files.catalog.last ≡ loaded.last_file.0
    → loaded.last_file.0 ≡ greatest_in (listing t.image) → IsStat stat v → r.seq.0 ≡ loaded.last_seq.0 → r.keys ≡ stat.keys
    → r.torn.items ≡ loaded.report.torn.items → r.plan ≡ counted_to r.plan.calls nothing_chosen
    → ((log : List Write) → IsSoundDisk t log → StandsFor v (opening_of log v) [] [])
    → IsRecovered settings t r
recovered_is settings t u loaded v stat r is told limit keys seq given order from tidied last greatest counted r_seq r_keys torn plan stands = record {
  settings_are = ap (λ (x : Shown). x.settings) is ∙ given;
  limit = ap (λ (x : Shown). x.files.catalog.max_file) is ∙ limit;
  no_fold = ap (λ (x : Shown). has_open x.keys.slots) is ∙ ap (λ (k : KeydirShown). has_open k.slots) keys ∙ order.no_fold;
  slots = ap (λ (x : Shown). length x.keys.slots) is ∙ ap (λ (k : KeydirShown). length k.slots) keys ∙ order.slots;
  seq = r_seq ∙ sym seq ∙ sym (ap (λ (x : Shown). x.seq) is);
  stat = stat;
  counted = subst (λ (x : Shown). IsStat stat x) (sym is) counted;
  keys = r_keys;
  loaded = loaded;
  from = subst (λ (x : Told). IsLoadedFrom (file_at x.image) loaded) (sym (ap (λ (x : Shown). x.files.told) is ∙ told)) from;
  torn = torn;
  tidied = subst (λ (x : Told). Tidied (file_at t.image) (file_at x.image)) (sym (ap (λ (x : Shown). x.files.told) is ∙ told)) tidied;
  last_file = ap (λ (x : Shown). x.files.catalog.last) is ∙ last ∙ greatest;
  plan = plan;
  stands = λ log sound. subst (λ (x : Shown). StandsFor x (opening_of log x) [] []) (sym is) (stands log sound);
}
