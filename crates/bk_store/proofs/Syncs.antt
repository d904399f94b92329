-- A sync: all of the log is then kept by each crash.
use Rattle.std.proofs.Common.{◌≡◌, ◌⊎◌, ℕ, Bool, false, [], length, Option, Some, None, refl, sym, ap, subst, ◌∙◌, arith, inl, inr}
use Rattle.std.specs.Prelude.{IsTrue}
use Rattle.bk_disk.specs.Told.{Told}
use Rattle.bk_image.specs.Core.{ActiveFile}
use Rattle.bk_image.specs.Known.{known_of}
use Rattle.bk_image.specs.Readings.{bytes_in, main}
use Rattle.bk_image.specs.Holds.{Holds, IsIdle, Young}
use Rattle.bk_image.proofs.HoldsCourse.{Settles, after_settled, holds_settled}
use Rattle.bk_image.proofs.HoldsLasting.{lasts_young_idle}
use Rattle.bk_files.specs.declared.catalog.Active.{Active}
use Rattle.bk_files.specs.Catalog.{Known, row_of, torn_of, with_torn}
use Rattle.bk_files.specs.Files.{HalfRepaired, IsConsistent, IsFromScratch, IsSyncedIfSealed, Repaired, Seen, SettledOf, Synchronized}
use Rattle.bk_store.specs.Appends.{CrashMeetsFrom, Extends, IsNotAppended, KeepsFacts, RowsStay}
use Rattle.bk_keydir.specs.Keydir.{Shown as KeydirShown}
use Rattle.bk_base.specs.declared.calls.Answer.TheVariants.{Numbered}
use Rattle.bk_base.specs.declared.calls.Call.TheVariants.{Sync}
use Rattle.bk_base.specs.declared.numbers.Seq.{Seq}
use Rattle.bk_store.specs.Events.{CrashMeets, GoesOn, Refuses, entry_by, quiet_by}
use Rattle.bk_store.specs.Shown.{Shown, active_file, known_bytes}
use Rattle.bk_store.specs.Standing.{Content, ContentStands, FilesStand, content_of}
use Rattle.bk_store.proofs.Contents.{content_kept, content_stays}
use Rattle.bk_store.proofs.Stepping.{one_step}
use Rattle.bk_store.proofs.KeptVersions.{extends_same}
use Rattle.bk_store.proofs.RowCounts.{goes_none, rows_refl}
use Rattle.bk_store.proofs.Stages.{begun_of, covered_after, so_repaired, stage_begins, stage_ends, stage_half_repaired, stage_repaired}

-- the files were synced
pub record IsSynced (old new : Seen) (c : Content) : Type 0 where
  pub disk : FilesStand new (record c { kept = length c.log; tried = [] })
  pub known : Extends (known_bytes old) (known_bytes new)
  pub rows : RowsStay old.catalog.rows new.catalog.rows
  pub crash : CrashMeetsFrom old new c []

settles_mended : (a : Option Active) (t u : Told) → SettledOf a t u → Settles (active_file (with_torn false a)) t u
settles_mended None t u is = is
settles_mended (Some a) t u is = is

pub files_synced : (tells : Bool) (old new : Seen) (c : Content) → IsTrue tells → FilesStand old c → Synchronized tells old new
    → IsConsistent new → IsFromScratch new → IsSyncedIfSealed new → IsSynced old new c
files_synced tells old new c tell h sync consistent totals synced =
    let (m, repaired, settled) = sync.told tell in
    let a = active_file (with_torn false old.catalog.active) in
    let mended = so_repaired (begun_of old c []) old.catalog.active old.told m old.catalog.last c.tried
    (stage_begins old c [] h).so h.whole repaired in
    let settles = settles_mended old.catalog.active m new.told settled in
    let so = after_settled lasts_young_idle a mended settles in
    let rows : new.catalog.rows ≡ old.catalog.rows = ap (λ (k : Known). k.rows) sync.catalog in
    let active : active_file new.catalog.active ≡ a = ap (λ (k : Known). active_file k.active) sync.catalog in
    let known : (n : ℕ) → bytes_in (known_bytes new) (main n) ≡ bytes_in (known_bytes old) (main n) =
    λ n. ap (λ (o : Option ActiveFile). bytes_in (known_of o new.told.image) (main n)) active ∙ so.known (main n) in
    let stay = subst (RowsStay old.catalog.rows) (sym rows) (rows_refl old.catalog.rows) in
    record {
      disk = record {
        consistent = consistent;
        totals = totals;
        synced = synced;
        holds = subst (λ (k : Known). Holds (Young IsIdle) new.told (active_file k.active) k.last c.log (length c.log) [])
            (sym sync.catalog) (holds_settled lasts_young_idle a mended.holds settles);
        whole = λ not_torn. refl;
        few = omega arith;
        covered = covered_after old new c h consistent
            (λ id none. goes_none 0 (row_of id old.catalog.rows) (row_of id new.catalog.rows) (stay id) none)
            (λ id none. known id);
      };
      known = extends_same (known_bytes old) (known_bytes new)
          (λ n. ap (λ (o : Option ActiveFile). bytes_in (known_of o new.told.image) n) active ∙ so.known n);
      rows = stay;
      crash = so.each;
    }

-- a sync that was refused
pub files_not_synced : (tells : Bool) (old new : Seen) (c : Content) → IsTrue tells → FilesStand old c
    → HalfRepaired tells old new ⊎ Repaired tells old new → IsConsistent new → IsFromScratch new → IsSyncedIfSealed new
    → IsNotAppended old new c [] []
files_not_synced tells old new c tell h (inl half) consistent totals synced =
    stage_ends old new c [] c.tried h (omega arith)
    (stage_half_repaired tells (begun_of old c []) old old new c.tried tell (stage_begins old c [] h) half consistent totals synced)
    (λ not_torn. h.whole (sym (ap (λ (k : Known). torn_of k.active) half.catalog) ∙ not_torn))
files_not_synced tells old new c tell h (inr repaired) consistent totals synced =
    stage_ends old new c [] [] h (omega arith)
    (stage_repaired tells (begun_of old c []) old old new c.tried tell (stage_begins old c [] h) h.whole repaired
    consistent totals synced)
    (λ not_torn. refl)

-- ---- the event

synced_content : (v u : Shown) (c : Content) → ContentStands v.settings.ttl v.files v.keys c → u.keys ≡ v.keys
    → IsSynced v.files u.files c
    → ContentStands v.settings.ttl u.files u.keys (record c { kept = length c.log; tried = [] })
synced_content v u c h keys s =
    content_stays v.settings.ttl v.files u.files v.keys u.keys c (length c.log) [] h s.disk s.known s.rows
    (ap (λ (k : KeydirShown). k.slots) keys) (ap (λ (k : KeydirShown). k.entries) keys)

pub sync_goes_on : (tells : Bool) (v u : Shown) (who : ℕ) (n : Seq) → IsTrue tells → Synchronized tells v.files u.files
    → KeepsFacts v.files u.files → u ≡ record v { files = u.files } → n.0 ≡ v.seq
    → GoesOn tells (entry_by who Sync (Numbered n)) v u
sync_goes_on tells v u who n tell sync facts rest is o h tried s stood step entry =
    let c = content_of o h tried in
    one_step tells v u o h tried [] s (entry_by who Sync (Numbered n)) stood step entry (is ∙ stood.seq)
    (ap (λ (x : Shown). x.settings) rest) (ap (λ (x : Shown). x.seq) rest ∙ stood.seq)
    (synced_content v u c stood.content (ap (λ (x : Shown). x.keys) rest)
    (files_synced tells v.files u.files c tell stood.content.disk sync facts.consistent
    (facts.totals stood.content.disk.totals) (facts.synced stood.content.disk.synced)))

pub sync_refused : (tells : Bool) (v u : Shown) (who : ℕ) → IsTrue tells
    → HalfRepaired tells v.files u.files ⊎ Repaired tells v.files u.files → KeepsFacts v.files u.files
    → u ≡ record v { files = u.files } → Refuses tells who [] v u
sync_refused tells v u who tell half facts rest o h tried s stood step entry =
    let c = content_of o h tried in
    let n = files_not_synced tells v.files u.files c tell stood.content.disk half facts.consistent
    (facts.totals stood.content.disk.totals) (facts.synced stood.content.disk.synced) in
    let keys : u.keys ≡ v.keys = ap (λ (x : Shown). x.keys) rest in (
      n.left,
      n.is_left,
      one_step tells v u o h tried n.left s (quiet_by who) stood step entry tt (ap (λ (x : Shown). x.settings) rest)
          (ap (λ (x : Shown). x.seq) rest ∙ stood.seq)
          (content_kept v.settings.ttl v.files u.files v.keys u.keys c [] [] stood.content n
          (ap (λ (k : KeydirShown). k.slots) keys) (ap (λ (k : KeydirShown). k.entries) keys)),
    )

pub sync_crash : (tells : Bool) (v u : Shown) → IsTrue tells → Synchronized tells v.files u.files → KeepsFacts v.files u.files
    → CrashMeets [] v u
sync_crash tells v u tell sync facts o h tried stood =
    (files_synced tells v.files u.files (content_of o h tried) tell stood.content.disk sync facts.consistent
    (facts.totals stood.content.disk.totals) (facts.synced stood.content.disk.synced)).crash

pub sync_crash_refused : (tells : Bool) (v u : Shown) → IsTrue tells
    → HalfRepaired tells v.files u.files ⊎ Repaired tells v.files u.files → KeepsFacts v.files u.files → CrashMeets [] v u
sync_crash_refused tells v u tell half facts o h tried stood =
    (files_not_synced tells v.files u.files (content_of o h tried) tell stood.content.disk half facts.consistent
    (facts.totals stood.content.disk.totals) (facts.synced stood.content.disk.synced)).crash
