-- A store that was parted from its disk and put together again.
use Rattle.std.proofs.Common.{◌≡◌, ◌∙◌, ℕ, Bool, true, false, List, length, refl, sym, ap, subst}
use Rattle.bk_base.specs.declared.histories.Opening.{Opening}
use Rattle.bk_base.specs.declared.histories.Step.{Step}
use Rattle.bk_base.specs.declared.writes.Write.{Write}
use Rattle.bk_files.specs.Files.{Seen}
use Rattle.bk_keydir.specs.Keydir.{Shown as KeydirShown}
use Rattle.bk_memdisk.specs.Plans.{Planned}
use Rattle.bk_session.specs.Following.{Agrees, Follows, snapshot_in}
use Rattle.bk_store.specs.History.{AreCounted}
use Rattle.bk_store.specs.Shown.{Shown}
use Rattle.bk_store.specs.Standing.{Content, ContentStands, FilesStand, StandsFor}
use Rattle.bk_drill.specs.Between.{Between, with_plan}
use Rattle.bk_drill.specs.declared.drills.Drill.{Drill}
use Rattle.bk_drill.specs.Progress.{IsSameStore}
use Rattle.bk_drill.specs.Shown.{IsAt}

-- the files with another room
abbrev seen_in : ℕ → Seen → Seen
seen_in room s = record s { room = room }

abbrev shown_in : ℕ → Shown → Shown
shown_in room v = record v { files = seen_in room v.files }

files_in : (room : ℕ) (s : Seen) (c : Content) → FilesStand s c → FilesStand (seen_in room s) c
files_in room s c f = record {
  consistent = f.consistent;
  totals = f.totals;
  synced = f.synced;
  holds = f.holds;
  whole = f.whole;
  few = f.few;
  covered = f.covered;
}

content_in : (room ttl : ℕ) (s : Seen) (keys : KeydirShown) (c : Content) → ContentStands ttl s keys c
    → ContentStands ttl (seen_in room s) keys c
content_in room ttl s keys c f = record {
  disk = files_in room s c f.disk;
  newest = f.newest;
  open_folds = f.open_folds;
  rows = f.rows;
}

counted_in : (room : ℕ) (s : Seen) (o : Opening) (h : List Step) → AreCounted s o h → AreCounted (seen_in room s) o h
counted_in room s o h are = record { faults = are.faults; views = are.views; outs = are.outs }

stands_in : (room : ℕ) (v : Shown) (o : Opening) (h : List Step) (tried : List Write) → StandsFor v o h tried
    → StandsFor (shown_in room v) o h tried
stands_in room v o h tried stands = record {
  legal = stands.legal;
  seq = stands.seq;
  settings = stands.settings;
  content = content_in room v.settings.ttl v.files v.keys _ stands.content;
  snapshot = stands.snapshot;
  counts = counted_in room v.files o h stands.counts;
}

snapshot_same : (known : Bool) (room : ℕ) (v : Shown) → snapshot_in known v ≡ snapshot_in known (shown_in room v)
snapshot_same true room v = refl
snapshot_same false room v = refl

agrees_in : (known : Bool) (room : ℕ) (v : Shown) (o : Opening) (h : List Step) → Agrees known v o h
    → Agrees known (shown_in room v) o h
agrees_in known room v o h a = record {
  seq = a.seq;
  settings = a.settings;
  limit = a.limit;
  snapshot = a.snapshot ∙ snapshot_same known room v;
  slots = a.slots;
  counts = counted_in room v.files o h a.counts;
}

follows_in : (known : Bool) (room : ℕ) (v : Shown) (o : Opening) (h : List Step) (tried : List Write)
    → Follows known v o h tried → Follows known (shown_in room v) o h tried
follows_in known room v o h tried f = record {
  agrees = agrees_in known room v o h f.agrees;
  stands = λ t. stands_in room v o h tried (f.stands t);
  whole = f.whole;
}

-- The drill stands there still, with this chosen.
pub at_planned : (d : Drill) (u : Shown) (plan : Planned) (b : Between) → IsSameStore d.store u → IsAt d b
    → IsAt (record d { store = u; plan = plan }) (with_plan plan b)
at_planned d u plan b same at = record {
  follows = subst (λ (v : Shown). Follows b.sound v b.opening b.steps b.tried) (sym same)
      (follows_in b.sound u.files.room d.store b.opening b.steps b.tried at.follows);
  moment = at.moment;
  plan = refl;
  settings = ap (λ (v : Shown). v.settings) same ∙ at.settings;
  slots = ap (λ (v : Shown). length v.keys.slots) same ∙ at.slots;
  loans = at.loans;
  listed = at.listed;
}
