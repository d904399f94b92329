-- A store that was started over a sound directory stands for the log that was found.
use Rattle.std.proofs.Common.{◌≡◌, ℕ, zero, suc, ◌+◌, Bool, false, List, [], ◌∷◌, Option, Some, None, refl, sym, ap, subst, ◌∙◌, inl, inr, arith}
use Rattle.std.specs.Prelude.{IsTrue}
use Rattle.std.specs.Option.{IsSome, option_map, unwrap_or}
use Rattle.std.proofs.lemmas.Bool.{true≢false}
use Rattle.bk_base.specs.declared.rows.Row.{Row}
use Rattle.bk_base.specs.declared.writes.Version.{Version}
use Rattle.bk_base.specs.declared.writes.Write.{Write}
use Rattle.bk_disk.specs.Crashes.{IsSynced, front_of}
use Rattle.bk_disk.specs.Told.{Told, at}
use Rattle.bk_disk.proofs.Counts.{counted_exactly}
use Rattle.bk_files.specs.Catalog.{Known, main}
use Rattle.bk_files.specs.Files.{IsConsistent}
use Rattle.bk_files.specs.Rows.{AreAtRest, AreSyncedIfSealed}
use Rattle.bk_image.specs.Known.{known_of}
use Rattle.bk_image.specs.Readings.{In}
use Rattle.bk_image.proofs.HoldsOpening.{at-whole, holds_opens}
use Rattle.bk_keydir.specs.declared.loads.Loaded.{Loaded}
use Rattle.bk_keydir.specs.declared.slots.Slot.{Slot}
use Rattle.bk_keydir.specs.Keydir.{Entry, Shown as KeydirShown}
use Rattle.bk_keydir.specs.Slots.{has_open, slot_at}
use Rattle.bk_store.specs.Shown.{IsFit, IsSteady, Shown, active_file, known_bytes}
use Rattle.bk_store.specs.Standing.{StandsFor}
use Rattle.bk_store.specs.Starting.{AreFilesOf, HasOnePut, IsInOrder, IsLoadOf, opening_of}
use Rattle.bk_keydir.proofs.FoldLemmas.{none_open}

-- no fold is open in any slot
pub no_slot : (slots : List (Option Slot)) (n : ℕ) → has_open slots ≡ false → slot_at slots n ≡ None
no_slot [] n none = refl
no_slot (None ∷ slots) zero none = refl
no_slot (None ∷ slots) (suc n) none = no_slot slots n none
no_slot (Some s ∷ slots) n none = absurd (true≢false none)

-- of a disk that is synced each row's file is
rows_synced : (t : Told) (low high : ℕ) (rows : List Row) → IsSynced t → AreAtRest low high rows t → AreSyncedIfSealed rows t
rows_synced t low high [] synced rest = tt
rows_synced t low high (r ∷ rs) synced rest = (
  λ sealed. ap (λ fronts. at fronts (main r.id.0)) synced ∙ at-whole t.image (main r.id.0) ∙ whole (at t.image (main r.id.0)) rest.2.ours.0,
  rows_synced t (r.id.0 + 1) high rs synced rest.3,
) where
  whole : (o : Option (List ℕ)) → IsSome o → option_map front_of o ≡ Some (front_of (unwrap_or o []))
  whole None there = absurd (true≢false (sym there))
  whole (Some b) there = refl

-- the only version of a key fits it
only_fits : (seq : ℕ) (rows : List Row) (e : Entry) (v : Version) → HasOnePut seq rows e → In v e.1 → IsFit seq e.0 v
only_fits seq rows e v one there = go (subst (In v) one.alone there) where
  go : In v (one.version ∷ []) → IsFit seq e.0 v
  go (inl is) = subst (IsFit seq e.0) (sym is) one.fit
  go (inr later) = absurd later

pub steady_start : (tells : Bool) (v : Shown) (l : Loaded) → IsInOrder l → v.keys ≡ l.keydir → v.seq ≡ l.last_seq.0
    → (IsTrue tells → IsConsistent v.files) → IsSteady tells v.files v.keys v.seq
steady_start tells v l order keys seq consistent =
    subst (λ (k : KeydirShown). IsSteady tells v.files k v.seq) (sym keys)
    (subst (IsSteady tells v.files l.keydir) (sym seq)
    (record {
      consistent = consistent;
      last = order.seq;
      slots = order.slots;
      epochs = λ s is_open. absurd (none_open l.keydir.slots s order.no_fold is_open);
      versions = λ e v is_in there. only_fits l.last_seq.0 l.rows.items e v (order.keys e is_in) there;
    }))

pub start_stands : (v : Shown) (t : Told) (l : Loaded) (log : List Write) (max_file : ℕ) → v.files.told ≡ t
    → v.files.catalog ≡ record { rows = l.rows.items; active = None; last = l.last_file.0; max_file = max_file }
    → v.keys ≡ l.keydir → v.seq ≡ l.last_seq.0 → IsConsistent v.files → IsInOrder l → AreFilesOf t l → IsLoadOf t l log
    → StandsFor v (opening_of log v) [] []
start_stands v t l log max_file told catalog keys seq consistent order files load =
    let known : known_bytes v.files ≡ known_of None t.image =
    ap (λ (k : Known). known_of (active_file k.active) v.files.told.image) catalog ∙ ap (λ (x : Told). known_of None x.image) told in
    record {
      legal = tt;
      seq = seq ∙ load.seq;
      settings = refl;
      content = record {
        disk = record {
          consistent = consistent;
          totals = rw (told, catalog) load.totals;
          synced = rw (told, catalog) (rows_synced t 1 (l.last_file.0 + 1) l.rows.items load.disk.synced files.rows);
          holds = rw (told, catalog) (holds_opens load.disk load.idle files.free);
          whole = λ not_torn. refl;
          few = omega arith;
          covered = rw (told, catalog) load.covered;
        };
        newest = rw (known, keys) load.keys;
        open_folds = λ n. rw (keys, no_slot l.keydir.slots n order.no_fold) tt;
        rows = rw (keys, catalog) load.counts;
      };
      snapshot = refl;
      counts = record {
        faults = counted_exactly v.files.faults 0 v.files.faults (omega arith);
        views = counted_exactly v.files.fallible_views 0 v.files.fallible_views (omega arith);
        outs = counted_exactly v.files.fallible_outs 0 v.files.fallible_outs (omega arith);
      };
    }
