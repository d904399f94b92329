-- A store that has loaded nothing but its numbers follows a history over a disk that doesn't tell what it holds.
use Rattle.std.proofs.Common.{◌≡◌, ℕ, List, [], ◌∷◌, true, false, None, refl, sym, ap, arith}
use Rattle.std.specs.Prelude.{is_some}
use Rattle.bk_base.specs.declared.histories.Opening.{Opening}
use Rattle.bk_base.specs.declared.writes.Body.TheVariants.{Gone}
use Rattle.bk_base.specs.declared.writes.Write.{Write}
use Rattle.bk_disk.proofs.Counts.{counted_exactly}
use Rattle.bk_keydir.specs.Slots.{slot_at}
use Rattle.bk_session.specs.Following.{Follows, snapshot_in}
use Rattle.bk_store.specs.Shown.{Shown, settings_of}

-- a log whose last write has this seq
abbrev pub log_to : ℕ → List Write
log_to seq = (record { seq = record { 0 = seq }; moment = record { 0 = 0 }; key = []; body = Gone }) ∷ []

abbrev pub untold_opening : Shown → Opening
untold_opening v = record {
  log = log_to v.seq;
  folds = [];
  snapshot = snapshot_in false v;
  settings = settings_of v.settings;
  faults = v.files.faults;
  views = v.files.fallible_views;
  outs = v.files.fallible_outs;
  whole = false;
}

pub follows_untold : (v : Shown) → v.files.catalog.max_file ≡ v.settings.max_file
    → ((n : ℕ) → slot_at v.keys.slots n ≡ None) → Follows false v (untold_opening v) [] []
follows_untold v limit free = record {
  agrees = record {
    seq = refl;
    settings = refl;
    limit = limit;
    snapshot = refl;
    slots = λ n within. sym (ap is_some (free n));
    counts = record {
      faults = counted_exactly v.files.faults 0 v.files.faults (omega arith);
      views = counted_exactly v.files.fallible_views 0 v.files.fallible_views (omega arith);
      outs = counted_exactly v.files.fallible_outs 0 v.files.fallible_outs (omega arith);
    };
  };
  stands = λ t. let wrong : false ≡ true = t in absurd (cc wrong);
  whole = λ w. w;
}
