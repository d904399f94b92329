-- What a store has, through its events.
use Rattle.std.proofs.Common.{◌≡◌, ℕ, ◌<◌, ◌≤◌, Bool, List, [], ◌∷◌, ◌++◌, Option, Some, None, refl, sym, ap, subst, ◌∙◌, arith}
use Rattle.std.specs.Prelude.{IsTrue}
use Rattle.std.specs.Option.{is_some}
use Rattle.bk_base.specs.declared.rows.Row.{Row}
use Rattle.bk_base.specs.declared.writes.Write.{Write}
use Rattle.bk_disk.specs.Told.{Told}
use Rattle.bk_laws.specs.Log.{last_seq}
use Rattle.bk_laws.specs.Record.{size_of}
use Rattle.bk_laws.specs.Version.{version_at}
use Rattle.bk_image.specs.Known.{known_of}
use Rattle.bk_image.specs.Readings.{Reading, main}
use Rattle.bk_image.proofs.HoldsEvents.{holds_same}
use Rattle.bk_files.specs.declared.catalog.Active.{Active}
use Rattle.bk_files.specs.Catalog.{Known, row_of, torn_of}
use Rattle.bk_files.specs.Files.{IsConsistent, IsFromScratch, IsSyncedIfSealed, Seen}
use Rattle.bk_files.specs.Rows.{AreFromScratch, AreSyncedIfSealed}
use Rattle.bk_keydir.specs.Counts.{live_of, refs_of}
use Rattle.bk_keydir.specs.Folds.{KeepsFolds}
use Rattle.bk_keydir.specs.Keydir.{Entry, with_version}
use Rattle.bk_keydir.specs.Keydir.{Shown as KeydirShown}
use Rattle.bk_store.specs.declared.appending.Place.{Place}
use Rattle.bk_store.specs.Appends.{CountsAlone, Extends, IsAppended, IsNotAppended, RowGoes, RowGoesOn, RowsHaveRoom, RowsStay, live_in, total_in, with_tried, with_write}
use Rattle.bk_store.specs.Appends.{refs_in as refs_of_row}
use Rattle.bk_store.specs.Rows.{RowStands, RowsStand}
use Rattle.bk_store.specs.Shown.{active_file, known_bytes}
use Rattle.bk_store.specs.Standing.{Content, ContentStands, FilesStand}
use Rattle.bk_store.specs.Versions.{KeysStand, VersionStands}
use Rattle.bk_store.proofs.FoldsKept.{folds_put, folds_stay}
use Rattle.bk_store.proofs.KeptVersions.{extends_refl, keys_put, keys_stay}
use Rattle.bk_store.proofs.RowCounts.{from_one, no_counts, none_placed, rows_have_room}
use Rattle.bk_store.proofs.Stages.{known_empty}

-- ---- the files alone

-- of the files the counts alone changed
pub files_counted : (tells : Bool) (old new : Seen) (c : Content) → IsTrue tells → FilesStand old c → CountsAlone tells old new
    → FilesStand new c
files_counted tells old new c tell h alone =
    let told : new.told ≡ old.told = ap (λ (s : Seen). s.told) alone.same in
    let active : new.catalog.active ≡ old.catalog.active = ap (λ (s : Seen). s.catalog.active) alone.same in
    let last : new.catalog.last ≡ old.catalog.last = ap (λ (s : Seen). s.catalog.last) alone.same in
    record {
      consistent = alone.consistent tell h.consistent;
      totals = alone.totals tell h.totals;
      synced = alone.synced tell h.synced;
      holds = rw (told, active, last) h.holds;
      whole = λ not_torn. h.whole (sym (ap torn_of active) ∙ not_torn);
      few = h.few;
      covered = λ id first none. rw told (h.covered id first (sym (alone.there id) ∙ none));
    }

pub known_counted : (tells : Bool) (old new : Seen) → CountsAlone tells old new → known_bytes new ≡ known_bytes old
known_counted tells old new alone =
    ap (λ (t : Told). known_of (active_file new.catalog.active) t.image) (ap (λ (s : Seen). s.told) alone.same)
    ∙ ap (λ (o : Option Active). known_of (active_file o) old.told.image) (ap (λ (s : Seen). s.catalog.active) alone.same)

-- a call that changed no file and no front, as a view
pub files_same : (old new : Seen) (c : Content) → FilesStand old c → IsConsistent new → IsFromScratch new → IsSyncedIfSealed new
    → new.told.image ≡ old.told.image → new.told.fronts ≡ old.told.fronts → new.catalog ≡ old.catalog → FilesStand new c
files_same old new c h consistent totals synced image fronts catalog = record {
  consistent = consistent;
  totals = totals;
  synced = synced;
  holds = rw catalog (holds_same new.told h.holds image fronts);
  whole = λ not_torn. h.whole (sym (ap (λ (k : Known). torn_of k.active) catalog) ∙ not_torn);
  few = h.few;
  covered = λ id first none.
      rw image (h.covered id first (sym (ap (λ (k : Known). is_some (row_of id k.rows)) catalog) ∙ none));
}

-- a call that changed rooms alone
pub files_still : (old new : Seen) (c : Content) → FilesStand old c → new.told ≡ old.told → new.catalog ≡ old.catalog
    → IsConsistent new → FilesStand new c
files_still old new c h told catalog consistent =
    files_same old new c h consistent
    (subst (λ (k : Known). AreFromScratch k.rows new.told) (sym catalog)
    (subst (AreFromScratch old.catalog.rows) (sym told) h.totals))
    (subst (λ (k : Known). AreSyncedIfSealed k.rows new.told) (sym catalog)
    (subst (AreSyncedIfSealed old.catalog.rows) (sym told) h.synced))
    (ap (λ (t : Told). t.image) told) (ap (λ (t : Told). t.fronts) told) catalog

-- ---- rows

-- no put stands in a file without a row
pub no_row_no_counts : (files : Seen) (c : Content) (entries : List Entry) → FilesStand files c
    → KeysStand (known_bytes files) entries c.log → (id : ℕ) → 1 ≤ id → row_of id files.catalog.rows ≡ None
    → (live_of id entries ≡ 0) × (refs_of id entries ≡ 0)
no_row_no_counts files c entries h keys id first none =
    no_counts id entries
    (none_placed (known_bytes files) entries c.log id keys
    (known_empty (active_file files.catalog.active) files.told.image (main id)
    (h.covered id first (ap (λ (o : Option Row). is_some o) none))))

pub rows_stand_still : (rows now : List Row) (entries : List Entry) → RowsStay rows now → RowsStand rows entries
    → ((id : ℕ) → 1 ≤ id → row_of id rows ≡ None → (live_of id entries ≡ 0) × (refs_of id entries ≡ 0))
    → ((id : ℕ) (r : Row) → row_of id now ≡ Some r → 1 ≤ id) → RowsStand now entries
rows_stand_still rows now entries stay stand none first id r here =
    go (row_of id rows) refl (subst (RowGoes 0 (row_of id rows)) here (stay id)) where
      go : (o : Option Row) → row_of id rows ≡ o → RowGoesOn 0 (row_of id rows) r → RowStands entries id r
      go None e g =
          let zero_of = none id (first id r here) e in
          let live : r.live ≡ 0 = g.live ∙ ap live_in e in
          let refs : r.refs ≡ 0 = g.refs ∙ ap refs_of_row e in
          record {
            live = live ∙ sym zero_of.0;
            refs = refs ∙ sym zero_of.1;
            live_within = omega (arith, live);
            refs_within = omega (arith, refs);
          }
      go (Some q) e g =
          let s = stand id q e in
          let live : r.live ≡ q.live = g.live ∙ ap live_in e in
          let refs : r.refs ≡ q.refs = g.refs ∙ ap refs_of_row e in
          let total : total_in (row_of id rows) ≡ q.total = ap total_in e in
          record {
            live = live ∙ s.live;
            refs = refs ∙ s.refs;
            live_within = omega (arith, live, total, g.total, s.live_within);
            refs_within = omega (arith, refs, total, g.total, s.refs_within);
          }

-- ---- the keydir

-- its folds and versions are the same
pub keeps_same : (keys now : KeydirShown) → now.slots ≡ keys.slots → now.entries ≡ keys.entries → KeepsFolds keys now
keeps_same keys now slots entries = record {
  slots = slots;
  same = λ s is_open. rw entries (record { sees = λ key. refl; still = λ ttl. refl; listed = λ ttl. refl });
}

-- ---- the whole

-- the write was appended, and its version put
pub content_put : (tells : Bool) (ttl : ℕ) (files mid new : Seen) (keys now : KeydirShown) (c : Content) (w : Write) (p : Place)
    → IsTrue tells → ContentStands ttl files keys c → last_seq c.log < w.seq.0 → IsAppended files mid c w p
    → now.entries ≡ with_version keys.slots w.key (version_at p.file p.at w) keys.entries → KeepsFolds keys now
    → CountsAlone tells mid new
    → (RowsHaveRoom (version_at p.file p.at w) mid.catalog.rows keys.entries → RowsStand new.catalog.rows now.entries)
    → ContentStands ttl new now (with_write w c)
content_put tells ttl files mid new keys now c w p tell h newer appended entries folds alone counts =
    let v = version_at p.file p.at w in
    let known : known_bytes new ≡ known_bytes mid = known_counted tells mid new alone in
    let stands : VersionStands (known_bytes mid) v w = record { says = refl; text = λ put. appended.placed } in
    record {
      disk = files_counted tells mid new (with_write w c) tell appended.disk alone;
      newest = subst (λ (r : Reading). KeysStand r now.entries (c.log ++ w ∷ [])) (sym known)
          (subst (λ (es : List Entry). KeysStand (known_bytes mid) es (c.log ++ w ∷ [])) (sym entries)
          (keys_put keys.slots (known_bytes files) (known_bytes mid) keys.entries c.log w v appended.known stands h.newest));
      open_folds = rw known
          (folds_put ttl (known_bytes files) (known_bytes mid) keys now c.log c.folds w appended.known folds newer h.open_folds);
      rows = counts
          (rows_have_room v (size_of w) files.catalog.rows mid.catalog.rows keys.entries refl (omega arith) appended.rows h.rows
          (no_row_no_counts files c keys.entries h.disk h.newest)
          (λ id r here. from_one mid.catalog.active mid.catalog.last id mid.catalog.rows mid.told r appended.disk.consistent.made here));
    }

-- the files hold the same log and know no less, and the keydir has what it had
pub content_stays : (ttl : ℕ) (files new : Seen) (keys now : KeydirShown) (c : Content) (kept : ℕ) (left : List Write)
    → ContentStands ttl files keys c → FilesStand new (record c { kept = kept; tried = left })
    → Extends (known_bytes files) (known_bytes new) → RowsStay files.catalog.rows new.catalog.rows → now.slots ≡ keys.slots
    → now.entries ≡ keys.entries → ContentStands ttl new now (record c { kept = kept; tried = left })
content_stays ttl files new keys now c kept left h disk known rows slots entries = record {
  disk = disk;
  newest = subst (λ (es : List Entry). KeysStand (known_bytes new) es c.log) (sym entries)
      (keys_stay (known_bytes files) (known_bytes new) keys.entries c.log known h.newest);
  open_folds = folds_stay ttl (known_bytes files) (known_bytes new) keys now c.log c.log c.folds known
      (keeps_same keys now slots entries) (omega arith) (λ s given_out. refl) h.open_folds;
  rows = subst (RowsStand new.catalog.rows) (sym entries)
      (rows_stand_still files.catalog.rows new.catalog.rows keys.entries rows h.rows
      (no_row_no_counts files c keys.entries h.disk h.newest)
      (λ id r here. from_one new.catalog.active new.catalog.last id new.catalog.rows new.told r disk.consistent.made here));
}

-- nothing was appended
pub content_kept : (ttl : ℕ) (files new : Seen) (keys now : KeydirShown) (c : Content) (more tries : List Write)
    → ContentStands ttl files keys c → (n : IsNotAppended files new c more tries) → now.slots ≡ keys.slots
    → now.entries ≡ keys.entries → ContentStands ttl new now (with_tried n.left c)
content_kept ttl files new keys now c more tries h n slots entries =
    content_stays ttl files new keys now c c.kept n.left h n.disk n.known n.rows slots entries

-- no file changed, nor what is known of one
pub content_same : (ttl : ℕ) (files new : Seen) (keys now : KeydirShown) (c : Content) → ContentStands ttl files keys c
    → FilesStand new c → new.told.image ≡ files.told.image → new.catalog ≡ files.catalog → now.slots ≡ keys.slots
    → now.entries ≡ keys.entries → ContentStands ttl new now c
content_same ttl files new keys now c h disk image catalog slots entries =
    let known : known_bytes new ≡ known_bytes files =
    ap (λ (k : Known). known_of (active_file k.active) new.told.image) catalog
    ∙ ap (known_of (active_file files.catalog.active)) image in
    record {
      disk = disk;
      newest = rw (known, entries) h.newest;
      open_folds = rw known
          (folds_stay ttl (known_bytes files) (known_bytes files) keys now c.log c.log c.folds (extends_refl (known_bytes files))
          (keeps_same keys now slots entries) (omega arith) (λ s given_out. refl) h.open_folds);
      rows = rw (catalog, entries) h.rows;
    }
