-- What stands stays so while a sweep drops what nobody sees.
use Rattle.std.proofs.Common.{◌≡◌, ℕ, zero, suc, ◌+◌, ◌-◌, ◌<◌, ◌≤◌, ◌==◌, min, Bool, true, false, cond, List, [], ◌∷◌, length, get_or, Option, Some, None, refl, sym, ap, subst, ◌∙◌, arith, inl, inr, eqb-true}
use Rattle.std.specs.Prelude.{IsTrue, not, ◌&&◌, sum_by, take}
use Rattle.std.specs.List.{IsDistinct}
use Rattle.std.specs.Map.{keys_of}
use Rattle.std.specs.Option.{option_map}
use Rattle.std.specs.Str.{bytes_eq}
use Rattle.std.proofs.lemmas.Bool.{cases_Bool, true≢false}
use Rattle.std.proofs.lemmas.Bool.Decides.{nat_tests}
use Rattle.std.proofs.lemmas.List.Sums.{sum_by_more}
use Rattle.bk_base.specs.declared.rows.Row.{Row}
use Rattle.bk_base.specs.declared.writes.Version.{Version}
use Rattle.bk_base.specs.declared.writes.Write.{Write}
use Rattle.bk_files.specs.Catalog.{counted, edited, row_of, with_counts}
use Rattle.bk_files.specs.Files.{Seen, rows_of}
use Rattle.bk_image.specs.Readings.{In, Reading}
use Rattle.bk_keydir.specs.declared.slots.Slot.{Slot}
use Rattle.bk_keydir.specs.Counts.{PruneCounts, SameCounts, is_put_in, one_in}
use Rattle.bk_keydir.specs.Folds.{KeepsFolds}
use Rattle.bk_keydir.specs.Keydir.{Entry, can_drop, dropped_at, edited_at, is_lone_gone, left_by_prune, newest_of, pruned, versions_at, versions_of}
use Rattle.bk_keydir.specs.Keydir.{Shown as KeydirShown}
use Rattle.bk_keydir.specs.Slots.{IsOpen, has_open, slot_at}
use Rattle.bk_laws.specs.Log.{put_of, winner}
use Rattle.bk_store.specs.Appends.{CountsAlone, ref_taken}
use Rattle.bk_store.specs.Rows.{RowStands, RowsStand}
use Rattle.bk_store.specs.Shown.{IsSteady, known_bytes}
use Rattle.bk_store.specs.Standing.{Content, ContentStands}
use Rattle.bk_store.specs.Loans.{is_put}
use Rattle.bk_store.specs.Sweeps.{AreClean, AreFewer, Cleans, GoesOnAt, IsClean, IsPruned, IsSwept, IsVisited, SeesSame, StaysBut, has_put, last_count, put_if, swept_to, versions_in}
use Rattle.bk_store.specs.Versions.{KeyStands, KeysStand}
use Rattle.bk_store.proofs.Contents.{files_counted, known_counted}
use Rattle.bk_store.proofs.Entries.{dropped_before, dropped_key, dropped_other, edited_before, in_dropped, in_pruned, length_dropped, length_edited, newest_pruned, shorter_pruned, sum_dropped, sum_pruned, versions_get}
use Rattle.bk_store.proofs.Events.{put_says}
use Rattle.bk_store.proofs.FoldsKept.{folds_stay}
use Rattle.bk_store.proofs.KeptVersions.{extends_refl}
use Rattle.bk_store.proofs.RowCounts.{row_of-edited}
use Rattle.bk_image.proofs.OneName.{none_of}

-- ---- the files

pub counts_refl : (tells : Bool) (s : Seen) → CountsAlone tells s s
counts_refl tells s = record {
  same = refl;
  there = λ id. refl;
  consistent = λ tell h. h;
  totals = λ tell h. h;
  synced = λ tell h. h;
}

pub counts_trans : (tells : Bool) (a b c : Seen) → CountsAlone tells a b → CountsAlone tells b c → CountsAlone tells a c
counts_trans tells a b c first second = record {
  same = second.same ∙ ap (λ (s : Seen). record s { catalog = record s.catalog { rows = c.catalog.rows } }) first.same;
  there = λ id. second.there id ∙ first.there id;
  consistent = λ tell h. second.consistent tell (first.consistent tell h);
  totals = λ tell h. second.totals tell (first.totals tell h);
  synced = λ tell h. second.synced tell (first.synced tell h);
}

-- ---- a reference is taken

map_same : (f : Row → Row) (o : Option Row) → ((r : Row) → o ≡ Some r → f r ≡ r) → option_map f o ≡ o
map_same f None same = refl
map_same f (Some r) same = ap Some (same r refl)

map_alike : (f g : Row → Row) (o : Option Row) → ((r : Row) → o ≡ Some r → f r ≡ g r) → option_map f o ≡ option_map g o
map_alike f g None same = refl
map_alike f g (Some r) same = ap Some (same r refl)

-- nothing is taken of a file that the version doesn't name
none_taken : (id : ℕ) (v : Version) (r : Row) → is_put_in id v ≡ false → ref_taken id v r ≡ r
none_taken id v r none =
    let zero_of : one_in id v ≡ 0 = rw none refl in
    let same : r.refs - one_in id v ≡ r.refs = omega (arith, zero_of) in
    ap (λ (n : ℕ). with_counts r.live n r) same

pub taken_gone : (v : Version) (rows : List Row) → v.gone ≡ true → (id : ℕ)
    → row_of id rows ≡ option_map (ref_taken id v) (row_of id rows)
taken_gone v rows gone id =
    sym (map_same (ref_taken id v) (row_of id rows) (λ r is. none_taken id v r (rw gone refl)))

pub taken_no_row : (v : Version) (rows : List Row) → row_of v.file.0 rows ≡ None → (id : ℕ)
    → row_of id rows ≡ option_map (ref_taken id v) (row_of id rows)
taken_no_row v rows none id =
    sym (map_same (ref_taken id v) (row_of id rows) (λ r is. none_taken id v r (not_in r is))) where
      not_in : (r : Row) → row_of id rows ≡ Some r → is_put_in id v ≡ false
      not_in r is =
          elim (cases_Bool (v.file.0 == id)) [
            | inl p ↦
                let wrong : None ≡ Some r = sym none ∙ ap (λ (n : ℕ). row_of n rows) (eqb-true v.file.0 id p) ∙ is in
                absurd (no_option r wrong)
            | inr p ↦ rw p (and_false (not v.gone))
          ] where
            no_option : (r : Row) → ◌≡◌ {A = Option Row} None (Some r) → ⊥
            no_option r h = cc h

            and_false : (b : Bool) → (b && false) ≡ false
            and_false true = refl
            and_false false = refl

pub taken_row : (v : Version) (rows now : List Row) (r : Row) → v.gone ≡ false → row_of v.file.0 rows ≡ Some r
    → now ≡ edited v.file.0 (with_counts r.live (r.refs - 1)) rows → (id : ℕ)
    → row_of id now ≡ option_map (ref_taken id v) (row_of id rows)
taken_row v rows now r put here is id =
    ap (row_of id) is ∙ row_of-edited v.file.0 id (with_counts r.live (r.refs - 1)) rows (λ q. refl)
    ∙ go (id == v.file.0) refl where
      go : (b : Bool) → (id == v.file.0) ≡ b
          → cond b (option_map (with_counts r.live (r.refs - 1)) (row_of id rows)) (row_of id rows)
          ≡ option_map (ref_taken id v) (row_of id rows)
      go true p =
          let same : id ≡ v.file.0 = eqb-true id v.file.0 p in
          let at : (v.file.0 == id) ≡ true = grind (arith, nat_tests, same) in
          let one : one_in id v ≡ 1 = rw (put, at) refl in
          let row : row_of id rows ≡ Some r = ap (λ (n : ℕ). row_of n rows) same ∙ here in
          rw row (ap (λ (n : ℕ). Some (with_counts r.live (r.refs - n) r)) (sym one))
      go false p =
          let other : (v.file.0 == id) ≡ false = grind (arith, nat_tests, p) in
          sym (map_same (ref_taken id v) (row_of id rows) (λ q at. none_taken id v q (rw (put, other) refl)))

-- ---- what a sweep leaves

keeps_refl : (keys : KeydirShown) → KeepsFolds keys keys
keeps_refl keys = record { slots = refl; same = λ s is_open. record { sees = λ key. refl; still = λ ttl. refl; listed = λ ttl. refl } }

keeps_trans : (a b c : KeydirShown) → KeepsFolds a b → KeepsFolds b c → KeepsFolds a c
keeps_trans a b c first second = record {
  slots = second.slots ∙ first.slots;
  same = λ s is_open.
      let before = first.same s is_open in
      let later = second.same s (subst (λ (l : List (Option Slot)). IsOpen l s) (sym first.slots) is_open) in
      record {
        sees = λ key. later.sees key ∙ before.sees key;
        still = λ ttl. later.still ttl ∙ before.still ttl;
        listed = λ ttl. later.listed ttl ∙ before.listed ttl;
      };
}

sees_refl : (keys : KeydirShown) → SeesSame keys keys
sees_refl keys = record { puts = λ key. refl; folds = keeps_refl keys }

sees_trans : (a b c : KeydirShown) → SeesSame a b → SeesSame b c → SeesSame a c
sees_trans a b c first second = record {
  puts = λ key. second.puts key ∙ first.puts key;
  folds = keeps_trans a b c first.folds second.folds;
}

pub cleans_refl : (tells : Bool) (files : Seen) (keys : KeydirShown) → Cleans tells files keys files keys
cleans_refl tells files keys = record {
  alone = counts_refl tells files;
  sees = sees_refl keys;
  versions = λ e v there is_in. (e, there, refl, is_in);
  keeps = λ tell ttl c h. h;
}

pub cleans_trans : (tells : Bool) (a b c : Seen) (x y z : KeydirShown) → Cleans tells a x b y → Cleans tells b y c z
    → Cleans tells a x c z
cleans_trans tells a b c x y z first second = record {
  alone = counts_trans tells a b c first.alone second.alone;
  sees = sees_trans x y z first.sees second.sees;
  versions = λ e v there is_in.
      let (f, at, key, here) = second.versions e v there is_in in
      let (d, stands, is, in_it) = first.versions f v at here in
      (d, stands, key ∙ is, in_it);
  keeps = λ tell ttl content h. second.keeps tell ttl content (first.keeps tell ttl content h);
}

-- fewer versions, of which each key's newest says the same
content_cleaned : (tells : Bool) (ttl : ℕ) (files new : Seen) (keys now : KeydirShown) (c : Content) → IsTrue tells
    → CountsAlone tells files new → KeepsFolds keys now
    → ((e : Entry) (v : Version) → In e now.entries → In v e.1 → (f : Entry) × In f keys.entries × (e.0 ≡ f.0) × In v f.1)
    → ((r : Reading) (key : List ℕ) → KeyStands r (newest_of (versions_of key keys.entries)) (winner c.log key)
    → KeyStands r (newest_of (versions_of key now.entries)) (winner c.log key))
    → (RowsStand files.catalog.rows keys.entries → RowsStand new.catalog.rows now.entries)
    → ContentStands ttl files keys c → ContentStands ttl new now c
content_cleaned tells ttl files new keys now c tell alone folds versions newest rows h =
    let r = known_bytes files in
    let known : known_bytes new ≡ r = known_counted tells files new alone in
    let keys_stand : KeysStand r now.entries c.log = record {
      newest = λ key. newest r key (h.newest.newest key);
      placed = λ e v there is_in put.
          let (f, at, key, here) = versions e v there is_in in
          let (w, in_log, is_key, stands) = h.newest.placed f v at here put in
          (w, in_log, is_key ∙ sym key, stands);
    } in
    record {
      disk = files_counted tells files new c tell h.disk alone;
      newest = subst (λ (s : Reading). KeysStand s now.entries c.log) (sym known) keys_stand;
      open_folds = rw known
          (folds_stay ttl r r keys now c.log c.log c.folds (extends_refl r) folds (omega arith) (λ s given_out. refl) h.open_folds);
      rows = rows h.rows;
    }

-- ---- an older version is pruned

row_pruned : (v : Version) (es fs : List Entry) (id : ℕ) (r : Row) → PruneCounts (Some v) es fs → RowStands es id r
    → RowStands fs id (ref_taken id v r)
row_pruned v es fs id r counts h = record {
  live = h.live ∙ sym (counts.live id);
  refs = omega (arith, h.refs, counts.refs id);
  live_within = h.live_within;
  refs_within = omega (arith, h.refs_within);
}

rows_pruned : (v : Version) (es fs : List Entry) (rows now : List Row) → PruneCounts (Some v) es fs
    → ((id : ℕ) → row_of id now ≡ option_map (ref_taken id v) (row_of id rows)) → RowsStand rows es → RowsStand now fs
rows_pruned v es fs rows now counts taken stand id r here = go (row_of id rows) refl where
  go : (o : Option Row) → row_of id rows ≡ o → RowStands fs id r
  go None e =
      let none : None ≡ Some r = ap (option_map (ref_taken id v)) (sym e) ∙ sym (taken id) ∙ here in
      absurd (no_option r none) where
        no_option : (r : Row) → ◌≡◌ {A = Option Row} None (Some r) → ⊥
        no_option r h = cc h
  go (Some q) e =
      let some : Some (ref_taken id v q) ≡ Some r = ap (option_map (ref_taken id v)) (sym e) ∙ sym (taken id) ∙ here in
      let same : ref_taken id v q ≡ r = cc some in
      subst (RowStands fs id) same (row_pruned v es fs id q counts (stand id q e))

pub cleans_prune : (tells : Bool) (files new : Seen) (keys now : KeydirShown) (n : ℕ) (v : Version) → CountsAlone tells files new
    → ((id : ℕ) → row_of id (rows_of new) ≡ option_map (ref_taken id v) (row_of id (rows_of files)))
    → now ≡ record keys { entries = edited_at n (left_by_prune keys.slots) keys.entries } → KeepsFolds keys now
    → PruneCounts (Some v) keys.entries now.entries → Cleans tells files keys new now
cleans_prune tells files new keys now n v alone taken is folds counts =
    let entries : now.entries ≡ edited_at n (left_by_prune keys.slots) keys.entries = ap (λ (k : KeydirShown). k.entries) is in
    let versions : (e : Entry) (x : Version) → In e now.entries → In x e.1 → (f : Entry) × In f keys.entries × (e.0 ≡ f.0) × In x f.1 =
    λ e x there is_in. in_pruned n keys.slots keys.entries e x (subst (In e) entries there) is_in in
    let newest : (r : Reading) (log : List Write) (key : List ℕ) → KeyStands r (newest_of (versions_of key keys.entries)) (winner log key)
    → KeyStands r (newest_of (versions_of key now.entries)) (winner log key) =
    λ r log key h.
    subst (λ (o : Option Version). KeyStands r o (winner log key))
    (sym (ap (λ (es : List Entry). newest_of (versions_of key es)) entries ∙ newest_pruned n keys.slots keys.entries key)) h in
    record {
      alone = alone;
      sees = record {
        puts = λ key. ap (λ (es : List Entry). put_if (newest_of (versions_of key es))) entries
            ∙ ap put_if (newest_pruned n keys.slots keys.entries key);
        folds = folds;
      };
      versions = versions;
      keeps = λ tell ttl c h.
          content_cleaned tells ttl files new keys now c tell alone folds versions (λ r key. newest r c.log key)
          (rows_pruned v keys.entries now.entries files.catalog.rows new.catalog.rows counts taken) h;
    }

-- ---- a key is dropped

not_open : (slots : List (Option Slot)) (n : ℕ) (s : Slot) → has_open slots ≡ false → slot_at slots n ≡ Some s → ⊥
not_open [] n s none is = cc is
not_open (None ∷ slots) zero s none is = cc is
not_open (None ∷ slots) (suc n) s none is = not_open slots n s none is
not_open (Some t ∷ slots) n s none is = true≢false none

-- no fold is open that could see it
pub no_fold_sees : (keys now : KeydirShown) → now.slots ≡ keys.slots → has_open keys.slots ≡ false → KeepsFolds keys now
no_fold_sees keys now slots none = record {
  slots = slots;
  same = λ s is_open. absurd (not_open keys.slots is_open.0 s none is_open.1);
}

-- the newest version is a tombstone: that no key is there says the same
gone_says : (r : Reading) (vs : List Version) (w : Option Write) → is_lone_gone vs ≡ true → KeyStands r (newest_of vs) w → put_of w ≡ None
gone_says r [] w lone h = absurd (true≢false (sym lone))
gone_says r (v ∷ []) w lone h = none_of (put_of w) (put_says r (Some v) w h ∙ ap not lone)
gone_says r (v ∷ x ∷ vs) w lone h = absurd (true≢false (sym lone))

newest_dropped : (r : Reading) (log : List Write) (n : ℕ) (es : List Entry) (key : List ℕ) → IsDistinct bytes_eq (keys_of es)
    → IsDistinct bytes_eq (keys_of (dropped_at n es)) → n < length es → is_lone_gone (versions_at n es) ≡ true
    → KeyStands r (newest_of (versions_of key es)) (winner log key)
    → KeyStands r (newest_of (versions_of key (dropped_at n es))) (winner log key)
newest_dropped r log n es key apart left low lone h =
    elim (cases_Bool (bytes_eq key (get_or es n ([], [])).0)) [
      | inl p ↦
          let at = dropped_key n es key apart low p in
          let was : KeyStands r (newest_of (versions_at n es)) (winner log key) =
          subst (λ (vs : List Version). KeyStands r (newest_of vs) (winner log key)) at.0 h in
          subst (λ (vs : List Version). KeyStands r (newest_of vs) (winner log key)) (sym at.1)
          (gone_says r (versions_at n es) (winner log key) lone was)
      | inr p ↦
          subst (λ (vs : List Version). KeyStands r (newest_of vs) (winner log key))
          (sym (dropped_other n es key apart left low p)) h
    ]

lone_no_put : (vs : List Version) → is_lone_gone vs ≡ true → put_if (newest_of vs) ≡ None
lone_no_put [] lone = absurd (true≢false (sym lone))
lone_no_put (v ∷ []) lone = rw lone refl
lone_no_put (v ∷ x ∷ vs) lone = absurd (true≢false (sym lone))

puts_dropped : (n : ℕ) (es : List Entry) (key : List ℕ) → IsDistinct bytes_eq (keys_of es)
    → IsDistinct bytes_eq (keys_of (dropped_at n es)) → n < length es → is_lone_gone (versions_at n es) ≡ true
    → put_if (newest_of (versions_of key (dropped_at n es))) ≡ put_if (newest_of (versions_of key es))
puts_dropped n es key apart left low lone =
    elim (cases_Bool (bytes_eq key (get_or es n ([], [])).0)) [
      | inl p ↦
          let at = dropped_key n es key apart low p in
          ap (λ (vs : List Version). put_if (newest_of vs)) at.1
          ∙ sym (ap (λ (vs : List Version). put_if (newest_of vs)) at.0 ∙ lone_no_put (versions_at n es) lone)
      | inr p ↦ ap (λ (vs : List Version). put_if (newest_of vs)) (dropped_other n es key apart left low p)
    ]

rows_dropped : (es fs : List Entry) (rows : List Row) → SameCounts es fs → RowsStand rows es → RowsStand rows fs
rows_dropped es fs rows same stand id r here =
    let h = stand id r here in
    record {
      live = h.live ∙ sym (same.live id);
      refs = h.refs ∙ sym (same.refs id);
      live_within = h.live_within;
      refs_within = h.refs_within;
    }

lone_from : (slots : List (Option Slot)) (vs : List Version) → can_drop slots vs ≡ true
    → (has_open slots ≡ false) × (is_lone_gone vs ≡ true)
lone_from slots vs is = go (has_open slots) refl is where
  go : (b : Bool) → has_open slots ≡ b → (not b && is_lone_gone vs) ≡ true → (has_open slots ≡ false) × (is_lone_gone vs ≡ true)
  go true e h = absurd (true≢false (sym h))
  go false e h = (e, h)

pub cleans_drop : (tells : Bool) (files : Seen) (keys now : KeydirShown) (n : ℕ) (gone : Bool) → n < length keys.entries
    → gone ≡ can_drop keys.slots (versions_at n keys.entries)
    → now.entries ≡ cond gone (dropped_at n keys.entries) keys.entries → now.slots ≡ keys.slots
    → SameCounts keys.entries now.entries → IsDistinct bytes_eq (keys_of keys.entries) → IsDistinct bytes_eq (keys_of now.entries)
    → Cleans tells files keys files now
cleans_drop tells files keys now n false low drops entries slots counts apart left = record {
  alone = counts_refl tells files;
  sees = record { puts = λ key. ap (λ (es : List Entry). put_if (newest_of (versions_of key es))) entries; folds = still };
  versions = λ e v there is_in. (e, subst (In e) entries there, refl, is_in);
  keeps = λ tell ttl c h.
      content_cleaned tells ttl files files keys now c tell (counts_refl tells files) still
      (λ e v there is_in. (e, subst (In e) entries there, refl, is_in))
      (λ r key. subst (λ (es : List Entry). KeyStands r (newest_of (versions_of key es)) (winner c.log key)) (sym entries))
      (λ rows. subst (RowsStand files.catalog.rows) (sym entries) rows) h;
} where
  still : KeepsFolds keys now
  still = record {
    slots = slots;
    same = λ s is_open. rw entries (record { sees = λ key. refl; still = λ ttl. refl; listed = λ ttl. refl });
  }
cleans_drop tells files keys now n true low drops entries slots counts apart left =
    let lone = lone_from keys.slots (versions_at n keys.entries) (sym drops) in
    let versions : (e : Entry) (v : Version) → In e now.entries → In v e.1 → (f : Entry) × In f keys.entries × (e.0 ≡ f.0) × In v f.1 =
    λ e v there is_in. (e, in_dropped n keys.entries e low (subst (In e) entries there), refl, is_in) in
    let apart_left = subst (λ (es : List Entry). IsDistinct bytes_eq (keys_of es)) entries left in
    record {
      alone = counts_refl tells files;
      sees = record {
        puts = λ key. ap (λ (es : List Entry). put_if (newest_of (versions_of key es))) entries
            ∙ puts_dropped n keys.entries key apart apart_left low lone.1;
        folds = no_fold_sees keys now slots lone.0;
      };
      versions = versions;
      keeps = λ tell ttl c h.
          content_cleaned tells ttl files files keys now c tell (counts_refl tells files) (no_fold_sees keys now slots lone.0) versions
          (λ r key stands.
          subst (λ (es : List Entry). KeyStands r (newest_of (versions_of key es)) (winner c.log key)) (sym entries)
          (newest_dropped r c.log n keys.entries key apart apart_left low lone.1 stands))
          (rows_dropped keys.entries now.entries files.catalog.rows counts) h;
    }

-- what holds of each store over every disk
pub steady_cleaned : (tells : Bool) (files new : Seen) (keys now : KeydirShown) (seq : ℕ) → IsSteady tells files keys seq
    → Cleans tells files keys new now → IsSteady tells new now seq
steady_cleaned tells files new keys now seq h cleans = record {
  consistent = λ tell. cleans.alone.consistent tell (h.consistent tell);
  last = h.last;
  slots = ap length cleans.sees.folds.slots ∙ h.slots;
  epochs = λ s is_open. h.epochs s (subst (λ (l : List (Option Slot)). IsOpen l s) cleans.sees.folds.slots is_open);
  versions = λ e v there is_in.
      let (f, at, key, here) = cleans.versions e v there is_in in
      let fit = h.versions f v at here in
      record { given_out = fit.given_out; long = omega (arith, fit.long, ap length key) };
}

-- ---- a key's older versions

pub record PruneSoFar (tells : Bool) (n : ℕ) (files : Seen) (keys : KeydirShown) (new : Seen) (now : KeydirShown) (count : ℕ)
    : Type 0 where
  pub low : n < length now.entries
  pub cleans : Cleans tells files keys new now
  pub length_same : length now.entries ≡ length keys.entries
  pub versions : AreFewer count (versions_in now.entries) (versions_in keys.entries)
  pub others : StaysBut n keys now

pub prune_begins : (tells : Bool) (n : ℕ) (files : Seen) (keys : KeydirShown) → n < length keys.entries
    → PruneSoFar tells n files keys files keys 0
prune_begins tells n files keys low = record {
  low = low;
  cleans = cleans_refl tells files keys;
  length_same = refl;
  versions = (0, omega arith, omega arith);
  others = record { before = λ p before. refl };
}

more_gone : (count one left mid before now : ℕ) → AreFewer count mid before → left + 1 ≡ mid
    → now ≡ min (count + 1) last_count → AreFewer now left before
more_gone count one left mid before now (gone, is, stands) less last = (gone + 1, omega (arith, is, less), omega (arith, stands, last))

pub prune_goes_on : (tells : Bool) (n : ℕ) (files : Seen) (keys : KeydirShown) (mid : Seen) (between : KeydirShown) (new : Seen)
    (now : KeydirShown) (count next : ℕ) (v : Version) → PruneSoFar tells n files keys mid between count
    → Some v ≡ pruned between.slots (versions_at n between.entries)
    → now ≡ record between { entries = edited_at n (left_by_prune between.slots) between.entries } → KeepsFolds between now
    → PruneCounts (Some v) between.entries now.entries → CountsAlone tells mid new
    → ((id : ℕ) → row_of id (rows_of new) ≡ option_map (ref_taken id v) (row_of id (rows_of mid)))
    → next ≡ min (count + 1) last_count → PruneSoFar tells n files keys new now next
prune_goes_on tells n files keys mid between new now count next v so is after folds counts alone taken counted =
    let entries : now.entries ≡ edited_at n (left_by_prune between.slots) between.entries = ap (λ (k : KeydirShown). k.entries) after in
    let same : length now.entries ≡ length between.entries =
    ap length entries ∙ length_edited n (left_by_prune between.slots) between.entries in
    let one : versions_in now.entries + 1 ≡ versions_in between.entries =
    ap (λ (es : List Entry). versions_in es + 1) entries ∙ sum_pruned n between.slots between.entries v so.low (sym is) in
    record {
      low = omega (arith, so.low, same);
      cleans = cleans_trans tells files mid new keys between now so.cleans
          (cleans_prune tells mid new between now n v alone taken after folds counts);
      length_same = same ∙ so.length_same;
      versions = more_gone count 1 (versions_in now.entries) (versions_in between.entries) (versions_in keys.entries) next so.versions
          one counted;
      others = record {
        before = λ p before.
            ap (versions_at p) entries ∙ edited_before p n (left_by_prune between.slots) between.entries before
            ∙ so.others.before p before;
      };
    }

pub prune_falls : (tells : Bool) (n : ℕ) (files : Seen) (keys : KeydirShown) (mid : Seen) (between now : KeydirShown) (count : ℕ)
    (v : Version) → PruneSoFar tells n files keys mid between count → Some v ≡ pruned between.slots (versions_at n between.entries)
    → now ≡ record between { entries = edited_at n (left_by_prune between.slots) between.entries }
    → length (versions_at n now.entries) < length (versions_at n between.entries)
prune_falls tells n files keys mid between now count v so is after =
    let entries : now.entries ≡ edited_at n (left_by_prune between.slots) between.entries = ap (λ (k : KeydirShown). k.entries) after in
    omega (arith, shorter_pruned n between.slots between.entries v so.low (sym is), ap (λ (es : List Entry). length (versions_at n es)) entries)

pub prune_ends : (tells : Bool) (n : ℕ) (files : Seen) (keys : KeydirShown) (new : Seen) (between now : KeydirShown) (count : ℕ)
    → PruneSoFar tells n files keys new between count → None ≡ pruned between.slots (versions_at n between.entries)
    → now ≡ between → IsPruned n count keys now × Cleans tells files keys new now
prune_ends tells n files keys new between now count so none same =
    subst (λ (k : KeydirShown). IsPruned n count keys k × Cleans tells files keys new k) (sym same)
    (record { keys = so.length_same; versions = so.versions; clean = sym none; others = so.others }, so.cleans)

-- ---- a key is visited

pub visited : (n count : ℕ) (gone : Bool) (keys between now : KeydirShown) → n < length keys.entries → IsPruned n count keys between
    → gone ≡ can_drop between.slots (versions_at n between.entries)
    → now.entries ≡ cond gone (dropped_at n between.entries) between.entries → now.slots ≡ between.slots
    → IsVisited n count gone keys now
visited n count false keys between now low so drops entries slots = record {
  keys = omega (arith, so.keys, ap length entries);
  versions =
      let (left, is, stands) = so.versions in
      (left, omega (arith, is, ap versions_in entries), stands);
  clean = λ stays. record {
    older = ap (λ (l : List (Option Slot)). pruned l (versions_at n now.entries)) slots
        ∙ ap (λ (es : List Entry). pruned between.slots (versions_at n es)) entries ∙ so.clean;
    key = ap (λ (l : List (Option Slot)). can_drop l (versions_at n now.entries)) slots
        ∙ ap (λ (es : List Entry). can_drop between.slots (versions_at n es)) entries ∙ sym drops;
  };
  others = record { before = λ p before. ap (versions_at p) entries ∙ so.others.before p before };
}
visited n count true keys between now low so drops entries slots =
    let lone = lone_from between.slots (versions_at n between.entries) (sym drops) in
    let within : n < length between.entries = omega (arith, low, so.keys) in
    record {
      keys = omega (arith, so.keys, ap length entries, length_dropped n between.entries within);
      versions =
          let (left, is, stands) = so.versions in
          (left, omega (arith, is, ap versions_in entries, sum_dropped n between.entries within lone.1), stands);
      clean = λ stays. absurd (true≢false stays);
      others = record {
        before = λ p before.
            ap (versions_at p) entries ∙ dropped_before p n between.entries within before ∙ so.others.before p before;
      };
    }

-- ---- keys are visited

-- After so many visits the sweep stands at a position.
pub record SweepSoFar (tells : Bool) (from visits : ℕ) (files : Seen) (keys : KeydirShown) (new : Seen) (now : KeydirShown)
    (position count dropped : ℕ) : Type 0 where
  pub cleans : Cleans tells files keys new now
  pub keys_left : length now.entries + dropped ≡ length keys.entries
  pub versions : AreFewer count (versions_in now.entries + dropped) (versions_in keys.entries)
  pub place : position + dropped ≡ from + visits
  pub few : dropped ≤ visits
  pub forward : from ≤ position
  pub clean : AreClean from position now

pub sweep_begins : (tells : Bool) (from : ℕ) (files : Seen) (keys : KeydirShown) → SweepSoFar tells from 0 files keys files keys from 0 0
sweep_begins tells from files keys = record {
  cleans = cleans_refl tells files keys;
  keys_left = omega arith;
  versions = (0, omega arith, omega arith);
  place = omega arith;
  few = omega arith;
  forward = omega arith;
  clean = λ p low high. absurd (omega (arith, low, high));
}

both_gone : (count more total left mid before gone : ℕ) (dropped : ℕ) → AreFewer count (mid + dropped) before
    → AreFewer more (left + gone) mid → total ≡ min (count + more) last_count → AreFewer total (left + (dropped + gone)) before
both_gone count more total left mid before gone dropped (a, is, first) (b, less, second) last =
    (a + b, omega (arith, is, less), omega (arith, first, second, last))

clean_still : (from to : ℕ) (old new : KeydirShown) → new.slots ≡ old.slots
    → ((p : ℕ) → p < to → versions_at p new.entries ≡ versions_at p old.entries) → AreClean from to old → AreClean from to new
clean_still from to old new slots same h p low high =
    subst (λ (l : List (Option Slot)). IsClean l (versions_at p new.entries)) (sym slots)
    (subst (λ (vs : List Version). IsClean old.slots vs) (sym (same p high)) (h p low high))

-- a key was visited and stays
pub sweep_passes : (tells : Bool) (from visits : ℕ) (files : Seen) (keys : KeydirShown) (mid : Seen) (between : KeydirShown)
    (new : Seen) (now : KeydirShown) (position count dropped more total : ℕ)
    → SweepSoFar tells from visits files keys mid between position count dropped → IsVisited position more false between now
    → Cleans tells mid between new now → total ≡ min (count + more) last_count
    → SweepSoFar tells from (visits + 1) files keys new now (position + 1) total dropped
sweep_passes tells from visits files keys mid between new now position count dropped more total so v cleans counted = record {
  cleans = cleans_trans tells files mid new keys between now so.cleans cleans;
  keys_left = omega (arith, so.keys_left, v.keys);
  versions = fewer (both_gone count more total (versions_in now.entries) (versions_in between.entries) (versions_in keys.entries) 0 dropped
      so.versions v.versions counted);
  place = omega (arith, so.place);
  few = omega (arith, so.few);
  forward = omega (arith, so.forward);
  clean = λ p low high.
      elim (cases_Bool (p == position)) [
        | inl q ↦
            subst (λ (k : ℕ). IsClean now.slots (versions_at k now.entries)) (sym (eqb-true p position q)) (v.clean refl)
        | inr q ↦
            clean_still from position between now cleans.sees.folds.slots v.others.before so.clean p low (grind (arith, nat_tests, q, high))
      ];
} where
  fewer : AreFewer total (versions_in now.entries + (dropped + 0)) (versions_in keys.entries)
      → AreFewer total (versions_in now.entries + dropped) (versions_in keys.entries)
  fewer (gone, is, stands) = (gone, omega (arith, is), stands)

-- a key was visited and has gone
pub sweep_drops : (tells : Bool) (from visits : ℕ) (files : Seen) (keys : KeydirShown) (mid : Seen) (between : KeydirShown)
    (new : Seen) (now : KeydirShown) (position count dropped more total : ℕ)
    → SweepSoFar tells from visits files keys mid between position count dropped → IsVisited position more true between now
    → Cleans tells mid between new now → total ≡ min (count + more) last_count
    → SweepSoFar tells from (visits + 1) files keys new now position total (dropped + 1)
sweep_drops tells from visits files keys mid between new now position count dropped more total so v cleans counted = record {
  cleans = cleans_trans tells files mid new keys between now so.cleans cleans;
  keys_left = omega (arith, so.keys_left, v.keys);
  versions = both_gone count more total (versions_in now.entries) (versions_in between.entries) (versions_in keys.entries) 1 dropped
      so.versions v.versions counted;
  place = omega (arith, so.place);
  few = omega (arith, so.few);
  forward = so.forward;
  clean = clean_still from position between now cleans.sees.folds.slots v.others.before so.clean;
}

pub sweep_ends : (tells : Bool) (from n : ℕ) (files : Seen) (keys : KeydirShown) (new : Seen) (now : KeydirShown)
    (position count dropped visits : ℕ) (next : Option ℕ) → visits ≡ min n (length keys.entries - from)
    → SweepSoFar tells from visits files keys new now position count dropped → GoesOnAt next (length now.entries) position
    → IsSwept from n (record { next = next; pruned = count; dropped = dropped }) keys now
sweep_ends tells from n files keys new now position count dropped visits next are so goes =
    let at : position ≡ swept_to from n (length keys.entries) dropped = omega (arith, are, so.place, so.few) in
    record {
      keys = so.keys_left;
      versions = so.versions;
      next = subst (GoesOnAt next (length now.entries)) at goes;
      clean = subst (λ (k : ℕ). AreClean from k now) at so.clean;
      sees = so.cleans.sees;
    }

-- the next visit is within
pub sweep_within : (tells : Bool) (from n : ℕ) (files : Seen) (keys : KeydirShown) (new : Seen) (now : KeydirShown)
    (position count dropped visits all : ℕ) → all ≡ min n (length keys.entries - from) → visits < all
    → SweepSoFar tells from visits files keys new now position count dropped → position < length now.entries
sweep_within tells from n files keys new now position count dropped visits all are more so =
    omega (arith, are, more, so.place, so.keys_left, so.few)

-- ---- the numbers

-- one key more is counted
pub puts_more : (es : List Entry) (i puts : ℕ) (b : Bool) → i < length es → puts ≡ sum_by has_put (take i es)
    → b ≡ is_put (newest_of (versions_at i es)) → puts + cond b 1 0 ≡ sum_by has_put (take (i + 1) es)
puts_more es i puts b low so is =
    let one : has_put (get_or es i ([], [])) ≡ cond b 1 0 =
    ap (λ (vs : List Version). cond (is_put (newest_of vs)) 1 0) (sym (versions_get i es)) ∙ ap (λ (c : Bool). cond c 1 0) (sym is) in
    omega (arith, so, one, sum_by_more has_put es i ([], []) low)

pub sum_more : (f : Row → ℕ) (rows : List Row) (i : ℕ) (d : Row) (sum more : ℕ) → i < length rows → sum ≡ sum_by f (take i rows)
    → more ≡ f (get_or rows i d) → sum + more ≡ sum_by f (take (i + 1) rows)
sum_more f rows i d sum more low so is = omega (arith, so, is, sum_by_more f rows i d low)
