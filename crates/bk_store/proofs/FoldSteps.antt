-- From what an event of folds did to the step of the history.
use Rattle.std.proofs.Common.{◌≡◌, ℕ, zero, suc, ◌+◌, ◌<◌, ◌≤◌, Bool, true, false, List, [], ◌∷◌, ◌++◌, length, drop, Option, Some, None, refl, sym, ap, subst, ◌∙◌, arith, inl, inr, eqb, eqb-true, append_assoc, length-set}
use Rattle.std.specs.Prelude.{IsTrue, ◌==◌, cond, nat_le, not, map, filter, slice_set}
use Rattle.std.specs.List.{IsDistinct}
use Rattle.std.specs.Map.{keys_of}
use Rattle.std.specs.Option.{option_eq}
use Rattle.std.specs.Str.{bytes_eq}
use Rattle.std.proofs.lemmas.Bool.{true≢false}
use Rattle.bk_base.specs.declared.calls.Answer.TheVariants.{Done, End, Fold as fold_answer, Pair}
use Rattle.bk_base.specs.declared.calls.Call.TheVariants.{FoldClose, FoldNext, FoldOpen}
use Rattle.bk_base.specs.declared.calls.Entry.{Entry as EntryOfHistory}
use Rattle.bk_base.specs.declared.histories.OpenFold.{OpenFold}
use Rattle.bk_base.specs.declared.histories.Opening.{Opening}
use Rattle.bk_base.specs.declared.histories.Step.{Step}
use Rattle.bk_base.specs.declared.limits.TheConstants.{MOST_FOLDS, RECORD_HEADER}
use Rattle.bk_base.specs.declared.numbers.Moment.{Moment}
use Rattle.bk_base.specs.declared.numbers.Seq.{Seq}
use Rattle.bk_base.specs.declared.writes.Version.{Version}
use Rattle.bk_base.specs.declared.writes.Write.{Write}
use Rattle.bk_base.specs.declared.names.Name.{Name}
use Rattle.bk_disk.specs.Calls.{viewed}
use Rattle.bk_disk.specs.Told.{Told, range_of}
use Rattle.bk_files.specs.Catalog.{main}
use Rattle.bk_files.specs.Files.{IsConsistent, IsFromScratch, IsSyncedIfSealed, Seen}
use Rattle.bk_image.specs.Readings.{In}
use Rattle.bk_image.proofs.Logs.{rises-front}
use Rattle.bk_keydir.specs.declared.slots.Slot.{Slot}
use Rattle.bk_keydir.specs.Folds.{IsNext, IsNextPair, has_listed, still_lists}
use Rattle.bk_keydir.specs.Keydir.{Entry, key_at, newest_of, versions_at, versions_of}
use Rattle.bk_keydir.specs.Keydir.{Shown as KeydirShown}
use Rattle.bk_keydir.specs.Slots.{at_epoch, opened, past, slot_at, stepped, who_of}
use Rattle.bk_laws.specs.History.{IsLeastFree, IsOwn, IsReply, after, is_slot, log_of, state_after, with_listed}
use Rattle.bk_laws.specs.History.{is_listed as is_among}
use Rattle.bk_laws.specs.Log.{IsLog, cut_at, last_seq, live, winner}
use Rattle.bk_store.specs.declared.folds.Fold.{Fold}
use Rattle.bk_store.specs.Events.{Keeps, entry_by, quiet_by}
use Rattle.bk_store.specs.FoldEvents.{IsClosed, IsOpened, LendsPair, LendsPairOf, ListsIn, ListsPair}
use Rattle.bk_store.specs.declared.folds.Row2.{Row2}
use Rattle.bk_store.specs.History.{folds_of}
use Rattle.bk_store.specs.Folds.{FoldStands, FoldsStand, keys_in}
use Rattle.bk_store.specs.Loans.{LendsRecord, LendsVersion, LendsWrite, Lent}
use Rattle.bk_store.specs.Shown.{IsSteady, Shown, known_bytes}
use Rattle.bk_store.specs.Standing.{Content, ContentStands, FilesStand, StandsFor, content_of}
use Rattle.bk_store.specs.Versions.{KeyStands}
use Rattle.bk_store.proofs.Contents.{content_same, files_same}
use Rattle.bk_store.proofs.Events.{keeps_event}
use Rattle.bk_store.proofs.Steadies.{found_is_fit, steady_same}
use Rattle.bk_store.proofs.FoldOpens.{IsFirstFree, fold_of, filter_first, filter_none, filter_some, first_is_free, folds_close, folds_list, folds_open, slot_has_fold, slot_is_free, slot_set}
use Rattle.bk_store.proofs.Keys.{newest_in}
use Rattle.bk_store.proofs.Lending.{Finds, get_finds, get_finds_none}
use Rattle.bk_store.proofs.Listings.{all_among, key_within, listed_is_live, not_among, versions_there}
use Rattle.bk_store.proofs.Stepping.{content_next, one_step}
use Rattle.bk_image.proofs.OneName.{some_of}

-- ---- contents

-- the files hold the same log whatever folds are open
files_fold : (s : Seen) (c : Content) (folds : List OpenFold) → FilesStand s c → FilesStand s (record c { folds = folds })
files_fold s c folds h = record {
  consistent = h.consistent;
  totals = h.totals;
  synced = h.synced;
  holds = h.holds;
  whole = h.whole;
  few = h.few;
  covered = h.covered;
}

-- of the keydir the folds alone changed
pub content_fold : (ttl : ℕ) (files : Seen) (keys now : KeydirShown) (c : Content) (folds : List OpenFold)
    → ContentStands ttl files keys c → now.entries ≡ keys.entries → FoldsStand ttl (known_bytes files) now c.log folds
    → ContentStands ttl files now (record c { folds = folds })
content_fold ttl files keys now c folds h entries stand = record {
  disk = files_fold files c folds h.disk;
  newest = rw entries h.newest;
  open_folds = stand;
  rows = rw entries h.rows;
}

pub log_rises : (files : Seen) (c : Content) → FilesStand files c → IsLog c.log
log_rises files c h =
    let whole : IsLog ((h.holds.settled ++ h.holds.recent) ++ c.tried) =
    subst IsLog (sym (append_assoc h.holds.settled h.holds.recent c.tried)) h.holds.core.rises in
    subst IsLog (sym h.holds.split) (rises-front 0 (h.holds.settled ++ h.holds.recent) c.tried whole)

-- ---- slots

pub who_is : (o : Option Slot) (who : ℕ) → who_of o ≡ Some who → (s : Slot) × (o ≡ Some s) × (s.who ≡ who)
who_is None who is = absurd (cc is)
who_is (Some s) who is = (s, refl, cc is)

pub slot_within : (slots : List (Option Slot)) (n : ℕ) (s : Slot) → slot_at slots n ≡ Some s → n < length slots
slot_within [] n s is = absurd (cc is)
slot_within (t ∷ slots) zero s is = omega arith
slot_within (t ∷ slots) (suc n) s is = omega (arith, slot_within slots n s is)

-- the history's fold that has a slot
own_fold : (ttl : ℕ) (v : Shown) (o : Opening) (h : List Step) (tried : List Write) (who slot : ℕ) (s : Slot)
    → slot_at v.keys.slots slot ≡ Some s → s.who ≡ who → StandsFor v o h tried
    → (f : OpenFold) × IsOwn who slot f (state_after o h) × FoldStands v.settings.ttl (known_bytes v.files) v.keys.entries (state_after o h).log s f
own_fold ttl v o h tried who slot s is by stood =
    let folds = (state_after o h).folds in
    let has = slot_has_fold v.settings.ttl (known_bytes v.files) v.keys.entries (state_after o h).log (slot_at v.keys.slots slot) s
    (filter (is_slot slot) folds) is (stood.content.open_folds slot) in
    let first = filter_first (is_slot slot) folds has.fold [] has.alone in (
      has.fold,
      record { there = first.0; is_slot = eqb-true has.fold.slot slot first.1; is_caller = has.stands.caller ∙ by },
      has.stands,
    )

-- ---- events that change nothing but the files' counts

-- what a view, made or refused, leaves of the files
pub record FilesStay (old new : Seen) : Type 0 where
  pub consistent : IsConsistent new
  pub totals : IsFromScratch old → IsFromScratch new
  pub synced : IsSyncedIfSealed old → IsSyncedIfSealed new
  pub image : new.told.image ≡ old.told.image
  pub fronts : new.told.fronts ≡ old.told.fronts
  pub catalog : new.catalog ≡ old.catalog

pub files_stay : (old new : Seen) (c : Content) → FilesStay old new → FilesStand old c → FilesStand new c
files_stay old new c stay h =
    files_same old new c h stay.consistent (stay.totals h.totals) (stay.synced h.synced) stay.image stay.fronts stay.catalog

pub content_stay : (ttl : ℕ) (old new : Seen) (keys : KeydirShown) (c : Content) → FilesStay old new
    → ContentStands ttl old keys c → ContentStands ttl new keys c
content_stay ttl old new keys c stay h =
    content_same ttl old new keys keys c h (files_stay old new c stay h.disk) stay.image stay.catalog refl refl

-- nothing changed at all
pub quiet_same : (tells : Bool) (v u : Shown) (who : ℕ) → u ≡ v → Keeps tells (quiet_by who) v u
quiet_same tells v u who same =
    subst (λ (x : Shown). Keeps tells (quiet_by who) v x) (sym same)
    (keeps_event tells v v (quiet_by who) refl refl (λ o h left. refl) (λ o h tried stood. tt) (λ o h tried stood. stood.content))

pub quiet_stays : (tells : Bool) (v u : Shown) (who : ℕ) → u ≡ record v { files = u.files } → FilesStay v.files u.files
    → Keeps tells (quiet_by who) v u
quiet_stays tells v u who same stay =
    subst (λ (x : Shown). Keeps tells (quiet_by who) v x) (sym same)
    (keeps_event tells v (record v { files = u.files }) (quiet_by who) refl refl (λ o h left. refl) (λ o h tried stood. tt)
    (λ o h tried stood. content_stay v.settings.ttl v.files u.files v.keys (content_of o h tried) stay stood.content))

-- ---- events that change the folds

with_folds : List OpenFold → Content → Content
with_folds folds c = record c { folds = folds }

-- the folds that a history has after an entry
folds_next : Opening → List Step → EntryOfHistory → List OpenFold
folds_next o h e = (after (state_after o h) e).folds

-- of the store the keydir's slots alone changed, and of what it has the folds alone
fold_event : (tells : Bool) (v u : Shown) (e : EntryOfHistory) → u.settings ≡ v.settings → u.seq ≡ v.seq
    → ((o : Opening) (h : List Step) (left : List Write)
    → content_next o h e left ≡ with_folds (folds_next o h e) (content_of o h left))
    → ((o : Opening) (h : List Step) (tried : List Write) → StandsFor v o h tried
    → IsReply v.settings.ttl (state_after o h) e.caller e.call e.reply)
    → ((o : Opening) (h : List Step) (tried : List Write) → StandsFor v o h tried
    → ContentStands v.settings.ttl u.files u.keys (with_folds (folds_next o h e) (content_of o h tried)))
    → Keeps tells e v u
unfolding with_folds folds_next
fold_event tells v u e settings seq same reply content o h tried s stood step is =
    one_step tells v u o h tried tried s e stood step is (reply o h tried stood) settings
    (seq ∙ stood.seq ∙ ap (λ (c : Content). last_seq c.log) (sym (same o h tried)))
    (subst (ContentStands v.settings.ttl u.files u.keys) (sym (same o h tried)) (content o h tried stood))

-- ---- a fold is opened

with_slots : List (Option Slot) → Shown → Shown
with_slots slots v = record v { keys = record v.keys { slots = slots } }

least_free : (v : Shown) (o : Opening) (h : List Step) (tried : List Write) (n : ℕ) → StandsFor v o h tried
    → IsFirstFree v.keys.slots n → n < MOST_FOLDS → IsLeastFree n (state_after o h)
least_free v o h tried n stood free within = record {
  within = within;
  free = filter_none (is_slot n) folds
      (slot_is_free v.settings.ttl (known_bytes v.files) v.keys.entries (log_of o h) (slot_at v.keys.slots n) (filter (is_slot n) folds)
      free.free (stood.content.open_folds n));
  least = λ k low.
      let (s, is) = some_of (slot_at v.keys.slots k) (free.least k low) in
      let has = slot_has_fold v.settings.ttl (known_bytes v.files) v.keys.entries (log_of o h) (slot_at v.keys.slots k) s
      (filter (is_slot k) folds) is (stood.content.open_folds k) in
      filter_some (is_slot k) folds has.fold [] has.alone;
} where
  folds : List OpenFold
  folds = folds_of o h

newest_given_out : (tells : Bool) (v : Shown) (epoch : ℕ) → IsSteady tells v.files v.keys v.seq → epoch ≡ v.seq → (key : List ℕ)
    (x : Version) → newest_of (versions_of key v.keys.entries) ≡ Some x → x.seq.0 ≤ epoch
newest_given_out tells v epoch steady is key x newest =
    let (e, there, is_key, at) = newest_in key x v.keys.entries newest in
    omega (arith, is, (steady.versions e x there at).given_out)

pub open_keeps : (tells : Bool) (v u : Shown) (who : ℕ) (now : Moment) (f : Fold) → IsSteady tells v.files v.keys v.seq
    → IsOpened who now v u f → Keeps tells (entry_by who (FoldOpen now) (fold_answer f.epoch f.slot)) v u
unfolding with_folds folds_next with_slots fold_of
open_keeps tells v u who now f steady is =
    let slots = slice_set v.keys.slots f.slot (Some (opened who f.epoch now)) in
    let free = first_is_free v.keys.slots f.slot is.slot in
    subst (λ (x : Shown). Keeps tells (entry_by who (FoldOpen now) (fold_answer f.epoch f.slot)) v x) (sym is.keys)
    (fold_event tells v (with_slots slots v) (entry_by who (FoldOpen now) (fold_answer f.epoch f.slot)) refl refl
    (λ o h left. refl)
    (λ o h tried stood. (least_free v o h tried f.slot stood free is.within, is.epoch ∙ stood.seq))
    (λ o h tried stood.
    content_fold v.settings.ttl v.files v.keys (record v.keys { slots = slots }) (content_of o h tried)
    (folds_of o h ++ fold_of who now f.epoch f.slot ∷ []) stood.content refl
    (folds_open v.settings.ttl (known_bytes v.files) v.keys (log_of o h) (folds_of o h) who f.slot now f.epoch
    (log_rises v.files (content_of o h tried) stood.content.disk) (is.epoch ∙ stood.seq) free
    (newest_given_out tells v f.epoch.0 steady is.epoch) stood.content.newest stood.content.open_folds)))

-- ---- a fold is closed

pub close_keeps : (tells : Bool) (v u : Shown) (who slot : ℕ) → who_of (slot_at v.keys.slots slot) ≡ Some who
    → IsClosed slot v u → Keeps tells (entry_by who (FoldClose slot) Done) v u
unfolding with_folds folds_next with_slots
close_keeps tells v u who slot owner is =
    let (s, there, by) = who_is (slot_at v.keys.slots slot) who owner in
    let slots = slice_set v.keys.slots slot None in
    subst (λ (x : Shown). Keeps tells (entry_by who (FoldClose slot) Done) v x) (sym is)
    (fold_event tells v (with_slots slots v) (entry_by who (FoldClose slot) Done) refl refl (λ o h left. refl)
    (λ o h tried stood. let own = own_fold v.settings.ttl v o h tried who slot s there by stood in (own.0, own.1))
    (λ o h tried stood.
    content_fold v.settings.ttl v.files v.keys (record v.keys { slots = slots }) (content_of o h tried)
    (filter (λ f. not (is_slot slot f)) (folds_of o h)) stood.content refl
    (folds_close v.settings.ttl (known_bytes v.files) v.keys (log_of o h) (folds_of o h) slot
    (slot_within v.keys.slots slot s there) stood.content.open_folds)))

-- ---- a fold is asked for its next pair

-- it has listed all
pub end_keeps : (tells : Bool) (v u : Shown) (who slot : ℕ) (s : Slot) → slot_at v.keys.slots slot ≡ Some s → s.who ≡ who
    → still_lists v.settings.ttl s v.keys.entries ≡ [] → u ≡ v → Keeps tells (entry_by who (FoldNext slot) End) v u
end_keeps tells v u who slot s there by none same =
    subst (λ (x : Shown). Keeps tells (entry_by who (FoldNext slot) End) v x) (sym same)
    (keeps_event tells v v (entry_by who (FoldNext slot) End) refl refl (λ o h left. refl) reply (λ o h tried stood. stood.content)) where
      reply : (o : Opening) (h : List Step) (tried : List Write) → StandsFor v o h tried
          → IsReply v.settings.ttl (state_after o h) who (FoldNext slot) End
      reply o h tried stood =
          let (f, own, stands) = own_fold v.settings.ttl v o h tried who slot s there by stood in
          let epoch : f.epoch.0 ≡ s.epoch.0 = ap (λ (q : Seq). q.0) stands.epoch in
          let now : f.now.0 ≡ s.now.0 = ap (λ (m : Moment). m.0) stands.now in (
            f,
            own,
            λ key not_yet.
                let seen = at_epoch s.epoch.0 (versions_of key v.keys.entries) in
                let dead = all_among v.settings.ttl s s.cursor v.keys.entries key none
                (ap (is_among key) (sym stands.listed) ∙ not_yet) in
                ap (λ (n : ℕ). live (cut_at n (log_of o h)) key f.now.0 v.settings.ttl) epoch
                ∙ ap (λ (n : ℕ). live (cut_at s.epoch.0 (log_of o h)) key n v.settings.ttl) now
                ∙ get_finds_none v.files (cut_at s.epoch.0 (log_of o h)) key v.settings.ttl s.now.0 seen (stands.sees key)
                (sym (listed_is_live v.settings.ttl s seen) ∙ dead),
          )

-- what was lent is the record of the pair that the fold sees
pair_finds : (v : Shown) (slot : ℕ) (s : Slot) (log : List Write) (f : OpenFold) (key : List ℕ) (position : ℕ) (l : Lent)
    → IsDistinct bytes_eq (keys_of v.keys.entries)
    → FoldStands v.settings.ttl (known_bytes v.files) v.keys.entries log s f
    → (n : IsNextPair v.settings.ttl s v.keys.entries position) → n.key ≡ key → LendsVersion key n.version l
    → l.left ≡ range_of (main n.version.file.0) n.version.at n.version.size v.files.told.image
    → Finds (cut_at s.epoch.0 log) key v.settings.ttl s.now.0 l
pair_finds v slot s log f key position l apart stands n is_key lends bytes =
    let place = versions_there position v.keys.entries n.key apart n.is_key in
    let seen : at_epoch s.epoch.0 (versions_of key v.keys.entries) ≡ Some n.version =
    ap (λ (k : List ℕ). at_epoch s.epoch.0 (versions_of k v.keys.entries)) (sym is_key)
    ∙ ap (at_epoch s.epoch.0) place ∙ n.seen in
    get_finds v.files (cut_at s.epoch.0 log) key v.settings.ttl s.now.0 n.version l
    (subst (λ (o : Option Version). KeyStands (known_bytes v.files) o (winner (cut_at s.epoch.0 log) key)) seen (stands.sees key))
    (sym (listed_is_live v.settings.ttl s (Some n.version)) ∙ n.listed) lends bytes

-- it has given its next pair
pub pair_keeps : (tells : Bool) (v u : Shown) (who slot : ℕ) (s : Slot) (key : List ℕ) (l : Lent)
    → IsDistinct bytes_eq (keys_of v.keys.entries) → slot_at v.keys.slots slot ≡ Some s → s.who ≡ who → (p : ListsPair slot s v u key l)
    → l.left ≡ range_of (main p.next.version.file.0) p.next.version.at p.next.version.size v.files.told.image
    → FilesStay v.files u.files → u.seq ≡ v.seq → u.settings ≡ v.settings → Keeps tells (entry_by who (FoldNext slot) (Pair key (drop l.value_at l.left))) v u
unfolding with_folds folds_next with_slots
pair_keeps tells v u who slot s key l apart there by p left stay seq settings =
    fold_event tells v u (entry_by who (FoldNext slot) (Pair key (drop l.value_at l.left))) settings seq (λ o h left. refl) reply content where
      reply : (o : Opening) (h : List Step) (tried : List Write) → StandsFor v o h tried
          → IsReply v.settings.ttl (state_after o h) who (FoldNext slot) (Pair key (drop l.value_at l.left))
      reply o h tried stood =
          let (f, own, stands) = own_fold v.settings.ttl v o h tried who slot s there by stood in
          let finds = pair_finds v slot s (log_of o h) f key p.position l apart stands p.next p.is_key p.lends left in
          let epoch : f.epoch.0 ≡ s.epoch.0 = ap (λ (q : Seq). q.0) stands.epoch in
          let now : f.now.0 ≡ s.now.0 = ap (λ (m : Moment). m.0) stands.now in (
            f,
            own,
            ap (is_among key) stands.listed
                ∙ subst (λ (k : List ℕ). is_among k (keys_in (has_listed v.settings.ttl s v.keys.entries)) ≡ false) p.is_key
                (not_among v.settings.ttl s s.cursor p.position v.keys.entries p.next.key apart p.next.from p.next.is_key),
            ap (λ (k : ℕ). live (cut_at k (log_of o h)) key f.now.0 v.settings.ttl) epoch
                ∙ ap (λ (k : ℕ). live (cut_at s.epoch.0 (log_of o h)) key k v.settings.ttl) now ∙ finds.value,
          )

      content : (o : Opening) (h : List Step) (tried : List Write) → StandsFor v o h tried
          → ContentStands v.settings.ttl u.files u.keys (with_folds (map (with_listed slot key) (folds_of o h)) (content_of o h tried))
      content o h tried stood =
          let slots = slice_set v.keys.slots slot (Some (past p.position s)) in
          subst
          (λ (k : KeydirShown).
          ContentStands v.settings.ttl u.files k (with_folds (map (with_listed slot key) (folds_of o h)) (content_of o h tried)))
          (sym p.keys)
          (content_fold v.settings.ttl u.files v.keys (record v.keys { slots = slots }) (content_of o h tried)
          (map (with_listed slot key) (folds_of o h)) (content_stay v.settings.ttl v.files u.files v.keys (content_of o h tried) stay stood.content) refl
          (folds_list v.settings.ttl (known_bytes u.files) v.keys (log_of o h) (folds_of o h) slot p.position s key p.next.version
          (slot_within v.keys.slots slot s there) there
          (subst (λ (k : List ℕ). has_listed v.settings.ttl (past p.position s) v.keys.entries
          ≡ has_listed v.settings.ttl s v.keys.entries ++ (k, p.next.version) ∷ []) p.is_key p.next.earlier)
          (content_stay v.settings.ttl v.files u.files v.keys (content_of o h tried) stay stood.content).open_folds))

-- its record is that of the key's winner in the log that the fold lists
pub pair_lends : (v : Shown) (o : Opening) (h : List Step) (tried : List Write) (slot : ℕ) (s : Slot) (u : Shown) (key : List ℕ) (l : Lent)
    → IsDistinct bytes_eq (keys_of v.keys.entries) → slot_at v.keys.slots slot ≡ Some s → (p : ListsPair slot s v u key l)
    → l.left ≡ range_of (main p.next.version.file.0) p.next.version.at p.next.version.size v.files.told.image → StandsFor v o h tried
    → (w : Write) × (winner (cut_at s.epoch.0 (log_of o h)) key ≡ Some w) × LendsRecord l w
pair_lends v o h tried slot s u key l apart there p left stood =
    let (f, own, stands) = own_fold v.settings.ttl v o h tried s.who slot s there refl stood in
    let finds = pair_finds v slot s (log_of o h) f key p.position l apart stands p.next p.is_key p.lends left in
    go (winner (cut_at s.epoch.0 (log_of o h)) key) refl finds.record_is where
      go : (x : Option Write) → winner (cut_at s.epoch.0 (log_of o h)) key ≡ x → LendsWrite x (Some l)
          → (w : Write) × (winner (cut_at s.epoch.0 (log_of o h)) key ≡ Some w) × LendsRecord l w
      go None is lends = absurd lends
      go (Some w) is lends = (w, is, lends)

-- ---- what holds over every disk

-- a slot was set to a fold whose epoch was given out, or freed
pub steady_slots : (tells : Bool) (files : Seen) (keys now : KeydirShown) (seq n : ℕ) (x : Option Slot)
    → IsSteady tells files keys seq → now ≡ record keys { slots = slice_set keys.slots n x } → n < length keys.slots
    → ((s : Slot) → x ≡ Some s → s.epoch.0 ≤ seq) → IsSteady tells files now seq
steady_slots tells files keys now seq n x h is within low =
    subst (λ (k : KeydirShown). IsSteady tells files k seq) (sym is) (record {
      consistent = h.consistent;
      last = h.last;
      slots = length-set keys.slots n x ∙ h.slots;
      epochs = λ s is_open. at s is_open.0 (sym (slot_set keys.slots n is_open.0 x within) ∙ is_open.1);
      versions = h.versions;
    }) where
      go : (s : Slot) (m : ℕ) (b : Bool) → cond b x (slot_at keys.slots m) ≡ Some s → s.epoch.0 ≤ seq
      go s m true is = low s is
      go s m false is = h.epochs s (m, is)

      at : (s : Slot) (m : ℕ) → cond (m == n) x (slot_at keys.slots m) ≡ Some s → s.epoch.0 ≤ seq
      at s m is = go s m (m == n) is

-- ---- the next pair

-- The next key of the fold in a slot, which this caller opened, and the version that it sees.
pub record IsFound (ttl : ℕ) (slots : List (Option Slot)) (es : List Entry) (who slot position : ℕ) (key : List ℕ) (v : Version)
    : Type 0 where
  pub fold : Slot
  pub there : slot_at slots slot ≡ Some fold
  pub by : fold.who ≡ who
  pub next : IsNextPair ttl fold es position
  pub is_key : next.key ≡ key
  pub is_version : next.version ≡ v

pub find_pair : (ttl : ℕ) (slots : List (Option Slot)) (es : List Entry) (who slot position : ℕ) (key : List ℕ) (v : Version)
    → who_of (slot_at slots slot) ≡ Some who → ((s : Slot) → slot_at slots slot ≡ Some s → IsNext ttl s es (Some position))
    → ((s : Slot) → slot_at slots slot ≡ Some s → Some v ≡ at_epoch s.epoch.0 (versions_at position es))
    → key_at position es ≡ Some key → IsFound ttl slots es who slot position key v
find_pair ttl slots es who slot position key v owner next seen is_key =
    let (s, there, by) = who_is (slot_at slots slot) who owner in
    let found = next s there in
    let key_is : Some found.key ≡ Some key = sym found.is_key ∙ is_key in
    let version_is : Some found.version ≡ Some v = sym found.seen ∙ sym (seen s there) in
    record { fold = s; there = there; by = by; next = found; is_key = cc key_is; is_version = cc version_is }

-- the position is that of a key
pub next_within : (ttl : ℕ) (slots : List (Option Slot)) (es : List Entry) (who slot position : ℕ)
    → who_of (slot_at slots slot) ≡ Some who → ((s : Slot) → slot_at slots slot ≡ Some s → IsNext ttl s es (Some position))
    → position < length es
next_within ttl slots es who slot position owner next =
    let (s, there, by) = who_is (slot_at slots slot) who owner in
    let found = next s there in
    key_within position es found.key found.is_key

-- a next key is seen
pub seen_next : (ttl : ℕ) (slots : List (Option Slot)) (es : List Entry) (who slot position : ℕ)
    → who_of (slot_at slots slot) ≡ Some who → ((s : Slot) → slot_at slots slot ≡ Some s → IsNext ttl s es (Some position))
    → ((s : Slot) → slot_at slots slot ≡ Some s → None ≡ at_epoch s.epoch.0 (versions_at position es)) → ⊥
seen_next ttl slots es who slot position owner next seen =
    let (s, there, by) = who_is (slot_at slots slot) who owner in
    let found = next s there in
    let wrong : None ≡ Some found.version = seen s there ∙ found.seen in
    cc wrong

in_found : (epoch : ℕ) (v : Version) (vs : List Version) → at_epoch epoch vs ≡ Some v → In v vs
in_found epoch v [] is = absurd (cc is)
in_found epoch v (w ∷ ws) is = go (nat_le w.seq.0 epoch) is (in_found epoch v ws) where
  go : (b : Bool) → cond b (Some w) (at_epoch epoch ws) ≡ Some v → (at_epoch epoch ws ≡ Some v → In v ws) → In v (w ∷ ws)
  go true e later = let same : w ≡ v = cc e in inl (sym same)
  go false e later = inr (later e)

-- its version fits its key
pub found_fits : (tells : Bool) (files : Seen) (keys : KeydirShown) (seq ttl who slot position : ℕ) (key : List ℕ) (v : Version)
    → IsSteady tells files keys seq → IsDistinct bytes_eq (keys_of keys.entries)
    → IsFound ttl keys.slots keys.entries who slot position key v → RECORD_HEADER + length key ≤ v.size
found_fits tells files keys seq ttl who slot position key v steady apart f =
    let n = f.next in
    let seen : at_epoch f.fold.epoch.0 (versions_of n.key keys.entries) ≡ Some n.version =
    ap (at_epoch f.fold.epoch.0) (versions_there position keys.entries n.key apart n.is_key) ∙ n.seen in
    let fit : RECORD_HEADER + length n.key ≤ n.version.size =
    found_is_fit tells files keys seq n.key n.version steady (in_found f.fold.epoch.0 n.version (versions_of n.key keys.entries) seen) in
    omega (arith, fit, ap length f.is_key, ap (λ (x : Version). x.size) f.is_version)

-- the pair is given, and the cursor moved behind it
pub found_lists : (v u : Shown) (who slot position : ℕ) (key : List ℕ) (x : Version) (l : Lent)
    → (f : IsFound v.settings.ttl v.keys.slots v.keys.entries who slot position key x) → LendsVersion key x l
    → u.keys ≡ record v.keys { slots = slice_set v.keys.slots slot (stepped position (slot_at v.keys.slots slot)) }
    → ListsPair slot f.fold v u key l
found_lists v u who slot position key x l f lends keys = record {
  position = position;
  next = f.next;
  is_key = f.is_key;
  lends = subst (λ (y : Version). LendsVersion key y l) (sym f.is_version) lends;
  keys = keys ∙ ap (λ (o : Option Slot). record v.keys { slots = slice_set v.keys.slots slot (stepped position o) }) f.there;
}

pub owner_is : (o p : Option ℕ) (who : ℕ) (b : Bool) → o ≡ p → b ≡ not (option_eq eqb o (Some who)) → b ≡ false → p ≡ Some who
owner_is None p who b same is never = absurd (true≢false (sym is ∙ never))
owner_is (Some n) p who b same is never = sym same ∙ ap Some (eqb-true n who (go (eqb n who) (sym is ∙ never))) where
  go : (e : Bool) → not e ≡ false → e ≡ true
  go true h = refl
  go false h = absurd (true≢false h)

pub view_stays : (old new : Seen) (made : Bool) (n : Name) (at size : ℕ) → new.told ≡ viewed made n at size old.told
    → new.catalog ≡ old.catalog → IsConsistent new → (IsFromScratch old → IsFromScratch new)
    → (IsSyncedIfSealed old → IsSyncedIfSealed new) → FilesStay old new
view_stays old new made n at size told catalog consistent totals synced = record {
  consistent = consistent;
  totals = totals;
  synced = synced;
  image = ap (λ (t : Told). t.image) told;
  fronts = ap (λ (t : Told). t.fronts) told;
  catalog = catalog;
}

-- what is answered with the pair
pub lists_in : {V : Type 0} (v u : Shown) (slot : ℕ) (s : Slot) (row : Row2 V) → slot_at v.keys.slots slot ≡ Some s
    → ListsPair slot s v u row.key row.loan → ListsIn slot (slot_at v.keys.slots slot) v u (Some row)
lists_in v u slot s row there p = subst (λ (o : Option Slot). ListsIn slot o v u (Some row)) (sym there) p

pub lends_in : {V : Type 0} (v : Shown) (slot : ℕ) (s : Slot) (log : List Write) (row : Row2 V) → slot_at v.keys.slots slot ≡ Some s
    → (w : Write) × (winner (cut_at s.epoch.0 log) row.key ≡ Some w) × LendsRecord row.loan w → LendsPair slot v log (Some row)
lends_in v slot s log row there h = subst (λ (o : Option Slot). LendsPairOf o log (Some row)) (sym there) h

-- the cursor of a fold has moved
pub steady_found : (tells : Bool) (old new : Seen) (keys now : KeydirShown) (seq ttl who slot position : ℕ) (key : List ℕ)
    (v : Version) → IsSteady tells old keys seq → (IsTrue tells → IsConsistent new)
    → IsFound ttl keys.slots keys.entries who slot position key v
    → now ≡ record keys { slots = slice_set keys.slots slot (stepped position (slot_at keys.slots slot)) }
    → IsSteady tells new now seq
steady_found tells old new keys now seq ttl who slot position key v h consistent f is =
    let still = steady_same tells old new keys keys seq h consistent refl refl in
    let moved : Option Slot = Some (past position f.fold) in
    let after = ap (λ (o : Option Slot). record keys { slots = slice_set keys.slots slot (stepped position o) }) f.there in
    steady_slots tells new keys now seq slot moved still (is ∙ after) (slot_within keys.slots slot f.fold f.there)
    (λ s e. let same : past position f.fold ≡ s = cc e in
    let epoch = ap (λ (t : Slot). t.epoch.0) same in
    let low = h.epochs f.fold (slot, f.there) in omega (arith, epoch, low))

found_bytes : (v u : Shown) (who slot position : ℕ) (key : List ℕ) (x : Version) (l : Lent)
    → (f : IsFound v.settings.ttl v.keys.slots v.keys.entries who slot position key x)
    → l.left ≡ range_of (main x.file.0) x.at x.size v.files.told.image
    → l.left ≡ range_of (main f.next.version.file.0) f.next.version.at f.next.version.size v.files.told.image
found_bytes v u who slot position key x l f bytes =
    subst (λ (y : Version). l.left ≡ range_of (main y.file.0) y.at y.size v.files.told.image) (sym f.is_version) bytes

-- the pair that was found is given
pub found_keeps : (tells : Bool) (v u : Shown) (who slot position : ℕ) (key : List ℕ) (x : Version) (l : Lent)
    → (f : IsFound v.settings.ttl v.keys.slots v.keys.entries who slot position key x) → LendsVersion key x l
    → u.keys ≡ record v.keys { slots = slice_set v.keys.slots slot (stepped position (slot_at v.keys.slots slot)) }
    → IsDistinct bytes_eq (keys_of v.keys.entries) → l.left ≡ range_of (main x.file.0) x.at x.size v.files.told.image
    → FilesStay v.files u.files → u.seq ≡ v.seq → u.settings ≡ v.settings
    → Keeps tells (entry_by who (FoldNext slot) (Pair key (drop l.value_at l.left))) v u
unfolding found_lists
found_keeps tells v u who slot position key x l f lends keys apart bytes stay seq settings =
    pair_keeps tells v u who slot f.fold key l apart f.there f.by (found_lists v u who slot position key x l f lends keys)
    (found_bytes v u who slot position key x l f bytes) stay seq settings

pub found_lends : (v u : Shown) (who slot position : ℕ) (key : List ℕ) (x : Version) (l : Lent)
    → (f : IsFound v.settings.ttl v.keys.slots v.keys.entries who slot position key x) → LendsVersion key x l
    → u.keys ≡ record v.keys { slots = slice_set v.keys.slots slot (stepped position (slot_at v.keys.slots slot)) }
    → IsDistinct bytes_eq (keys_of v.keys.entries) → l.left ≡ range_of (main x.file.0) x.at x.size v.files.told.image
    → (o : Opening) (h : List Step) (tried : List Write) → StandsFor v o h tried
    → (w : Write) × (winner (cut_at f.fold.epoch.0 (log_of o h)) key ≡ Some w) × LendsRecord l w
unfolding found_lists
found_lends v u who slot position key x l f lends keys apart bytes o h tried stood =
    pair_lends v o h tried slot f.fold u key l apart f.there (found_lists v u who slot position key x l f lends keys)
    (found_bytes v u who slot position key x l f bytes) stood
