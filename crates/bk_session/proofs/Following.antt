-- A store follows a history: how it begins to, and how it goes on by one step.
use Rattle.std.proofs.Common.{◌≡◌, ◌∙◌, ℕ, ◌+◌, ◌<◌, ◌==◌, Bool, true, false, cond, List, [], ◌∷◌, ◌++◌, length, Option, Some, None}
use Rattle.std.proofs.Common.{refl, sym, ap, subst, arith, eq-eqb, eqb-true, inl, inr}
use Rattle.std.specs.Prelude.{IsTrue, not, ◌||◌, map, filter, slice_set}
use Rattle.std.specs.List.{list_any}
use Rattle.std.specs.Option.{is_some}
use Rattle.std.proofs.lemmas.Bool.{cases_Bool}
use Rattle.std.proofs.lemmas.Bool.Decides.{nat_tests}
use Rattle.std.proofs.lemmas.List.Folds.{list_any-append}
use Rattle.bk_base.specs.declared.calls.Answer.TheVariants.{Done, Pair}
use Rattle.bk_base.specs.declared.calls.Call.TheVariants.{FoldClose, FoldNext}
use Rattle.bk_base.specs.declared.calls.Entry.{Entry}
use Rattle.bk_base.specs.declared.histories.OpenFold.{OpenFold}
use Rattle.bk_base.specs.declared.histories.Opening.{Opening}
use Rattle.bk_base.specs.declared.histories.Step.{Step}
use Rattle.bk_base.specs.declared.limits.TheConstants.{MOST_FOLDS}
use Rattle.bk_base.specs.declared.writes.Write.{Write}
use Rattle.bk_image.specs.Readings.{Reading}
use Rattle.bk_image.proofs.LegalLogs.{state_after-step}
use Rattle.bk_image.proofs.Logs.{seq_after-append}
use Rattle.bk_keydir.specs.declared.slots.Slot.{Slot}
use Rattle.bk_keydir.specs.Keydir.{Entry as KeyEntry}
use Rattle.bk_keydir.specs.Slots.{slot_at}
use Rattle.bk_laws.specs.History.{State, after, is_open, is_slot, log_of, state_after, with_listed}
use Rattle.bk_laws.specs.Log.{last_seq}
use Rattle.bk_disk.specs.Counts.{Counted}
use Rattle.bk_disk.specs.Told.{untold}
use Rattle.bk_policy.specs.declared.settings.Settings.{Settings}
use Rattle.bk_store.specs.Folds.{SlotStands}
use Rattle.bk_store.specs.Shown.{Shown, known_bytes, settings_of, snapshot_of}
use Rattle.bk_store.specs.Standing.{StandsFor}
use Rattle.bk_store.proofs.FoldOpens.{filter_none, filter_some, slot_set}
use Rattle.bk_store.proofs.Stepping.{counted_step, snapshot-append}
use Rattle.bk_session.specs.Following.{Agrees, Follows, snapshot_in}

-- ---- how it begins

slot_says : (ttl : ℕ) (r : Reading) (es : List KeyEntry) (log : List Write) (s : Option Slot) (folds : List OpenFold) (n : ℕ)
    → SlotStands ttl r es log s (filter (is_slot n) folds) → list_any (is_slot n) folds ≡ is_some s
slot_says ttl r es log s folds n h = go s (filter (is_slot n) folds) refl h where
  go : (s : Option Slot) (fs : List OpenFold) → filter (is_slot n) folds ≡ fs → SlotStands ttl r es log s fs
      → list_any (is_slot n) folds ≡ is_some s
  go None [] is h = filter_none (is_slot n) folds is
  go None (f ∷ fs) is h = absurd h
  go (Some x) [] is h = absurd h
  go (Some x) (f ∷ fs) is h = filter_some (is_slot n) folds f fs is

pub snapshot_told : (tells : Bool) (v : Shown) → IsTrue tells → snapshot_in tells v ≡ snapshot_of v
snapshot_told true v tell = refl
snapshot_told false v tell = untold tell

pub agrees_standing : (tells : Bool) (v : Shown) (o : Opening) (h : List Step) (tried : List Write) → IsTrue tells
    → v.files.catalog.max_file ≡ v.settings.max_file → StandsFor v o h tried → Agrees tells v o h
agrees_standing tells v o h tried tell limit stood = record {
  seq = stood.seq;
  settings = stood.settings;
  limit = limit;
  snapshot = stood.snapshot ∙ sym (snapshot_told tells v tell);
  slots = λ n low. slot_says v.settings.ttl (known_bytes v.files) v.keys.entries (log_of o h) (slot_at v.keys.slots n)
      (state_after o h).folds n (stood.content.open_folds n);
  counts = stood.counts;
}

-- a store that stands for a history follows it, over a disk that tells
pub follows_standing : (tells : Bool) (v : Shown) (o : Opening) (h : List Step) (tried : List Write) → IsTrue tells
    → v.files.catalog.max_file ≡ v.settings.max_file → StandsFor v o h tried → Follows tells v o h tried
follows_standing tells v o h tried tell limit stood = record {
  agrees = agrees_standing tells v o h tried tell limit stood;
  stands = λ t. stood;
  whole = λ is. tell;
}

-- ---- one step more

-- the step tells by how much the counts rose, and what the history records of the files
pub record Counts (tells : Bool) (v u : Shown) (s : Step) : Type 0 where
  pub faults : Counted false v.files.faults s.faults u.files.faults
  pub views : Counted false v.files.fallible_views s.views u.files.fallible_views
  pub outs : Counted false v.files.fallible_outs s.outs u.files.fallible_outs
  pub snapshot : s.snapshot ≡ snapshot_in tells u

-- no setting changed, nor the limit of a file
pub record KeepsSettings (v u : Shown) : Type 0 where
  pub settings : u.settings ≡ v.settings
  pub limit : u.files.catalog.max_file ≡ v.files.catalog.max_file

pub agrees_on : (tells : Bool) (v u : Shown) (o : Opening) (h : List Step) (s : Step) (e : Entry) → Agrees tells v o h
    → Counts tells v u s → s.entry ≡ e → KeepsSettings v u → u.seq ≡ last_seq (after (state_after o h) e).log
    → ((n : ℕ) → n < MOST_FOLDS → is_open n (after (state_after o h) e) ≡ is_some (slot_at u.keys.slots n))
    → Agrees tells u o (h ++ s ∷ [])
agrees_on tells v u o h s e a step is kept seq slots =
    let state : state_after o (h ++ s ∷ []) ≡ after (state_after o h) e =
    state_after-step o h s ∙ ap (after (state_after o h)) is in
    record {
      seq = seq ∙ ap (λ (q : State). last_seq q.log) (sym state);
      settings = a.settings ∙ ap settings_of (sym kept.settings);
      limit = kept.limit ∙ a.limit ∙ ap (λ (x : Settings). x.max_file) (sym kept.settings);
      snapshot = snapshot-append o.snapshot h s ∙ step.snapshot;
      slots = λ n low. ap (λ (q : State). is_open n q) state ∙ slots n low;
      counts = record {
        faults = counted_step (λ (x : Step). x.faults) o.faults v.files.faults u.files.faults h s a.counts.faults step.faults;
        views = counted_step (λ (x : Step). x.views) o.views v.files.fallible_views u.files.fallible_views h s
            a.counts.views step.views;
        outs = counted_step (λ (x : Step). x.outs) o.outs v.files.fallible_outs u.files.fallible_outs h s
            a.counts.outs step.outs;
      };
    }

-- a step that changes neither the log nor the folds
pub follows_still : (tells : Bool) (v u : Shown) (o : Opening) (h : List Step) (tried left : List Write) (s : Step) (e : Entry)
    → Follows tells v o h tried → Counts tells v u s → s.entry ≡ e → after (state_after o h) e ≡ state_after o h
    → KeepsSettings v u → u.seq ≡ v.seq → u.keys.slots ≡ v.keys.slots
    → (IsTrue tells → StandsFor u o (h ++ s ∷ []) left) → Follows tells u o (h ++ s ∷ []) left
follows_still tells v u o h tried left s e f step is still kept seq slots stands = record {
  agrees = agrees_on tells v u o h s e f.agrees step is kept
      (seq ∙ f.agrees.seq ∙ ap (λ (q : State). last_seq q.log) (sym still))
      (λ n low. ap (λ (q : State). is_open n q) still ∙ f.agrees.slots n low
      ∙ ap (λ (l : List (Option Slot)). is_some (slot_at l n)) (sym slots));
  stands = stands;
  whole = f.whole;
}

-- a step that writes
pub follows_write : (tells : Bool) (v u : Shown) (o : Opening) (h : List Step) (tried left : List Write) (s : Step) (e : Entry)
    (w : Write) → Follows tells v o h tried → Counts tells v u s → s.entry ≡ e
    → after (state_after o h) e ≡ record (state_after o h) { log = log_of o h ++ w ∷ [] } → w.seq.0 ≡ v.seq + 1
    → KeepsSettings v u → u.seq ≡ v.seq + 1 → u.keys.slots ≡ v.keys.slots
    → (IsTrue tells → StandsFor u o (h ++ s ∷ []) left) → Follows tells u o (h ++ s ∷ []) left
follows_write tells v u o h tried left s e w f step is more next kept seq slots stands = record {
  agrees = agrees_on tells v u o h s e f.agrees step is kept
      (seq ∙ sym next ∙ sym (seq_after-append 0 (log_of o h) (w ∷ []))
      ∙ ap (λ (q : State). last_seq q.log) (sym more))
      (λ n low. ap (λ (q : State). is_open n q) more ∙ f.agrees.slots n low
      ∙ ap (λ (l : List (Option Slot)). is_some (slot_at l n)) (sym slots));
  stands = stands;
  whole = f.whole;
}

-- ---- folds

any_closed : (m n : ℕ) (folds : List OpenFold)
    → list_any (is_slot n) (filter (λ f. not (is_slot m f)) folds) ≡ cond (n == m) false (list_any (is_slot n) folds)
any_closed m n [] =
    elim (cases_Bool (n == m)) [
      | inl p ↦ rw p refl
      | inr p ↦ rw p refl
    ]
any_closed m n (f ∷ folds) =
    elim (cases_Bool (f.slot == m)) [
      | inl p ↦
          elim (cases_Bool (n == m)) [
            | inl q ↦ rw (p, q) (any_closed m n folds ∙ rw q refl)
            | inr q ↦
                let other : (f.slot == n) ≡ false = grind (arith, nat_tests, eqb-true f.slot m p, q) in
                rw (p, q, other) (any_closed m n folds ∙ rw q refl)
          ]
      | inr p ↦
          elim (cases_Bool (n == m)) [
            | inl q ↦
                let other : (f.slot == n) ≡ false = grind (arith, nat_tests, eqb-true n m q, p) in
                rw (p, q, other) (any_closed m n folds ∙ rw q refl)
            | inr q ↦ rw (p, q) (ap (λ (b : Bool). (f.slot == n) || b) (any_closed m n folds ∙ rw q refl))
          ]
    ]

any_listed : (m n : ℕ) (key : List ℕ) (folds : List OpenFold)
    → list_any (is_slot n) (map (with_listed m key) folds) ≡ list_any (is_slot n) folds
any_listed m n key [] = refl
any_listed m n key (f ∷ folds) =
    elim (cases_Bool (f.slot == m)) [
      | inl p ↦ rw p (ap (λ (b : Bool). (f.slot == n) || b) (any_listed m n key folds))
      | inr p ↦ rw p (ap (λ (b : Bool). (f.slot == n) || b) (any_listed m n key folds))
    ]

some_if : (b : Bool) (x y : Option Slot) → is_some (cond b x y) ≡ cond b (is_some x) (is_some y)
some_if true x y = refl
some_if false x y = refl

set_says : (slots : List (Option Slot)) (m n : ℕ) (x : Option Slot) → m < length slots
    → is_some (slot_at (slice_set slots m x) n) ≡ cond (n == m) (is_some x) (is_some (slot_at slots n))
set_says slots m n x low =
    ap (λ (s : Option Slot). is_some s) (slot_set slots m n x low) ∙ some_if (n == m) x (slot_at slots n)

-- the fold of this slot is closed
pub closed_slots : (tells : Bool) (v : Shown) (o : Opening) (h : List Step) (who slot : ℕ) (slots : List (Option Slot)) → Agrees tells v o h
    → slot < length v.keys.slots → slots ≡ slice_set v.keys.slots slot None
    → (n : ℕ) → n < MOST_FOLDS
    → is_open n (after (state_after o h) (record { caller = who; call = FoldClose slot; reply = Done })) ≡ is_some (slot_at slots n)
closed_slots tells v o h who slot slots a low is n within =
    any_closed slot n (state_after o h).folds
    ∙ ap (λ (b : Bool). cond (n == slot) false b) (a.slots n within)
    ∙ sym (set_says v.keys.slots slot n None low)
    ∙ ap (λ (l : List (Option Slot)). is_some (slot_at l n)) (sym is)

taken_either : (b taken : Bool) → (taken || (b || false)) ≡ cond b true taken
taken_either true true = refl
taken_either true false = refl
taken_either false true = refl
taken_either false false = refl

swapped : (m n : ℕ) → (m == n) ≡ (n == m)
swapped m n =
    elim (cases_Bool (n == m)) [
      | inl p ↦ rw p (eq-eqb m n (sym (eqb-true n m p)))
      | inr p ↦ rw p (grind (arith, nat_tests, p))
    ]

-- a fold is opened in this slot
pub opened_slots : (tells : Bool) (v : Shown) (o : Opening) (h : List Step) (slot : ℕ) (e : Entry) (f : OpenFold) (x : Slot)
    (slots : List (Option Slot)) → Agrees tells v o h
    → after (state_after o h) e ≡ record (state_after o h) { folds = (state_after o h).folds ++ f ∷ [] } → f.slot ≡ slot
    → slot < length v.keys.slots → slots ≡ slice_set v.keys.slots slot (Some x)
    → (n : ℕ) → n < MOST_FOLDS → is_open n (after (state_after o h) e) ≡ is_some (slot_at slots n)
opened_slots tells v o h slot e f x slots a more at low is n within =
    ap (λ (q : State). is_open n q) more
    ∙ list_any-append (is_slot n) (state_after o h).folds (f ∷ [])
    ∙ ap (λ (k : ℕ). is_open n (state_after o h) || ((k == n) || false)) at
    ∙ ap (λ (b : Bool). is_open n (state_after o h) || (b || false)) (swapped slot n)
    ∙ taken_either (n == slot) (is_open n (state_after o h))
    ∙ ap (λ (b : Bool). cond (n == slot) true b) (a.slots n within)
    ∙ sym (set_says v.keys.slots slot n (Some x) low)
    ∙ ap (λ (l : List (Option Slot)). is_some (slot_at l n)) (sym is)

same_if : (b y : Bool) → (b ≡ true → y ≡ true) → y ≡ cond b true y
same_if true y h = h refl
same_if false y h = refl

-- the fold of this slot has listed a pair more
pub listed_slots : (tells : Bool) (v : Shown) (o : Opening) (h : List Step) (who slot : ℕ) (key value : List ℕ) (s x : Slot)
    (slots : List (Option Slot)) → Agrees tells v o h
    → slot < length v.keys.slots → slot_at v.keys.slots slot ≡ Some s → slots ≡ slice_set v.keys.slots slot (Some x)
    → (n : ℕ) → n < MOST_FOLDS
    → is_open n (after (state_after o h) (record { caller = who; call = FoldNext slot; reply = Pair key value }))
    ≡ is_some (slot_at slots n)
listed_slots tells v o h who slot key value s x slots a low there is n within =
    any_listed slot n key (state_after o h).folds ∙ a.slots n within
    ∙ same_if (n == slot) (is_some (slot_at v.keys.slots n))
    (λ same. ap (λ (k : ℕ). is_some (slot_at v.keys.slots k)) (eqb-true n slot same) ∙ ap (λ (y : Option Slot). is_some y) there)
    ∙ sym (set_says v.keys.slots slot n (Some x) low)
    ∙ ap (λ (l : List (Option Slot)). is_some (slot_at l n)) (sym is)

-- ---- what is known of a store

-- What holds where all is known that the disk tells, and where nothing is, holds whatever is known.
pub known_way : (known tells : Bool) (P : Bool → Type 0) → (IsTrue known → IsTrue tells) → P tells → P false → P known
known_way true tells P sub told none = subst P (sub refl) told
known_way false tells P sub told none = none
