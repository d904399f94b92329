-- The open folds of a history, and the slots of the keydir, as folds are opened, list a key and are closed.
use Rattle.std.proofs.Common.{◌≡◌, ℕ, zero, suc, ◌<◌, ◌≤◌, ◌==◌, Bool, true, false, cond, List, [], ◌∷◌, ◌++◌, length, get_or, set, Option, Some, None, refl, sym, ap, subst, ◌∙◌, arith, inl, inr, eq-eqb, eqb-true, get_or-set_same, get_or-set_other}
use Rattle.std.specs.Prelude.{not, ◌||◌, map, filter, nat_lt, nat_le, slice_set, Contains}
use Rattle.std.specs.List.{list_any, position_or_len}
use Rattle.std.specs.Option.{is_none, is_some}
use Rattle.std.proofs.lemmas.Bool.{cases_Bool, true≢false}
use Rattle.std.proofs.lemmas.Bool.Decides.{nat_tests}
use Rattle.std.proofs.lemmas.List.{append-nil, map-append}
use Rattle.std.proofs.lemmas.List.Elements.{filter-append}
use Rattle.std.proofs.lemmas.List.Sums.{fails_before_first, passes_at_first}
use Rattle.bk_base.specs.declared.histories.OpenFold.{OpenFold}
use Rattle.bk_base.specs.declared.numbers.Moment.{Moment}
use Rattle.bk_base.specs.declared.numbers.Seq.{Seq}
use Rattle.bk_base.specs.declared.writes.Version.{Version}
use Rattle.bk_base.specs.declared.writes.Write.{Write}
use Rattle.bk_laws.specs.History.{is_slot, with_listed}
use Rattle.bk_laws.specs.Log.{IsLog, RisesAbove, cut_at, last_seq, seq_after, winner}
use Rattle.bk_image.specs.Readings.{Reading}
use Rattle.bk_image.proofs.Logs.{seq_after-low}
use Rattle.bk_keydir.specs.declared.slots.Slot.{Slot}
use Rattle.bk_keydir.specs.Folds.{has_listed}
use Rattle.bk_keydir.specs.Keydir.{Entry, newest_of, versions_of}
use Rattle.bk_keydir.specs.Keydir.{Shown as KeydirShown}
use Rattle.bk_keydir.specs.Slots.{at_epoch, first_free, opened, past, slot_at}
use Rattle.bk_store.specs.Folds.{FoldStands, FoldsStand, SlotStands, keys_in}
use Rattle.bk_store.specs.Versions.{KeyStands, KeysStand}

-- ---- slots

slot_get : (slots : List (Option Slot)) (n : ℕ) → slot_at slots n ≡ get_or slots n None
slot_get [] n = refl
slot_get (s ∷ slots) zero = refl
slot_get (s ∷ slots) (suc n) = slot_get slots n

pub slot_set : (slots : List (Option Slot)) (n m : ℕ) (x : Option Slot) → n < length slots
    → slot_at (slice_set slots n x) m ≡ cond (m == n) x (slot_at slots m)
slot_set slots n m x low =
    elim (cases_Bool (m == n)) [
      | inl p ↦
          rw p
          (slot_get (set slots n x) m ∙ ap (λ (k : ℕ). get_or (set slots n x) k None) (eqb-true m n p)
          ∙ get_or-set_same slots n x None low)
      | inr p ↦
          rw p
          (slot_get (set slots n x) m
          ∙ get_or-set_other slots n m x None (λ is. true≢false (sym (eq-eqb m n is) ∙ p)) ∙ sym (slot_get slots m))
    ]

none_is : {X : Type 0} (o : Option X) → is_none o ≡ true → o ≡ None
none_is None h = refl
none_is (Some x) h = absurd (true≢false (sym h))

some_is : {X : Type 0} (o : Option X) → is_none o ≡ false → is_some o ≡ true
some_is None h = absurd (true≢false h)
some_is (Some x) h = refl

-- the first slot that is free
pub record IsFirstFree (slots : List (Option Slot)) (n : ℕ) : Type 0 where
  pub within : n < length slots
  pub free : slot_at slots n ≡ None
  pub least : (k : ℕ) → k < n → is_some (slot_at slots k) ≡ true

pub first_is_free : (slots : List (Option Slot)) (n : ℕ) → first_free slots ≡ Some n → IsFirstFree slots n
first_is_free slots n is = go (nat_lt (position_or_len is_none slots) (length slots)) refl is where
  at : (p : ℕ) → position_or_len is_none slots ≡ p → p < length slots → IsFirstFree slots p
  at p e low = record {
    within = low;
    free = slot_get slots p
        ∙ none_is (get_or slots p None)
        (subst (λ (k : ℕ). is_none (get_or slots k None) ≡ true) e
        (passes_at_first is_none slots None (omega (arith, e, low))));
    least = λ k before. subst (λ (o : Option Slot). is_some o ≡ true) (sym (slot_get slots k))
        (some_is (get_or slots k None) (fails_before_first is_none slots k None (omega (arith, e, before))));
  }

  go : (b : Bool) → nat_lt (position_or_len is_none slots) (length slots) ≡ b
      → cond b (Some (position_or_len is_none slots)) None ≡ Some n → IsFirstFree slots n
  go true low e = at n (cc e) (grind (arith, nat_tests, low))
  go false low e = absurd (cc e)

-- no slot is free
pub none_is_free : (slots : List (Option Slot)) (n : ℕ) → first_free slots ≡ None → n < length slots
    → is_some (slot_at slots n) ≡ true
none_is_free slots n is low = go (nat_lt (position_or_len is_none slots) (length slots)) refl is where
  go : (b : Bool) → nat_lt (position_or_len is_none slots) (length slots) ≡ b
      → cond b (Some (position_or_len is_none slots)) None ≡ None → is_some (slot_at slots n) ≡ true
  go true some e = absurd (cc e)
  go false none e =
      let past_all : length slots ≤ position_or_len is_none slots = grind (arith, nat_tests, none) in
      subst (λ (o : Option Slot). is_some o ≡ true) (sym (slot_get slots n))
      (some_is (get_or slots n None) (fails_before_first is_none slots n None (omega (arith, past_all, low))))

-- ---- the folds of a slot

pub filter_none : {X : Type 0} (p : X → Bool) (xs : List X) → filter p xs ≡ [] → list_any p xs ≡ false
filter_none p [] h = refl
filter_none p (x ∷ xs) h = go (p x) h (filter_none p xs) where
  go : (b : Bool) → cond b (x ∷ filter p xs) (filter p xs) ≡ [] → (filter p xs ≡ [] → list_any p xs ≡ false)
      → (b || list_any p xs) ≡ false
  go true e others = absurd (cc e)
  go false e others = others e

pub filter_some : {X : Type 0} (p : X → Bool) (xs : List X) (y : X) (ys : List X) → filter p xs ≡ y ∷ ys → list_any p xs ≡ true
filter_some p [] y ys h = absurd (cc h)
filter_some p (x ∷ xs) y ys h = go (p x) h (filter_some p xs y ys) where
  go : (b : Bool) → cond b (x ∷ filter p xs) (filter p xs) ≡ y ∷ ys → (filter p xs ≡ y ∷ ys → list_any p xs ≡ true)
      → (b || list_any p xs) ≡ true
  go true e others = refl
  go false e others = others e

-- the first element that a filter leaves
pub filter_first : {X : Type 0} (p : X → Bool) (xs : List X) (y : X) (ys : List X) → filter p xs ≡ y ∷ ys
    → Contains xs y × (p y ≡ true)
filter_first p [] y ys h = absurd (cc h)
filter_first p (x ∷ xs) y ys h = go (p x) refl h (filter_first p xs y ys) where
  go : (b : Bool) → p x ≡ b → cond b (x ∷ filter p xs) (filter p xs) ≡ y ∷ ys
      → (filter p xs ≡ y ∷ ys → Contains xs y × (p y ≡ true)) → Contains (x ∷ xs) y × (p y ≡ true)
  go true q e others = let is : x ≡ y = cc e in ((0, omega arith, is), ap p (sym is) ∙ q)
  go false q e others =
      let (there, passes) = others e in
      ((suc there.0, omega (arith, there.1), there.2), passes)

-- of the slot's folds none is left, and those of others stay
pub filter_closed : (m n : ℕ) (folds : List OpenFold)
    → filter (is_slot n) (filter (λ f. not (is_slot m f)) folds) ≡ cond (n == m) [] (filter (is_slot n) folds)
filter_closed m n [] =
    elim (cases_Bool (n == m)) [
      | inl p ↦ rw p refl
      | inr p ↦ rw p refl
    ]
filter_closed m n (f ∷ folds) =
    elim (cases_Bool (f.slot == m)) [
      | inl p ↦
          elim (cases_Bool (n == m)) [
            | inl q ↦ rw (p, q) (filter_closed m n folds ∙ rw q refl)
            | inr q ↦
                let other : (f.slot == n) ≡ false = grind (arith, nat_tests, eqb-true f.slot m p, q) in
                rw (p, q, other) (filter_closed m n folds ∙ rw q refl)
          ]
      | inr p ↦
          elim (cases_Bool (f.slot == n)) [
            | inl q ↦
                let other : (n == m) ≡ false = grind (arith, nat_tests, eqb-true f.slot n q, p) in
                rw (p, q, other) (ap (λ (fs : List OpenFold). f ∷ fs) (filter_closed m n folds ∙ rw other refl))
            | inr q ↦ rw (p, q) (filter_closed m n folds)
          ]
    ]

-- a fold has listed one key more
unfoldable pub listed_too : List ℕ → OpenFold → OpenFold
listed_too key f = record f { listed = f.listed ++ key ∷ [] }

pub filter_listed : (m n : ℕ) (key : List ℕ) (folds : List OpenFold)
    → filter (is_slot n) (map (with_listed m key) folds)
    ≡ cond (n == m) (map (listed_too key) (filter (is_slot n) folds)) (filter (is_slot n) folds)
unfolding listed_too
filter_listed m n key [] =
    elim (cases_Bool (n == m)) [
      | inl p ↦ rw p refl
      | inr p ↦ rw p refl
    ]
filter_listed m n key (f ∷ folds) =
    elim (cases_Bool (f.slot == m)) [
      | inl p ↦
          elim (cases_Bool (n == m)) [
            | inl q ↦
                let here : (f.slot == n) ≡ true = grind (arith, nat_tests, eqb-true f.slot m p, eqb-true n m q) in
                rw (p, q, here) (ap (λ (fs : List OpenFold). listed_too key f ∷ fs) (filter_listed m n key folds ∙ rw q refl))
            | inr q ↦
                let other : (f.slot == n) ≡ false = grind (arith, nat_tests, eqb-true f.slot m p, q) in
                rw (p, q, other) (filter_listed m n key folds ∙ rw q refl)
          ]
      | inr p ↦
          elim (cases_Bool (f.slot == n)) [
            | inl q ↦
                let other : (n == m) ≡ false = grind (arith, nat_tests, eqb-true f.slot n q, p) in
                rw (p, q, other) (ap (λ (fs : List OpenFold). f ∷ fs) (filter_listed m n key folds ∙ rw other refl))
            | inr q ↦ rw (p, q) (filter_listed m n key folds)
          ]
    ]

-- ---- what a slot says of the folds

-- no fold has a free slot
pub slot_is_free : (ttl : ℕ) (r : Reading) (es : List Entry) (log : List Write) (o : Option Slot) (folds : List OpenFold)
    → o ≡ None → SlotStands ttl r es log o folds → folds ≡ []
slot_is_free ttl r es log None [] is h = refl
slot_is_free ttl r es log None (f ∷ fs) is h = absurd h
slot_is_free ttl r es log (Some s) folds is h = absurd (cc is)

-- one fold has a slot that is taken
pub record HasFold (ttl : ℕ) (r : Reading) (es : List Entry) (log : List Write) (s : Slot) (folds : List OpenFold)
    : Type 0 where
  pub fold : OpenFold
  pub alone : folds ≡ fold ∷ []
  pub stands : FoldStands ttl r es log s fold

pub slot_has_fold : (ttl : ℕ) (r : Reading) (es : List Entry) (log : List Write) (o : Option Slot) (s : Slot)
    (folds : List OpenFold) → o ≡ Some s → SlotStands ttl r es log o folds → HasFold ttl r es log s folds
slot_has_fold ttl r es log None s folds is h = absurd (cc is)
slot_has_fold ttl r es log (Some t) s [] is h = absurd h
slot_has_fold ttl r es log (Some t) s (f ∷ []) is h =
    let same : t ≡ s = cc is in
    record { fold = f; alone = refl; stands = subst (λ (x : Slot). FoldStands ttl r es log x f) same h }
slot_has_fold ttl r es log (Some t) s (f ∷ g ∷ fs) is h = absurd h

-- ---- a fold is opened

-- each version was given out, so the newest is seen
pub at_epoch_newest : (epoch : ℕ) (vs : List Version) → ((v : Version) → newest_of vs ≡ Some v → v.seq.0 ≤ epoch)
    → at_epoch epoch vs ≡ newest_of vs
at_epoch_newest epoch [] low = refl
at_epoch_newest epoch (v ∷ vs) low =
    let bound : v.seq.0 ≤ epoch = low v refl in
    let here : nat_le v.seq.0 epoch ≡ true = grind (arith, nat_tests, bound) in
    rw here refl

cut_all : (epoch n : ℕ) (log : List Write) → RisesAbove n log → seq_after n log ≤ epoch → cut_at epoch log ≡ log
cut_all epoch n [] rises last = refl
cut_all epoch n (w ∷ ws) rises last =
    let here : nat_le w.seq.0 epoch ≡ true = grind (arith, nat_tests, seq_after-low w.seq.0 ws rises.1, last) in
    rw here (ap (λ (l : List Write). w ∷ l) (cut_all epoch w.seq.0 ws rises.1 last))

-- the log up to its last write is all of it
pub cut_whole : (epoch : ℕ) (log : List Write) → IsLog log → epoch ≡ last_seq log → cut_at epoch log ≡ log
cut_whole epoch log rises is = cut_all epoch 0 log rises (omega (arith, is))

-- the fold that a history has got
unfoldable pub fold_of : ℕ → Moment → Seq → ℕ → OpenFold
fold_of who now epoch slot = record { listed = []; caller = who; epoch = epoch; now = now; slot = slot }

pub folds_open : (ttl : ℕ) (r : Reading) (keys : KeydirShown) (log : List Write) (folds : List OpenFold) (who n : ℕ)
    (now : Moment) (epoch : Seq) → IsLog log → epoch.0 ≡ last_seq log → IsFirstFree keys.slots n
    → ((key : List ℕ) (v : Version) → newest_of (versions_of key keys.entries) ≡ Some v → v.seq.0 ≤ epoch.0)
    → KeysStand r keys.entries log → FoldsStand ttl r keys log folds
    → FoldsStand ttl r (record keys { slots = slice_set keys.slots n (Some (opened who epoch now)) }) log
    (folds ++ fold_of who now epoch n ∷ [])
unfolding fold_of
folds_open ttl r keys log folds who n now epoch rises is free low newest h m =
    rw (slot_set keys.slots n m (Some (opened who epoch now)) free.within, filter-append (is_slot m) folds (fold_of who now epoch n ∷ []))
    (go (m == n) refl) where
      new : FoldStands ttl r keys.entries log (opened who epoch now) (fold_of who now epoch n)
      new = record {
        caller = refl;
        epoch = refl;
        now = refl;
        given_out = omega (arith, is);
        sees = λ key.
            subst (λ (o : Option Version). KeyStands r o (winner (cut_at epoch.0 log) key))
            (sym (at_epoch_newest epoch.0 (versions_of key keys.entries) (low key)))
            (subst (λ (l : List Write). KeyStands r (newest_of (versions_of key keys.entries)) (winner l key))
            (sym (cut_whole epoch.0 log rises is)) (newest.newest key));
        listed = refl;
      }

      go : (b : Bool) → (m == n) ≡ b
          → SlotStands ttl r keys.entries log (cond b (Some (opened who epoch now)) (slot_at keys.slots m))
          (filter (is_slot m) folds ++ filter (is_slot m) (fold_of who now epoch n ∷ []))
      go true p =
          let same : m ≡ n = eqb-true m n p in
          let at : (n == m) ≡ true = eq-eqb n m (sym same) in
          let none : filter (is_slot m) folds ≡ [] =
          slot_is_free ttl r keys.entries log (slot_at keys.slots m) (filter (is_slot m) folds)
          (ap (slot_at keys.slots) same ∙ free.free) (h m) in
          rw (none, at) new
      go false p =
          let at : (n == m) ≡ false = grind (arith, nat_tests, p) in
          rw at (simp append-nil (h m))

-- ---- a fold is closed

pub folds_close : (ttl : ℕ) (r : Reading) (keys : KeydirShown) (log : List Write) (folds : List OpenFold) (n : ℕ)
    → n < length keys.slots → FoldsStand ttl r keys log folds
    → FoldsStand ttl r (record keys { slots = slice_set keys.slots n None }) log (filter (λ f. not (is_slot n f)) folds)
folds_close ttl r keys log folds n within h m =
    rw (slot_set keys.slots n m None within, filter_closed n m folds) (go (m == n)) where
      go : (b : Bool) → SlotStands ttl r keys.entries log (cond b None (slot_at keys.slots m)) (cond b [] (filter (is_slot m) folds))
      go true = tt
      go false = h m

-- ---- a fold lists a key

slot_lists : (ttl : ℕ) (r : Reading) (es : List Entry) (log : List Write) (o : Option Slot) (s : Slot) (place : ℕ)
    (key : List ℕ) (v : Version) (folds : List OpenFold) → o ≡ Some s
    → has_listed ttl (past place s) es ≡ has_listed ttl s es ++ (key, v) ∷ []
    → SlotStands ttl r es log o folds → SlotStands ttl r es log (Some (past place s)) (map (listed_too key) folds)
unfolding listed_too
slot_lists ttl r es log o s place key v folds is earlier h =
    let has = slot_has_fold ttl r es log o s folds is h in
    let f = has.fold in
    let g : FoldStands ttl r es log s f = has.stands in
    let after : FoldStands ttl r es log (past place s) (listed_too key f) = record {
      caller = g.caller;
      epoch = g.epoch;
      now = g.now;
      given_out = g.given_out;
      sees = g.sees;
      listed = ap (λ (ks : List (List ℕ)). ks ++ key ∷ []) g.listed
          ∙ sym (map-append (λ (p : List ℕ × Version). p.0) (has_listed ttl s es) ((key, v) ∷ []))
          ∙ ap keys_in (sym earlier);
    } in
    subst (λ (fs : List OpenFold). SlotStands ttl r es log (Some (past place s)) (map (listed_too key) fs)) (sym has.alone) after

pub folds_list : (ttl : ℕ) (r : Reading) (keys : KeydirShown) (log : List Write) (folds : List OpenFold) (n place : ℕ) (s : Slot)
    (key : List ℕ) (v : Version) → n < length keys.slots → slot_at keys.slots n ≡ Some s
    → has_listed ttl (past place s) keys.entries ≡ has_listed ttl s keys.entries ++ (key, v) ∷ []
    → FoldsStand ttl r keys log folds
    → FoldsStand ttl r (record keys { slots = slice_set keys.slots n (Some (past place s)) }) log (map (with_listed n key) folds)
folds_list ttl r keys log folds n place s key v within is earlier h m =
    rw (slot_set keys.slots n m (Some (past place s)) within, filter_listed n m key folds) (go (m == n) refl) where
      go : (b : Bool) → (m == n) ≡ b
          → SlotStands ttl r keys.entries log (cond b (Some (past place s)) (slot_at keys.slots m))
          (cond b (map (listed_too key) (filter (is_slot m) folds)) (filter (is_slot m) folds))
      go true p =
          slot_lists ttl r keys.entries log (slot_at keys.slots m) s place key v (filter (is_slot m) folds)
          (ap (slot_at keys.slots) (eqb-true m n p) ∙ is) earlier (h m)
      go false p = h m
