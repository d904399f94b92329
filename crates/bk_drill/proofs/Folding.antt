-- Folds: from what the store did to the action.
use Rattle.std.proofs.Common.{◌≡◌, ◌∙◌, ℕ, ◌+◌, ◌-◌, ◌<◌, ◌==◌, ◌≤◌, Bool, true, false, cond, List, [], ◌∷◌, ◌++◌, length, drop, Option, Some, None}
use Rattle.std.proofs.Common.{refl, sym, ap, subst, arith, inl, inr, eqb-true, eq-eqb}
use Rattle.std.specs.Prelude.{IsTrue, ◌≢◌, ◌⊎◌, ◌||◌, zero, suc, filter, is_some, map, min, not, slice_index_or, slice_set}
use Rattle.std.specs.List.{list_any}
use Rattle.std.proofs.Math.Nat.{min-eq_left, min-eq_right, zero-min}
use Rattle.std.proofs.lemmas.Bool.{cases_Bool, cases_lt, true≢false}
use Rattle.std.proofs.lemmas.Bool.Decides.{nat_tests}
use Rattle.std.proofs.lemmas.List.{length-append, length-set}
use Rattle.bk_base.specs.declared.calls.Answer.TheVariants.{Done, End as end_answer, Fold as fold_answer, Pair as pair_answer}
use Rattle.bk_base.specs.declared.calls.Call.TheVariants.{FoldClose, FoldNext, FoldOpen, Quiet}
use Rattle.bk_base.specs.declared.histories.OpenFold.{OpenFold}
use Rattle.bk_base.specs.declared.histories.Opening.{Opening}
use Rattle.bk_base.specs.declared.histories.Step.{Step}
use Rattle.bk_base.specs.declared.limits.TheConstants.{MOST_FOLDS}
use Rattle.bk_base.specs.declared.requests.Full.TheVariants.{Folds}
use Rattle.bk_base.specs.declared.writes.Write.{Write}
use Rattle.bk_disk.specs.Causes.{Rose, bumped}
use Rattle.bk_files.specs.Catalog.{Known}
use Rattle.bk_files.specs.Files.{Seen}
use Rattle.bk_image.specs.Readings.{Reading}
use Rattle.bk_keydir.specs.declared.slots.Slot.{Slot}
use Rattle.bk_keydir.specs.Keydir.{Entry}
use Rattle.bk_keydir.specs.Keydir.{Shown as KeydirShown}
use Rattle.bk_keydir.specs.Slots.{opened, past, slot_at, who_of}
use Rattle.bk_laws.specs.History.{is_open, is_slot, log_of, with_listed}
use Rattle.bk_script.specs.declared.lines.Action.{Action}
use Rattle.bk_script.specs.declared.lines.Action.TheVariants.{End, Fold as fold_action, Next}
use Rattle.bk_script.specs.declared.printed.Printed.{Printed}
use Rattle.bk_script.specs.declared.printed.Printed.TheVariants.{Closed, Damaged, Disk, End as end_line, Fold as fold_line, Full, Memory, NoFold, Pair, Read}
use Rattle.bk_store.specs.declared.folds.Fold.{Fold}
use Rattle.bk_store.specs.Events.{Keeps, entry_by, quiet_by}
use Rattle.bk_store.specs.declared.folds.Row2.{Row2}
use Rattle.bk_store.specs.FoldEvents.{IsClosed, IsOpened, LendsPair, ListsIn, ListsNext, lent_of, next_reply}
use Rattle.bk_store.specs.Folds.{SlotStands}
use Rattle.bk_store.specs.Loans.{Lent, check_of, view_of}
use Rattle.bk_store.specs.Shown.{Shown, known_bytes}
use Rattle.bk_store.specs.Standing.{StandsFor}
use Rattle.bk_store.specs.Sweeps.{last_count}
use Rattle.bk_store.proofs.FoldOpens.{first_is_free}
use Rattle.bk_session.proofs.Events.{Rises, Still, counts_of, is_step_of, rises_by_fault, rises_by_faults, step_of}
use Rattle.bk_session.proofs.FoldCalls.{owned}
use Rattle.bk_store.proofs.FoldSteps.{slot_within}
use Rattle.bk_session.proofs.Following.{KeepsSettings, agrees_on, closed_slots, listed_slots, opened_slots}
use Rattle.bk_session.proofs.Reading.{RisesByView, rises_by_view, still_files}
use Rattle.bk_drill.specs.Actions.{AreQuiet, Does, HasNoFold, IsAnswered, IsNoFold, IsRefusedFor, IsSpoilt, is_numbered, listed_by}
use Rattle.bk_drill.specs.Actions.{Keeps as KeepsLoans}
use Rattle.bk_drill.specs.Between.{Between, state_at}
use Rattle.bk_drill.specs.declared.drills.Drill.{Drill}
use Rattle.bk_drill.specs.Loans.{ShowsPair, loan_in, tally_in}
use Rattle.bk_drill.specs.Shown.{IsAt, LoanIs}
use Rattle.bk_drill.proofs.Acting.{Result, acts_once, folds_after, keeps_in, still_acts}
use Rattle.bk_drill.proofs.Finding.{unread_is}
use Rattle.bk_drill.proofs.Writing.{GoesBy, loans_kept}
use Rattle.bk_session.proofs.FoldRows.{lists_pair, lends_checked}

-- ---- how many pairs a fold has listed

same_if : (b : Bool) (n : ℕ) → cond b n n ≡ n
same_if true n = refl
same_if false n = refl

-- a fold that was just opened has listed none
listed_opened : (f : OpenFold) (folds : List OpenFold) (n : ℕ) → f.listed ≡ [] → listed_by (folds ++ f ∷ []) n ≡ listed_by folds n
listed_opened f [] n none = ap (λ (l : List (List ℕ)). cond (is_slot n f) (length l) 0) none ∙ same_if (is_slot n f) 0
listed_opened f (g ∷ folds) n none =
    ap (λ (k : ℕ). cond (is_slot n g) (length g.listed) k) (listed_opened f folds n none)

listed_other : (slot n : ℕ) (key : List ℕ) (folds : List OpenFold) → (n == slot) ≡ false
    → listed_by (map (with_listed slot key) folds) n ≡ listed_by folds n
listed_other slot n key [] other = refl
listed_other slot n key (f ∷ folds) other =
    elim (cases_Bool (f.slot == slot)) [
      | inl p ↦
          let not_this : (f.slot == n) ≡ false = grind (arith, nat_tests, eqb-true f.slot slot p, other) in
          rw (p, not_this) (listed_other slot n key folds other)
      | inr p ↦ rw p (ap (λ (k : ℕ). cond (f.slot == n) (length f.listed) k) (listed_other slot n key folds other))
    ]

listed_here : (slot : ℕ) (key : List ℕ) (folds : List OpenFold) → list_any (is_slot slot) folds ≡ true
    → listed_by (map (with_listed slot key) folds) slot ≡ listed_by folds slot + 1
listed_here slot key [] there = absurd (cc there)
listed_here slot key (f ∷ folds) there =
    elim (cases_Bool (f.slot == slot)) [
      | inl p ↦ rw p (rw p (length-append f.listed (key ∷ [])))
      | inr p ↦ rw p (rw p (listed_here slot key folds (sym (ap (λ (b : Bool). b || list_any (is_slot slot) folds) p) ∙ there)))
    ]

listed_closed : (slot n : ℕ) (folds : List OpenFold)
    → listed_by (filter (λ f. not (is_slot slot f)) folds) n ≡ cond (n == slot) 0 (listed_by folds n)
listed_closed slot n [] = sym (same_if (n == slot) 0)
listed_closed slot n (f ∷ folds) =
    elim (cases_Bool (f.slot == slot)) [
      | inl p ↦
          elim (cases_Bool (n == slot)) [
            | inl q ↦ rw (p, q) (listed_closed slot n folds ∙ rw q refl)
            | inr q ↦
                let not_this : (f.slot == n) ≡ false = grind (arith, nat_tests, eqb-true f.slot slot p, q) in
                rw (p, q, not_this) (listed_closed slot n folds ∙ rw q refl)
          ]
      | inr p ↦
          elim (cases_Bool (n == slot)) [
            | inl q ↦
                let not_this : (f.slot == n) ≡ false = grind (arith, nat_tests, eqb-true n slot q, p) in
                rw (p, q, not_this) (listed_closed slot n folds ∙ rw q refl)
            | inr q ↦ rw (p, q) (ap (λ (k : ℕ). cond (f.slot == n) (length f.listed) k) (listed_closed slot n folds ∙ rw q refl))
          ]
    ]

min_more : (x top : ℕ) → min (min x top + 1) top ≡ min (x + 1) top
min_more x top =
    elim (cases_lt x top) [
      | inl lt ↦ let less : x ≤ top = omega (arith, lt) in ap (λ (k : ℕ). min (k + 1) top) (min-eq_left less)
      | inr ge ↦
          ap (λ (k : ℕ). min (k + 1) top) (min-eq_right ge)
          ∙ min-eq_right (omega arith)
          ∙ sym (min-eq_right (omega (arith, ge)))
    ]

set_long : (v u : Shown) (slot : ℕ) (x : Option Slot) → u.keys.slots ≡ slice_set v.keys.slots slot x
    → length u.keys.slots ≡ length v.keys.slots
set_long v u slot x is = ap (λ (l : List (Option Slot)). length l) is ∙ length-set v.keys.slots slot x

-- ---- a fold is opened

files_same : (v u : Shown) → u.files ≡ v.files → Rises v u (u.files.faults - v.files.faults) 0
files_same v u is =
    rises_by_faults v u (omega (arith, ap (λ (y : Seen). y.faults) is)) (ap (λ (y : Seen). y.fallible_views) is)
    (ap (λ (y : Seen). y.fallible_outs) is)

pub fold_opens : (old new : Drill) (who : ℕ) (f : Fold) → GoesBy old new → IsOpened who old.now old.store new.store f
    → Keeps true (entry_by who (FoldOpen old.now) (fold_answer f.epoch f.slot)) old.store new.store
    → (b : Between) → IsAt old b → Result b who fold_action (fold_line f.slot f.epoch) new
fold_opens old new who f by is keeps b at =
    let v = old.store in
    let u = new.store in
    let o = b.opening in
    let h = b.steps in
    let e = entry_by who (FoldOpen old.now) (fold_answer f.epoch f.slot) in
    let keys : u.keys.slots ≡ slice_set v.keys.slots f.slot (Some (opened who f.epoch old.now)) =
    ap (λ (y : Shown). y.keys.slots) is.keys in
    let files : u.files ≡ v.files = ap (λ (y : Shown). y.files) is.keys in
    let faults = u.files.faults - v.files.faults in
    let rises = files_same v u files in
    let step = step_of b.sound e faults 0 u in
    let kept : KeepsSettings v u = record {
      settings = ap (λ (y : Shown). y.settings) is.keys;
      limit = ap (λ (y : Seen). y.catalog.max_file) files;
    } in
    acts_once b who fold_action (fold_line f.slot f.epoch) step b.tried b.kept new refl
    (inl (step, refl, inl (record { call = ap (λ m. Some (FoldOpen m)) at.moment; shows = refl })))
    (λ actor. refl) (inr (inl (refl, refl)))
    (record {
      agrees = agrees_on b.sound v u o h step e at.follows.agrees (counts_of b.sound e faults 0 v u rises) refl kept
          (ap (λ (y : Shown). y.seq) is.keys ∙ at.follows.agrees.seq)
          (opened_slots b.sound v o h f.slot e
          (record { listed = []; caller = who; epoch = f.epoch; now = old.now; slot = f.slot })
          (opened who f.epoch old.now) u.keys.slots at.follows.agrees refl refl
          (first_is_free v.keys.slots f.slot is.slot).within keys);
      stands = λ t. keeps_in b.sound e v u keeps t o h b.tried step (at.follows.stands t)
          (is_step_of b.sound e faults 0 v u t rises) refl;
      whole = at.follows.whole;
    })
    (at.moment ∙ sym by.now) (at.plan ∙ sym by.plan) (kept.settings ∙ at.settings ∙ sym by.settings)
    (set_long v u f.slot (Some (opened who f.epoch old.now)) keys ∙ at.slots) (loans_kept old new b at by)
    (λ slot low. by.listed slot ∙ at.listed slot low
    ∙ ap (λ (n : ℕ). min n last_count)
    (sym (listed_opened (record { listed = []; caller = who; epoch = f.epoch; now = old.now; slot = f.slot })
    (state_at b).folds slot refl) ∙ folds_after o h step e slot refl))

same_still : (v u : Shown) → u ≡ v → Still v u
same_still v u same = record {
  kept = record {
    settings = ap (λ (x : Shown). x.settings) same;
    limit = ap (λ (x : Shown). x.files.catalog.max_file) same;
  };
  seq = ap (λ (x : Shown). x.seq) same;
  slots = ap (λ (x : Shown). x.keys.slots) same;
}

pub folds_are_full : (old new : Drill) (who : ℕ) → GoesBy old new → new.store ≡ old.store
    → ((n : ℕ) → n < MOST_FOLDS → is_some (slot_at old.store.keys.slots n) ≡ true)
    → Keeps true (quiet_by who) old.store new.store
    → (b : Between) → IsAt old b → Result b who fold_action (Full Folds) new
folds_are_full old new who by same all keeps b at =
    still_acts old new b who fold_action (Full Folds) Quiet Done (new.store.files.faults - old.store.files.faults) 0 at
    by.now by.plan by.settings by.loans by.listed (files_same old.store new.store (ap (λ (y : Shown). y.files) same))
    (same_still old.store new.store same) (λ s. refl) keeps
    (inr (record {
      call = λ is. absurd (cc is);
      quiet = (refl, refl, tt);
      cause = λ slot low. at.follows.agrees.slots slot low ∙ all slot low;
    }))
    (λ actor. refl) refl

-- ---- a fold goes on

filter_has : (p : OpenFold → Bool) (xs : List OpenFold) (x : OpenFold) (k : ℕ) → k < length xs → slice_index_or xs k x ≡ x
    → p x ≡ true → (ys : List OpenFold) × (zs : List OpenFold) × (filter p xs ≡ ys ++ x ∷ zs)
filter_has p [] x k low is holds = absurd (omega (arith, low))
filter_has p (y ∷ xs) x zero low is holds =
    ([], filter p xs, rw is (rw holds refl))
filter_has p (y ∷ xs) x (suc k) low is holds =
    let (ys, zs, e) = filter_has p xs x k (omega (arith, low)) is holds in
    elim (cases_Bool (p y)) [
      | inl q ↦ (y ∷ ys, zs, rw q (ap (λ (l : List OpenFold). y ∷ l) e))
      | inr q ↦ (ys, zs, rw q e)
    ]

owner_in : (ttl : ℕ) (r : Reading) (es : List Entry) (log : List Write) (o : Option Slot) (ys : List OpenFold) (f : OpenFold)
    (zs : List OpenFold) → SlotStands ttl r es log o (ys ++ f ∷ zs) → who_of o ≡ Some f.caller
owner_in ttl r es log None [] f zs h = absurd h
owner_in ttl r es log None (y ∷ ys) f zs h = absurd h
owner_in ttl r es log (Some s) [] f [] h = ap Some (sym h.caller)
owner_in ttl r es log (Some s) [] f (z ∷ zs) h = absurd h
owner_in ttl r es log (Some s) (y ∷ []) f zs h = absurd h
owner_in ttl r es log (Some s) (y ∷ x ∷ ys) f zs h = absurd h

-- the slot has no fold of this caller
no_own_fold : (old : Drill) (b : Between) (who slot : ℕ) → IsAt old b
    → who_of (slot_at old.store.keys.slots slot) ≢ Some who → IsTrue b.sound → HasNoFold b who slot
no_own_fold old b who slot at other t f own =
    let stood = at.follows.stands t in
    let folds = (state_at b).folds in
    let (ys, zs, is) = filter_has (is_slot slot) folds f own.there.0 own.there.1 own.there.2 (eq-eqb f.slot slot own.is_slot) in
    other (owner_in old.store.settings.ttl (known_bytes old.store.files) old.store.keys.entries (log_of b.opening b.steps)
    (slot_at old.store.keys.slots slot) ys f zs
    (subst (SlotStands old.store.settings.ttl (known_bytes old.store.files) old.store.keys.entries (log_of b.opening b.steps)
    (slot_at old.store.keys.slots slot)) is (stood.content.open_folds slot))
    ∙ ap Some own.is_caller)

-- the action is one on the fold in this slot
pub record AsksFold (action : Action) (slot : ℕ) : Type 0 where
  pub none : (b : Between) (who : ℕ) → (IsTrue b.sound → HasNoFold b who slot) → IsNoFold b who action slot
  pub refused : (b : Between) (who : ℕ) (step : Step) (line : Printed) → AreQuiet (step ∷ [])
      → IsRefusedFor b who action (step ∷ []) line → Does b who action (step ∷ []) line
  pub kept : (b : Between) (who : ℕ) (step : Step) (line : Printed) → KeepsLoans who action (step ∷ []) line b.kept b.kept

pub asks_next : (slot : ℕ) → AsksFold (Next slot) slot
asks_next slot = record {
  none = λ b who h. (refl, h);
  refused = λ b who step line quiet why. inr (record { call = λ is. absurd (cc is); quiet = quiet; cause = why });
  kept = λ b who step line actor. refl;
}

pub asks_end : (slot : ℕ) → AsksFold (End slot) slot
asks_end slot = record {
  none = λ b who h. (refl, h);
  refused = λ b who step line quiet why. inr (record { call = λ is. absurd (cc is); quiet = quiet; cause = why });
  kept = λ b who step line actor. refl;
}

pub has_no_fold : (old new : Drill) (action : Action) (who slot : ℕ) → AsksFold action slot → GoesBy old new
    → new.store ≡ old.store → who_of (slot_at old.store.keys.slots slot) ≢ Some who
    → Keeps true (quiet_by who) old.store new.store
    → (b : Between) → IsAt old b → Result b who action (NoFold slot) new
has_no_fold old new action who slot asks by same other keeps b at =
    let faults = new.store.files.faults - old.store.files.faults in
    still_acts old new b who action (NoFold slot) Quiet Done faults 0 at by.now by.plan by.settings by.loans by.listed
    (files_same old.store new.store (ap (λ (y : Shown). y.files) same)) (same_still old.store new.store same) (λ s. refl) keeps
    (asks.refused b who (step_of b.sound (quiet_by who) faults 0 new.store) (NoFold slot) (refl, refl, tt)
    (asks.none b who (no_own_fold old b who slot at other)))
    (asks.kept b who (step_of b.sound (quiet_by who) faults 0 new.store) (NoFold slot)) refl

-- ---- the next pair

-- the fold has no pair left
pub fold_ends : (old new : Drill) (who slot n : ℕ) → GoesBy old new → new.store ≡ old.store
    → who_of (slot_at old.store.keys.slots slot) ≡ Some who → n ≡ tally_in old.tallies slot
    → Keeps true (entry_by who (FoldNext slot) end_answer) old.store new.store
    → (b : Between) → IsAt old b → Result b who (Next slot) (end_line n) new
fold_ends old new who slot n by same owner is keeps b at =
    let (s, there) = owned (slot_at old.store.keys.slots slot) who owner in
    let low : slot < MOST_FOLDS = omega (arith, slot_within old.store.keys.slots slot s there, at.slots) in
    let faults = new.store.files.faults - old.store.files.faults in
    let e = entry_by who (FoldNext slot) end_answer in
    still_acts old new b who (Next slot) (end_line n) (FoldNext slot) end_answer faults 0 at by.now by.plan by.settings by.loans by.listed
    (files_same old.store new.store (ap (λ (y : Shown). y.files) same)) (same_still old.store new.store same) (λ s. refl) keeps
    (inl (
      step_of b.sound e faults 0 new.store,
      refl,
      inl (record { call = refl; shows = ap (λ (k : ℕ). Some (end_line k)) (sym (is ∙ at.listed slot low)) }),
    ))
    (λ actor. refl) refl

pub next_disk_fails : (old new : Drill) (who slot : ℕ) → GoesBy old new
    → new.store ≡ record old.store { files = new.store.files } → new.store.files.catalog ≡ old.store.files.catalog
    → old.store.files.faults ≤ new.store.files.faults → Rose old.store.files.faults new.store.files.faults
    → new.store.files.fallible_views ≡ old.store.files.fallible_views
    → new.store.files.fallible_outs ≡ old.store.files.fallible_outs → Keeps true (quiet_by who) old.store new.store
    → (b : Between) → IsAt old b → Result b who (Next slot) Disk new
next_disk_fails old new who slot by same catalog later rose views outs keeps b at =
    let r = rises_by_fault old.store new.store later rose views outs in
    still_acts old new b who (Next slot) Disk Quiet Done r.n 0 at by.now by.plan by.settings by.loans by.listed r.rises
    (still_files old.store new.store same catalog) (λ s. refl) keeps
    (inr (record { call = λ is. absurd (cc is); quiet = (refl, refl, tt); cause = (refl, r.some) })) (λ actor. refl) refl

pub next_out_of_memory : (old new : Drill) (who slot : ℕ) → GoesBy old new
    → new.store ≡ record old.store { files = new.store.files } → new.store.files.catalog ≡ old.store.files.catalog
    → old.store.files.faults ≤ new.store.files.faults
    → new.store.files.fallible_views ≡ old.store.files.fallible_views
    → new.store.files.fallible_outs ≡ old.store.files.fallible_outs → Keeps true (quiet_by who) old.store new.store
    → (b : Between) → IsAt old b → Result b who (Next slot) Memory new
next_out_of_memory old new who slot by same catalog later views outs keeps b at =
    still_acts old new b who (Next slot) Memory Quiet Done (new.store.files.faults - old.store.files.faults) 0 at
    by.now by.plan by.settings by.loans by.listed (rises_by_faults old.store new.store later views outs)
    (still_files old.store new.store same catalog) (λ s. refl) keeps
    (inr (record { call = λ is. absurd (cc is); quiet = (refl, refl, tt); cause = tt })) (λ actor. refl) refl

-- the fold in the slot gave this pair, of which so much is lent
pub record GivesPair (who slot : ℕ) (key : List ℕ) (l : Lent) (v u : Shown) : Type 0 where
  pub later : v.files.faults ≤ u.files.faults
  pub views : u.files.fallible_views ≡ bumped l.fallible v.files.fallible_views
  pub outs : u.files.fallible_outs ≡ v.files.fallible_outs
  pub kept : KeepsSettings v u
  pub seq : u.seq ≡ v.seq
  pub s : Slot
  pub x : Slot
  pub there : slot_at v.keys.slots slot ≡ Some s
  pub slots : u.keys.slots ≡ slice_set v.keys.slots slot (Some x)
  pub keeps : Keeps true (entry_by who (FoldNext slot) (pair_answer key (drop l.value_at l.left))) v u
  pub checked : (o : Opening) (h : List Step) (tried : List Write) → StandsFor v o h tried → check_of l.left ≡ l.crc

pub gives_pair_of : {V : Type 0} (who slot : ℕ) (v u : Shown) (found : Option (Row2 V)) (row : Row2 V)
    → found ≡ Some row → ListsNext who slot v u found → v.files.faults ≤ u.files.faults
    → u.files.fallible_views ≡ view_of (lent_of found) v.files.fallible_views
    → u.files.fallible_outs ≡ v.files.fallible_outs
    → Keeps true (entry_by who (FoldNext slot) (next_reply found)) v u
    → ((o : Opening) (h : List Step) (tried : List Write) → StandsFor v o h tried → LendsPair slot v (log_of o h) found)
    → GivesPair who slot row.key row.loan v u
gives_pair_of {V} who slot v u None row is lists later views outs keeps lends = absurd (cc is)
gives_pair_of {V} who slot v u (Some r) row is lists later views outs keeps lends =
    let same : r ≡ row = cc is in
    let (s, there, pair) = lists_pair slot (slot_at v.keys.slots slot) v u r lists.4 in
    let given : GivesPair who slot r.key r.loan v u = record {
      later = later;
      views = views;
      outs = outs;
      kept = record { settings = lists.2; limit = ap (λ (k : Known). k.max_file) lists.3 };
      seq = lists.1;
      s = s;
      x = past pair.position s;
      there = there;
      slots = ap (λ (k : KeydirShown). k.slots) pair.keys;
      keeps = keeps;
      checked = λ o h tried stood. lends_checked (slot_at v.keys.slots slot) (log_of o h) r (lends o h tried stood);
    } in
    subst (λ (x : Row2 V). GivesPair who slot x.key x.loan v u) same given

-- what is lent is still to be read
pub pair_unread : {V : Type 0} (who slot : ℕ) (v u : Shown) (found : Option (Row2 V)) (row : Row2 V) → found ≡ Some row
    → ListsNext who slot v u found → row.loan.rest ≡ row.loan.size
pair_unread {V} who slot v u None row is lists = absurd (cc is)
pair_unread {V} who slot v u (Some r) row is lists =
    let same : r ≡ row = cc is in
    let (s, there, pair) = lists_pair slot (slot_at v.keys.slots slot) v u r lists.4 in
    subst (λ (x : Row2 V). x.loan.rest ≡ x.loan.size) same pair.lends.rest

-- the fold has no pair left, and nothing changed
lists_none : (V : Type 0) (slot : ℕ) (o : Option Slot) (v u : Shown) → ListsIn {V = V} slot o v u None → u ≡ v
lists_none V slot None v u h = absurd h
lists_none V slot (Some s) v u h = h.1

pub end_same : {V : Type 0} (who slot : ℕ) (v u : Shown) (found : Option (Row2 V)) → found ≡ None
    → ListsNext who slot v u found → u ≡ v
end_same {V} who slot v u None is lists = lists_none V slot (slot_at v.keys.slots slot) v u lists.4
end_same {V} who slot v u (Some r) is lists = absurd (cc is)

-- a slot that isn't another's
pub owner_of : (o : Option ℕ) (who : ℕ) → ((o ≡ Some who → ⊥) → ⊥) → o ≡ Some who
owner_of None who h = absurd (h (λ is. absurd (cc is)))
owner_of (Some n) who h =
    elim (cases_Bool (n == who)) [
      | inl p ↦ ap Some (eqb-true n who p)
      | inr p ↦ absurd (h (λ is. true≢false (sym (eq-eqb n who (cc is)) ∙ p)))
    ]

shows_line : (key : List ℕ) (l : Lent) (line : Printed) → ShowsPair key l line → is_numbered line ≡ false
shows_line key l line (inl (value, is, bytes)) = ap is_numbered is
shows_line key l Memory (inr why) = refl
shows_line key l Read (inr why) = refl
shows_line key l (Damaged d) (inr why) = refl
shows_line key l line (inr why) = absurd why

open_some : (o : Option Slot) (s : Slot) → o ≡ Some s → is_some o ≡ true
open_some o s is = ap (λ (x : Option Slot). is_some x) is

pub fold_gives : (old new : Drill) (who slot : ℕ) (key : List ℕ) (l : Lent) (line : Printed)
    → new.now ≡ old.now → new.plan ≡ old.plan → new.settings ≡ old.settings
    → ((n : ℕ) → loan_in new.loans n ≡ loan_in old.loans n)
    → ((n : ℕ) → tally_in new.tallies n ≡ cond (n == slot) (min (tally_in old.tallies n + 1) last_count) (tally_in old.tallies n))
    → GivesPair who slot key l old.store new.store → ShowsPair key l line
    → (b : Between) → IsAt old b → Result b who (Next slot) line new
fold_gives old new who slot key l line now plan settings loans listed g shows b at =
    let within : slot < MOST_FOLDS = omega (arith, slot_within old.store.keys.slots slot g.s g.there, at.slots) in
    let v = old.store in
    let u = new.store in
    let o = b.opening in
    let h = b.steps in
    let value = drop l.value_at l.left in
    let e = entry_by who (FoldNext slot) (pair_answer key value) in
    let r = rises_by_view l.fallible v u g.later g.views g.outs in
    let faults = u.files.faults - v.files.faults in
    let step = step_of b.sound e faults r.n u in
    let folds = (state_at b).folds in
    let is_there : is_open slot (state_at b) ≡ true =
    at.follows.agrees.slots slot within ∙ open_some (slot_at v.keys.slots slot) g.s g.there in
    acts_once b who (Next slot) line step b.tried b.kept new refl
    (inl (step, refl, go shows r))
    (λ actor. refl) (inr (inl (refl, shows_line key l line shows)))
    (record {
      agrees = agrees_on b.sound v u o h step e at.follows.agrees (counts_of b.sound e faults r.n v u r.rises) refl g.kept
          (g.seq ∙ at.follows.agrees.seq)
          (listed_slots b.sound v o h who slot key value g.s g.x u.keys.slots at.follows.agrees
          (slot_within v.keys.slots slot g.s g.there) g.there g.slots);
      stands = λ t. keeps_in b.sound e v u g.keeps t o h b.tried step (at.follows.stands t)
          (is_step_of b.sound e faults r.n v u t r.rises) refl;
      whole = at.follows.whole;
    })
    (at.moment ∙ sym now) (at.plan ∙ sym plan) (g.kept.settings ∙ at.settings ∙ sym settings) (set_long v u slot (Some g.x) g.slots ∙ at.slots)
    (λ n. subst (λ (x : Option Lent). LoanIs b.sound x (b.kept n)) (sym (loans n)) (at.loans n))
    (λ n low. listed n ∙ more folds is_there n (tally_in old.tallies n) (at.listed n low)
    ∙ ap (λ (k : ℕ). min k last_count) (folds_after o h step e n refl))
  where
    more : (folds : List OpenFold) → list_any (is_slot slot) folds ≡ true → (n count : ℕ) → count ≡ min (listed_by folds n) last_count
        → cond (n == slot) (min (count + 1) last_count) count
        ≡ min (listed_by (map (with_listed slot key) folds) n) last_count
    more folds there n count is =
        elim (cases_Bool (n == slot)) [
          | inl p ↦
              rw p (ap (λ (k : ℕ). min (k + 1) last_count) is ∙ min_more (listed_by folds n) last_count
              ∙ ap (λ (k : ℕ). min k last_count)
              (sym (subst (λ (m : ℕ). listed_by (map (with_listed slot key) folds) m ≡ listed_by folds m + 1)
              (sym (eqb-true n slot p)) (listed_here slot key folds there))))
          | inr p ↦ rw p (is ∙ ap (λ (k : ℕ). min k last_count) (sym (listed_other slot n key folds p)))
        ]

    go : ShowsPair key l line → (r : RisesByView l.fallible old.store new.store)
        → IsAnswered b (Next slot)
        (step_of b.sound (entry_by who (FoldNext slot) (pair_answer key (drop l.value_at l.left)))
        (new.store.files.faults - old.store.files.faults) r.n new.store) line
        ⊎ IsSpoilt b (Next slot)
        (step_of b.sound (entry_by who (FoldNext slot) (pair_answer key (drop l.value_at l.left)))
        (new.store.files.faults - old.store.files.faults) r.n new.store) line
    go (inl (value, is, bytes)) r =
        inl (record { call = refl; shows = ap Some (sym (is ∙ ap (λ (x : List ℕ). Pair key x) bytes)) })
    go (inr why) r = inr (record {
      slot = slot;
      is_next = refl;
      key = key;
      value = drop l.value_at l.left;
      call = refl;
      reply = refl;
      fallible = l.fallible;
      cause = unread_is b l l.fallible line refl (λ t. g.checked b.opening b.steps b.tried (at.follows.stands t)) why;
      views = r.some;
    })

-- ---- it is closed

pub fold_closes : (old new : Drill) (who slot : ℕ)
    → new.now ≡ old.now → new.plan ≡ old.plan → new.settings ≡ old.settings
    → ((n : ℕ) → loan_in new.loans n ≡ loan_in old.loans n)
    → ((n : ℕ) → tally_in new.tallies n ≡ cond (n == slot) 0 (tally_in old.tallies n)) → IsClosed slot old.store new.store
    → who_of (slot_at old.store.keys.slots slot) ≡ Some who → Keeps true (entry_by who (FoldClose slot) Done) old.store new.store
    → (b : Between) → IsAt old b → Result b who (End slot) Closed new
fold_closes old new who slot now plan settings loans listed is owner keeps b at =
    let v = old.store in
    let u = new.store in
    let o = b.opening in
    let h = b.steps in
    let e = entry_by who (FoldClose slot) Done in
    let files : u.files ≡ v.files = ap (λ (y : Shown). y.files) is in
    let slots : u.keys.slots ≡ slice_set v.keys.slots slot None = ap (λ (y : Shown). y.keys.slots) is in
    let rises = files_same v u files in
    let faults = u.files.faults - v.files.faults in
    let step = step_of b.sound e faults 0 u in
    let (s, there) = owned (slot_at v.keys.slots slot) who owner in
    let kept : KeepsSettings v u = record {
      settings = ap (λ (y : Shown). y.settings) is;
      limit = ap (λ (y : Seen). y.catalog.max_file) files;
    } in
    acts_once b who (End slot) Closed step b.tried b.kept new refl
    (inl (step, refl, inl (record { call = refl; shows = refl }))) (λ actor. refl) (inr (inl (refl, refl)))
    (record {
      agrees = agrees_on b.sound v u o h step e at.follows.agrees (counts_of b.sound e faults 0 v u rises) refl kept
          (ap (λ (y : Shown). y.seq) is ∙ at.follows.agrees.seq)
          (closed_slots b.sound v o h who slot u.keys.slots at.follows.agrees (slot_within v.keys.slots slot s there) slots);
      stands = λ t. keeps_in b.sound e v u keeps t o h b.tried step (at.follows.stands t)
          (is_step_of b.sound e faults 0 v u t rises) refl;
      whole = at.follows.whole;
    })
    (at.moment ∙ sym now) (at.plan ∙ sym plan) (kept.settings ∙ at.settings ∙ sym settings) (set_long v u slot None slots ∙ at.slots)
    (λ n. subst (λ (x : Option Lent). LoanIs b.sound x (b.kept n)) (sym (loans n)) (at.loans n))
    (λ n low. listed n ∙ less (state_at b).folds n (tally_in old.tallies n) (at.listed n low)
    ∙ ap (λ (k : ℕ). min k last_count) (folds_after o h step e n refl))
  where
    less : (folds : List OpenFold) (n count : ℕ) → count ≡ min (listed_by folds n) last_count
        → cond (n == slot) 0 count ≡ min (listed_by (filter (λ f. not (is_slot slot f)) folds) n) last_count
    less folds n count is =
        elim (cases_Bool (n == slot)) [
          | inl p ↦
              let none : listed_by (filter (λ f. not (is_slot slot f)) folds) n ≡ 0 =
              listed_closed slot n folds ∙ ap (λ (b : Bool). cond b 0 (listed_by folds n)) p in
              rw p (sym (zero-min last_count) ∙ ap (λ (k : ℕ). min k last_count) (sym none))
          | inr p ↦
              let stays : listed_by (filter (λ f. not (is_slot slot f)) folds) n ≡ listed_by folds n =
              listed_closed slot n folds ∙ ap (λ (b : Bool). cond b 0 (listed_by folds n)) p in
              rw p (is ∙ ap (λ (k : ℕ). min k last_count) (sym stays))
        ]
