-- A listing, one call after the other.
use Rattle.std.proofs.Common.{◌≡◌, ◌∙◌, ℕ, ◌+◌, ◌-◌, ◌<◌, Bool, cond, List, [], ◌∷◌, ◌++◌, length}
use Rattle.std.proofs.Common.{Option, Some, None, refl, ap, subst, arith, eq-eqb}
use Rattle.std.specs.Prelude.{IsErr, IsTrue, OnOk, Result, Ok, Err, slice_set}
use Rattle.std.specs.List.{AllByRecursion}
use Rattle.std.proofs.lemmas.List.{append_assoc}
use Rattle.bk_base.specs.declared.calls.Answer.{Answer}
use Rattle.bk_base.specs.declared.calls.Answer.TheVariants.{Done, Fold as fold_answer, Pair}
use Rattle.bk_base.specs.declared.calls.Call.{Call}
use Rattle.bk_base.specs.declared.calls.Call.TheVariants.{FoldClose, FoldNext, FoldOpen}
use Rattle.bk_base.specs.declared.histories.Opening.{Opening}
use Rattle.bk_base.specs.declared.histories.Step.{Step}
use Rattle.bk_base.specs.declared.numbers.Moment.{Moment}
use Rattle.bk_base.specs.declared.writes.Write.{Write}
use Rattle.bk_disk.specs.Told.{Front, Table, Told, clock}
use Rattle.bk_exchange.specs.Answers.{own_calls}
use Rattle.bk_exchange.specs.Listings.{Row, closing_call, listing_calls}
use Rattle.bk_exchange.specs.OneThread.{one_if_quiet}
use Rattle.bk_exchange.specs.Points.{Said, events, heard, point_of}
use Rattle.bk_exchange.proofs.Bodies.{listing_behind, listing_on, listing_opened}
use Rattle.bk_exchange.proofs.OneCaller.{alone_on, quiet_on}
use Rattle.bk_keydir.specs.declared.slots.Slot.{Slot}
use Rattle.bk_keydir.specs.Slots.{opened, slot_at, who_of}
use Rattle.bk_laws.specs.History.{State, changed, state_after}
use Rattle.bk_store.specs.declared.folds.Fold.{Fold}
use Rattle.bk_store.specs.Events.{Keeps, clock_of, entry_by}
use Rattle.bk_store.specs.FoldEvents.{IsClosed, IsOpened}
use Rattle.bk_store.specs.Loans.{Lent, Views, ViewsNothing}
use Rattle.bk_store.specs.Shown.{Shown}
use Rattle.bk_store.proofs.FoldOpens.{first_is_free, slot_set}
use Rattle.bk_files.specs.Files.{Seen}
use Rattle.bk_session.specs.Following.{Follows, own_context}
use Rattle.bk_session.specs.Listing.{Begun, IsOurs, IsUnmoved, Listed}
use Rattle.bk_session.specs.Serving.{IsSince}
use Rattle.bk_session.proofs.Events.{Rises, Still, counts_of, is_step_of, rises_by_faults, step_of}
use Rattle.bk_session.proofs.Following.{KeepsSettings, agrees_on, closed_slots, follows_still, listed_slots, opened_slots}
use Rattle.bk_session.proofs.OneLine.{at_told}
use Rattle.bk_store.proofs.FoldSteps.{slot_within}

-- ---- what the disk told

pub unmoved_same : (t u : Told) → u ≡ t → IsUnmoved t u
unmoved_same t u is = record {
  past = ap (λ (x : Told). x.past) is;
  fronts = ap (λ (x : Told). x.fronts) is;
}

pub unmoved_views : (found : Option Lent) (t u : Told) → Views found t u → IsUnmoved t u
unmoved_views None t u is = unmoved_same t u is
unmoved_views (Some l) t u is = record {
  past = ap (λ (x : Told). x.past) is;
  fronts = ap (λ (x : Told). x.fronts) is;
}

pub unmoved_nothing : (t u : Told) → ViewsNothing t u → IsUnmoved t u
unmoved_nothing t u n = record { past = n.past; fronts = n.fronts }

unmoved_then : (t m u : Told) → IsUnmoved t m → IsUnmoved m u → IsUnmoved t u
unmoved_then t m u a b = record { past = b.past ∙ a.past; fronts = b.fronts ∙ a.fronts }

pub same_clock : (t u : Told) → IsUnmoved t u → clock u ≡ clock t
same_clock t u m = ap (λ (p : List (Table Front)). length p) m.past

all_on : (n : ℕ) (steps : List Step) (step : Step) → AllByRecursion (IsSince n) steps → IsSince n step
    → AllByRecursion (IsSince n) (steps ++ step ∷ [])
all_on n [] step all here = (here, tt)
all_on n (first ∷ steps) step all here = (all.0, all_on n steps step all.1 here)

-- ---- one call more

pub listed_more : (disk : Bool) (b : Begun) (slot : ℕ) (v u : Shown) (given more : List Row) (behind after : List Said)
    (quiet : ℕ) (steps : List Step) (l : Listed disk b slot v given behind quiet steps) (step : Step) (call : Call)
    (answer : Answer) → step.entry ≡ entry_by 0 call answer
    → own_calls (own_context b.opening) (events (point_of b.opening b.before) (steps ++ step ∷ []))
    ≡ listing_calls b.now l.epoch slot more after
    → Follows disk u b.opening ((b.before ++ steps) ++ step ∷ []) b.tried
    → (IsTrue disk → IsUnmoved v.files.told u.files.told) → step.at ≡ clock_of disk u.files.told
    → Listed disk b slot u more after (quiet + one_if_quiet call) (steps ++ step ∷ [])
listed_more disk b slot v u given more behind after quiet steps l step call answer is called follows unmoved at =
    let moved : IsTrue disk → IsUnmoved b.told u.files.told =
    λ tell. unmoved_then b.told v.files.told u.files.told (l.unmoved tell) (unmoved tell) in
    record {
      epoch = l.epoch;
      called = called;
      alone = alone_on (own_context b.opening) steps step call answer l.alone is;
      quiet_calls = quiet_on (own_context b.opening) steps step call answer is
          ∙ ap (λ (n : ℕ). n + one_if_quiet call) l.quiet_calls;
      follows = subst (λ (k : List Step). Follows disk u b.opening k b.tried) (append_assoc b.before steps (step ∷ [])) follows;
      unmoved = moved;
      since = λ tell. all_on (clock b.told) steps step (l.since tell)
          (clock u.files.told, at ∙ at_told disk u.files.told tell, omega (arith, same_clock b.told u.files.told (moved tell)));
    }

-- a call behind the pairs, that changes neither the log nor the folds
pub listed_still : (disk : Bool) (b : Begun) (slot : ℕ) (v u : Shown) (rows : List Row) (call : Call) (answer : Answer)
    (faults : ℕ) (steps : List Step) → Listed disk b slot v rows [] 0 steps → Rises v u faults 0 → Still v u
    → ((s : State) → changed 0 call answer s ≡ s)
    → (IsTrue disk → Keeps disk (entry_by 0 call answer) v u) → (IsTrue disk → IsUnmoved v.files.told u.files.told)
    → Listed disk b slot u rows (heard call answer) (0 + one_if_quiet call)
    (steps ++ step_of disk (entry_by 0 call answer) faults 0 u ∷ [])
listed_still disk b slot v u rows call answer faults steps l rises still same keeps unmoved =
    let e = entry_by 0 call answer in
    let step = step_of disk e faults 0 u in
    listed_more disk b slot v u rows rows [] (heard call answer) 0 steps l step call answer refl
    (listing_behind (own_context b.opening) (point_of b.opening b.before) steps [] step b.now l.epoch slot rows [] call answer
    l.called tt refl)
    (follows_still disk v u b.opening (b.before ++ steps) b.tried b.tried step e l.follows (counts_of disk e faults 0 v u rises)
    refl (same (state_after b.opening (b.before ++ steps))) still.kept still.seq still.slots
    (λ tell. keeps tell b.opening (b.before ++ steps) b.tried step (l.follows.stands tell)
    (is_step_of disk e faults 0 v u tell rises) refl))
    unmoved refl

-- ---- slots

-- what stands in a slot that was set
pub set_here : (slots : List (Option Slot)) (n : ℕ) (x : Option Slot) → n < length slots → slot_at (slice_set slots n x) n ≡ x
set_here slots n x low =
    slot_set slots n n x low ∙ ap (λ (b : Bool). cond b x (slot_at slots n)) (eq-eqb n n refl)

pub owned : (o : Option Slot) (who : ℕ) → who_of o ≡ Some who → (s : Slot) × (o ≡ Some s)
owned None who is = absurd (cc is)
owned (Some s) who is = (s, refl)

-- ---- a pair

pub listed_pair : (disk : Bool) (b : Begun) (slot : ℕ) (v u : Shown) (rows : List Row) (key value : List ℕ) (s x : Slot)
    (faults views : ℕ) (steps : List Step) → Listed disk b slot v rows [] 0 steps → Rises v u faults views → KeepsSettings v u → u.seq ≡ v.seq
    → slot_at v.keys.slots slot ≡ Some s → u.keys.slots ≡ slice_set v.keys.slots slot (Some x)
    → (IsTrue disk → Keeps disk (entry_by 0 (FoldNext slot) (Pair key value)) v u)
    → (IsTrue disk → IsUnmoved v.files.told u.files.told)
    → Listed disk b slot u (rows ++ (record { key = key; value = value }) ∷ []) [] 0
    (steps ++ step_of disk (entry_by 0 (FoldNext slot) (Pair key value)) faults views u ∷ [])
listed_pair disk b slot v u rows key value s x faults views steps l rises kept seq there slots keeps unmoved =
    let e = entry_by 0 (FoldNext slot) (Pair key value) in
    let step = step_of disk e faults views u in
    let h = b.before ++ steps in
    listed_more disk b slot v u rows (rows ++ (record { key = key; value = value }) ∷ []) [] [] 0 steps l step (FoldNext slot)
    (Pair key value) refl
    (listing_on (own_context b.opening) (point_of b.opening b.before) steps [] step b.now l.epoch slot rows
    (record { key = key; value = value }) l.called tt refl)
    (record {
      agrees = agrees_on disk v u b.opening h step e l.follows.agrees (counts_of disk e faults views v u rises) refl kept
          (seq ∙ l.follows.agrees.seq)
          (listed_slots disk v b.opening h 0 slot key value s x u.keys.slots l.follows.agrees
          (slot_within v.keys.slots slot s there) there slots);
      stands = λ tell. keeps tell b.opening h b.tried step (l.follows.stands tell)
          (is_step_of disk e faults views v u tell rises) refl;
      whole = l.follows.whole;
    })
    unmoved refl

-- ---- the fold is opened

pub listed_opened : (disk : Bool) (o : Opening) (h : List Step) (tried : List Write) (now : Moment) (v u : Shown) (f : Fold)
    → Follows disk v o h tried → IsOpened 0 now v u f
    → (IsTrue disk → Keeps disk (entry_by 0 (FoldOpen now) (fold_answer f.epoch f.slot)) v u)
    → Listed disk (record { opening = o; before = h; tried = tried; now = now; told = v.files.told }) f.slot u [] [] 0
    (step_of disk (entry_by 0 (FoldOpen now) (fold_answer f.epoch f.slot)) (u.files.faults - v.files.faults) 0 u ∷ [])
listed_opened disk o h tried now v u f follows is keeps =
    let e = entry_by 0 (FoldOpen now) (fold_answer f.epoch f.slot) in
    let keys : u.keys.slots ≡ slice_set v.keys.slots f.slot (Some (opened 0 f.epoch now)) = ap (λ (y : Shown). y.keys.slots) is.keys in
    let files : u.files ≡ v.files = ap (λ (y : Shown). y.files) is.keys in
    let faults = u.files.faults - v.files.faults in
    let rises = rises_by_faults v u (omega (arith, ap (λ (y : Seen). y.faults) files)) (ap (λ (y : Seen). y.fallible_views) files)
    (ap (λ (y : Seen). y.fallible_outs) files) in
    let step = step_of disk e faults 0 u in
    let kept : KeepsSettings v u = record {
      settings = ap (λ (y : Shown). y.settings) is.keys;
      limit = ap (λ (y : Seen). y.catalog.max_file) files;
    } in
    record {
      epoch = f.epoch;
      called = listing_opened (own_context o) (point_of o h) [] step now f.epoch f.slot tt refl;
      alone = (refl, tt);
      quiet_calls = refl;
      follows = record {
        agrees = agrees_on disk v u o h step e follows.agrees (counts_of disk e faults 0 v u rises) refl kept
            (ap (λ (y : Shown). y.seq) is.keys ∙ follows.agrees.seq)
            (opened_slots disk v o h f.slot e
            (record { listed = []; caller = 0; epoch = f.epoch; now = now; slot = f.slot })
            (opened 0 f.epoch now) u.keys.slots follows.agrees refl refl
            (first_is_free v.keys.slots f.slot is.slot).within keys);
        stands = λ tell. keeps tell o h tried step (follows.stands tell) (is_step_of disk e faults 0 v u tell rises) refl;
        whole = follows.whole;
      };
      unmoved = λ tell. unmoved_same v.files.told u.files.told (ap (λ (y : Seen). y.told) files);
      since = λ tell. (
        (
          clock u.files.told,
          at_told disk u.files.told tell,
          omega (arith, same_clock v.files.told u.files.told (unmoved_same v.files.told u.files.told (ap (λ (y : Seen). y.told) files))),
        ),
        tt,
      );
    }

pub opened_ours : (now : Moment) (v u : Shown) (f : Fold) → IsOpened 0 now v u f → IsOurs f.slot u
opened_ours now v u f is =
    ap (λ (y : Shown). who_of (slot_at y.keys.slots f.slot)) is.keys
    ∙ ap who_of (set_here v.keys.slots f.slot (Some (opened 0 f.epoch now)) (first_is_free v.keys.slots f.slot is.slot).within)

-- ---- it is closed

-- a call that can't be refused
pub on_ok : {T E P Q : Type 0} (r : Result T E) → (IsErr r → P → ⊥) → P → OnOk r Q → Q
on_ok (Ok x) never p q = q
on_ok (Err e) never p q = absurd (never refl p)

plus_none : (n : ℕ) → n + 0 ≡ n
plus_none n = omega arith

pub listed_closed : (disk : Bool) (b : Begun) (slot : ℕ) (v u : Shown) (given : List Row) (behind : List Said) (quiet : ℕ)
    (steps : List Step) → Listed disk b slot v given behind quiet steps → IsOurs slot v → IsClosed slot v u
    → (IsTrue disk → Keeps disk (entry_by 0 (FoldClose slot) Done) v u)
    → (step : Step) × Listed disk b slot u given (behind ++ closing_call slot ∷ []) quiet (steps ++ step ∷ [])
listed_closed disk b slot v u given behind quiet steps l ours is keeps =
    let e = entry_by 0 (FoldClose slot) Done in
    let files : u.files ≡ v.files = ap (λ (y : Shown). y.files) is in
    let slots : u.keys.slots ≡ slice_set v.keys.slots slot None = ap (λ (y : Shown). y.keys.slots) is in
    let faults = u.files.faults - v.files.faults in
    let rises = rises_by_faults v u (omega (arith, ap (λ (y : Seen). y.faults) files)) (ap (λ (y : Seen). y.fallible_views) files)
    (ap (λ (y : Seen). y.fallible_outs) files) in
    let step = step_of disk e faults 0 u in
    let h = b.before ++ steps in
    let (s, there) = owned (slot_at v.keys.slots slot) 0 ours in
    let kept : KeepsSettings v u = record {
      settings = ap (λ (y : Shown). y.settings) is;
      limit = ap (λ (y : Seen). y.catalog.max_file) files;
    } in (
      step,
      subst (λ (n : ℕ). Listed disk b slot u given (behind ++ closing_call slot ∷ []) n (steps ++ step ∷ [])) (plus_none quiet)
          (listed_more disk b slot v u given given behind (behind ++ closing_call slot ∷ []) quiet steps l step (FoldClose slot) Done
          refl
          (listing_behind (own_context b.opening) (point_of b.opening b.before) steps [] step b.now l.epoch slot given behind
          (FoldClose slot) Done l.called tt refl)
          (record {
            agrees = agrees_on disk v u b.opening h step e l.follows.agrees (counts_of disk e faults 0 v u rises) refl kept
                (ap (λ (y : Shown). y.seq) is ∙ l.follows.agrees.seq)
                (closed_slots disk v b.opening h 0 slot u.keys.slots l.follows.agrees (slot_within v.keys.slots slot s there) slots);
            stands = λ tell. keeps tell b.opening h b.tried step (l.follows.stands tell)
                (is_step_of disk e faults 0 v u tell rises) refl;
            whole = l.follows.whole;
          })
          (λ tell. unmoved_same v.files.told u.files.told (ap (λ (y : Seen). y.told) files)) refl),
    )
