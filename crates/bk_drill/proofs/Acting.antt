-- From an event of the store to an action of a drill.
use Rattle.std.proofs.Common.{◌≡◌, ◌∙◌, ℕ, ◌<◌, Bool, true, false, List, [], ◌∷◌, ◌++◌, Option}
use Rattle.std.proofs.Common.{refl, sym, ap, subst, inl, inr}
use Rattle.std.specs.Prelude.{IsTrue, min, length}
use Rattle.bk_base.specs.declared.calls.Answer.{Answer}
use Rattle.bk_base.specs.declared.calls.Call.{Call}
use Rattle.bk_base.specs.declared.calls.Entry.{Entry}
use Rattle.bk_base.specs.declared.histories.OpenFold.{OpenFold}
use Rattle.bk_base.specs.declared.histories.Opening.{Opening}
use Rattle.bk_base.specs.declared.histories.Step.{Step}
use Rattle.bk_base.specs.declared.limits.TheConstants.{MOST_FOLDS}
use Rattle.bk_base.specs.declared.writes.Write.{Write}
use Rattle.bk_disk.specs.Told.{untold}
use Rattle.bk_image.proofs.LegalLogs.{state_after-step}
use Rattle.bk_keydir.specs.declared.slots.Slot.{Slot}
use Rattle.bk_laws.specs.History.{State, after, changed, state_after}
use Rattle.bk_script.specs.declared.lines.Action.{Action}
use Rattle.bk_script.specs.declared.printed.Printed.{Printed}
use Rattle.bk_store.specs.Events.{GoesOn, Keeps, Refuses, entry_by}
use Rattle.bk_store.specs.Loans.{Lent}
use Rattle.bk_store.specs.Shown.{Shown}
use Rattle.bk_store.specs.Sweeps.{last_count}
use Rattle.bk_session.specs.Following.{Follows}
use Rattle.bk_session.proofs.Events.{Rises, Still, counts_of, is_step_of, step_of}
use Rattle.bk_session.proofs.Following.{follows_still}
use Rattle.bk_drill.specs.Actions.{Acts, Does, Tries, is_numbered, listed_by}
use Rattle.bk_drill.specs.Actions.{Keeps as KeepsLoans}
use Rattle.bk_drill.specs.Between.{Between, Kept, state_at}
use Rattle.bk_drill.specs.declared.drills.Drill.{Drill}
use Rattle.bk_drill.specs.Loans.{loan_in, tally_in}
use Rattle.bk_drill.specs.Shown.{IsAt, LoanIs}

-- ---- what is said over a disk that tells, where the history is sound

pub keeps_in : (sound : Bool) (e : Entry) (v u : Shown) → Keeps true e v u → IsTrue sound → Keeps sound e v u
keeps_in true e v u k t = k
keeps_in false e v u k t = untold t

pub goes_in : (sound : Bool) (e : Entry) (v u : Shown) → GoesOn true e v u → IsTrue sound → GoesOn sound e v u
goes_in true e v u g t = g
goes_in false e v u g t = untold t

pub refuses_in : (sound : Bool) (who : ℕ) (more : List Write) (v u : Shown) → Refuses true who more v u → IsTrue sound
    → Refuses sound who more v u
refuses_in true who more v u r t = r
refuses_in false who more v u r t = untold t

-- ---- one step more

abbrev pub behind : Between → Step → List Write → (ℕ → Option Kept) → Between
behind b step left kept = record {
  opening = b.opening;
  steps = b.steps ++ step ∷ [];
  tried = left;
  sound = b.sound;
  moment = b.moment;
  kept = kept;
  plan = b.plan;
}

-- what the action did, and where the drill stands then
abbrev pub Result : Between → ℕ → Action → Printed → Drill → Type 0
Result b who action line d = (later : Between) × Acts b who action line later × IsAt d later

pub acts_once : (b : Between) (who : ℕ) (action : Action) (line : Printed) (step : Step) (left : List Write)
    (kept : ℕ → Option Kept) (d : Drill) → step.entry.caller ≡ who → Does b who action (step ∷ []) line
    → KeepsLoans who action (step ∷ []) line b.kept kept → Tries b action line left
    → Follows b.sound d.store b.opening (b.steps ++ step ∷ []) left → b.moment ≡ d.now → b.plan ≡ d.plan → d.store.settings ≡ d.settings
    → length d.store.keys.slots ≡ MOST_FOLDS
    → ((actor : ℕ) → LoanIs b.sound (loan_in d.loans actor) (kept actor))
    → ((slot : ℕ) → slot < MOST_FOLDS
    → tally_in d.tallies slot ≡ min (listed_by (state_after b.opening (b.steps ++ step ∷ [])).folds slot) last_count)
    → Result b who action line d
acts_once b who action line step left kept d caller does keeps tries follows moment plan settings slots loans listed = (
  behind b step left kept,
  record {
    steps = step ∷ [];
    own = (caller, tt);
    does = does;
    history = refl;
    opening = refl;
    sound = refl;
    moment = refl;
    plan = refl;
    kept = keeps;
    tries = tries;
    legal = λ t. (follows.stands t).legal;
  },
  record { follows = follows; moment = moment; plan = plan; settings = settings; slots = slots; loans = loans; listed = listed },
)

-- the open folds after a step
pub folds_after : (o : Opening) (h : List Step) (step : Step) (e : Entry) (slot : ℕ) → step.entry ≡ e
    → listed_by (after (state_after o h) e).folds slot ≡ listed_by (state_after o (h ++ step ∷ [])).folds slot
folds_after o h step e slot is =
    sym (ap (λ (s : State). listed_by s.folds slot) (state_after-step o h step ∙ ap (after (state_after o h)) is))

-- a step that leaves the folds as they are
pub listed_still : (d : Drill) (b : Between) (step : Step) (e : Entry) (listed : ℕ → ℕ) → IsAt d b
    → ((n : ℕ) → listed n ≡ tally_in d.tallies n) → step.entry ≡ e
    → (after (state_at b) e).folds ≡ (state_at b).folds → (slot : ℕ) → slot < MOST_FOLDS
    → listed slot ≡ min (listed_by (state_after b.opening (b.steps ++ step ∷ [])).folds slot) last_count
listed_still d b step e listed at same is still slot low =
    same slot ∙ at.listed slot low
    ∙ ap (λ (n : ℕ). min n last_count)
    (ap (λ (fs : List OpenFold). listed_by fs slot) (sym still) ∙ folds_after b.opening b.steps step e slot is)

pub follows_kept : (sound : Bool) (v u : Shown) (o : Opening) (h : List Step) (tried : List Write) (who : ℕ) (call : Call)
    (answer : Answer) (faults views : ℕ) → Follows sound v o h tried → Rises v u faults views → Still v u
    → ((s : State) → changed who call answer s ≡ s) → Keeps true (entry_by who call answer) v u
    → Follows sound u o (h ++ step_of sound (entry_by who call answer) faults views u ∷ []) tried
follows_kept sound v u o h tried who call answer faults views f rises still same keeps =
    let e = entry_by who call answer in
    let step = step_of sound e faults views u in
    follows_still sound v u o h tried tried step e f (counts_of sound e faults views v u rises) refl
    (same (state_after o h)) still.kept still.seq still.slots
    (λ t. keeps_in sound e v u keeps t o h tried step (f.stands t) (is_step_of sound e faults views v u t rises) refl)

-- An event that changes neither the log nor the folds, nor what is kept.
pub still_acts : (old new : Drill) (b : Between) (who : ℕ) (action : Action) (line : Printed) (call : Call) (answer : Answer)
    (faults views : ℕ) → IsAt old b → new.now ≡ old.now → new.plan ≡ old.plan → new.settings ≡ old.settings
    → ((n : ℕ) → loan_in new.loans n ≡ loan_in old.loans n)
    → ((n : ℕ) → tally_in new.tallies n ≡ tally_in old.tallies n) → Rises old.store new.store faults views → Still old.store new.store
    → ((s : State) → changed who call answer s ≡ s) → Keeps true (entry_by who call answer) old.store new.store
    → Does b who action (step_of b.sound (entry_by who call answer) faults views new.store ∷ []) line
    → KeepsLoans who action (step_of b.sound (entry_by who call answer) faults views new.store ∷ []) line b.kept b.kept
    → is_numbered line ≡ false → Result b who action line new
still_acts old new b who action line call answer faults views at now plan settings loans listed rises still same keeps does kept unwritten =
    let e = entry_by who call answer in
    let step = step_of b.sound e faults views new.store in
    acts_once b who action line step b.tried b.kept new refl does kept (inr (inl (refl, unwritten)))
    (follows_kept b.sound old.store new.store b.opening b.steps b.tried who call answer faults views at.follows rises still same keeps)
    (at.moment ∙ sym now) (at.plan ∙ sym plan) (still.kept.settings ∙ at.settings ∙ sym settings)
    (ap (λ (l : List (Option Slot)). length l) still.slots ∙ at.slots)
    (λ n. subst (λ (l : Option Lent). LoanIs b.sound l (b.kept n)) (sym (loans n)) (at.loans n))
    (listed_still old b step e (tally_in new.tallies) at listed refl (ap (λ (s : State). s.folds) (same (state_at b))))
