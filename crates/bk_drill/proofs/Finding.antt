-- Values that are located and read: from what the store did to the action.
use Rattle.std.proofs.Common.{◌≡◌, ◌∙◌, ℕ, ◌-◌, ◌==◌, ◌≤◌, Bool, true, false, cond, List, [], drop, Option, Some, None}
use Rattle.std.proofs.Common.{refl, sym, ap, subst, inl, inr}
use Rattle.std.specs.Prelude.{IsTrue, ◌⊎◌, length}
use Rattle.std.proofs.lemmas.Bool.{false_from_ne_true, cases_Bool}
use Rattle.std.proofs.lemmas.List.{append-nil}
use Rattle.bk_base.specs.declared.calls.Answer.TheVariants.{Done, Found, Nothing}
use Rattle.bk_base.specs.declared.calls.Call.TheVariants.{Get as get_call, Quiet}
use Rattle.bk_base.specs.declared.histories.Opening.{Opening}
use Rattle.bk_base.specs.declared.histories.Step.{Step}
use Rattle.bk_base.specs.declared.writes.Write.{Write}
use Rattle.bk_disk.specs.Causes.{Rose, bumped}
use Rattle.bk_keydir.specs.declared.slots.Slot.{Slot}
use Rattle.bk_laws.specs.History.{log_of}
use Rattle.bk_laws.specs.Log.{winner}
use Rattle.bk_script.specs.declared.lines.Action.TheVariants.{Get, Read as read_action}
use Rattle.bk_script.specs.declared.printed.Printed.{Printed}
use Rattle.bk_script.specs.declared.printed.Printed.TheVariants.{Absent, Damaged, Disk, Loan, Memory, NoLoan, Read, Value}
use Rattle.bk_store.specs.Events.{Keeps, entry_by, quiet_by}
use Rattle.bk_base.specs.declared.writes.Version.{Version}
use Rattle.bk_store.specs.Loans.{Lent, LendsLive, LendsNewest, LendsWrite, check_of, live_of}
use Rattle.bk_store.specs.Shown.{Shown}
use Rattle.bk_store.specs.Standing.{StandsFor}
use Rattle.bk_session.specs.Following.{Follows}
use Rattle.bk_session.proofs.Events.{Still, rises_by_fault, rises_by_faults, step_of}
use Rattle.bk_session.proofs.Reading.{rises_by_view}
use Rattle.bk_drill.specs.Actions.{IsUnread, Reads, is_numbered}
use Rattle.bk_drill.specs.Between.{Between, Kept, with_kept}
use Rattle.bk_drill.specs.declared.drills.Drill.{Drill}
use Rattle.bk_drill.specs.Loans.{IsUnreadFor, loan_in, tally_in}
use Rattle.bk_drill.specs.Shown.{IsAt, LoanIs}
use Rattle.bk_drill.proofs.Acting.{Result, acts_once, follows_kept, listed_still, still_acts}
use Rattle.bk_drill.proofs.Writing.{GoesBy}
use Rattle.bk_store.proofs.Lending.{lent_checked}

-- ---- get

-- what the store did, of which the files alone may be others
pub record Looks (old new : Drill) : Type 0 where
  pub still : Still old.store new.store
  pub later : old.store.files.faults ≤ new.store.files.faults
  pub outs : new.store.files.fallible_outs ≡ old.store.files.fallible_outs

pub get_finds_none : (old new : Drill) (key : List ℕ) → GoesBy old new → Looks old new
    → new.store.files.fallible_views ≡ old.store.files.fallible_views
    → ((who : ℕ) → Keeps true (entry_by who (get_call key old.now) Nothing) old.store new.store)
    → (who : ℕ) (b : Between) → IsAt old b → Result b who (Get key) Absent new
get_finds_none old new key by looks views keeps who b at =
    still_acts old new b who (Get key) Absent (get_call key old.now) Nothing
    (new.store.files.faults - old.store.files.faults) 0 at by.now by.plan by.settings by.loans by.listed
    (rises_by_faults old.store new.store looks.later views looks.outs) looks.still (λ s. refl) (keeps who)
    (inl (
      step_of b.sound (entry_by who (get_call key old.now) Nothing) (new.store.files.faults - old.store.files.faults) 0 new.store,
      refl,
      inl (record { call = ap (λ m. Some (get_call key m)) at.moment; shows = refl }),
    ))
    (λ actor. refl) refl

pub get_disk_fails : (old new : Drill) (key : List ℕ) → GoesBy old new → Looks old new
    → new.store.files.fallible_views ≡ old.store.files.fallible_views
    → Rose old.store.files.faults new.store.files.faults
    → ((who : ℕ) → Keeps true (quiet_by who) old.store new.store)
    → (who : ℕ) (b : Between) → IsAt old b → Result b who (Get key) Disk new
get_disk_fails old new key by looks views rose keeps who b at =
    let r = rises_by_fault old.store new.store looks.later rose views looks.outs in
    still_acts old new b who (Get key) Disk Quiet Done r.n 0 at by.now by.plan by.settings by.loans by.listed
    r.rises looks.still (λ s. refl) (keeps who)
    (inr (record { call = λ is. absurd (cc is); quiet = (refl, refl, tt); cause = (refl, r.some) }))
    (λ actor. refl) refl

pub get_out_of_memory : (old new : Drill) (key : List ℕ) → GoesBy old new → Looks old new
    → new.store.files.fallible_views ≡ old.store.files.fallible_views
    → ((who : ℕ) → Keeps true (quiet_by who) old.store new.store)
    → (who : ℕ) (b : Between) → IsAt old b → Result b who (Get key) Memory new
get_out_of_memory old new key by looks views keeps who b at =
    still_acts old new b who (Get key) Memory Quiet Done (new.store.files.faults - old.store.files.faults) 0 at
    by.now by.plan by.settings by.loans by.listed (rises_by_faults old.store new.store looks.later views looks.outs) looks.still (λ s. refl) (keeps who)
    (inr (record { call = λ is. absurd (cc is); quiet = (refl, refl, tt); cause = tt }))
    (λ actor. refl) refl

-- what is lent is still to be read
pub loan_unread : (ttl now : ℕ) (key : List ℕ) (newest : Option Version) (l : Lent) {found : Option Lent} → found ≡ Some l
    → LendsNewest ttl now key newest found → l.rest ≡ l.size
loan_unread ttl now key newest l is lends =
    go (live_of ttl now newest) (subst (LendsNewest ttl now key newest) is lends)
  where
    go : (v : Option Version) → LendsLive key v (Some l) → l.rest ≡ l.size
    go None h = absurd h
    go (Some v) h = h.rest

kept_of_loan : Lent → Kept
kept_of_loan l = record { value = drop l.value_at l.left; fallible = l.fallible }

-- the actor keeps this loan, and the others what they kept
loans_with : (sound : Bool) (who : ℕ) (l : Lent) (loans : ℕ → Option Lent) (kept : ℕ → Option Kept)
    → (IsTrue sound → check_of l.left ≡ l.crc) → ((n : ℕ) → LoanIs sound (loans n) (kept n)) → (n : ℕ)
    → LoanIs sound (cond (n == who) (Some l) (loans n)) (with_kept who (Some (kept_of_loan l)) kept n)
unfolding kept_of_loan
loans_with sound who l loans kept whole are n =
    elim (cases_Bool (n == who)) [
      | inl p ↦ rw p (record { value = refl; fallible = refl; whole = whole })
      | inr p ↦ rw p (are n)
    ]

-- the actor keeps none, and the others what they kept
loans_without : (sound : Bool) (who : ℕ) (loans : ℕ → Option Lent) (kept : ℕ → Option Kept)
    → ((n : ℕ) → LoanIs sound (loans n) (kept n)) → (n : ℕ)
    → LoanIs sound (cond (n == who) None (loans n)) (with_kept who None kept n)
loans_without sound who loans kept are n =
    elim (cases_Bool (n == who)) [
      | inl p ↦ rw p tt
      | inr p ↦ rw p (are n)
    ]

pub get_finds : (old new : Drill) (key : List ℕ) (who : ℕ) (l : Lent)
    → new.now ≡ old.now → new.plan ≡ old.plan → new.settings ≡ old.settings
    → ((n : ℕ) → tally_in new.tallies n ≡ tally_in old.tallies n)
    → ((n : ℕ) → loan_in new.loans n ≡ cond (n == who) (Some l) (loan_in old.loans n))
    → Looks old new → new.store.files.fallible_views ≡ bumped l.fallible old.store.files.fallible_views
    → Keeps true (entry_by who (get_call key old.now) (Found (drop l.value_at l.left))) old.store new.store
    → ((o : Opening) (h : List Step) (tried : List Write) → StandsFor old.store o h tried
    → LendsWrite (winner (log_of o h) key) (Some l))
    → (b : Between) → IsAt old b → Result b who (Get key) Loan new
unfolding kept_of_loan
get_finds old new key who l now plan settings listed loans looks views keeps lends b at =
    let r = rises_by_view l.fallible old.store new.store looks.later views looks.outs in
    let e = entry_by who (get_call key old.now) (Found (drop l.value_at l.left)) in
    let faults = new.store.files.faults - old.store.files.faults in
    let step = step_of b.sound e faults r.n new.store in
    acts_once b who (Get key) Loan step b.tried (with_kept who (Some (kept_of_loan l)) b.kept) new refl
    (inl (step, refl, inl (record { call = ap (λ m. Some (get_call key m)) at.moment; shows = refl })))
    (kept_of_loan l, (refl, r.some), λ actor. refl)
    (inr (inl (refl, refl)))
    (follows_kept b.sound old.store new.store b.opening b.steps b.tried who (get_call key old.now)
    (Found (drop l.value_at l.left)) faults r.n at.follows r.rises looks.still (λ s. refl) keeps)
    (at.moment ∙ sym now) (at.plan ∙ sym plan) (looks.still.kept.settings ∙ at.settings ∙ sym settings)
    (ap (λ (l : List (Option Slot)). length l) looks.still.slots ∙ at.slots)
    (λ n. subst (λ (x : Option Lent). LoanIs b.sound x (with_kept who (Some (kept_of_loan l)) b.kept n)) (sym (loans n))
    (loans_with b.sound who l (loan_in old.loans) b.kept
    (λ t. lent_checked (winner (log_of b.opening b.steps) key) l (lends b.opening b.steps b.tried (at.follows.stands t)))
    at.loans n))
    (listed_still old b step e (tally_in new.tallies) at listed refl refl)

-- ---- read

-- a loan was taken, and this line stands for it
abbrev pub ReadsLoan : Lent → Printed → Type 0
ReadsLoan l line = ((value : List ℕ) × (line ≡ Value value) × (value ≡ drop l.value_at l.left)) ⊎ IsUnreadFor l line

-- why a loan couldn't be read, as a line of the drill
pub unread_is : (b : Between) (l : Lent) (fallible : Bool) (line : Printed) → fallible ≡ l.fallible
    → (IsTrue b.sound → check_of l.left ≡ l.crc) → IsUnreadFor l line → IsUnread b fallible line
unread_is b l fallible Memory is whole why = tt
unread_is b l fallible Read is whole why = is ∙ why
unread_is b l fallible (Damaged d) is whole why =
    (why.0, false_from_ne_true b.sound (λ t. why.0 (why.1 ∙ sym (whole t) ∙ sym why.2)))
unread_is b l fallible line is whole why = absurd why

unread_line : (b : Between) (fallible : Bool) (line : Printed) → IsUnread b fallible line → is_numbered line ≡ false
unread_line b fallible Memory is = refl
unread_line b fallible Read is = refl
unread_line b fallible (Damaged d) is = refl
unread_line b fallible line is = absurd is

read_line_is : (b : Between) (l : Lent) (k : Kept) (line : Printed) → LoanIs b.sound (Some l) (Some k) → ReadsLoan l line
    → Reads b (Some k) line
read_line_is b l k line is (inl (value, shown, bytes)) = inl (shown ∙ ap Value (bytes ∙ sym is.value))
read_line_is b l k line is (inr why) = inr (unread_is b l k.fallible line is.fallible is.whole why)

-- an action without a step
acts_not : (old new : Drill) (b : Between) (who : ℕ) (line : Printed) → IsAt old b → new.store ≡ old.store
    → new.now ≡ old.now → new.plan ≡ old.plan → new.settings ≡ old.settings
    → ((n : ℕ) → tally_in new.tallies n ≡ tally_in old.tallies n) → ((n : ℕ) → loan_in new.loans n ≡ cond (n == who) None (loan_in old.loans n))
    → Reads b (b.kept who) line → Result b who read_action line new
acts_not old new b who line at store now plan settings listed loans reads = (
  record b { kept = with_kept who None b.kept },
  record {
    steps = [];
    own = tt;
    does = (refl, reads);
    history = sym (append-nil b.steps);
    opening = refl;
    sound = refl;
    moment = refl;
    plan = refl;
    kept = λ actor. refl;
    tries = inr (inl (refl, unnumbered (b.kept who) reads));
    legal = λ t. (at.follows.stands t).legal;
  },
  record {
    follows = subst (λ (v : Shown). Follows b.sound v b.opening b.steps b.tried) (sym store) at.follows;
    moment = at.moment ∙ sym now;
    plan = at.plan ∙ sym plan;
    settings = ap (λ (v : Shown). v.settings) store ∙ at.settings ∙ sym settings;
    slots = ap (λ (v : Shown). length v.keys.slots) store ∙ at.slots;
    loans = λ n. subst (λ (x : Option Lent). LoanIs b.sound x (with_kept who None b.kept n)) (sym (loans n))
        (loans_without b.sound who (loan_in old.loans) b.kept at.loans n);
    listed = λ slot low. listed slot ∙ at.listed slot low;
  },
)
  where
    unnumbered : (k : Option Kept) → Reads b k line → is_numbered line ≡ false
    unnumbered None is = ap is_numbered is
    unnumbered (Some k) (inl is) = ap is_numbered is
    unnumbered (Some k) (inr is) = unread_line b k.fallible line is

pub read_finds_none : (old new : Drill) (who : ℕ) → new.store ≡ old.store
    → new.now ≡ old.now → new.plan ≡ old.plan → new.settings ≡ old.settings
    → ((n : ℕ) → tally_in new.tallies n ≡ tally_in old.tallies n) → ((n : ℕ) → loan_in new.loans n ≡ cond (n == who) None (loan_in old.loans n))
    → None ≡ loan_in old.loans who → (b : Between) → IsAt old b → Result b who read_action NoLoan new
read_finds_none old new who store now plan settings listed loans none b at =
    acts_not old new b who NoLoan at store now plan settings listed loans (go (loan_in old.loans who) (b.kept who) (sym none) (at.loans who))
  where
    go : (l : Option Lent) (k : Option Kept) → l ≡ None → LoanIs b.sound l k → Reads b k NoLoan
    go None None is h = refl
    go None (Some k) is h = absurd h
    go (Some l) k is h = absurd (cc is)

pub read_gives : (old new : Drill) (who : ℕ) (l : Lent) (line : Printed) → new.store ≡ old.store
    → new.now ≡ old.now → new.plan ≡ old.plan → new.settings ≡ old.settings
    → ((n : ℕ) → tally_in new.tallies n ≡ tally_in old.tallies n) → ((n : ℕ) → loan_in new.loans n ≡ cond (n == who) None (loan_in old.loans n))
    → Some l ≡ loan_in old.loans who → ReadsLoan l line → (b : Between) → IsAt old b → Result b who read_action line new
read_gives old new who l line store now plan settings listed loans some reads b at =
    acts_not old new b who line at store now plan settings listed loans (go (loan_in old.loans who) (b.kept who) (sym some) (at.loans who))
  where
    go : (x : Option Lent) (k : Option Kept) → x ≡ Some l → LoanIs b.sound x k → Reads b k line
    go None k is h = absurd (cc is)
    go (Some x) None is h = absurd h
    go (Some x) (Some k) is h = read_line_is b l k line (subst (λ (y : Option Lent). LoanIs b.sound y (Some k)) is h) reads
