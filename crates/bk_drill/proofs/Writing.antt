-- Writes and syncs: from what the store did to the action.
use Rattle.std.proofs.Common.{◌≡◌, ◌∙◌, ℕ, ◌+◌, ◌-◌, ◌≤◌, Bool, true, false, List, [], ◌∷◌, ◌++◌, length, Option, Some, None}
use Rattle.std.proofs.Common.{refl, sym, ap, subst, arith, inl, inr}
use Rattle.std.specs.Prelude.{IsTrue}
use Rattle.std.proofs.lemmas.List.{append-nil, length-replicate}
use Rattle.bk_base.specs.declared.calls.Answer.TheVariants.{Nothing, Numbered as numbered_answer}
use Rattle.bk_base.specs.declared.calls.Call.{Call}
use Rattle.bk_base.specs.declared.calls.Call.TheVariants.{Put as put_call, Delete as delete_call, Reap as reap_call, Sync as sync_call}
use Rattle.bk_base.specs.declared.calls.Entry.{Entry}
use Rattle.bk_base.specs.declared.histories.Opening.{Opening}
use Rattle.bk_base.specs.declared.histories.Snapshot.{Snapshot}
use Rattle.bk_base.specs.declared.histories.Step.{Step}
use Rattle.bk_base.specs.declared.histories.StoreSettings.{StoreSettings}
use Rattle.bk_base.specs.declared.limits.TheConstants.{LAST_FILE, LAST_SEQ, RECORD_HEADER}
use Rattle.bk_base.specs.declared.numbers.Moment.{Moment}
use Rattle.bk_base.specs.declared.numbers.Seq.{Seq}
use Rattle.bk_base.specs.declared.writes.Body.{Body}
use Rattle.bk_base.specs.declared.writes.Body.TheVariants.{Put as put_body, Gone}
use Rattle.bk_base.specs.declared.writes.Write.{Write}
use Rattle.bk_disk.specs.Causes.{Rose}
use Rattle.bk_disk.specs.Told.{untold}
use Rattle.bk_exchange.specs.Refusals.{active_len, needs_file}
use Rattle.bk_files.specs.Files.{is_due}
use Rattle.bk_keydir.specs.declared.slots.Slot.{Slot}
use Rattle.bk_laws.specs.History.{State, changed}
use Rattle.bk_laws.specs.Log.{last_seq}
use Rattle.bk_laws.specs.Record.{size_of}
use Rattle.bk_script.specs.declared.lines.Action.{Action}
use Rattle.bk_script.specs.declared.lines.Action.TheVariants.{Put, Big, Delete, Reap, Sync}
use Rattle.bk_script.specs.declared.printed.Printed.{Printed}
use Rattle.bk_script.specs.declared.printed.Printed.TheVariants.{Absent, Disk, Memory, Numbered, Synced}
use Rattle.bk_store.specs.declared.errors.PutError.{PutError}
use Rattle.bk_store.specs.declared.errors.PutError.TheVariants.{FullSeq, FullFiles, Disk as put_disk}
use Rattle.bk_store.specs.declared.errors.PutError.TheVariants.{Memory as put_memory}
use Rattle.bk_store.specs.declared.puts.Stored.{Stored}
use Rattle.bk_store.specs.Appends.{tried_by}
use Rattle.bk_store.specs.Events.{GoesOn, IsLeft, Refuses, entry_by, next_write, quiet_by}
use Rattle.bk_store.specs.History.{last_snapshot}
use Rattle.bk_store.specs.Loans.{Lent}
use Rattle.bk_store.specs.Shown.{Shown}
use Rattle.bk_store.specs.Standing.{StandsFor}
use Rattle.bk_store.specs.Writes.{Buries, IsBuried, IsWriteError, IsWritten, KeepsRest, bury_reply}
use Rattle.bk_store.proofs.Answering.{seq_kept}
use Rattle.bk_session.specs.Following.{Follows, snapshot_in}
use Rattle.bk_session.proofs.ActiveRows.{last_in, needs_in}
use Rattle.bk_session.proofs.Events.{Rises, counts_of, is_step_of, rises_by_fault, rises_by_faults, step_of}
use Rattle.bk_session.proofs.Following.{follows_still, follows_write}
use Rattle.bk_session.proofs.Writes.{buried_none, buried_some, settings_kept}
use Rattle.bk_drill.specs.Actions.{AreQuiet, Does, HasNoFile, IsRefusedFor, Tries, asks_disk, call_of, is_writing, size_asked, write_asked}
use Rattle.bk_drill.specs.Actions.{IsAnswered, line_of, write_of, xs}
use Rattle.bk_drill.specs.Actions.{Keeps as KeepsLoans}
use Rattle.bk_drill.specs.Between.{Between, log_at, state_at}
use Rattle.bk_drill.specs.Progress.{line_of_put}
use Rattle.bk_drill.specs.declared.drills.Drill.{Drill}
use Rattle.bk_drill.specs.Loans.{loan_in, tally_in}
use Rattle.bk_drill.specs.Shown.{IsAt, LoanIs}
use Rattle.bk_drill.proofs.Acting.{Result, acts_once, goes_in, listed_still, still_acts}

-- the drill went on, and but for its store is as it was
pub record GoesBy (old new : Drill) : Type 0 where
  pub now : new.now ≡ old.now
  pub plan : new.plan ≡ old.plan
  pub settings : new.settings ≡ old.settings
  pub loans : (n : ℕ) → loan_in new.loans n ≡ loan_in old.loans n
  pub listed : (n : ℕ) → tally_in new.tallies n ≡ tally_in old.tallies n

pub loans_kept : (old new : Drill) (b : Between) → IsAt old b → GoesBy old new → (n : ℕ) → LoanIs b.sound (loan_in new.loans n) (b.kept n)
loans_kept old new b at by n = subst (λ (l : Option Lent). LoanIs b.sound l (b.kept n)) (sym (by.loans n)) (at.loans n)

-- ---- a write that was made

pub wrote_acts : (old new : Drill) (b : Between) (who : ℕ) (action : Action) (call : Call) (seq : Seq) (w : Write)
    → IsAt old b → GoesBy old new → KeepsRest old.store new.store
    → ((s : State) → changed who call (numbered_answer seq) s ≡ record s { log = s.log ++ w ∷ [] })
    → w.seq.0 ≡ old.store.seq + 1 → new.store.seq ≡ old.store.seq + 1
    → GoesOn true (entry_by who call (numbered_answer seq)) old.store new.store
    → ((step : Step) → step.entry ≡ entry_by who call (numbered_answer seq) → Does b who action (step ∷ []) (Numbered seq))
    → ((step : Step) → KeepsLoans who action (step ∷ []) (Numbered seq) b.kept b.kept)
    → Result b who action (Numbered seq) new
wrote_acts old new b who action call seq w at by rest writes next seq_next goes does kept =
    let v = old.store in
    let u = new.store in
    let e = entry_by who call (numbered_answer seq) in
    let n = u.files.faults - v.files.faults in
    let rises = rises_by_faults v u rest.later rest.views rest.outs in
    let step = step_of b.sound e n 0 u in
    acts_once b who action (Numbered seq) step [] b.kept new refl (does step refl) (kept step) (inl refl)
    (follows_write b.sound v u b.opening b.steps b.tried [] step e w at.follows (counts_of b.sound e n 0 v u rises) refl
    (writes (state_at b)) next (settings_kept v u rest) seq_next rest.slots
    (λ t. goes_in b.sound e v u goes t b.opening b.steps b.tried step (at.follows.stands t)
    (is_step_of b.sound e n 0 v u t rises) refl))
    (at.moment ∙ sym by.now) (at.plan ∙ sym by.plan) (rest.settings ∙ at.settings ∙ sym by.settings)
    (ap (λ (l : List (Option Slot)). length l) rest.slots ∙ at.slots) (loans_kept old new b at by)
    (listed_still old b step e (tally_in new.tallies) at by.listed refl (ap (λ (s : State). s.folds) (writes (state_at b))))

-- ---- a write that was refused

-- the line of a refusal, with what has to have caused it
caused : (old : Drill) (b : Between) (action : Action) (size : ℕ) → IsAt old b → size ≡ size_asked action
    → is_due size old.store.files ≡ true → LAST_FILE ≤ old.store.files.catalog.last → HasNoFile b action
caused old b action size at is due last =
    let v = old.store in
    let f = at.follows in
    let snapshot : last_snapshot b.opening b.steps ≡ snapshot_in b.sound v = f.agrees.snapshot in
    let limit : v.files.catalog.max_file ≡ b.opening.settings.max_file =
    f.agrees.limit ∙ ap (λ (x : StoreSettings). x.max_file) (sym f.agrees.settings) in
    record {
      due = subst (λ (s : Snapshot). needs_file (size_asked action) b.opening.settings.max_file (active_len s.rows) ≡ true)
          (sym snapshot)
          (subst (λ (n : ℕ). needs_file (size_asked action) n (active_len (snapshot_in b.sound v).rows) ≡ true) limit
          (subst (λ (n : ℕ). needs_file n v.files.catalog.max_file (active_len (snapshot_in b.sound v).rows) ≡ true) is
          (needs_in b.sound size v (λ t. (f.stands t).content.disk.consistent) due)));
      last = subst (λ (s : Snapshot). LAST_FILE ≤ s.last_file.0) (sym snapshot)
          (subst (λ (n : ℕ). LAST_FILE ≤ n) (sym (last_in b.sound v)) last);
    }

-- the faults of a refused write, and why it was refused
record WhyRefused (b : Between) (who : ℕ) (action : Action) (e : PutError) (v u : Shown) : Type 0 where
  n : ℕ
  rises : Rises v u n 0
  why : (step : Step) → step.faults ≡ n → IsRefusedFor b who action (step ∷ []) (line_of_put e)

why_refused : (old new : Drill) (b : Between) (who : ℕ) (action : Action) (w : Write) (e : PutError) → IsAt old b
    → KeepsRest old.store new.store → IsWriteError w old.store new.store e → size_of w ≡ size_asked action
    → is_writing action ≡ true → asks_disk action ≡ true → WhyRefused b who action e old.store new.store
why_refused old new b who action w FullSeq at rest error size writing disk = record {
  n = new.store.files.faults - old.store.files.faults;
  rises = rises_by_faults old.store new.store rest.later rest.views rest.outs;
  why = λ step is. (writing, subst (λ (n : ℕ). LAST_SEQ ≤ n) at.follows.agrees.seq error.0);
}
why_refused old new b who action w FullFiles at rest error size writing disk = record {
  n = new.store.files.faults - old.store.files.faults;
  rises = rises_by_faults old.store new.store rest.later rest.views rest.outs;
  why = λ step is. (writing, caused old b action (size_of w) at size error.2 error.3);
}
why_refused old new b who action w put_disk at rest error size writing disk =
    let r = rises_by_fault old.store new.store rest.later error.2 rest.views rest.outs in
    record { n = r.n; rises = r.rises; why = λ step is. (disk, subst (λ (n : ℕ). 1 ≤ n) (sym is) r.some) }
why_refused old new b who action w put_memory at rest error size writing disk = record {
  n = new.store.files.faults - old.store.files.faults;
  rises = rises_by_faults old.store new.store rest.later rest.views rest.outs;
  why = λ step is. tt;
}

-- what may be tried then
tries_by : (b : Between) (action : Action) (w : Write) (e : PutError) (left : List Write) → w ∷ [] ≡ write_asked b action
    → IsLeft b.tried (tried_by e w) left → Tries b action (line_of_put e) left
tries_by b action w FullSeq left asked (inl same) = inr (inl (same, refl))
tries_by b action w FullFiles left asked (inl same) = inr (inl (same, refl))
tries_by b action w put_disk left asked (inl same) = inr (inl (same, refl))
tries_by b action w put_memory left asked (inl same) = inr (inl (same, refl))
tries_by b action w e left asked (inr (inl none)) = inl none
tries_by b action w FullSeq left asked (inr (inr is)) = inl is
tries_by b action w FullFiles left asked (inr (inr is)) = inl is
tries_by b action w put_disk left asked (inr (inr is)) = inr (inr (refl, is ∙ asked))
tries_by b action w put_memory left asked (inr (inr is)) = inl is

-- what is tried then, and that the store stands for the quiet step
record Leaves (sound : Bool) (tried more : List Write) (u : Shown) (o : Opening) (h : List Step) (step : Step) : Type 0 where
  left : List Write
  is_left : IsLeft tried more left
  stands : IsTrue sound → StandsFor u o (h ++ step ∷ []) left

leaves : (sound : Bool) (who : ℕ) (more : List Write) (faults : ℕ) (v u : Shown) (o : Opening) (h : List Step) (tried : List Write)
    → Follows sound v o h tried → Rises v u faults 0 → Refuses true who more v u
    → Leaves sound tried more u o h (step_of sound (quiet_by who) faults 0 u)
leaves true who more faults v u o h tried f rises refuses =
    let step = step_of true (quiet_by who) faults 0 u in
    let (left, is_left, stands) = refuses o h tried step (f.stands refl) (is_step_of true (quiet_by who) faults 0 v u refl rises) refl in
    record { left = left; is_left = is_left; stands = λ t. stands }
leaves false who more faults v u o h tried f rises refuses =
    record { left = []; is_left = inr (inl refl); stands = λ t. untold t }

pub refused_acts : (old new : Drill) (b : Between) (who : ℕ) (action : Action) (w : Write) (e : PutError)
    → IsAt old b → GoesBy old new → KeepsRest old.store new.store → IsWriteError w old.store new.store e
    → Refuses true who (tried_by e w) old.store new.store → size_of w ≡ size_asked action → is_writing action ≡ true
    → asks_disk action ≡ true → w ∷ [] ≡ write_asked b action
    → ((step : Step) → AreQuiet (step ∷ []) → IsRefusedFor b who action (step ∷ []) (line_of_put e)
    → Does b who action (step ∷ []) (line_of_put e))
    → ((step : Step) → KeepsLoans who action (step ∷ []) (line_of_put e) b.kept b.kept)
    → Result b who action (line_of_put e) new
refused_acts old new b who action w e at by rest error refuses size writing disk asked does kept =
    let v = old.store in
    let u = new.store in
    let r = why_refused old new b who action w e at rest error size writing disk in
    let q = quiet_by who in
    let step = step_of b.sound q r.n 0 u in
    let l = leaves b.sound who (tried_by e w) r.n v u b.opening b.steps b.tried at.follows r.rises refuses in
    acts_once b who action (line_of_put e) step l.left b.kept new refl (does step (refl, refl, tt) (r.why step refl)) (kept step)
    (tries_by b action w e l.left asked l.is_left)
    (follows_still b.sound v u b.opening b.steps b.tried l.left step q at.follows (counts_of b.sound q r.n 0 v u r.rises) refl refl
    (settings_kept v u rest) (seq_kept w v u e error) rest.slots l.stands)
    (at.moment ∙ sym by.now) (at.plan ∙ sym by.plan) (rest.settings ∙ at.settings ∙ sym by.settings)
    (ap (λ (l : List (Option Slot)). length l) rest.slots ∙ at.slots) (loans_kept old new b at by)
    (listed_still old b step q (tally_in new.tallies) at by.listed refl refl)

-- ---- put

pub write_at : ℕ → Moment → List ℕ → Body → Write
write_at n now key body = record { seq = record { 0 = n }; moment = now; key = key; body = body }

next_is : (old : Drill) (b : Between) (key : List ℕ) (body : Body) → IsAt old b
    → next_write old.store old.now key body ∷ [] ≡ write_at (last_seq (log_at b) + 1) b.moment key body ∷ []
unfolding write_at
next_is old b key body at =
    ap (λ (n : ℕ). write_at (n + 1) old.now key body ∷ []) at.follows.agrees.seq
    ∙ ap (λ (m : Moment). write_at (last_seq (log_at b) + 1) m key body ∷ []) (sym at.moment)

-- an action that puts this value
pub record Puts (action : Action) (key value : List ℕ) : Type 0 where
  pub call : (now : Moment) → call_of now action ≡ Some (put_call key value now)
  pub size : (n : ℕ) (now : Moment) → size_of (write_at n now key (put_body value)) ≡ size_asked action
  pub writing : is_writing action ≡ true
  pub disk : asks_disk action ≡ true
  pub answered : (b : Between) (who : ℕ) (step : Step) (line : Printed) → IsAnswered b action step line
      → Does b who action (step ∷ []) line
  pub refused : (b : Between) (who : ℕ) (step : Step) (line : Printed) → AreQuiet (step ∷ [])
      → IsRefusedFor b who action (step ∷ []) line → Does b who action (step ∷ []) line
  pub kept : (b : Between) (who : ℕ) (step : Step) (line : Printed) → KeepsLoans who action (step ∷ []) line b.kept b.kept

pub puts_value : (key value : List ℕ) → Puts (Put key value) key value
unfolding write_at
puts_value key value = record {
  call = λ now. refl;
  size = λ n now. refl;
  writing = refl;
  disk = refl;
  answered = λ b who step line is. inl (step, refl, inl is);
  refused = λ b who step line quiet why. inr (record { call = λ is. absurd (cc is); quiet = quiet; cause = why });
  kept = λ b who step line actor. refl;
}

pub put_acts : (old new : Drill) (action : Action) (key value : List ℕ) (s : Stored) → Puts action key value → GoesBy old new
    → KeepsRest old.store new.store → IsWritten (next_write old.store old.now key (put_body value)) old.store new.store s
    → ((who : ℕ) → GoesOn true (entry_by who (put_call key value old.now) (numbered_answer s.seq)) old.store new.store)
    → (who : ℕ) (b : Between) → IsAt old b → Result b who action (Numbered s.seq) new
put_acts old new action key value s puts by rest written goes who b at =
    wrote_acts old new b who action (put_call key value old.now) s.seq
    (record { seq = s.seq; moment = old.now; key = key; body = put_body value }) at by rest (λ state. refl) written.seq written.next
    (goes who)
    (λ step is. puts.answered b who step (Numbered s.seq) (record {
      call = puts.call b.moment ∙ ap (λ (m : Moment). Some (put_call key value m)) at.moment ∙ ap (λ (x : Entry). Some x.call) (sym is);
      shows = ap (λ (x : Entry). line_of (state_at b) x.call x.reply) is;
    }))
    (λ step. puts.kept b who step (Numbered s.seq))

pub put_refused : (old new : Drill) (action : Action) (key value : List ℕ) (e : PutError) → Puts action key value
    → GoesBy old new → KeepsRest old.store new.store
    → IsWriteError (next_write old.store old.now key (put_body value)) old.store new.store e
    → ((who : ℕ) → Refuses true who (tried_by e (next_write old.store old.now key (put_body value))) old.store new.store)
    → (who : ℕ) (b : Between) → IsAt old b → Result b who action (line_of_put e) new
unfolding write_at
put_refused old new action key value e puts by rest error refuses who b at =
    refused_acts old new b who action (next_write old.store old.now key (put_body value)) e at by rest error (refuses who)
    (puts.size (old.store.seq + 1) old.now) puts.writing puts.disk
    (next_is old b key (put_body value) at
    ∙ ap (λ (c : Option Call). write_of c (log_at b)) (sym (puts.call b.moment)))
    (λ step quiet why. puts.refused b who step (line_of_put e) quiet why)
    (λ step. puts.kept b who step (line_of_put e))

pub puts_xs : (key : List ℕ) (len : ℕ) → Puts (Big key len) key (xs len)
unfolding write_at
puts_xs key len = record {
  call = λ now. refl;
  size = λ n now. ap (λ (k : ℕ). RECORD_HEADER + length key + k) (length-replicate len 120);
  writing = refl;
  disk = refl;
  answered = λ b who step line is. inl (step, refl, inl is);
  refused = λ b who step line quiet why. inr (record { call = λ is. absurd (cc is); quiet = quiet; cause = why });
  kept = λ b who step line actor. refl;
}

-- ---- del and reap

-- an action that buries this key
pub record BuriesKey (action : Action) (key : List ℕ) (call : Moment → Call) : Type 0 where
  pub call_is : (now : Moment) → call_of now action ≡ Some (call now)
  pub size : (n : ℕ) (now : Moment) → size_of (write_at n now key Gone) ≡ size_asked action
  pub writing : is_writing action ≡ true
  pub disk : asks_disk action ≡ true
  pub changes : (who : ℕ) (n : Seq) (now : Moment) (s : State) → changed who (call now) (numbered_answer n) s
      ≡ record s { log = s.log ++ (record { seq = n; moment = now; key = key; body = Gone }) ∷ [] }
  pub shows : (s : State) (n : Seq) (now : Moment) → line_of s (call now) (numbered_answer n) ≡ Some (Numbered n)
  pub shows_none : (s : State) (now : Moment) → line_of s (call now) Nothing ≡ Some Absent
  pub still : (who : ℕ) (now : Moment) (s : State) → changed who (call now) Nothing s ≡ s
  pub asked : (now : Moment) (log : List Write) → write_of (Some (call now)) log ≡ write_at (last_seq log + 1) now key Gone ∷ []
  pub answered : (b : Between) (who : ℕ) (step : Step) (line : Printed) → IsAnswered b action step line
      → Does b who action (step ∷ []) line
  pub refused : (b : Between) (who : ℕ) (step : Step) (line : Printed) → AreQuiet (step ∷ [])
      → IsRefusedFor b who action (step ∷ []) line → Does b who action (step ∷ []) line
  pub kept : (b : Between) (who : ℕ) (step : Step) (line : Printed) → KeepsLoans who action (step ∷ []) line b.kept b.kept

pub delete_buries : (key : List ℕ) → BuriesKey (Delete key) key (delete_call key)
unfolding write_at
delete_buries key = record {
  call_is = λ now. refl;
  size = λ n now. omega arith;
  writing = refl;
  disk = refl;
  changes = λ who n now s. refl;
  shows = λ s n now. refl;
  shows_none = λ s now. refl;
  still = λ who now s. refl;
  asked = λ now log. refl;
  answered = λ b who step line is. inl (step, refl, inl is);
  refused = λ b who step line quiet why. inr (record { call = λ is. absurd (cc is); quiet = quiet; cause = why });
  kept = λ b who step line actor. refl;
}

pub reap_buries : (key : List ℕ) → BuriesKey (Reap key) key (reap_call key)
unfolding write_at
reap_buries key = record {
  call_is = λ now. refl;
  size = λ n now. omega arith;
  writing = refl;
  disk = refl;
  changes = λ who n now s. refl;
  shows = λ s n now. refl;
  shows_none = λ s now. refl;
  still = λ who now s. refl;
  asked = λ now log. refl;
  answered = λ b who step line is. inl (step, refl, inl is);
  refused = λ b who step line quiet why. inr (record { call = λ is. absurd (cc is); quiet = quiet; cause = why });
  kept = λ b who step line actor. refl;
}

module _ (old new : Drill) (action : Action) (key : List ℕ) (call : Moment → Call) (buries : BuriesKey action key call)
    (by : GoesBy old new) (rest : KeepsRest old.store new.store) where
  pub bury_acts : (due : Bool) (found : Option Stored) (s : Stored) → found ≡ Some s
      → IsBuried due (next_write old.store old.now key Gone) old.store new.store found
      → ((who : ℕ) → Buries true found (entry_by who (call old.now) (bury_reply found)) old.store new.store)
      → (who : ℕ) (b : Between) → IsAt old b → Result b who action (Numbered s.seq) new
  bury_acts due found s is buried goes who b at =
      let written = buried_some due (next_write old.store old.now key Gone) old.store new.store s
      (subst (IsBuried due (next_write old.store old.now key Gone) old.store new.store) is buried) in
      wrote_acts old new b who action (call old.now) s.seq
      (record { seq = s.seq; moment = old.now; key = key; body = Gone }) at by rest (λ state. buries.changes who s.seq old.now state)
      written.seq written.next
      (subst (λ (x : Option Stored). Buries true x (entry_by who (call old.now) (bury_reply x)) old.store new.store) is (goes who))
      (λ step entry. buries.answered b who step (Numbered s.seq) (record {
        call = buries.call_is b.moment ∙ ap (λ (m : Moment). Some (call m)) at.moment ∙ ap (λ (x : Entry). Some x.call) (sym entry);
        shows = ap (λ (x : Entry). line_of (state_at b) x.call x.reply) entry ∙ buries.shows (state_at b) s.seq old.now;
      }))
      (λ step. buries.kept b who step (Numbered s.seq))

  pub bury_none : (due : Bool) (found : Option Stored) → found ≡ None
      → IsBuried due (next_write old.store old.now key Gone) old.store new.store found
      → ((who : ℕ) → Buries true found (entry_by who (call old.now) (bury_reply found)) old.store new.store)
      → (who : ℕ) (b : Between) → IsAt old b → Result b who action Absent new
  bury_none due found is buried goes who b at =
      let same = buried_none due (next_write old.store old.now key Gone) old.store new.store
      (subst (IsBuried due (next_write old.store old.now key Gone) old.store new.store) is buried) in
      let faults = new.store.files.faults - old.store.files.faults in
      let step = step_of b.sound (entry_by who (call old.now) Nothing) faults 0 new.store in
      still_acts old new b who action Absent (call old.now) Nothing faults 0 at by.now by.plan by.settings by.loans by.listed
      (rises_by_faults old.store new.store rest.later rest.views rest.outs)
      (record { kept = settings_kept old.store new.store rest; seq = ap (λ (x : Shown). x.seq) same; slots = rest.slots })
      (λ s. buries.still who old.now s)
      (subst (λ (x : Option Stored). Buries true x (entry_by who (call old.now) (bury_reply x)) old.store new.store) is (goes who))
      (buries.answered b who step Absent (record {
        call = buries.call_is b.moment ∙ ap (λ (m : Moment). Some (call m)) at.moment;
        shows = buries.shows_none (state_at b) old.now;
      }))
      (buries.kept b who step Absent) refl

  pub bury_refused : (e : PutError) → IsWriteError (next_write old.store old.now key Gone) old.store new.store e
      → ((who : ℕ) → Refuses true who (tried_by e (next_write old.store old.now key Gone)) old.store new.store)
      → (who : ℕ) (b : Between) → IsAt old b → Result b who action (line_of_put e) new
  unfolding write_at
  bury_refused e error refuses who b at =
      refused_acts old new b who action (next_write old.store old.now key Gone) e at by rest error (refuses who)
      (buries.size (old.store.seq + 1) old.now) buries.writing buries.disk
      (next_is old b key Gone at ∙ sym (buries.asked b.moment (log_at b))
      ∙ ap (λ (c : Option Call). write_of c (log_at b)) (sym (buries.call_is b.moment)))
      (λ step quiet why. buries.refused b who step (line_of_put e) quiet why)
      (λ step. buries.kept b who step (line_of_put e))

-- ---- sync

module _ (old new : Drill) (by : GoesBy old new) (rest : KeepsRest old.store new.store)
    (same : new.store ≡ record old.store { files = new.store.files }) where
  pub sync_acts : (seq : Seq) → ((who : ℕ) → GoesOn true (entry_by who sync_call (numbered_answer seq)) old.store new.store)
      → (who : ℕ) (b : Between) → IsAt old b → Result b who Sync (Synced seq) new
  sync_acts seq goes who b at =
      let v = old.store in
      let u = new.store in
      let e = entry_by who sync_call (numbered_answer seq) in
      let n = u.files.faults - v.files.faults in
      let rises = rises_by_faults v u rest.later rest.views rest.outs in
      let step = step_of b.sound e n 0 u in
      acts_once b who Sync (Synced seq) step [] b.kept new refl
      (inl (step, refl, inl (record { call = refl; shows = refl }))) (λ actor. refl) (inl refl)
      (follows_still b.sound v u b.opening b.steps b.tried [] step e at.follows (counts_of b.sound e n 0 v u rises) refl refl
      (settings_kept v u rest) (ap (λ (x : Shown). x.seq) same) rest.slots
      (λ t. goes_in b.sound e v u (goes who) t b.opening b.steps b.tried step (at.follows.stands t)
      (is_step_of b.sound e n 0 v u t rises) refl))
      (at.moment ∙ sym by.now) (at.plan ∙ sym by.plan) (rest.settings ∙ at.settings ∙ sym by.settings)
      (ap (λ (l : List (Option Slot)). length l) rest.slots ∙ at.slots) (loans_kept old new b at by)
      (listed_still old b step e (tally_in new.tallies) at by.listed refl refl)

  sync_tries : (b : Between) (left : List Write) → IsLeft b.tried [] left → Tries b Sync Disk left
  sync_tries b left (inl kept) = inr (inl (kept, refl))
  sync_tries b left (inr (inl none)) = inl none
  sync_tries b left (inr (inr none)) = inl none

  pub sync_fails : Rose old.store.files.faults new.store.files.faults
      → ((who : ℕ) → Refuses true who [] old.store new.store)
      → (who : ℕ) (b : Between) → IsAt old b → Result b who Sync Disk new
  sync_fails rose refuses who b at =
      let v = old.store in
      let u = new.store in
      let q = quiet_by who in
      let r = rises_by_fault v u rest.later rose rest.views rest.outs in
      let step = step_of b.sound q r.n 0 u in
      let l = leaves b.sound who [] r.n v u b.opening b.steps b.tried at.follows r.rises (refuses who) in
      acts_once b who Sync Disk step l.left b.kept new refl
      (inr (record { call = λ is. absurd (cc is); quiet = (refl, refl, tt); cause = (refl, r.some) })) (λ actor. refl)
      (sync_tries b l.left l.is_left)
      (follows_still b.sound v u b.opening b.steps b.tried l.left step q at.follows (counts_of b.sound q r.n 0 v u r.rises) refl refl
      (settings_kept v u rest) (ap (λ (x : Shown). x.seq) same) rest.slots l.stands)
      (at.moment ∙ sym by.now) (at.plan ∙ sym by.plan) (rest.settings ∙ at.settings ∙ sym by.settings)
      (ap (λ (l : List (Option Slot)). length l) rest.slots ∙ at.slots) (loans_kept old new b at by)
      (listed_still old b step q (tally_in new.tallies) at by.listed refl refl)

-- ---- before any call

-- there was no memory for the value
pub no_memory : (d : Drill) (action : Action) → ((b : Between) (who : ℕ) → Does b who action [] Memory)
    → ((b : Between) (who : ℕ) → KeepsLoans who action [] Memory b.kept b.kept)
    → (who : ℕ) (b : Between) → IsAt d b → Result b who action Memory d
no_memory d action does kept who b at = (
  b,
  record {
    steps = [];
    own = tt;
    does = does b who;
    history = sym (append-nil b.steps);
    opening = refl;
    sound = refl;
    moment = refl;
    plan = refl;
    kept = kept b who;
    tries = inr (inl (refl, refl));
    legal = λ t. (at.follows.stands t).legal;
  },
  at,
)

pub big_no_memory : (d : Drill) (key : List ℕ) (len : ℕ) (who : ℕ) (b : Between) → IsAt d b → Result b who (Big key len) Memory d
big_no_memory d key len =
    no_memory d (Big key len)
    (λ b who. inr (record { call = λ is. absurd (cc is); quiet = tt; cause = tt })) (λ b who actor. refl)
