-- PUT and DEL: from what the store did to the line.
use Rattle.std.proofs.Common.{◌≡◌, ◌∙◌, ℕ, ◌+◌, ◌-◌, ◌≤◌, Bool, true, false, List, [], ◌∷◌, Some, None}
use Rattle.std.proofs.Common.{refl, ap, subst, arith, inl, inr}
use Rattle.std.specs.Prelude.{IsTrue}
use Rattle.bk_base.specs.declared.calls.Answer.TheVariants.{Done, Nothing, Numbered as numbered_answer}
use Rattle.bk_base.specs.declared.calls.Call.TheVariants.{Delete as delete_call, Put as put_call, Quiet}
use Rattle.bk_base.specs.declared.histories.Opening.{Opening}
use Rattle.bk_base.specs.declared.histories.Step.{Step}
use Rattle.bk_base.specs.declared.numbers.Moment.{Moment}
use Rattle.bk_base.specs.declared.requests.Reply.TheVariants.{Absent, Numbered}
use Rattle.bk_base.specs.declared.requests.Request.{Request}
use Rattle.bk_base.specs.declared.requests.Request.TheVariants.{Put, Delete}
use Rattle.bk_base.specs.declared.writes.Body.{Body}
use Rattle.bk_base.specs.declared.writes.Body.TheVariants.{Put as put_body, Gone}
use Rattle.bk_base.specs.declared.writes.Write.{Write}
use Rattle.bk_disk.specs.Crashes.{AtEach}
use Rattle.bk_disk.specs.Told.{clock, untold}
use Rattle.bk_exchange.specs.Answers.{ShowsDelete, ShowsPut}
use Rattle.bk_exchange.specs.OneThread.{QuietCalls}
use Rattle.bk_exchange.specs.Points.{Event, events, point_of}
use Rattle.bk_exchange.specs.Refusals.{Cause, HasNoFile, may_refuse, size_asked}
use Rattle.bk_exchange.specs.Writes.{told_by, write_asked}
use Rattle.bk_exchange.proofs.Bodies.{one_answer, one_refusal}
use Rattle.bk_base.specs.declared.limits.TheConstants.{LAST_SEQ}
use Rattle.bk_image.specs.Prefix.{MeetsEither}
use Rattle.bk_laws.specs.History.{log_of}
use Rattle.bk_laws.specs.Log.{last_seq}
use Rattle.bk_laws.specs.Record.{size_of}
use Rattle.bk_store.specs.declared.errors.PutError.{PutError}
use Rattle.bk_store.specs.declared.errors.PutError.TheVariants.{FullSeq, FullFiles, Disk as put_disk}
use Rattle.bk_store.specs.declared.errors.PutError.TheVariants.{Memory as put_memory}
use Rattle.bk_store.specs.declared.puts.Stored.{Stored}
use Rattle.bk_store.specs.Appends.{tried_by}
use Rattle.bk_store.specs.Events.{CrashMeets, GoesOn, IsLeft, Keeps, KeepsPast, Refuses, entry_by, next_write, quiet_by}
use Rattle.bk_store.specs.History.{kept_of}
use Rattle.bk_store.specs.Shown.{Shown}
use Rattle.bk_store.specs.Writes.{IsBuried, IsWriteError, IsWritten, KeepsRest}
use Rattle.bk_store.proofs.Answering.{seq_kept}
use Rattle.bk_session.specs.Following.{Follows, own_context}
use Rattle.bk_session.specs.Refusing.{line_of_put}
use Rattle.bk_session.specs.Replying.{RepliesOnce, exchange_of}
use Rattle.bk_session.specs.Serving.{Tries}
use Rattle.bk_session.proofs.Events.{Leaves, Rises, at_event, files_are_full, is_step_of, leaves_kept}
use Rattle.bk_session.proofs.Events.{rises_by_fault, rises_by_faults, seq_is_full, step_of, still_replies, wrote_replies}
use Rattle.bk_session.proofs.Following.{KeepsSettings}

-- ---- a write that was refused

-- the request asks for this write, behind those that have a seq so far
pub record AsksWrite (request : Request) (now : Moment) (w : Write) (v : Shown) : Type 0 where
  pub size : size_of w ≡ size_asked request
  pub may : (e : PutError) → may_refuse request (line_of_put e) ≡ true
  pub told : (e : PutError) → told_by request now (line_of_put e ∷ []) ≡ []
  pub is_next : (log : List Write) → v.seq ≡ last_seq log → w ∷ [] ≡ write_asked request now log

pub settings_kept : (v u : Shown) → KeepsRest v u → KeepsSettings v u
settings_kept v u rest = record { settings = rest.settings; limit = rest.limit }

one_quiet : (e : PutError) → QuietCalls (Some (line_of_put e)) 1
one_quiet FullSeq = refl
one_quiet FullFiles = refl
one_quiet put_disk = refl
one_quiet put_memory = omega arith

tries_by : (request : Request) (now : Moment) (w : Write) (e : PutError) (step : Step) (log tried left : List Write)
    → told_by request now (line_of_put e ∷ []) ≡ [] → w ∷ [] ≡ write_asked request now log
    → IsLeft tried (tried_by e w) left
    → Tries log tried (exchange_of request (Some now) (step ∷ []) (line_of_put e ∷ [])) left
tries_by request now w e step log tried left told asked (inl same) = inr (inl (same, told))
tries_by request now w e step log tried left told asked (inr (inl none)) = inl none
tries_by request now w FullSeq step log tried left told asked (inr (inr is)) = inl is
tries_by request now w FullFiles step log tried left told asked (inr (inr is)) = inl is
tries_by request now w put_disk step log tried left told asked (inr (inr is)) = inr (inr (refl, is ∙ asked))
tries_by request now w put_memory step log tried left told asked (inr (inr is)) = inl is

leaves_write : (tells : Bool) (request : Request) (now : Moment) (w : Write) (e : PutError) (faults : ℕ) (v u : Shown)
    (o : Opening) (h : List Step) (tried : List Write) → AsksWrite request now w v → Follows tells v o h tried
    → Rises v u faults 0 → (IsTrue tells → (who : ℕ) → Refuses tells who (tried_by e w) v u)
    → Leaves tells request (Some now) (line_of_put e) (step_of tells (quiet_by 0) faults 0 u) u o h tried
leaves_write true request now w e faults v u o h tried asks f rises refuses =
    let step = step_of true (quiet_by 0) faults 0 u in
    let (left, is_left, stands) = refuses refl 0 o h tried step (f.stands refl)
    (is_step_of true (quiet_by 0) faults 0 v u refl rises) refl in
    record {
      left = left;
      tries = tries_by request now w e step (log_of o h) tried left (asks.told e) (asks.is_next (log_of o h) f.agrees.seq) is_left;
      stands = λ tell. stands;
    }
leaves_write false request now w e faults v u o h tried asks f rises refuses =
    record { left = []; tries = inl refl; stands = λ tell. untold tell }

module _ (tells : Bool) (request : Request) (now : Moment) (w : Write) (v u : Shown) (asks : AsksWrite request now w v)
    (rest : KeepsRest v u) (past : IsTrue tells → KeepsPast v.files.told u.files.told)
    (crash : IsTrue tells → CrashMeets (w ∷ []) v u) where
  refused_with : (e : PutError) (faults : ℕ) → Rises v u faults 0 → u.seq ≡ v.seq
      → (IsTrue tells → (who : ℕ) → Refuses tells who (tried_by e w) v u)
      → ((o : Opening) (h : List Step) (tried : List Write) → Follows tells v o h tried
      → Cause (own_context o) request (line_of_put e)
      (events (point_of o h) (step_of tells (quiet_by 0) faults 0 u ∷ [])))
      → RepliesOnce tells request (Some now) (line_of_put e) v u
  refused_with e faults rises seq refuses cause =
      still_replies tells request (Some now) (line_of_put e) Quiet Done faults 0 v u rises
      (record { kept = settings_kept v u rest; seq = seq; slots = rest.slots }) (λ s. refl) (one_quiet e)
      (λ o h tried f. inr (inl (one_refusal (own_context o) (point_of o h) [] (step_of tells (quiet_by 0) faults 0 u) request
      (line_of_put e) tt refl (asks.may e) (cause o h tried f))))
      (λ o h tried f. leaves_write tells request now w e faults v u o h tried asks f rises refuses) past
      (λ o h tried f tell. subst (λ (ws : List Write). AtEach u.files.told (clock v.files.told)
      (MeetsEither (log_of o h) (kept_of o h) tried ws)) (asks.is_next (log_of o h) f.agrees.seq)
      (crash tell o h tried (f.stands tell)))

  pub refused_replies : (e : PutError) → IsWriteError w v u e
      → (IsTrue tells → (who : ℕ) → Refuses tells who (tried_by e w) v u)
      → RepliesOnce tells request (Some now) (line_of_put e) v u
  refused_replies FullSeq why refuses =
      refused_with FullSeq (u.files.faults - v.files.faults) (rises_by_faults v u rest.later rest.views rest.outs)
      (seq_kept w v u FullSeq why) refuses
      (λ o h tried f. at_event o h (step_of tells (quiet_by 0) (u.files.faults - v.files.faults) 0 u)
      (λ (e : Event). LAST_SEQ ≤ last_seq e.before.state.log) refl (seq_is_full tells v o h f.agrees why.0))
  refused_replies FullFiles why refuses =
      refused_with FullFiles (u.files.faults - v.files.faults) (rises_by_faults v u rest.later rest.views rest.outs)
      (seq_kept w v u FullFiles why) refuses
      (λ o h tried f.
      let step = step_of tells (quiet_by 0) (u.files.faults - v.files.faults) 0 u in
      at_event o h step (HasNoFile (own_context o) request) refl
      (files_are_full tells v o h tried request (size_of w) step f asks.size why.2 why.3))
  refused_replies put_disk why refuses =
      let r = rises_by_fault v u rest.later why.2 rest.views rest.outs in
      refused_with put_disk r.n r.rises (seq_kept w v u put_disk why) refuses
      (λ o h tried f. at_event o h (step_of tells (quiet_by 0) r.n 0 u) (λ (e : Event). 1 ≤ e.step.faults) refl r.some)
  refused_replies put_memory why refuses =
      refused_with put_memory (u.files.faults - v.files.faults) (rises_by_faults v u rest.later rest.views rest.outs)
      (seq_kept w v u put_memory why) refuses (λ o h tried f. tt)

-- ---- PUT

put_may : (key value : List ℕ) (e : PutError) → may_refuse (Put key value) (line_of_put e) ≡ true
put_may key value FullSeq = refl
put_may key value FullFiles = refl
put_may key value put_disk = refl
put_may key value put_memory = refl

put_told : (key value : List ℕ) (now : Moment) (e : PutError) → told_by (Put key value) now (line_of_put e ∷ []) ≡ []
put_told key value now FullSeq = refl
put_told key value now FullFiles = refl
put_told key value now put_disk = refl
put_told key value now put_memory = refl

write_at : ℕ → Moment → List ℕ → Body → Write
write_at n now key body = record { seq = record { 0 = n }; moment = now; key = key; body = body }

put_next : (v : Shown) (key value : List ℕ) (now : Moment) (log : List Write) → v.seq ≡ last_seq log
    → next_write v now key (put_body value) ∷ [] ≡ write_asked (Put key value) now log
unfolding write_at
put_next v key value now log is = ap (λ (n : ℕ). write_at (n + 1) now key (put_body value) ∷ []) is

pub put_asks : (key value : List ℕ) (now : Moment) (v : Shown)
    → AsksWrite (Put key value) now (next_write v now key (put_body value)) v
put_asks key value now v = record {
  size = refl;
  may = put_may key value;
  told = put_told key value now;
  is_next = put_next v key value now;
}

pub put_replies : (tells : Bool) (key value : List ℕ) (now : Moment) (s : Stored) (v u : Shown) → KeepsRest v u
    → IsWritten (next_write v now key (put_body value)) v u s
    → (IsTrue tells → (who : ℕ) → GoesOn tells (entry_by who (put_call key value now) (numbered_answer s.seq)) v u)
    → (IsTrue tells → KeepsPast v.files.told u.files.told)
    → (IsTrue tells → CrashMeets (next_write v now key (put_body value) ∷ []) v u)
    → RepliesOnce tells (Put key value) (Some now) (Numbered s.seq) v u
put_replies tells key value now s v u rest written goes past crash =
    wrote_replies tells (Put key value) now (put_call key value now) s.seq
    (record { seq = s.seq; moment = now; key = key; body = put_body value })
    (next_write v now key (put_body value) ∷ []) v u rest.later rest.views rest.outs (settings_kept v u rest) rest.slots
    (λ c p step is. inl (one_answer c p [] step (put_call key value now) (numbered_answer s.seq) ShowsPut (Numbered s.seq) tt
    is refl refl))
    refl (λ state. refl) written.seq written.next (put_next v key value now) (λ tell. goes tell 0) past crash

-- ---- DEL

delete_may : (key : List ℕ) (e : PutError) → may_refuse (Delete key) (line_of_put e) ≡ true
delete_may key FullSeq = refl
delete_may key FullFiles = refl
delete_may key put_disk = refl
delete_may key put_memory = refl

delete_told : (key : List ℕ) (now : Moment) (e : PutError) → told_by (Delete key) now (line_of_put e ∷ []) ≡ []
delete_told key now FullSeq = refl
delete_told key now FullFiles = refl
delete_told key now put_disk = refl
delete_told key now put_memory = refl

delete_next : (v : Shown) (key : List ℕ) (now : Moment) (log : List Write) → v.seq ≡ last_seq log
    → next_write v now key Gone ∷ [] ≡ write_asked (Delete key) now log
unfolding write_at
delete_next v key now log is = ap (λ (n : ℕ). write_at (n + 1) now key Gone ∷ []) is

pub delete_asks : (key : List ℕ) (now : Moment) (v : Shown) → AsksWrite (Delete key) now (next_write v now key Gone) v
delete_asks key now v = record {
  size = omega arith;
  may = delete_may key;
  told = delete_told key now;
  is_next = delete_next v key now;
}

pub delete_replies : (tells : Bool) (key : List ℕ) (now : Moment) (s : Stored) (v u : Shown) → KeepsRest v u
    → IsWritten (next_write v now key Gone) v u s
    → (IsTrue tells → (who : ℕ) → GoesOn tells (entry_by who (delete_call key now) (numbered_answer s.seq)) v u)
    → (IsTrue tells → KeepsPast v.files.told u.files.told)
    → (IsTrue tells → CrashMeets (next_write v now key Gone ∷ []) v u)
    → RepliesOnce tells (Delete key) (Some now) (Numbered s.seq) v u
delete_replies tells key now s v u rest written goes past crash =
    wrote_replies tells (Delete key) now (delete_call key now) s.seq
    (record { seq = s.seq; moment = now; key = key; body = Gone })
    (next_write v now key Gone ∷ []) v u rest.later rest.views rest.outs (settings_kept v u rest) rest.slots
    (λ c p step is. inl (one_answer c p [] step (delete_call key now) (numbered_answer s.seq) ShowsDelete (Numbered s.seq) tt
    is refl refl))
    refl (λ state. refl) written.seq written.next (delete_next v key now) (λ tell. goes tell 0) past crash

pub buried_some : (due : Bool) (w : Write) (v u : Shown) (s : Stored) → IsBuried due w v u (Some s) → IsWritten w v u s
buried_some true w v u s h = h
buried_some false w v u s h = absurd h

pub buried_none : (due : Bool) (w : Write) (v u : Shown) → IsBuried due w v u None → u ≡ v
buried_none true w v u h = absurd h
buried_none false w v u h = h

-- nothing was there to delete
pub delete_finds_none : (tells : Bool) (key : List ℕ) (now : Moment) (v u : Shown) → KeepsRest v u → u ≡ v
    → (IsTrue tells → (who : ℕ) → Keeps tells (entry_by who (delete_call key now) Nothing) v u)
    → (IsTrue tells → KeepsPast v.files.told u.files.told)
    → (IsTrue tells → CrashMeets (next_write v now key Gone ∷ []) v u)
    → RepliesOnce tells (Delete key) (Some now) Absent v u
delete_finds_none tells key now v u rest same keeps past crash =
    let n = u.files.faults - v.files.faults in
    let rises = rises_by_faults v u rest.later rest.views rest.outs in
    still_replies tells (Delete key) (Some now) Absent (delete_call key now) Nothing n 0 v u rises
    (record { kept = settings_kept v u rest; seq = ap (λ (x : Shown). x.seq) same; slots = rest.slots }) (λ s. refl) refl
    (λ o h tried f. inl (one_answer (own_context o) (point_of o h) [] (step_of tells (entry_by 0 (delete_call key now) Nothing) n 0 u)
    (delete_call key now) Nothing ShowsDelete Absent tt refl refl tt))
    (λ o h tried f. leaves_kept tells (Delete key) (Some now) Absent (entry_by 0 (delete_call key now) Nothing) n 0 v u o h tried f
    rises refl (λ tell. keeps tell 0)) past
    (λ o h tried f tell. subst (λ (ws : List Write). AtEach u.files.told (clock v.files.told)
    (MeetsEither (log_of o h) (kept_of o h) tried ws)) (delete_next v key now (log_of o h) f.agrees.seq)
    (crash tell o h tried (f.stands tell)))
