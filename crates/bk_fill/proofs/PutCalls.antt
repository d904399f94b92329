-- What a put of the store answers, of every history that the store followed.
use Rattle.std.proofs.Common.{◌≡◌, ℕ, Bool, false, List, ◌∷◌, [], Some, Ok, Err, subst, inl, IsTrue}
use Rattle.std.specs.Prelude.{Result, IfOk, IfErr}
use Rattle.bk_base.specs.declared.calls.Answer.TheVariants.{Numbered as numbered_answer}
use Rattle.bk_base.specs.declared.calls.Call.TheVariants.{Put as put_call}
use Rattle.bk_base.specs.declared.numbers.Moment.{Moment}
use Rattle.bk_base.specs.declared.requests.Reply.TheVariants.{Numbered}
use Rattle.bk_base.specs.declared.writes.Body.TheVariants.{Put as put_body}
use Rattle.bk_disk.specs.Told.{untold}
use Rattle.bk_fill.specs.Pairs.{key_at, put_at, value_at}
use Rattle.bk_fill.specs.Putting.{AnswersPut, RefusesPut}
use Rattle.bk_session.proofs.Following.{known_way}
use Rattle.bk_session.proofs.Writes.{put_asks, put_replies, refused_replies}
use Rattle.bk_session.specs.Refusing.{line_of_put}
use Rattle.bk_session.specs.Replying.{RepliesOnce}
use Rattle.bk_store.specs.declared.errors.PutError.{PutError}
use Rattle.bk_store.specs.declared.puts.Stored.{Stored}
use Rattle.bk_store.specs.Appends.{tried_by}
use Rattle.bk_store.specs.Events.{CrashMeets, GoesOn, KeepsPast, Refuses, entry_by, next_write}
use Rattle.bk_store.specs.Shown.{Shown}
use Rattle.bk_store.specs.Writes.{IsWriteError, IsWritten, KeepsRest}

-- what a call of the store's put promises
pub record PutCall (result : Result Stored PutError) (tells : Bool) (now : Moment) (key value : List ℕ) (v u : Shown)
    : Type 0 where
  pub written : IfOk result (IsWritten (next_write v now key (put_body value)) v u)
  pub error : IfErr result (IsWriteError (next_write v now key (put_body value)) v u)
  pub rest : KeepsRest v u
  pub past : IsTrue tells → KeepsPast v.files.told u.files.told
  pub ok : IsTrue tells → IfOk result (λ s. (who : ℕ) → GoesOn tells
      (entry_by who (put_call key value now) (numbered_answer s.seq)) v u)
  pub refused : IsTrue tells → IfErr result (λ e. (who : ℕ) → Refuses tells who
      (tried_by e (next_write v now key (put_body value))) v u)
  pub crash : IsTrue tells → CrashMeets (next_write v now key (put_body value) ∷ []) v u

pub of_pair : (result : Result Stored PutError) (tells : Bool) (now : Moment) (n : ℕ) (key value : List ℕ) (v u : Shown)
    → key ≡ key_at n → value ≡ value_at n → PutCall result tells now key value v u
    → PutCall result tells now (key_at n) (value_at n) v u
of_pair result tells now n key value v u is_key is_value c =
    subst (λ (k : List ℕ). PutCall result tells now k (value_at n) v u) is_key
    (subst (λ (x : List ℕ). PutCall result tells now key x v u) is_value c)

pub put_answered : (tells : Bool) (now : Moment) (n : ℕ) (s : Stored) (v u : Shown)
    → PutCall (Ok s) tells now (key_at n) (value_at n) v u → AnswersPut tells now n v u
put_answered tells now n s v u c = (
  s.seq,
  λ known sub. known_way known tells (λ (t : Bool). RepliesOnce t (put_at n) (Some now) (Numbered s.seq) v u) sub
      (put_replies tells (key_at n) (value_at n) now s v u c.rest c.written (λ t. c.ok t) c.past c.crash)
      (put_replies false (key_at n) (value_at n) now s v u c.rest c.written (λ t. untold t) (λ t. untold t) (λ t. untold t)),
)

pub put_refused : (tells : Bool) (now : Moment) (n : ℕ) (e : PutError) (v u : Shown)
    → PutCall (Err e) tells now (key_at n) (value_at n) v u → RefusesPut tells now n e v u
put_refused tells now n e v u c =
    let w = next_write v now (key_at n) (put_body (value_at n)) in
    let asks = put_asks (key_at n) (value_at n) now v in
    inl (λ known sub. known_way known tells (λ (t : Bool). RepliesOnce t (put_at n) (Some now) (line_of_put e) v u) sub
    (refused_replies tells (put_at n) now w v u asks c.rest c.past c.crash e c.error (λ t. c.refused t))
    (refused_replies false (put_at n) now w v u asks c.rest (λ t. untold t) (λ t. untold t) e c.error (λ t. untold t)))
