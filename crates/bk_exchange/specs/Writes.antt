-- The writes of a session: those that its calls made, and those that its OK lines tell.
use Rattle.std.specs.Prelude.{◌≡◌, ℕ, List, [], ◌∷◌}
use Rattle.std.specs.List.{flat_map}
use Rattle.bk_base.specs.declared.calls.Answer.{Answer}
use Rattle.bk_base.specs.declared.calls.Answer.TheVariants.{Numbered as numbered_answer}
use Rattle.bk_base.specs.declared.calls.Call.{Call}
use Rattle.bk_base.specs.declared.calls.Call.TheVariants.{Put as put_call, Delete as delete_call, Reap as reap_call}
use Rattle.bk_base.specs.declared.numbers.Moment.{Moment}
use Rattle.bk_base.specs.declared.numbers.Seq.{Seq}
use Rattle.bk_base.specs.declared.requests.Reply.{Reply}
use Rattle.bk_base.specs.declared.requests.Reply.TheVariants.{Numbered}
use Rattle.bk_base.specs.declared.requests.Request.{Request}
use Rattle.bk_base.specs.declared.requests.Request.TheVariants.{Put, Delete}
use Rattle.bk_base.specs.declared.writes.Body.{Body}
use Rattle.bk_base.specs.declared.writes.Body.TheVariants.{Put as put_body, Gone}
use Rattle.bk_base.specs.declared.writes.Write.{Write}
use Rattle.bk_laws.specs.Log.{next_seq}
use Rattle.bk_exchange.specs.Points.{AtOne, Said}
use Rattle.bk_exchange.specs.Exchanges.{Exchange, moment_of}

abbrev pub put_of : Seq → Moment → List ℕ → Body → Write
put_of n now key body = record { seq = n; moment = now; key = key; body = body }

-- the write of a call that was answered by a number
abbrev pub written : Call → Answer → List Write
written (put_call key value now) (numbered_answer n) = put_of n now key (put_body value) ∷ []
written (delete_call key now) (numbered_answer n) = put_of n now key Gone ∷ []
written (reap_call key now) (numbered_answer n) = put_of n now key Gone ∷ []
written call answer = []

abbrev pub writes_in : List Said → List Write
writes_in = flat_map (λ (s : Said). written s.call s.answer)

-- the write that an exchange tells by an OK line
abbrev pub told_by : Request → Moment → List Reply → List Write
told_by (Put key value) now (Numbered n ∷ []) = put_of n now key (put_body value) ∷ []
told_by (Delete key) now (Numbered n ∷ []) = put_of n now key Gone ∷ []
told_by request now replies = []

abbrev pub told_writes : List Exchange → List Write
told_writes = flat_map (λ (x : Exchange). told_by x.request (moment_of x.now) x.replies)

-- the write that a request asks for, behind a log
abbrev pub write_asked : Request → Moment → List Write → List Write
write_asked (Put key value) now log = put_of (record { 0 = next_seq log }) now key (put_body value) ∷ []
write_asked (Delete key) now log = put_of (record { 0 = next_seq log }) now key Gone ∷ []
write_asked request now log = []

-- ---- who asked for a write

abbrev pub IsAskedBy : Request → Write → Type 0
IsAskedBy (Put key value) w = (w.key ≡ key) × (w.body ≡ put_body value)
IsAskedBy (Delete key) w = (w.key ≡ key) × (w.body ≡ Gone)
IsAskedBy request w = ⊥

-- the exchange's request asked for the write, and its OK line tells the seq
pub record Tells (w : Write) (x : Exchange) : Type 0 where
  pub asked : IsAskedBy x.request w
  pub moment : w.moment ≡ moment_of x.now
  pub line : x.replies ≡ Numbered w.seq ∷ []

-- the write is one of these
abbrev pub IsOneOf : List Write → Write → Type 0
IsOneOf ws w = AtOne (λ (v : Write). v ≡ w) ws
