-- The puts of a fill, one after the other.
use Rattle.std.specs.Prelude.{◌≡◌, ◌⊎◌, ℕ, ◌+◌, ◌<◌, List, [], ◌∷◌, ◌++◌, length, Bool, IsTrue, Option, Some, Result, Ok, Err}
use Rattle.bk_base.specs.declared.calls.Answer.{Answer}
use Rattle.bk_base.specs.declared.calls.Answer.TheVariants.{Numbered as numbered_answer}
use Rattle.bk_base.specs.declared.calls.Call.{Call}
use Rattle.bk_base.specs.declared.calls.Call.TheVariants.{Put as put_call}
use Rattle.bk_base.specs.declared.histories.Opening.{Opening}
use Rattle.bk_base.specs.declared.histories.Step.{Step}
use Rattle.bk_base.specs.declared.numbers.Moment.{Moment}
use Rattle.bk_base.specs.declared.numbers.Seq.{Seq}
use Rattle.bk_base.specs.declared.requests.Reply.{Reply}
use Rattle.bk_base.specs.declared.requests.Reply.TheVariants.{Numbered}
use Rattle.bk_base.specs.declared.requests.Request.{Request}
use Rattle.bk_base.specs.declared.writes.Write.{Write}
use Rattle.bk_exchange.specs.Exchanges.{Exchange}
use Rattle.bk_exchange.specs.Writes.{told_writes}
use Rattle.bk_fill.specs.Making.{AreMade}
use Rattle.bk_fill.specs.Pairs.{key_at, put_at, value_at}
use Rattle.bk_laws.specs.Record.{records_of}
use Rattle.bk_session.specs.Following.{Follows}
use Rattle.bk_session.specs.Refusing.{line_of_put}
use Rattle.bk_session.specs.Replying.{RepliesOnce, exchange_of}
use Rattle.bk_store.specs.declared.errors.PutError.{PutError}
use Rattle.bk_store.specs.declared.errors.PutError.TheVariants.{Memory}
use Rattle.bk_store.specs.Events.{entry_by}
use Rattle.bk_store.specs.Shown.{Shown}

-- ---- one exchange

-- The request was answered with this line: by one step, which is this call with this answer.
pub record IsAnswered (request : Request) (now : Option Moment) (call : Call) (answer : Answer) (line : Reply)
    (x : Exchange) : Type 0 where
  pub step : Step
  pub entry : step.entry ≡ entry_by 0 call answer
  pub is : x ≡ exchange_of request now (step ∷ []) (line ∷ [])

-- It was refused with this line. Where memory was refused before the store was asked it took no step.
abbrev pub IsRefused : Request → Option Moment → Reply → Exchange → Type 0
IsRefused request now line x = (steps : List Step) × (x ≡ exchange_of request now steps (line ∷ []))

-- the pair with this number was put
abbrev pub IsPut : Moment → ℕ → Exchange → Type 0
IsPut now n x = (seq : Seq) × IsAnswered (put_at n) (Some now) (put_call (key_at n) (value_at n) now)
    (numbered_answer seq) (Numbered seq) x

-- ---- all of them

-- the pairs from this number on were put, in their order
abbrev pub ArePuts : Moment → ℕ → List Exchange → Type 0
ArePuts now n [] = Unit {0}
ArePuts now n (x ∷ xs) = IsPut now n x × ArePuts now (n + 1) xs

-- How the puts ended: so many were answered, whose records have so many bytes; or the next one was refused.
abbrev pub EndsPuts : Result ℕ PutError → Moment → ℕ → List Exchange → List Exchange → Type 0
EndsPuts (Ok bytes) now count puts rest =
    (length puts ≡ count) × (rest ≡ []) × (bytes ≡ length (records_of (told_writes puts)))
EndsPuts (Err e) now count puts rest =
    (length puts < count) × (x : Exchange) × (rest ≡ x ∷ []) × IsRefused (put_at (length puts)) (Some now) (line_of_put e) x

-- The puts of the first so many pairs, at one moment, as far as they came.
pub record HasPut (known : Bool) (now : Moment) (count : ℕ) (ended : Result ℕ PutError) (old new : Shown)
    (o : Opening) (h : List Step) (first : List Write) : Type 0 where
  pub puts : List Exchange
  pub rest : List Exchange
  pub are : ArePuts now 0 puts
  pub ends : EndsPuts ended now count puts rest
  pub made : AreMade known old new o h first (puts ++ rest)

-- of each history that the store followed
abbrev pub HasPutFor : Bool → Moment → ℕ → Result ℕ PutError → Shown → Shown → Type 0
HasPutFor known now count ended old new = (o : Opening) (h : List Step) (first : List Write) → Follows known old o h first
    → HasPut known now count ended old new o h first

-- ---- one put of the store

-- the store answered the put
abbrev pub AnswersPut : Bool → Moment → ℕ → Shown → Shown → Type 0
AnswersPut tells now n old new = (seq : Seq) × ((known : Bool) → (IsTrue known → IsTrue tells)
    → RepliesOnce known (put_at n) (Some now) (Numbered seq) old new)

-- it refused the put, or memory was refused before it was asked
abbrev pub RefusesPut : Bool → Moment → ℕ → PutError → Shown → Shown → Type 0
RefusesPut tells now n e old new =
    ((known : Bool) → (IsTrue known → IsTrue tells) → RepliesOnce known (put_at n) (Some now) (line_of_put e) old new)
    ⊎ ((e ≡ Memory) × (new ≡ old))
