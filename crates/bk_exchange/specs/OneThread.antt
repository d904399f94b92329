-- What holds besides where a store has one thread: no other caller's step stands between those of the
-- session, each event is counted once, and of what was tried at most one write is left.
use Rattle.std.specs.Prelude.{◌≡◌, ◌⊎◌, ℕ, ◌+◌, ◌≤◌, false, List, [], ◌∷◌, ◌++◌, length, Option, Some}
use Rattle.std.specs.List.{AllByRecursion}
use Rattle.bk_base.specs.declared.calls.Call.{Call}
use Rattle.bk_base.specs.declared.calls.Call.TheVariants.{Quiet}
use Rattle.bk_base.specs.declared.histories.Step.{Step}
use Rattle.bk_base.specs.declared.requests.Full.TheVariants.{Turns}
use Rattle.bk_base.specs.declared.requests.Reply.{Reply}
use Rattle.bk_base.specs.declared.requests.Reply.TheVariants.{Stat, Memory, Disk, Full}
use Rattle.bk_base.specs.declared.writes.Write.{Write}
use Rattle.bk_laws.specs.History.{log_of}
use Rattle.bk_exchange.specs.Answers.{Context}
use Rattle.bk_exchange.specs.Exchanges.{Exchange, last_of, moment_of}
use Rattle.bk_exchange.specs.Refusals.{is_listing}
use Rattle.bk_exchange.specs.Sessions.{Transcript, exchanges}
use Rattle.bk_exchange.specs.Writes.{told_writes, write_asked}

-- ---- the events

abbrev pub IsAlone : ℕ → List Step → Type 0
IsAlone who [] = Unit {0}
IsAlone who (step ∷ steps) = (step.entry.caller ≡ who) × IsAlone who steps

abbrev pub one_if_quiet : Call → ℕ
one_if_quiet Quiet = 1
one_if_quiet call = 0

abbrev pub quiet_in : List Step → ℕ
quiet_in [] = 0
quiet_in (step ∷ steps) = one_if_quiet step.entry.call + quiet_in steps

-- How many quiet calls an exchange has, by its last line: one that was refused, or the one that STAT makes.
-- Out of memory may come before a call is made.
abbrev pub QuietCalls : Option Reply → ℕ → Type 0
QuietCalls (Some (Stat keys files total live)) n = n ≡ 1
QuietCalls (Some Disk) n = n ≡ 1
QuietCalls (Some Memory) n = n ≤ 1
QuietCalls (Some (Full Turns)) n = n ≡ 0
QuietCalls (Some (Full full)) n = n ≡ 1
QuietCalls line n = n ≡ 0

-- All steps of the exchange are its own caller's. There is at most one where the request asks for no listing,
-- and just so many quiet ones as its last line shows.
pub record IsOwn (c : Context) (x : Exchange) : Type 0 where
  pub alone : IsAlone c.who x.steps
  pub few : is_listing x.request ≡ false → length x.steps ≤ 1
  pub quiet : QuietCalls (last_of x.replies) (quiet_in x.steps)

-- ---- what was tried

-- The write of an exchange that was answered DISK, since which no write was told. The log is the one
-- behind all of them, which is the one before it.
pub record WasTried (log : List Write) (xs : List Exchange) (tried : List Write) : Type 0 where
  pub before : List Exchange
  pub refused : Exchange
  pub since : List Exchange
  pub whole : xs ≡ before ++ refused ∷ since
  pub disk : refused.replies ≡ Disk ∷ []
  pub write : tried ≡ write_asked refused.request (moment_of refused.now) log
  pub nothing : told_writes since ≡ []

-- What was tried and may stand behind the log in the files: nothing; or what was there before the first
-- exchange, where none told a write; or the write of one that was refused.
abbrev pub MayBeTried : List Write → List Write → List Exchange → List Write → Type 0
MayBeTried log first xs tried =
    (tried ≡ []) ⊎ (((tried ≡ first) × (told_writes xs ≡ [])) ⊎ WasTried log xs tried)

-- ---- the whole, beside a session

pub record OneThread (c : Context) (h2 : List Step) (first tried : List Write) (t : Transcript) : Type 0 where
  pub unspent : c.spent ≡ false
  pub own : AllByRecursion (IsOwn c) (exchanges t)
  pub tries : MayBeTried (log_of c.opening h2) first (exchanges t) tried

-- the exchange has one step, of which this holds
pub record HasOneStep (P : Step → Type 0) (steps : List Step) : Type 0 where
  pub step : Step
  pub all : steps ≡ step ∷ []
  pub fact : P step
