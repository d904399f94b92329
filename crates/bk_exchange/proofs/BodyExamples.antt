-- How the code of a session on one thread shows its exchanges, from the equation that each call
-- gives of its step: a get that found a value, a put that the disk refused, and STAT.
use Rattle.std.proofs.Common.{◌≡◌, ℕ, ◌≤◌, List, [], ◌∷◌, Some, None, length, refl}
use Rattle.std.proofs.Common.{ap}
use Rattle.std.proofs.Common.{true, inl, inr, arith}
use Rattle.std.specs.Prelude.{sum_by}
use Rattle.bk_base.specs.declared.calls.Answer.TheVariants.{Done, Found}
use Rattle.bk_base.specs.declared.calls.Call.TheVariants.{Get as get_call, Quiet}
use Rattle.bk_base.specs.declared.calls.Entry.{Entry}
use Rattle.bk_base.specs.declared.histories.Step.{Step}
use Rattle.bk_base.specs.declared.numbers.Moment.{Moment}
use Rattle.bk_base.specs.declared.requests.Reply.TheVariants.{Disk, Stat as stat_line, Value}
use Rattle.bk_base.specs.declared.requests.Request.TheVariants.{Get, Put, Stat}
use Rattle.bk_base.specs.declared.rows.Row.{Row}
use Rattle.bk_laws.specs.Wire.{FitsKey, FitsValue}
use Rattle.bk_exchange.specs.Points.{Event, Point}
use Rattle.bk_exchange.specs.Answers.{Context, IsCount, ShowsGet, map_size}
use Rattle.bk_exchange.specs.Exchanges.{Exchange, IsExchange}
use Rattle.bk_exchange.specs.OneThread.{IsOwn}
use Rattle.bk_exchange.proofs.Bodies.{at_own, calls_behind, entry_of, one_answer, one_refusal}
use Rattle.bk_exchange.proofs.OneCaller.{alone_on, quiet_on}

-- ---- a get that found a value

abbrev got : List ℕ → List ℕ → Moment → Step → Exchange
got key value now step =
    record { request = Get key; now = Some now; steps = step ∷ []; replies = Value value ∷ [] }

get_shown : (c : Context) (p : Point) (key value : List ℕ) (now : Moment) (step : Step)
    → FitsKey key
    → step.entry ≡ entry_of c (get_call key now) (Found value)
    → IsExchange c p (got key value now step) × IsOwn c (got key value now step)
get_shown c p key value now step fits is = (
  record {
    fits = fits;
    clock = refl;
    replied = inl (one_answer c p [] step (get_call key now) (Found value) ShowsGet
        (Value value) tt is refl refl);
  },
  record {
    alone = alone_on c [] step (get_call key now) (Found value) tt is;
    few = λ other. omega arith;
    quiet = quiet_on c [] step (get_call key now) (Found value) is;
  },
)

-- ---- a put that the disk refused

abbrev refused : List ℕ → List ℕ → Moment → Step → Exchange
refused key value now step =
    record { request = Put key value; now = Some now; steps = step ∷ []; replies = Disk ∷ [] }

refusal_shown : (c : Context) (p : Point) (key value : List ℕ) (now : Moment) (step : Step)
    → FitsKey key
    → FitsValue value → step.entry ≡ entry_of c Quiet Done → 1 ≤ step.faults
    → IsExchange c p (refused key value now step) × IsOwn c (refused key value now step)
refusal_shown c p key value now step fits fits_value is fault = (
  record {
    fits = (fits, fits_value);
    clock = refl;
    replied = inr (inl (one_refusal c p [] step (Put key value) Disk tt is refl
        (at_own c p [] step (λ (e : Event). 1 ≤ e.step.faults) tt (ap (λ
        (e : Entry). e.caller) is) fault)));
  },
  record { alone = alone_on c [] step Quiet Done tt is; few = λ other. omega arith; quiet = quiet_on c [] step Quiet Done is },
)

-- ---- STAT

abbrev counted : ℕ → Point → Step → Exchange
counted keys p step = record {
  request = Stat;
  now = None;
  steps = step ∷ [];
  replies = stat_line keys (length p.snapshot.rows) (sum_by (λ (r : Row). r.total) p.snapshot.rows)
      (sum_by (λ (r : Row). r.live) p.snapshot.rows) ∷ [];
}

stat_shown : (c : Context) (p : Point) (keys : ℕ) (step : Step) → step.entry ≡ entry_of c Quiet Done
    → step.snapshot ≡ p.snapshot → (c.opening.whole ≡ true → keys ≡ map_size p.state.log)
    → IsExchange c p (counted keys p step) × IsOwn c (counted keys p step)
stat_shown c p keys step is still size = (
  record {
    fits = tt;
    clock = refl;
    replied = inl (record {
      keys = keys;
      files = _;
      total = _;
      live = _;
      called = calls_behind c p [] step Quiet Done tt is;
      lines = refl;
      counted = at_own c p [] step (IsCount c keys _ _ _) tt (ap (λ (e : Entry). e.caller) is)
          (record {
            quiet = ap (λ (e : Entry). e.call) is;
            still = still;
            shows_keys = size;
            shows_files = refl;
            shows_total = refl;
            shows_live = refl;
          });
    });
  },
  record { alone = alone_on c [] step Quiet Done tt is; few = λ other. omega arith; quiet = quiet_on c [] step Quiet Done is },
)
