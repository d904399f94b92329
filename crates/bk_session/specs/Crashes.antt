-- What a crash leaves of a session.
use Rattle.std.specs.Prelude.{◌≡◌, ℕ, ◌<◌, ◌≤◌, List, [], ◌∷◌, ◌++◌}
use Rattle.std.specs.List.{AllByRecursion}
use Rattle.bk_base.specs.declared.histories.Opening.{Opening}
use Rattle.bk_base.specs.declared.histories.Step.{Step}
use Rattle.bk_base.specs.declared.writes.Write.{Write}
use Rattle.bk_disk.specs.Crashes.{fronts_at}
use Rattle.bk_disk.specs.Told.{Front, Table, Told, clock}
use Rattle.bk_exchange.specs.Exchanges.{Exchange, moment_of, steps_of}
use Rattle.bk_exchange.specs.OneThread.{MayBeTried}
use Rattle.bk_exchange.specs.Writes.{write_asked}
use Rattle.bk_image.specs.Prefix.{MeetsEither}
use Rattle.bk_laws.specs.History.{log_of}
use Rattle.bk_session.specs.Serving.{IsLater}
use Rattle.bk_store.specs.History.{kept_of}

-- the write that the first of these exchanges asks for, behind a log
abbrev pub asked_first : List Exchange → List Write → List Write
asked_first [] log = []
asked_first (x ∷ xs) log = write_asked x.request (moment_of x.now) log

-- A crash at a moment of the disk's clock: `done` are exchanges among which each is whose steps had ended by
-- then. A crash leaves the map of a prefix of the log behind them, with each write that was synced by then,
-- and with what may have been tried, or with what the next exchange asks to write.
pub record CrashesAt (o : Opening) (h : List Step) (first : List Write) (xs : List Exchange) (k : ℕ)
    (fronts : Table Front) : Type 0 where
  pub done : List Exchange
  pub rest : List Exchange
  pub tried : List Write
  pub are : done ++ rest ≡ xs
  pub later : AllByRecursion (IsLater k) (steps_of rest)
  pub tries : MayBeTried (log_of o (h ++ steps_of done)) first done tried
  pub meets : MeetsEither (log_of o (h ++ steps_of done)) (kept_of o (h ++ steps_of done)) tried
      (asked_first rest (log_of o (h ++ steps_of done))) fronts

-- at each moment from one to the other
abbrev pub CrashesBetween : Told → Told → Opening → List Step → List Write → List Exchange → Type 0
CrashesBetween old new o h first xs =
    (k : ℕ) → clock old ≤ k → k < clock new → CrashesAt o h first xs k (fronts_at new k)
