-- What a run of `fill` does, from its number of pairs to the line that it writes.
use Rattle.std.specs.Prelude.{◌≡◌, ℕ, List, [], ◌∷◌, ◌++◌, Bool, IsTrue}
use Rattle.bk_base.specs.declared.histories.Opening.{Opening}
use Rattle.bk_base.specs.declared.statuses.Status.{Status}
use Rattle.bk_base.specs.declared.statuses.Status.TheVariants.{Done, Memory, Disk, Sink, Full}
use Rattle.bk_base.specs.declared.writes.Write.{Write}
use Rattle.bk_exchange.specs.Exchanges.{steps_of}
use Rattle.bk_fill.specs.Filling.{IsFilled, sides_of, telling}
use Rattle.bk_fill.specs.declared.ends.FillEnd.{FillEnd}
use Rattle.bk_fill.specs.declared.ends.FillEnd.TheVariants.{Done as fill_done, Full as fill_full, Disk as fill_disk, Sink as fill_sink, Memory as fill_memory}
use Rattle.bk_image.specs.SoundDirectory.{IsSoundDisk}
use Rattle.bk_store.specs.Shown.{Shown}
use Rattle.bitcaskd.specs.Run.{IsLeftWith, Outside, Telling}
use Rattle.bitcaskd.specs.Stores.{WorksOn}

-- the status of a run whose fill ended so
abbrev pub of_fill : FillEnd → Status
of_fill fill_done = Done
of_fill fill_full = Full
of_fill fill_disk = Disk
of_fill fill_sink = Sink
of_fill fill_memory = Memory

-- The run is one history: the puts and the sync behind them, by themselves. What is said of the store is said where
-- the opening is `whole`; the rest holds over every disk.
pub record IsFillRun (tells : Telling) (count : ℕ) (old new : Outside) (status : Status) (log : List Write) (whole : Bool)
    : Type 0 where
  pub opening : Opening
  pub opened : Shown
  pub left : Shown
  pub works : WorksOn tells old new log whole opening opened left
  pub end : FillEnd
  pub is_status : status ≡ of_fill end
  pub filled : IsFilled whole (telling tells.sink tells.clock) count (sides_of opened old.written old.moments)
      (sides_of left new.written new.moments) end opening [] []
  pub leaves : IsTrue whole → IsLeftWith new.disk.told opening
      (steps_of ((filled.worked.puts ++ filled.worked.rest) ++ filled.worked.sync ∷ [])) filled.worked.made.tried

-- of each log that the directory holds, as of a session
abbrev pub Fills : ℕ → Telling → Outside → Outside → Status → Type 0
Fills count tells old new status = (log : List Write) (whole : Bool)
    → (IsTrue whole → IsTrue tells.disk × IsSoundDisk old.disk.told log) → IsFillRun tells count old new status log whole
