-- What a run of `list` does.
use Rattle.std.specs.Prelude.{◌≡◌, List, [], Bool, IsTrue}
use Rattle.bk_base.specs.declared.histories.Opening.{Opening}
use Rattle.bk_base.specs.declared.statuses.Status.{Status}
use Rattle.bk_base.specs.declared.statuses.Status.TheVariants.{Done, Memory, Disk, Sink, Damaged}
use Rattle.bk_base.specs.declared.writes.Write.{Write}
use Rattle.bk_image.specs.SoundDirectory.{IsSoundDisk}
use Rattle.bk_list.specs.Lists.{sides_of}
use Rattle.bk_list.specs.Lists.{Lists as ListsStore}
use Rattle.bk_list.specs.declared.lists.ListEnd.{ListEnd}
use Rattle.bk_list.specs.declared.lists.ListEnd.TheVariants.{Done as list_done, Memory as list_memory, Disk as list_disk, Sink as list_sink, Damaged as list_damaged}
use Rattle.bk_session.specs.Serving.{tells_of}
use Rattle.bk_store.specs.Shown.{Shown}
use Rattle.bitcaskd.specs.Run.{IsLeftWith, Outside, Telling}
use Rattle.bitcaskd.specs.Stores.{WorksOn}

-- the status of a run whose listing ended so
abbrev pub of_list : ListEnd → Status
of_list list_done = Done
of_list list_memory = Memory
of_list list_disk = Disk
of_list list_sink = Sink
of_list list_damaged = Damaged

-- The run is one history: a fold, and a get of each key in their order. The log stays as it was.
pub record IsListRun (tells : Telling) (old new : Outside) (status : Status) (log : List Write) (whole : Bool)
    : Type 0 where
  pub opening : Opening
  pub opened : Shown
  pub left : Shown
  pub works : WorksOn tells old new log whole opening opened left
  pub end : ListEnd
  pub is_status : status ≡ of_list end
  pub lists : ListsStore (tells_of whole tells.sink tells.clock) (sides_of opened old.written old.moments)
      (sides_of left new.written new.moments) end opening [] []
  pub leaves : IsTrue whole → IsLeftWith new.disk.told opening lists.steps []

-- of each log that the directory holds, as of a session
abbrev pub Lists : Telling → Outside → Outside → Status → Type 0
Lists tells old new status = (log : List Write) (whole : Bool)
    → (IsTrue whole → IsTrue tells.disk × IsSoundDisk old.disk.told log) → IsListRun tells old new status log whole
