-- A directory that was opened as a store, which a command worked on.
use Rattle.std.specs.Prelude.{◌≡◌, List, Bool, IsTrue}
use Rattle.bk_base.specs.declared.histories.Opening.{Opening}
use Rattle.bk_base.specs.declared.writes.Write.{Write}
use Rattle.bk_disk.specs.Told.{clock}
use Rattle.bk_store.specs.Shown.{Shown}
use Rattle.bk_files.specs.Files.{disk_shown}
use Rattle.bitcaskd.specs.Run.{IsOpenedBy, OpensAt, Outside, Telling}

-- The store as it was opened, with the history that begins there, and as it was left. A crash up to then leaves the log
-- that the directory held. Nothing was read of the source.
pub record WorksOn (tells : Telling) (old new : Outside) (log : List Write) (whole : Bool) (o : Opening)
    (opened left : Shown) : Type 0 where
  pub is_opened : IsOpenedBy tells old log whole o
  pub opens : IsTrue whole → OpensAt (clock opened.files.told) old.disk.told new.disk.told o.log
  pub is_left : disk_shown left.files ≡ new.disk
  pub source : new.whole ≡ old.whole
  pub taken : new.taken ≡ old.taken
