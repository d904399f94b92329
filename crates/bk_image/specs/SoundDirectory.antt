-- A directory from which a store can be recovered in full.
use Rattle.std.specs.Prelude.{List}
use Rattle.bk_base.specs.declared.writes.Write.{Write}
use Rattle.bk_disk.specs.Told.{Image, Told, IsWell, at}
use Rattle.bk_disk.specs.Crashes.{IsSynced}
use Rattle.bk_image.specs.Readings.{Books}
use Rattle.bk_image.specs.RecoveredLog.{HintsTrue, Recovers}

-- The counted files hold this log, each seq once, and the hints tell the truth of them.
pub record IsSound (image : Image) (log : List Write) : Type 0 where
  pub books : Books
  pub recovers : Recovers (at image) books log
  pub hints : HintsTrue (at image) books

-- A crash would take nothing of it, either.
pub record IsSoundDisk (t : Told) (log : List Write) : Type 0 where
  pub well : IsWell t
  pub sound : IsSound t.image log
  pub synced : IsSynced t
