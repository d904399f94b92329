-- How a disk went on over the calls of a load, and the causes of a refusal.
use Rattle.std.specs.Prelude.{◌≡◌, ℕ, ◌≤◌, Bool, Result, IsTrue, IsErrOf}
use Rattle.bk_disk.specs.Causes.{Rose}
use Rattle.bk_disk.specs.Shown.{DiskShown}
use Rattle.bk_load.specs.declared.errors.OpenError.{OpenError}
use Rattle.bk_load.specs.declared.errors.OpenError.TheVariants.{Disk, Read}
use Rattle.bk_load.specs.Tidying.{Goes}

-- a disk went on from one to the other
pub record Came (tells : Bool) (was now : DiskShown) : Type 0 where
  pub faults : was.faults ≤ now.faults
  pub views : was.views ≤ now.views
  pub outs : now.outs ≡ was.outs
  pub goes : IsTrue tells → Goes was.told now.told

-- so it did with this result: `Disk` comes only where the count of faults rose, `Read` only where
-- that of the fallible views did
pub record Course {T : Type 0} (tells : Bool) (was now : DiskShown) (result : Result T OpenError) : Type 0 where
  pub came : Came tells was now
  pub disk : IsErrOf result Disk → Rose was.faults now.faults
  pub read : IsErrOf result Read → Rose was.views now.views
