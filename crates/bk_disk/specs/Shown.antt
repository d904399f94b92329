-- What a disk shows: what it tells, and its counts.
use Rattle.std.specs.Prelude.{ℕ}
use Rattle.bk_disk.specs.Told.{Told}

-- Where the content isn't told, `told` says nothing; the counts are shown always.
pub record DiskShown : Type 0 where
  pub told : Told
  -- how often a call has failed
  pub faults : ℕ
  -- how many fallible views were made
  pub views : ℕ
  -- how many fallible files were lent
  pub outs : ℕ
