-- What contracts see of a disk in memory.
use Rattle.std.specs.Prelude.{◌≡◌, ◌≢◌, ℕ, Result, Ok, Err}
use Rattle.std.specs.declared.option.Option.{Option}
use Rattle.std.specs.declared.option.Option.TheVariants.{None, Some}
use Rattle.bk_disk.specs.declared.errors.Failed.{Failed as Fault}
use Rattle.bk_disk.specs.declared.errors.DiskError.{DiskError}
use Rattle.bk_disk.specs.declared.errors.DiskError.TheVariants.{Failed as failed, Memory as memory}
use Rattle.bk_disk.specs.Told.{Told}
use Rattle.bk_memdisk.specs.Plans.{Planned}
use Rattle.bk_memdisk.specs.declared.disks.MemDisk.{MemDisk}

abbrev pub told_by : MemDisk → Told
told_by d = d.directory.told

-- which calls fail, and which views are fallible
abbrev pub calls_of : MemDisk → Planned
calls_of d = d.calls

abbrev pub views_of : MemDisk → Planned
views_of d = d.views

abbrev pub faults_of : MemDisk → ℕ
faults_of d = d.faults

abbrev pub fallible_views_of : MemDisk → ℕ
fallible_views_of d = d.fallible_views

abbrev pub SamePlans : MemDisk → MemDisk → Type 0
SamePlans old new = (calls_of new ≡ calls_of old) × (views_of new ≡ views_of old)

abbrev pub SameCounts : MemDisk → MemDisk → Type 0
SameCounts old new = (faults_of new ≡ faults_of old) × (fallible_views_of new ≡ fallible_views_of old)

-- A call fails exactly where it was chosen, and is then done where its effect isn't 0. Out of
-- memory leaves all as it was.
abbrev pub Answers : {T : Type 0} → Option ℕ → Result T DiskError → Type 0 → Type 0 → Type 0
Answers None (Ok v) done same = done
Answers None (Err failed) done same = ⊥
Answers None (Err memory) done same = same
Answers (Some effect) (Ok v) done same = ⊥
Answers (Some effect) (Err failed) done same = (effect ≡ 0 → same) × (effect ≢ 0 → done)
Answers (Some effect) (Err memory) done same = same

-- the same of a call that takes no memory
abbrev pub Fails : {T : Type 0} → Option ℕ → Result T Fault → Type 0 → Type 0 → Type 0
Fails None (Ok v) done same = done
Fails None (Err e) done same = ⊥
Fails (Some effect) (Ok v) done same = ⊥
Fails (Some effect) (Err e) done same = (effect ≡ 0 → same) × (effect ≢ 0 → done)
