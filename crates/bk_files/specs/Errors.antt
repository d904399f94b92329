-- What a disk's refusal is to a roll.
use Rattle.bk_disk.specs.declared.errors.DiskError.{DiskError}
use Rattle.bk_disk.specs.declared.errors.DiskError.TheVariants.{Failed as failed, Memory as no_memory}
use Rattle.bk_files.specs.declared.errors.RollError.{RollError}
use Rattle.bk_files.specs.declared.errors.RollError.TheVariants.{Disk, Memory}

abbrev pub roll_error_of : DiskError → RollError
roll_error_of failed = Disk
roll_error_of no_memory = Memory
