-- The error that another error becomes.
use Rattle.bk_disk.specs.declared.errors.DiskError.{DiskError}
use Rattle.bk_disk.specs.declared.errors.DiskError.TheVariants.{Failed as failed, Memory as no_memory}
use Rattle.bk_files.specs.declared.errors.RollError.{RollError}
use Rattle.bk_files.specs.declared.errors.RollError.TheVariants.{FullFiles as no_file, Disk as disk_failed, Memory as roll_memory}
use Rattle.bk_store.specs.declared.errors.FoldError.{FoldError}
use Rattle.bk_store.specs.declared.errors.FoldError.TheVariants.{Disk as fold_disk, Memory as fold_memory}
use Rattle.bk_store.specs.declared.errors.LocateError.{LocateError}
use Rattle.bk_store.specs.declared.errors.LocateError.TheVariants.{Disk as locate_disk, Memory as locate_memory}
use Rattle.bk_store.specs.declared.errors.PutError.{PutError}
use Rattle.bk_store.specs.declared.errors.PutError.TheVariants.{Disk, FullFiles, Memory}

abbrev pub put_error_of : RollError → PutError
put_error_of no_file = FullFiles
put_error_of disk_failed = Disk
put_error_of roll_memory = Memory

abbrev pub locate_error_of : DiskError → LocateError
locate_error_of failed = locate_disk
locate_error_of no_memory = locate_memory

abbrev pub fold_error_of : LocateError → FoldError
fold_error_of locate_disk = fold_disk
fold_error_of locate_memory = fold_memory
