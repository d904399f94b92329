-- The cause of a call below, as a load's own.
use Rattle.std.specs.Prelude.{Result, Ok, Err}
use Rattle.bk_disk.specs.declared.errors.DiskError.{DiskError}
use Rattle.bk_disk.specs.declared.errors.DiskError.TheVariants.{Failed, Memory}
use Rattle.bk_files.specs.declared.scan.ScanError.{ScanError}
use Rattle.bk_files.specs.declared.scan.ScanError.TheVariants.{Read as scan_read, Memory as scan_memory}
use Rattle.bk_load.specs.declared.errors.OpenError.{OpenError}
use Rattle.bk_load.specs.declared.errors.OpenError.TheVariants.{Disk as open_disk, Read as open_read, Memory as open_memory}
use Rattle.bk_load.specs.declared.errors.LoadSettings.{LoadSettings}
use Rattle.bk_load.specs.declared.errors.LoadSettings.TheVariants.{Disk, Read, Memory as settings_memory}

abbrev pub open_error_of : DiskError → OpenError
open_error_of Failed = open_disk
open_error_of Memory = open_memory

abbrev pub scan_error_of : ScanError → OpenError
scan_error_of scan_read = open_read
scan_error_of scan_memory = open_memory

abbrev pub settings_error_of : OpenError → LoadSettings
settings_error_of open_disk = Disk
settings_error_of open_read = Read
settings_error_of open_memory = settings_memory

-- the same answer, with the load's own cause
abbrev pub opened : {T : Type 0} → Result T DiskError → Result T OpenError
opened (Ok x) = Ok x
opened (Err e) = Err (open_error_of e)
