-- The cause of a recovery that was refused, as the report's own.
use Rattle.bk_load.specs.declared.errors.OpenError.{OpenError}
use Rattle.bk_load.specs.declared.errors.OpenError.TheVariants.{Disk as open_disk, Read as open_read, Memory as open_memory}
use Rattle.bk_report.specs.declared.errors.ReportError.{ReportError}
use Rattle.bk_report.specs.declared.errors.ReportError.TheVariants.{Disk, Read, Memory}

abbrev pub report_error_of : OpenError → ReportError
report_error_of open_disk = Disk
report_error_of open_read = Read
report_error_of open_memory = Memory
