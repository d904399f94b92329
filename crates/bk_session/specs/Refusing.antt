-- The line of each error of the store.
use Rattle.bk_base.specs.declared.requests.Full.TheVariants.{Seq, Files}
use Rattle.bk_base.specs.declared.requests.Reply.{Reply}
use Rattle.bk_base.specs.declared.requests.Reply.TheVariants.{Disk, Full, Memory}
use Rattle.bk_store.specs.declared.errors.FoldError.{FoldError}
use Rattle.bk_store.specs.declared.errors.FoldError.TheVariants.{Disk as fold_disk}
use Rattle.bk_store.specs.declared.errors.LocateError.{LocateError}
use Rattle.bk_store.specs.declared.errors.LocateError.TheVariants.{Disk as locate_disk, Memory as locate_memory}
use Rattle.bk_store.specs.declared.errors.PutError.{PutError}
use Rattle.bk_store.specs.declared.errors.PutError.TheVariants.{FullSeq, FullFiles, Disk as put_disk}
use Rattle.bk_store.specs.declared.errors.PutError.TheVariants.{Memory as put_memory}

abbrev pub line_of_put : PutError → Reply
line_of_put FullSeq = Full Seq
line_of_put FullFiles = Full Files
line_of_put put_disk = Disk
line_of_put put_memory = Memory

abbrev pub line_of_locate : LocateError → Reply
line_of_locate locate_disk = Disk
line_of_locate locate_memory = Memory

abbrev pub line_of_fold : FoldError → Reply
line_of_fold fold_disk = Disk
line_of_fold e = Memory
