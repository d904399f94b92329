use Rattle.bk_memdisk.proofs.Listings
use Rattle.bk_memdisk.proofs.directory.Directory.list.Goals as goal

pub returns : goal.returns
returns c =
    rw (← c.self.view_is)
    (Listings.listed_all c.self.inside.files.items c.list_of.result
    (rw c.deref.ensures.value at c.list_of.ensures))
