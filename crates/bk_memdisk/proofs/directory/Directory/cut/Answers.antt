use Rattle.std.proofs.Common.{[], sym, ap, subst, arith}
use Rattle.bk_disk.specs.Told.{CutsWithin}
use Rattle.bk_memdisk.specs.Contents.{Contents}
use Rattle.bk_memdisk.specs.Journal.{after_all}
use Rattle.bk_memdisk.proofs.Edits
use Rattle.bk_memdisk.proofs.directory.Directory.cut.Goals as goal

pub cut-requires : goal.cut-requires
cut-requires c =
    let first = rw c.deref.ensures.value at c.place_of-index.ensures.first in
    let within =
    subst (CutsWithin c.args.name c.args.len) (sym (ap (λ (v : Contents). v.told) c.self.view_is))
    c.requires.within in
    Edits.safe_is c.args.name c.self.inside.files.items (after_all [] c.self.inside.journal.items)
    c.place_of-index.result c.index_mut-file.result.now c.self.invariant.tied first
    c.index_mut-file.ensures.value c.args.len within.keeps

pub invariant_of-self : goal.invariant_of-self
invariant_of-self c =
    let below = rw c.deref.ensures.value at c.place_of-index.ensures.below in
    record {
      tied = Edits.set_tied c.self.inside.files.items c.place_of-index.result c.index_mut-file.result.now below
          c.index_mut-file.ensures.value c.cut.new.self (after_all [] c.self.inside.journal.items)
          c.self.invariant.tied c.cut.ensures.name c.cut.ensures.fits;
      reserved = Edits.same_owed c.self.inside.files.items c.place_of-index.result c.index_mut-file.result.now
          below c.index_mut-file.ensures.value c.cut.new.self c.self.inside.reserved c.cut.ensures.owed
          c.self.invariant.reserved;
      room = c.self.invariant.room;
    }

pub returns-clause-told : goal.returns-clause-told
returns-clause-told c =
    let first = rw c.deref.ensures.value at c.place_of-index.ensures.first in
    rw (← c.self.view_is) (Edits.cut_told c.args.name c.self.inside.files.items c.self.inside.journal.items
    c.place_of-index.result c.index_mut-file.result.now c.self.invariant.tied first
    c.index_mut-file.ensures.value c.self.inside.asked.items c.self.inside.stray_views c.cut.new.self
    c.args.len c.cut.ensures.name c.cut.ensures.bytes)

pub returns-clause-rooms : goal.returns-clause-rooms
returns-clause-rooms c n =
    let first = rw c.deref.ensures.value at c.place_of-index.ensures.first in
    rw (← c.self.view_is) (Edits.keeps_rooms c.args.name c.self.inside.files.items c.place_of-index.result
    c.index_mut-file.result.now c.cut.new.self first c.index_mut-file.ensures.value c.cut.ensures.name
    (omega (arith, c.cut.ensures.room)) n)
