use Rattle.std.proofs.Common.{[], true, sym, ap, subst, arith}
use Rattle.bk_disk.specs.Told.{IsLent}
use Rattle.bk_memdisk.specs.Contents.{Contents}
use Rattle.bk_memdisk.specs.Journal.{returned, after_all}
use Rattle.bk_memdisk.proofs.Edits
use Rattle.bk_memdisk.proofs.directory.Directory.adopt.Goals as goal

pub adopt-change-requires-clause-lent : goal.adopt-change-requires-clause-lent
adopt-change-requires-clause-lent c =
    let first = rw c.deref.ensures.value at c.place_of-index.ensures.first in
    let lent = subst (IsLent c.args.name) (sym (ap (λ (v : Contents). v.told) c.self.view_is)) c.requires.lent in
    Edits.lent_is c.args.name c.self.inside.files.items (after_all [] c.self.inside.journal.items)
    c.place_of-index.result c.index_mut-file.result.now c.self.invariant.tied first
    c.index_mut-file.ensures.value true lent.1

pub invariant_of-self : goal.invariant_of-self
invariant_of-self c =
    let first = rw c.deref.ensures.value at c.place_of-index.ensures.first in
    let below = rw c.deref.ensures.value at c.place_of-index.ensures.below in
    let within =
    Edits.owed_within c.self.inside.files.items c.place_of-index.result
    c.index_mut-file.result.now below c.index_mut-file.ensures.value in
    record {
      tied = Edits.edited_tied c.args.name c.self.inside.files.items c.self.inside.journal.items
          c.push_reserved.new.self.items c.place_of-index.result c.index_mut-file.result.now
          c.adopt-change.new.self c.adopt-change.result (returned c.args.bytes.items) c.self.invariant.tied first
          c.index_mut-file.ensures.value c.push_reserved.ensures.items c.adopt-change.ensures.name
          c.adopt-change.ensures.fits (c.adopt-change.ensures.change (after_all [] c.self.inside.journal.items));
      reserved = rw (c.owed-before.ensures.value, c.owed-now.ensures.value)
          (Edits.owed_set c.self.inside.files.items c.place_of-index.result c.index_mut-file.result.now below
          c.index_mut-file.ensures.value c.adopt-change.new.self c.self.inside.reserved c.self.invariant.reserved);
      room = omega (
        arith,
        within,
        c.adopt-change.ensures.owed,
        c.owed-before.ensures.value,
        c.owed-now.ensures.value,
        c.push_reserved.ensures.len,
        c.push_reserved.ensures.capacity,
        c.self.invariant.room,
        c.self.invariant.reserved,
      );
    }

pub returns-clause-told : goal.returns-clause-told
returns-clause-told c =
    let first = rw c.deref.ensures.value at c.place_of-index.ensures.first in
    rw (← c.self.view_is)
    (Edits.returned_told c.args.name c.self.inside.files.items c.self.inside.journal.items c.place_of-index.result
    c.index_mut-file.result.now c.self.invariant.tied first c.index_mut-file.ensures.value
    c.self.inside.asked.items c.self.inside.stray_views c.adopt-change.new.self c.adopt-change.result
    c.push_reserved.new.self.items c.push_reserved.ensures.items c.adopt-change.ensures.name c.args.bytes.items
    c.adopt-change.ensures.fits c.adopt-change.ensures.change c.adopt-change.ensures.bytes)

pub returns-clause-rooms : goal.returns-clause-rooms
returns-clause-rooms c n =
    let first = rw c.deref.ensures.value at c.place_of-index.ensures.first in
    let lent = subst (IsLent c.args.name) (sym (ap (λ (v : Contents). v.told) c.self.view_is)) c.requires.lent in
    let word = Edits.front_is c.args.name c.self.inside.files.items (after_all [] c.self.inside.journal.items)
    c.place_of-index.result c.index_mut-file.result.now c.self.invariant.tied first
    c.index_mut-file.ensures.value in
    let none = (word.2.away (Edits.lent_is c.args.name c.self.inside.files.items
    (after_all [] c.self.inside.journal.items) c.place_of-index.result c.index_mut-file.result.now
    c.self.invariant.tied first c.index_mut-file.ensures.value true lent.1)).1 in
    rw (← c.self.view_is) (Edits.keeps_rooms c.args.name c.self.inside.files.items c.place_of-index.result
    c.index_mut-file.result.now c.adopt-change.new.self first c.index_mut-file.ensures.value
    c.adopt-change.ensures.name (omega (arith, none, c.adopt-change.ensures.room)) n)
