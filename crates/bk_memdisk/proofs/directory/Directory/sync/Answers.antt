use Rattle.std.proofs.Common.{[], length, arith}
use Rattle.bk_memdisk.specs.Journal.{synced, after_all}
use Rattle.bk_memdisk.proofs.Edits
use Rattle.bk_memdisk.proofs.directory.Directory.sync.Goals as goal

pub returns-then-not-file-clause-told : goal.returns-then-not-file-clause-told
returns-then-not-file-clause-told c =
    let first = rw c.deref.ensures.value at c.place_of-index.ensures.first in
    rw (
      ← c.self.view_is,
      Edits.set_same c.self.inside.files.items c.place_of-index.result
          c.index_mut-file.result.now c.index_mut-file.ensures.value,
    ) (Edits.synced_already c.args.name
    c.self.inside.files.items c.self.inside.journal.items c.place_of-index.result c.index_mut-file.result.now
    c.self.invariant.tied first c.index_mut-file.ensures.value c.self.inside.asked.items
    c.self.inside.stray_views c.if-not-file.true)

pub invariant_of-self-2 : goal.invariant_of-self-2
invariant_of-self-2 c =
    let first = rw c.deref.ensures.value at c.place_of-index.ensures.first in
    let below = rw c.deref.ensures.value at c.place_of-index.ensures.below in
    let less = c.sync-change.ensures.owed c.if-not-file.false in
    record {
      tied = Edits.edited_tied c.args.name c.self.inside.files.items c.self.inside.journal.items
          c.push_reserved.new.self.items c.place_of-index.result c.index_mut-file.result.now c.sync-change.new.self
          c.sync-change.result (synced (length c.index_mut-file.result.now.bytes.items)) c.self.invariant.tied
          first c.index_mut-file.ensures.value c.push_reserved.ensures.items c.sync-change.ensures.name
          c.sync-change.ensures.fits (c.sync-change.ensures.change (after_all [] c.self.inside.journal.items));
      reserved = Edits.one_less c.self.inside.files.items c.place_of-index.result c.index_mut-file.result.now below
          c.index_mut-file.ensures.value c.sync-change.new.self c.self.inside.reserved less c.self.invariant.reserved;
      room = omega (arith, c.push_reserved.ensures.len, c.push_reserved.ensures.capacity, c.self.invariant.room);
    }

pub returns-clause-told : goal.returns-clause-told
returns-clause-told c =
    let first = rw c.deref.ensures.value at c.place_of-index.ensures.first in
    rw (← c.self.view_is)
    (Edits.synced_told c.args.name c.self.inside.files.items c.self.inside.journal.items c.place_of-index.result
    c.index_mut-file.result.now c.self.invariant.tied first c.index_mut-file.ensures.value
    c.self.inside.asked.items c.self.inside.stray_views c.sync-change.new.self c.sync-change.result
    c.push_reserved.new.self.items c.push_reserved.ensures.items c.sync-change.ensures.name
    c.sync-change.ensures.fits c.sync-change.ensures.change c.sync-change.ensures.bytes)

pub returns-clause-rooms : goal.returns-clause-rooms
returns-clause-rooms c n =
    let first = rw c.deref.ensures.value at c.place_of-index.ensures.first in
    rw (← c.self.view_is) (Edits.keeps_rooms c.args.name c.self.inside.files.items c.place_of-index.result
    c.index_mut-file.result.now c.sync-change.new.self first c.index_mut-file.ensures.value
    c.sync-change.ensures.name (omega (arith, c.sync-change.ensures.room)) n)
