use Rattle.std.proofs.Common.{◌≤◌, [], length, false, sym, ◌∙◌, ap, subst, arith}
use Rattle.bk_disk.specs.Told.{IsOurs}
use Rattle.bk_memdisk.specs.Contents.{Contents, room_of}
use Rattle.bk_memdisk.specs.Journal.{handed, after_all}
use Rattle.bk_memdisk.proofs.Edits
use Rattle.bk_memdisk.proofs.directory.Directory.append.Goals as goal

pub returns-then-is_empty-clause-told : goal.returns-then-is_empty-clause-told
returns-then-is_empty-clause-told c =
    let first = rw c.deref.ensures.value at c.place_of-index.ensures.first in
    let empty = Edits.empty_from c.args.piece.now c.is_empty.result c.is_empty.ensures c.if-is_empty.true in
    rw (
      empty,
      ← c.self.view_is,
      Edits.set_same c.self.inside.files.items c.place_of-index.result
          c.index_mut-file.result.now c.index_mut-file.ensures.value,
    ) (Edits.appended_nothing c.args.name
    c.self.inside.files.items c.self.inside.journal.items c.place_of-index.result c.index_mut-file.result.now
    c.self.invariant.tied first c.index_mut-file.ensures.value c.self.inside.asked.items
    c.self.inside.stray_views c.args.through)

pub append-change-requires-clause-ours : goal.append-change-requires-clause-ours
append-change-requires-clause-ours c =
    let first = rw c.deref.ensures.value at c.place_of-index.ensures.first in
    let ours = subst (IsOurs c.args.name) (sym (ap (λ (v : Contents). v.told) c.self.view_is)) c.requires.ours in
    Edits.lent_is c.args.name c.self.inside.files.items (after_all [] c.self.inside.journal.items)
    c.place_of-index.result c.index_mut-file.result.now c.self.invariant.tied first
    c.index_mut-file.ensures.value false ours.1

pub append-change-requires-clause-room : goal.append-change-requires-clause-room
append-change-requires-clause-room c =
    let first = rw c.deref.ensures.value at c.place_of-index.ensures.first in
    let room = Edits.room_is c.args.name c.self.inside.files.items (after_all [] c.self.inside.journal.items)
    c.place_of-index.result c.index_mut-file.result.now c.self.invariant.tied first
    c.index_mut-file.ensures.value in
    subst (λ r. length c.args.piece.now ≤ r) (ap (λ v. room_of v c.args.name) (sym c.self.view_is)
    ∙ room) c.requires.room

pub push_reserved-requires : goal.push_reserved-requires
push_reserved-requires c =
    let first = rw c.deref.ensures.value at c.place_of-index.ensures.first in
    let below = rw c.deref.ensures.value at c.place_of-index.ensures.below in
    let within =
    Edits.owed_within c.self.inside.files.items c.place_of-index.result
    c.index_mut-file.result.now below c.index_mut-file.ensures.value in
    let room_here = subst (λ r. length c.args.piece.now ≤ r) (ap (λ v. room_of v c.args.name) (sym c.self.view_is)
    ∙ Edits.room_is c.args.name c.self.inside.files.items (after_all [] c.self.inside.journal.items)
    c.place_of-index.result c.index_mut-file.result.now c.self.invariant.tied first
    c.index_mut-file.ensures.value) c.requires.room in
    let less = c.append-change.ensures.owed (Edits.some_from c.args.piece.now c.index_mut-file.result.now.room
    c.is_empty.result c.is_empty.ensures c.if-is_empty.false room_here) in
    omega (arith, within, less, c.self.invariant.reserved, c.self.invariant.room)

pub invariant_of-self-2 : goal.invariant_of-self-2
invariant_of-self-2 c =
    let first = rw c.deref.ensures.value at c.place_of-index.ensures.first in
    let below = rw c.deref.ensures.value at c.place_of-index.ensures.below in
    let within =
    Edits.owed_within c.self.inside.files.items c.place_of-index.result
    c.index_mut-file.result.now below c.index_mut-file.ensures.value in
    let room_here = subst (λ r. length c.args.piece.now ≤ r) (ap (λ v. room_of v c.args.name) (sym c.self.view_is)
    ∙ Edits.room_is c.args.name c.self.inside.files.items (after_all [] c.self.inside.journal.items)
    c.place_of-index.result c.index_mut-file.result.now c.self.invariant.tied first
    c.index_mut-file.ensures.value) c.requires.room in
    let less = c.append-change.ensures.owed (Edits.some_from c.args.piece.now c.index_mut-file.result.now.room
    c.is_empty.result c.is_empty.ensures c.if-is_empty.false room_here) in
    record {
      tied = Edits.edited_tied c.args.name c.self.inside.files.items c.self.inside.journal.items
          c.push_reserved.new.self.items c.place_of-index.result c.index_mut-file.result.now
          c.append-change.new.self c.append-change.result (handed (length c.index_mut-file.result.now.bytes.items)
          c.args.through c.args.piece.now) c.self.invariant.tied first c.index_mut-file.ensures.value
          c.push_reserved.ensures.items c.append-change.ensures.name c.append-change.ensures.fits
          (c.append-change.ensures.change (after_all [] c.self.inside.journal.items));
      reserved = rw (c.owed-before.ensures.value, c.owed-now.ensures.value)
          (Edits.owed_set c.self.inside.files.items c.place_of-index.result c.index_mut-file.result.now below
          c.index_mut-file.ensures.value c.append-change.new.self c.self.inside.reserved c.self.invariant.reserved);
      room = omega (
        arith,
        within,
        less,
        c.owed-before.ensures.value,
        c.owed-now.ensures.value,
        c.push_reserved.ensures.len,
        c.push_reserved.ensures.capacity,
        c.self.invariant.room,
        c.self.invariant.reserved,
      );
    }

pub returns-clause-told : goal.returns-clause-told
returns-clause-told c =
    let first = rw c.deref.ensures.value at c.place_of-index.ensures.first in
    rw (← c.self.view_is)
    (Edits.appended_told c.args.name c.self.inside.files.items c.self.inside.journal.items c.place_of-index.result
    c.index_mut-file.result.now c.self.invariant.tied first c.index_mut-file.ensures.value
    c.self.inside.asked.items c.self.inside.stray_views c.append-change.new.self c.append-change.result
    c.push_reserved.new.self.items c.push_reserved.ensures.items c.append-change.ensures.name c.args.through
    c.args.piece.now c.append-change.ensures.fits c.append-change.ensures.change c.append-change.ensures.bytes)

pub returns-clause-rooms : goal.returns-clause-rooms
returns-clause-rooms c n other =
    let first = rw c.deref.ensures.value at c.place_of-index.ensures.first in
    let same_rooms = Edits.other_rooms c.args.name c.self.inside.files.items c.place_of-index.result
    c.index_mut-file.result.now c.append-change.new.self first c.index_mut-file.ensures.value
    c.append-change.ensures.name n other in
    rw (← c.self.view_is) (omega (arith, same_rooms))
