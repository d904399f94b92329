use Rattle.std.proofs.Common.{[], false, sym, ◌∙◌, ap, subst, arith, refl}
use Rattle.bk_disk.specs.Told.{IsOurs}
use Rattle.bk_memdisk.specs.Contents.{Contents, room_of}
use Rattle.bk_memdisk.specs.Journal.{after_all}
use Rattle.bk_memdisk.proofs.Edits
use Rattle.bk_memdisk.proofs.directory.Directory.ready.Goals as goal

pub returns-then-bytes-file-clause-room : goal.returns-then-bytes-file-clause-room
returns-then-bytes-file-clause-room c =
    let first = rw c.deref.ensures.value at c.place_of-index.ensures.first in
    let room = Edits.this_room c.args.name c.self.inside.files.items c.place_of-index.result
    c.index_mut-file.result.now c.index_mut-file.result.now first c.index_mut-file.ensures.value refl in
    omega (arith, room, c.if-bytes-file.true)

pub returns-in_err-reserve-clause-enough : goal.returns-in_err-reserve-clause-enough
returns-in_err-reserve-clause-enough c enough =
    let first = rw c.deref.ensures.value at c.place_of-index.ensures.first in
    let room = ap (λ v. room_of v c.args.name) (sym c.self.view_is)
    ∙ Edits.room_is c.args.name c.self.inside.files.items (after_all [] c.self.inside.journal.items)
    c.place_of-index.result c.index_mut-file.result.now c.self.invariant.tied first
    c.index_mut-file.ensures.value in
    absurd (omega (arith, room, enough, c.if-bytes-file.false))

pub ready-requires : goal.ready-requires
ready-requires c =
    let first = rw c.deref.ensures.value at c.place_of-index.ensures.first in
    let ours = subst (IsOurs c.args.name) (sym (ap (λ (v : Contents). v.told) c.self.view_is)) c.requires in
    Edits.lent_is c.args.name c.self.inside.files.items (after_all [] c.self.inside.journal.items)
    c.place_of-index.result c.index_mut-file.result.now c.self.invariant.tied first
    c.index_mut-file.ensures.value false ours.1

pub invariant_of-self-in_err-ready : goal.invariant_of-self-in_err-ready
invariant_of-self-in_err-ready c =
    let below = rw c.deref.ensures.value at c.place_of-index.ensures.below in
    record {
      tied = rw c.reserve.ensures.items (Edits.set_tied c.self.inside.files.items c.place_of-index.result
          c.index_mut-file.result.now below c.index_mut-file.ensures.value c.ready.new.self
          (after_all [] c.self.inside.journal.items) c.self.invariant.tied c.ready.ensures.name c.ready.ensures.fits);
      reserved = Edits.same_owed c.self.inside.files.items c.place_of-index.result c.index_mut-file.result.now
          below c.index_mut-file.ensures.value c.ready.new.self c.self.inside.reserved
          (Edits.owed_from c.index_mut-file.result.now c.ready.new.self c.in_err-ready.ensures.err
          c.ready.ensures.others) c.self.invariant.reserved;
      room = omega (arith, c.reserve.ensures.len, c.reserve.ensures.capacity, c.self.invariant.room);
    }

pub returns-in_err-ready-clause-enough : goal.returns-in_err-ready-clause-enough
returns-in_err-ready-clause-enough c enough =
    let first = rw c.deref.ensures.value at c.place_of-index.ensures.first in
    let room = ap (λ v. room_of v c.args.name) (sym c.self.view_is)
    ∙ Edits.room_is c.args.name c.self.inside.files.items (after_all [] c.self.inside.journal.items)
    c.place_of-index.result c.index_mut-file.result.now c.self.invariant.tied first
    c.index_mut-file.ensures.value in
    absurd (omega (arith, room, enough, c.if-bytes-file.false))

pub returns-in_err-ready-clause-told : goal.returns-in_err-ready-clause-told
returns-in_err-ready-clause-told c =
    let below = rw c.deref.ensures.value at c.place_of-index.ensures.below in
    rw (
      ← c.self.view_is,
      c.reserve.ensures.items,
      Edits.set_image c.self.inside.files.items
          c.place_of-index.result c.index_mut-file.result.now below c.index_mut-file.ensures.value c.ready.new.self
          c.ready.ensures.name c.ready.ensures.bytes,
    ) refl

pub returns-in_err-ready-clause-rooms : goal.returns-in_err-ready-clause-rooms
returns-in_err-ready-clause-rooms c n =
    let first = rw c.deref.ensures.value at c.place_of-index.ensures.first in
    rw (← c.self.view_is) (Edits.keeps_rooms c.args.name c.self.inside.files.items c.place_of-index.result
    c.index_mut-file.result.now c.ready.new.self first c.index_mut-file.ensures.value c.ready.ensures.name
    (omega (arith, c.in_err-ready.ensures.err)) n)

pub invariant_of-self-2 : goal.invariant_of-self-2
invariant_of-self-2 c =
    let below = rw c.deref.ensures.value at c.place_of-index.ensures.below in
    let within =
    Edits.owed_within c.self.inside.files.items c.place_of-index.result
    c.index_mut-file.result.now below c.index_mut-file.ensures.value in
    let more = Edits.owed_more c.index_mut-file.result.now c.ready.new.self c.ready.ensures.others in
    record {
      tied = rw c.reserve.ensures.items (Edits.set_tied c.self.inside.files.items c.place_of-index.result
          c.index_mut-file.result.now below c.index_mut-file.ensures.value c.ready.new.self
          (after_all [] c.self.inside.journal.items) c.self.invariant.tied c.ready.ensures.name c.ready.ensures.fits);
      reserved = rw (c.owed-before.ensures.value, c.owed-now.ensures.value)
          (Edits.owed_set c.self.inside.files.items c.place_of-index.result c.index_mut-file.result.now below
          c.index_mut-file.ensures.value c.ready.new.self c.self.inside.reserved c.self.invariant.reserved);
      room = omega (
        arith,
        within,
        more,
        c.owed-before.ensures.value,
        c.owed-now.ensures.value,
        c.in_ok-reserve.ensures.ok,
        c.reserve.ensures.len,
        c.self.invariant.room,
        c.self.invariant.reserved,
      );
    }

pub returns-clause-room : goal.returns-clause-room
returns-clause-room c =
    let first = rw c.deref.ensures.value at c.place_of-index.ensures.first in
    let room = Edits.this_room c.args.name c.self.inside.files.items c.place_of-index.result
    c.index_mut-file.result.now c.ready.new.self first c.index_mut-file.ensures.value c.ready.ensures.name in
    omega (arith, room, c.in_ok-ready.ensures.room)

pub returns-clause-told : goal.returns-clause-told
returns-clause-told c =
    let below = rw c.deref.ensures.value at c.place_of-index.ensures.below in
    rw (
      ← c.self.view_is,
      c.reserve.ensures.items,
      Edits.set_image c.self.inside.files.items
          c.place_of-index.result c.index_mut-file.result.now below c.index_mut-file.ensures.value c.ready.new.self
          c.ready.ensures.name c.ready.ensures.bytes,
    ) refl

pub returns-clause-rooms : goal.returns-clause-rooms
returns-clause-rooms c n =
    let first = rw c.deref.ensures.value at c.place_of-index.ensures.first in
    rw (← c.self.view_is) (Edits.keeps_rooms c.args.name c.self.inside.files.items c.place_of-index.result
    c.index_mut-file.result.now c.ready.new.self first c.index_mut-file.ensures.value c.ready.ensures.name
    (omega (arith, c.in_ok-ready.ensures.room, c.if-bytes-file.false)) n)
