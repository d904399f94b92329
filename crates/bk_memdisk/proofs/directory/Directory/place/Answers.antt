use Rattle.std.proofs.Common.{[], sym, ◌∙◌, ap, arith, refl, inr}
use Rattle.bk_disk.specs.Crashes.{front_of}
use Rattle.bk_memdisk.specs.declared.changes.Change.TheVariants.{Placed}
use Rattle.bk_memdisk.specs.Contents.{placed}
use Rattle.bk_memdisk.specs.Journal.{whole, after_all}
use Rattle.bk_memdisk.proofs.Edits
use Rattle.bk_memdisk.proofs.Listings
use Rattle.bk_memdisk.proofs.Places.{found}
use Rattle.bk_memdisk.proofs.directory.Directory.place.Goals as goal

pub returns-in_default-clause-ok : goal.returns-in_default-clause-ok
returns-in_default-clause-ok c =
    let absent =
    rw c.deref.ensures.value
    at (Listings.not_there c.args.name c.deref.result.now
    (sym c.find.ensures.place ∙ c.in_default.is)) in
    let more = rw c.reserve.ensures.items at c.push_reserved.ensures.items in
    let word = ap (λ bytes. placed c.args.name (whole bytes) (after_all [] c.self.inside.journal.items)) c.requires in
    rw (← c.self.view_is, c.in_ok-push.ensures.items) (Listings.put_told c.args.name c.self.inside.files.items
    c.self.inside.journal.items c.push_reserved.new.self.items c.of-place.result (whole c.args.bytes.items)
    (Placed c.args.name c.args.copy) c.self.invariant.tied absent more c.of-place.ensures.name
    c.of-place.ensures.fits c.self.inside.asked.items c.self.inside.stray_views c.args.bytes.items
    (front_of c.args.bytes.items) word c.of-place.ensures.bytes refl)

pub returns-clause-ok : goal.returns-clause-ok
returns-clause-ok c =
    let first =
    rw c.deref.ensures.value
    at (found c.args.name c.deref.result.now c.in-Some.index
    (sym c.find.ensures.place ∙ c.in-Some.is)) in
    let more = rw c.reserve.ensures.items at c.push_reserved-2.ensures.items in
    let word = ap (λ bytes. placed c.args.name (whole bytes) (after_all [] c.self.inside.journal.items)) c.requires in
    rw (← c.self.view_is) (Listings.replaced_told c.args.name c.self.inside.files.items c.self.inside.journal.items
    c.push_reserved-2.new.self.items c.in-Some.index c.index_mut-file.result.now c.of-place.result
    (Placed c.args.name c.args.copy) (whole c.args.bytes.items) c.self.invariant.tied first
    c.index_mut-file.ensures.value more c.of-place.ensures.name c.of-place.ensures.fits word
    c.self.inside.asked.items c.self.inside.stray_views c.args.bytes.items (front_of c.args.bytes.items)
    c.of-place.ensures.bytes refl)

pub invariant_of-self-in_default : goal.invariant_of-self-in_default
invariant_of-self-in_default c =
    let absent =
    rw c.deref.ensures.value
    at (Listings.not_there c.args.name c.deref.result.now
    (sym c.find.ensures.place ∙ c.in_default.is)) in
    let more = rw c.reserve.ensures.items at c.push_reserved.ensures.items in
    let word = ap (λ bytes. placed c.args.name (whole bytes) (after_all [] c.self.inside.journal.items)) c.requires in
    let sums =
    Listings.owed_added c.self.inside.files.items c.of-place.result c.self.inside.reserved
    c.self.invariant.reserved in
    record {
      tied = rw c.in_ok-push.ensures.items (Listings.added_tied c.args.name c.self.inside.files.items
          c.self.inside.journal.items c.push_reserved.new.self.items c.of-place.result (whole c.args.bytes.items)
          (Placed c.args.name c.args.copy) c.self.invariant.tied absent more c.of-place.ensures.name
          c.of-place.ensures.fits (inr word));
      reserved = rw c.in_ok-push.ensures.items (omega (arith, sums, c.of-place.ensures.owed));
      room = omega (arith, c.in_ok-reserve.ensures.ok, c.push_reserved.ensures.len, c.push_reserved.ensures.capacity);
    }

pub invariant_of-self-2 : goal.invariant_of-self-2
invariant_of-self-2 c =
    let first =
    rw c.deref.ensures.value
    at (found c.args.name c.deref.result.now c.in-Some.index
    (sym c.find.ensures.place ∙ c.in-Some.is)) in
    let below = rw c.deref.ensures.value at c.in-Some.ensures.below in
    let more = rw c.reserve.ensures.items at c.push_reserved-2.ensures.items in
    let word = ap (λ bytes. placed c.args.name (whole bytes) (after_all [] c.self.inside.journal.items)) c.requires in
    let sums = Edits.owed_set c.self.inside.files.items c.in-Some.index c.index_mut-file.result.now below
    c.index_mut-file.ensures.value c.of-place.result c.self.inside.reserved c.self.invariant.reserved in
    record {
      tied = Listings.replaced_tied c.args.name c.self.inside.files.items c.self.inside.journal.items
          c.push_reserved-2.new.self.items c.in-Some.index c.index_mut-file.result.now c.of-place.result
          (Placed c.args.name c.args.copy) (whole c.args.bytes.items) c.self.invariant.tied first
          c.index_mut-file.ensures.value more c.of-place.ensures.name c.of-place.ensures.fits word;
      reserved = rw c.owed.ensures.value (omega (arith, sums, c.of-place.ensures.owed));
      room = omega (
        arith,
        c.in_ok-reserve.ensures.ok,
        c.push_reserved-2.ensures.len,
        c.push_reserved-2.ensures.capacity,
      );
    }

pub returns-in_default-clause-rooms : goal.returns-in_default-clause-rooms
returns-in_default-clause-rooms c n other = rw (← c.self.view_is, c.in_ok-push.ensures.items)
    (Listings.added_rooms c.self.inside.files.items c.of-place.result n)

pub returns-clause-rooms : goal.returns-clause-rooms
returns-clause-rooms c n other =
    let first =
    rw c.deref.ensures.value
    at (found c.args.name c.deref.result.now c.in-Some.index
    (sym c.find.ensures.place ∙ c.in-Some.is)) in
    let same_name = c.of-place.ensures.name ∙ sym (Edits.name_is c.args.name c.self.inside.files.items
    (after_all [] c.self.inside.journal.items) c.in-Some.index c.index_mut-file.result.now
    c.self.invariant.tied first c.index_mut-file.ensures.value) in
    let same_rooms = Edits.other_rooms c.args.name c.self.inside.files.items c.in-Some.index
    c.index_mut-file.result.now c.of-place.result first c.index_mut-file.ensures.value same_name n other in
    rw (← c.self.view_is) (omega (arith, same_rooms))
