use Rattle.std.proofs.Common.{sym, ◌∙◌, ap, arith, refl, inl}
use Rattle.std.specs.Option.{is_some}
use Rattle.bk_memdisk.specs.declared.changes.Change.TheVariants.{Made}
use Rattle.bk_memdisk.specs.Journal.{made}
use Rattle.bk_memdisk.proofs.Listings
use Rattle.bk_memdisk.proofs.directory.Directory.create.Goals as goal

pub returns-then-is_some-clause-ok : goal.returns-then-is_some-clause-ok
returns-then-is_some-clause-ok c =
    let there = rw c.deref.ensures.value at (sym (Listings.same_there c.args.name c.deref.result.now)
    ∙ ap is_some (sym c.find.ensures.place) ∙ sym c.is_some.ensures ∙ c.if-is_some.true) in
    rw (← c.self.view_is) (Listings.made_already c.self.inside.files.items c.self.inside.journal.items
    c.self.invariant.tied c.self.inside.asked.items c.self.inside.stray_views c.args.name c.args.lent there)

pub invariant_of-self-2 : goal.invariant_of-self-2
invariant_of-self-2 c =
    let absent = rw c.deref.ensures.value at (sym (Listings.same_there c.args.name c.deref.result.now)
    ∙ ap is_some (sym c.find.ensures.place) ∙ sym c.is_some.ensures ∙ c.if-is_some.false) in
    let more = rw c.reserve.ensures.items at c.push_reserved.ensures.items in
    record {
      tied = rw c.in_ok-push.ensures.items (Listings.added_tied c.args.name c.self.inside.files.items
          c.self.inside.journal.items c.push_reserved.new.self.items c.new-file.result (made c.args.lent)
          (Made c.args.name c.args.lent) c.self.invariant.tied absent more c.new-file.ensures.name
          c.new-file.ensures.fits (inl refl));
      reserved = rw (c.in_ok-push.ensures.items, c.owed-owed.ensures.value)
          (Listings.owed_added c.self.inside.files.items c.new-file.result c.self.inside.reserved
          c.self.invariant.reserved);
      room = omega (
        arith,
        Listings.one_at_most c.args.lent,
        c.owed-owed.ensures.value,
        c.new-file.ensures.owed,
        c.in_ok-reserve.ensures.ok,
        c.push_reserved.ensures.len,
        c.push_reserved.ensures.capacity,
      );
    }

pub returns-clause-ok : goal.returns-clause-ok
returns-clause-ok c =
    let absent = rw c.deref.ensures.value at (sym (Listings.same_there c.args.name c.deref.result.now)
    ∙ ap is_some (sym c.find.ensures.place) ∙ sym c.is_some.ensures ∙ c.if-is_some.false) in
    let more = rw c.reserve.ensures.items at c.push_reserved.ensures.items in
    rw (← c.self.view_is, c.in_ok-push.ensures.items) (Listings.made_told c.args.name c.self.inside.files.items
    c.self.inside.journal.items c.push_reserved.new.self.items c.new-file.result (made c.args.lent)
    (Made c.args.name c.args.lent) c.self.invariant.tied absent more c.new-file.ensures.name
    c.new-file.ensures.fits c.self.inside.asked.items c.self.inside.stray_views c.args.lent refl
    c.new-file.ensures.bytes refl)

pub returns-clause-rooms : goal.returns-clause-rooms
returns-clause-rooms c n =
    rw (← c.self.view_is, c.in_ok-push.ensures.items)
    (Listings.added_rooms c.self.inside.files.items c.new-file.result n)
