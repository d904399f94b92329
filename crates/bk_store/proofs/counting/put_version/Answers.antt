use Rattle.std.proofs.Common.{subst, sym}
use Rattle.std.specs.declared.option.Option.{Option}
use Rattle.bk_base.specs.declared.writes.Version.{Version}
use Rattle.bk_keydir.specs.Keydir.{newest_of, replaced, versions_of}
use Rattle.bk_store.proofs.RowCounts.{IsEarlier, is_earlier, rows_counted}
use Rattle.bk_store.proofs.counting.put_version.Goals as goal

pub returns-clause-counts : goal.returns-clause-counts
returns-clause-counts g c = λ room.
    let vs = versions_of c.args.key c.args.keydir.now.entries in
    let slots = c.args.keydir.now.slots in
    rows_counted c.args.version c.args.keydir.now.entries c.put_version-gone.new.self.entries c.args.files.now.catalog.rows
    c.add_version.new.files.catalog.rows c.take_earlier.new.files.catalog.rows (newest_of vs) c.put_version-gone.result
    c.newest_if_open-seen.result room c.add_version.ensures.rows c.add_version.ensures.alone.there c.take_earlier.ensures.rows
    c.put_version-gone.ensures.counts
    (subst (λ (gone : Option Version). IsEarlier (newest_of vs) gone c.newest_if_open-seen.result)
    (sym c.put_version-gone.ensures.replaced)
    (subst (λ (seen : Option Version). IsEarlier (newest_of vs) (replaced slots vs) seen) (sym c.newest_if_open-seen.ensures)
    (is_earlier slots vs)))
