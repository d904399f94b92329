use Rattle.std.proofs.Common.{subst, sym}
use Rattle.bk_files.specs.Files.{IsConsistent, IsConsistentWith, IsFromScratch, IsSyncedIfSealed, known_of}
use Rattle.bk_files.specs.Rows.{AreFromScratch, AreSyncedIfSealed}
use Rattle.bk_files.proofs.Standing.{consistent_counted, scratch_counted, synced_counted}
use Rattle.bk_files.proofs.files.Files.count.Goals as goal

pub returns-clause-consistent : goal.returns-clause-consistent
returns-clause-consistent g c =
    λ tells was. subst (λ x. IsConsistentWith x (g.D.Disk.shown c.self.inside.disk).told) (sym c.count.ensures)
    (consistent_counted (known_of c.self.inside.catalog) c.args.file.0 c.args.live c.args.refs
    (g.D.Disk.shown c.self.inside.disk).told
    (subst IsConsistent (sym c.self.view_is) was))

pub returns-clause-scratch : goal.returns-clause-scratch
returns-clause-scratch g c =
    λ tells was. subst (λ x. AreFromScratch x.rows (g.D.Disk.shown c.self.inside.disk).told) (sym c.count.ensures)
    (scratch_counted (known_of c.self.inside.catalog) c.args.file.0 c.args.live c.args.refs
    (g.D.Disk.shown c.self.inside.disk).told
    (subst IsFromScratch (sym c.self.view_is) was))

pub returns-clause-synced : goal.returns-clause-synced
returns-clause-synced g c =
    λ tells was. subst (λ x. AreSyncedIfSealed x.rows (g.D.Disk.shown c.self.inside.disk).told)
    (sym c.count.ensures)
    (synced_counted (known_of c.self.inside.catalog) c.args.file.0 c.args.live c.args.refs
    (g.D.Disk.shown c.self.inside.disk).told
    (subst IsSyncedIfSealed (sym c.self.view_is) was))
