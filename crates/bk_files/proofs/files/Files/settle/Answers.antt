use Rattle.std.proofs.Common.{◌∙◌, ap, subst, sym}
use Rattle.bk_files.specs.Files.{IsConsistent, IsFromScratch, IsSyncedIfSealed, is_torn, known_of}
use Rattle.bk_files.proofs.Standing.{after_sync}
use Rattle.bk_files.proofs.files.Files.settle.Goals as goal

pub returns-clause-consistent : goal.returns-clause-consistent
returns-clause-consistent g c =
    λ tells. (after_sync c.sync.result (known_of c.self.inside.catalog) c.in-Some.active c.name_of.result
    (g.D.Disk.shown c.self.inside.disk).told (g.D.Disk.shown c.sync.new.self).told c.in-Some.is
    (ap is_torn c.self.view_is ∙ c.requires.whole) c.name_of.ensures
    (c.sync.ensures.synced tells) (c.sync.ensures.err tells)
    (subst IsConsistent (sym c.self.view_is) (c.requires.consistent tells))).consistent

pub returns-clause-scratch : goal.returns-clause-scratch
returns-clause-scratch g c =
    λ tells was.
    (after_sync c.sync.result (known_of c.self.inside.catalog) c.in-Some.active c.name_of.result
    (g.D.Disk.shown c.self.inside.disk).told (g.D.Disk.shown c.sync.new.self).told c.in-Some.is
    (ap is_torn c.self.view_is ∙ c.requires.whole) c.name_of.ensures
    (c.sync.ensures.synced tells) (c.sync.ensures.err tells)
    (subst IsConsistent (sym c.self.view_is) (c.requires.consistent tells))).scratch
    (subst IsFromScratch (sym c.self.view_is) was)

pub returns-clause-synced : goal.returns-clause-synced
returns-clause-synced g c =
    λ tells was.
    (after_sync c.sync.result (known_of c.self.inside.catalog) c.in-Some.active c.name_of.result
    (g.D.Disk.shown c.self.inside.disk).told (g.D.Disk.shown c.sync.new.self).told c.in-Some.is
    (ap is_torn c.self.view_is ∙ c.requires.whole) c.name_of.ensures
    (c.sync.ensures.synced tells) (c.sync.ensures.err tells)
    (subst IsConsistent (sym c.self.view_is) (c.requires.consistent tells))).synced
    (subst IsSyncedIfSealed (sym c.self.view_is) was)
