use Rattle.std.proofs.Common.{subst, sym}
use Rattle.std.specs.Prelude.{is_ok}
use Rattle.bk_files.specs.Files.{IsConsistent, IsFromScratch, IsSyncedIfSealed, known_of}
use Rattle.bk_files.proofs.Standing.{after_view}
use Rattle.bk_files.proofs.files.Files.view.Goals as goal

pub returns-clause-consistent : goal.returns-clause-consistent
returns-clause-consistent g c =
    λ tells. (after_view (known_of c.self.inside.catalog) (is_ok c.view.result) c.name_of.result
    c.args.at c.args.len
    (g.D.Disk.shown c.self.inside.disk).told (g.D.Disk.shown c.view.new.self).told (c.view.ensures.told tells)
    (subst IsConsistent (sym c.self.view_is) (c.requires tells))).consistent

pub returns-clause-scratch : goal.returns-clause-scratch
returns-clause-scratch g c =
    λ tells was.
    (after_view (known_of c.self.inside.catalog) (is_ok c.view.result) c.name_of.result c.args.at c.args.len
    (g.D.Disk.shown c.self.inside.disk).told (g.D.Disk.shown c.view.new.self).told (c.view.ensures.told tells)
    (subst IsConsistent (sym c.self.view_is) (c.requires tells))).scratch
    (subst IsFromScratch (sym c.self.view_is) was)

pub returns-clause-synced : goal.returns-clause-synced
returns-clause-synced g c =
    λ tells was.
    (after_view (known_of c.self.inside.catalog) (is_ok c.view.result) c.name_of.result c.args.at c.args.len
    (g.D.Disk.shown c.self.inside.disk).told (g.D.Disk.shown c.view.new.self).told (c.view.ensures.told tells)
    (subst IsConsistent (sym c.self.view_is) (c.requires tells))).synced
    (subst IsSyncedIfSealed (sym c.self.view_is) was)
