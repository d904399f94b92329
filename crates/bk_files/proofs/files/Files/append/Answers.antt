use Rattle.std.proofs.Common.{◌∙◌, ap, length, subst, sym}
use Rattle.bk_files.specs.Files.{IsConsistent, IsFromScratch, IsSyncedIfSealed, is_due, is_torn, known_of}
use Rattle.bk_files.proofs.Standing.{after_append, after_tear}
use Rattle.bk_files.proofs.files.Files.append.Goals as goal

pub returns-in-Ok-clause-consistent : goal.returns-in-Ok-clause-consistent
returns-in-Ok-clause-consistent g c =
    λ tells. (after_append (known_of c.self.inside.catalog) (known_of c.grow.new.self)
    c.active_name-name.result c.args.text.now (g.D.Disk.shown c.self.inside.disk).told
    (g.D.Disk.shown c.append.new.self).told
    (ap is_torn c.self.view_is ∙ c.requires.whole)
    (ap (λ s. is_due (length c.args.text.now) s) c.self.view_is ∙ c.requires.due) c.requires.text
    c.active_name-name.ensures c.grow.ensures.grown (c.in-Ok.ensures.appended tells)
    (subst IsConsistent (sym c.self.view_is) (c.requires.consistent tells))).consistent

pub returns-in-Ok-clause-scratch : goal.returns-in-Ok-clause-scratch
returns-in-Ok-clause-scratch g c =
    λ tells was.
    (after_append (known_of c.self.inside.catalog) (known_of c.grow.new.self)
    c.active_name-name.result c.args.text.now (g.D.Disk.shown c.self.inside.disk).told
    (g.D.Disk.shown c.append.new.self).told
    (ap is_torn c.self.view_is ∙ c.requires.whole)
    (ap (λ s. is_due (length c.args.text.now) s) c.self.view_is ∙ c.requires.due) c.requires.text
    c.active_name-name.ensures c.grow.ensures.grown (c.in-Ok.ensures.appended tells)
    (subst IsConsistent (sym c.self.view_is) (c.requires.consistent tells))).scratch
    (subst IsFromScratch (sym c.self.view_is) was)

pub returns-in-Ok-clause-synced : goal.returns-in-Ok-clause-synced
returns-in-Ok-clause-synced g c =
    λ tells was.
    (after_append (known_of c.self.inside.catalog) (known_of c.grow.new.self)
    c.active_name-name.result c.args.text.now (g.D.Disk.shown c.self.inside.disk).told
    (g.D.Disk.shown c.append.new.self).told
    (ap is_torn c.self.view_is ∙ c.requires.whole)
    (ap (λ s. is_due (length c.args.text.now) s) c.self.view_is ∙ c.requires.due) c.requires.text
    c.active_name-name.ensures c.grow.ensures.grown (c.in-Ok.ensures.appended tells)
    (subst IsConsistent (sym c.self.view_is) (c.requires.consistent tells))).synced
    (subst IsSyncedIfSealed (sym c.self.view_is) was)

pub returns-in-Err-clause-consistent : goal.returns-in-Err-clause-consistent
returns-in-Err-clause-consistent g c =
    λ tells. (after_tear (known_of c.self.inside.catalog) (known_of c.tear.new.self)
    c.active_name-name.result c.args.text.now (g.D.Disk.shown c.self.inside.disk).told
    (g.D.Disk.shown c.append.new.self).told
    (ap (λ s. is_due (length c.args.text.now) s) c.self.view_is ∙ c.requires.due)
    c.active_name-name.ensures c.tear.ensures (c.in-Err.ensures.err tells)
    (subst IsConsistent (sym c.self.view_is) (c.requires.consistent tells))).consistent

pub returns-in-Err-clause-scratch : goal.returns-in-Err-clause-scratch
returns-in-Err-clause-scratch g c =
    λ tells was.
    (after_tear (known_of c.self.inside.catalog) (known_of c.tear.new.self) c.active_name-name.result
    c.args.text.now (g.D.Disk.shown c.self.inside.disk).told (g.D.Disk.shown c.append.new.self).told
    (ap (λ s. is_due (length c.args.text.now) s) c.self.view_is ∙ c.requires.due)
    c.active_name-name.ensures c.tear.ensures (c.in-Err.ensures.err tells)
    (subst IsConsistent (sym c.self.view_is) (c.requires.consistent tells))).scratch
    (subst IsFromScratch (sym c.self.view_is) was)

pub returns-in-Err-clause-synced : goal.returns-in-Err-clause-synced
returns-in-Err-clause-synced g c =
    λ tells was.
    (after_tear (known_of c.self.inside.catalog) (known_of c.tear.new.self) c.active_name-name.result
    c.args.text.now (g.D.Disk.shown c.self.inside.disk).told (g.D.Disk.shown c.append.new.self).told
    (ap (λ s. is_due (length c.args.text.now) s) c.self.view_is ∙ c.requires.due)
    c.active_name-name.ensures c.tear.ensures (c.in-Err.ensures.err tells)
    (subst IsConsistent (sym c.self.view_is) (c.requires.consistent tells))).synced
    (subst IsSyncedIfSealed (sym c.self.view_is) was)
