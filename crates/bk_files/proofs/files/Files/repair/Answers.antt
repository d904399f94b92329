use Rattle.std.proofs.Common.{◌≡◌, arith, inr, subst, sym, true}
use Rattle.bk_files.specs.Files.{IsConsistent, IsFromScratch, IsSyncedIfSealed, known_of}
use Rattle.bk_files.proofs.Standing.{Goes, after_cut, after_repair, ours_after_cut}
use Rattle.bk_files.proofs.files.Files.repair.Goals as goal

pub returns-in_err-cut-clause-consistent : goal.returns-in_err-cut-clause-consistent
returns-in_err-cut-clause-consistent g c = λ tells. let torn : c.in-Some.active.torn ≡ true =
    grind (arith, c.if-not-active.false) in
    (after_cut (known_of c.self.inside.catalog) c.in-Some.active c.name_of-name.result
    (g.D.Disk.shown c.self.inside.disk).told (g.D.Disk.shown c.cut.new.self).told
    c.in-Some.is torn c.name_of-name.ensures (c.in_err-cut.ensures.err tells)
    (subst IsConsistent (sym c.self.view_is) (c.requires tells))).consistent

pub returns-in_err-cut-clause-scratch : goal.returns-in_err-cut-clause-scratch
returns-in_err-cut-clause-scratch g c = λ tells was. let torn : c.in-Some.active.torn ≡ true =
    grind (arith, c.if-not-active.false) in
    (after_cut (known_of c.self.inside.catalog) c.in-Some.active c.name_of-name.result
    (g.D.Disk.shown c.self.inside.disk).told (g.D.Disk.shown c.cut.new.self).told
    c.in-Some.is torn c.name_of-name.ensures (c.in_err-cut.ensures.err tells)
    (subst IsConsistent (sym c.self.view_is) (c.requires tells))).scratch
    (subst IsFromScratch (sym c.self.view_is) was)

pub returns-in_err-cut-clause-synced : goal.returns-in_err-cut-clause-synced
returns-in_err-cut-clause-synced g c = λ tells was. let torn : c.in-Some.active.torn ≡ true =
    grind (arith, c.if-not-active.false) in
    (after_cut (known_of c.self.inside.catalog) c.in-Some.active c.name_of-name.result
    (g.D.Disk.shown c.self.inside.disk).told (g.D.Disk.shown c.cut.new.self).told
    c.in-Some.is torn c.name_of-name.ensures (c.in_err-cut.ensures.err tells)
    (subst IsConsistent (sym c.self.view_is) (c.requires tells))).synced
    (subst IsSyncedIfSealed (sym c.self.view_is) was)

pub returns-in_err-sync-clause-consistent : goal.returns-in_err-sync-clause-consistent
returns-in_err-sync-clause-consistent g c = λ tells. let torn : c.in-Some.active.torn ≡ true =
    grind (arith, c.if-not-active.false) in
    (subst (λ x. Goes (known_of c.self.inside.catalog) (g.D.Disk.shown c.self.inside.disk).told
    (known_of c.self.inside.catalog) x) (sym (c.in_err-sync.ensures.err tells))
    (after_cut (known_of c.self.inside.catalog) c.in-Some.active c.name_of-name.result
    (g.D.Disk.shown c.self.inside.disk).told (g.D.Disk.shown c.cut.new.self).told
    c.in-Some.is torn c.name_of-name.ensures (inr (c.in_ok-cut.ensures.shorter tells))
    (subst IsConsistent (sym c.self.view_is) (c.requires tells)))).consistent

pub returns-in_err-sync-clause-scratch : goal.returns-in_err-sync-clause-scratch
returns-in_err-sync-clause-scratch g c = λ tells was. let torn : c.in-Some.active.torn ≡ true =
    grind (arith, c.if-not-active.false) in
    (subst (λ x. Goes (known_of c.self.inside.catalog) (g.D.Disk.shown c.self.inside.disk).told
    (known_of c.self.inside.catalog) x) (sym (c.in_err-sync.ensures.err tells))
    (after_cut (known_of c.self.inside.catalog) c.in-Some.active c.name_of-name.result
    (g.D.Disk.shown c.self.inside.disk).told (g.D.Disk.shown c.cut.new.self).told
    c.in-Some.is torn c.name_of-name.ensures (inr (c.in_ok-cut.ensures.shorter tells))
    (subst IsConsistent (sym c.self.view_is) (c.requires tells)))).scratch
    (subst IsFromScratch (sym c.self.view_is) was)

pub returns-in_err-sync-clause-synced : goal.returns-in_err-sync-clause-synced
returns-in_err-sync-clause-synced g c = λ tells was. let torn : c.in-Some.active.torn ≡ true =
    grind (arith, c.if-not-active.false) in
    (subst (λ x. Goes (known_of c.self.inside.catalog) (g.D.Disk.shown c.self.inside.disk).told
    (known_of c.self.inside.catalog) x) (sym (c.in_err-sync.ensures.err tells))
    (after_cut (known_of c.self.inside.catalog) c.in-Some.active c.name_of-name.result
    (g.D.Disk.shown c.self.inside.disk).told (g.D.Disk.shown c.cut.new.self).told
    c.in-Some.is torn c.name_of-name.ensures (inr (c.in_ok-cut.ensures.shorter tells))
    (subst IsConsistent (sym c.self.view_is) (c.requires tells)))).synced
    (subst IsSyncedIfSealed (sym c.self.view_is) was)

pub returns-clause-consistent : goal.returns-clause-consistent
returns-clause-consistent g c = λ tells. let torn : c.in-Some.active.torn ≡ true =
    grind (arith, c.if-not-active.false) in
    (subst (λ x. Goes (known_of c.self.inside.catalog) (g.D.Disk.shown c.self.inside.disk).told x
    (g.D.Disk.shown c.sync.new.self).told) (sym c.mend.ensures)
    (after_repair (known_of c.self.inside.catalog) c.in-Some.active c.name_of-name.result
    (g.D.Disk.shown c.self.inside.disk).told (g.D.Disk.shown c.cut.new.self).told (g.D.Disk.shown c.sync.new.self).told
    c.in-Some.is torn c.name_of-name.ensures (c.in_ok-cut.ensures.shorter tells)
    (c.in_ok-sync.ensures.synced tells)
    (subst IsConsistent (sym c.self.view_is) (c.requires tells)))).consistent

pub returns-clause-scratch : goal.returns-clause-scratch
returns-clause-scratch g c = λ tells was. let torn : c.in-Some.active.torn ≡ true =
    grind (arith, c.if-not-active.false) in
    (subst (λ x. Goes (known_of c.self.inside.catalog) (g.D.Disk.shown c.self.inside.disk).told x
    (g.D.Disk.shown c.sync.new.self).told) (sym c.mend.ensures)
    (after_repair (known_of c.self.inside.catalog) c.in-Some.active c.name_of-name.result
    (g.D.Disk.shown c.self.inside.disk).told (g.D.Disk.shown c.cut.new.self).told (g.D.Disk.shown c.sync.new.self).told
    c.in-Some.is torn c.name_of-name.ensures (c.in_ok-cut.ensures.shorter tells)
    (c.in_ok-sync.ensures.synced tells)
    (subst IsConsistent (sym c.self.view_is) (c.requires tells)))).scratch
    (subst IsFromScratch (sym c.self.view_is) was)

pub returns-clause-synced : goal.returns-clause-synced
returns-clause-synced g c = λ tells was. let torn : c.in-Some.active.torn ≡ true =
    grind (arith, c.if-not-active.false) in
    (subst (λ x. Goes (known_of c.self.inside.catalog) (g.D.Disk.shown c.self.inside.disk).told x
    (g.D.Disk.shown c.sync.new.self).told) (sym c.mend.ensures)
    (after_repair (known_of c.self.inside.catalog) c.in-Some.active c.name_of-name.result
    (g.D.Disk.shown c.self.inside.disk).told (g.D.Disk.shown c.cut.new.self).told (g.D.Disk.shown c.sync.new.self).told
    c.in-Some.is torn c.name_of-name.ensures (c.in_ok-cut.ensures.shorter tells)
    (c.in_ok-sync.ensures.synced tells)
    (subst IsConsistent (sym c.self.view_is) (c.requires tells)))).synced
    (subst IsSyncedIfSealed (sym c.self.view_is) was)

pub sync-requires : goal.sync-requires
sync-requires g c =
    λ tells. ours_after_cut (known_of c.self.inside.catalog) c.in-Some.active c.name_of-name.result
    (g.D.Disk.shown c.self.inside.disk).told (g.D.Disk.shown c.cut.new.self).told
    c.in-Some.is c.name_of-name.ensures (c.in_ok-cut.ensures.shorter tells)
    (subst IsConsistent (sym c.self.view_is) (c.requires tells))
