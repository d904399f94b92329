use Rattle.std.proofs.Common.{◌≡◌, ◌∙◌, ap, subst, sym}
use Rattle.bk_files.specs.Catalog.{Known, torn_of}
use Rattle.bk_files.specs.Files.{IsConsistent, IsConsistentWith, IsFromScratch, IsSyncedIfSealed, Seen, known_of}
use Rattle.bk_files.specs.Rows.{AreFromScratch, AreSyncedIfSealed}
use Rattle.bk_files.proofs.Standing.{IsSettled, after_begin, after_create, settled_is}
use Rattle.bk_files.proofs.files.Files.roll.Goals as goal

pub returns-in_err-create-clause-consistent : goal.returns-in_err-create-clause-consistent
returns-in_err-create-clause-consistent g c =
    λ tells. (after_create (known_of c.reserve.new.self) c.name_of.result
    (g.D.Disk.shown c.self-2.inside.disk).told (g.D.Disk.shown c.create.new.self).told
    (g.met.D.Disk.well c.self-2.inside.disk tells) c.name_of.ensures (c.in_err-create.ensures.err tells)
    (subst (λ x. IsConsistentWith x (g.D.Disk.shown c.self-2.inside.disk).told) (sym c.reserve.ensures.same)
    (subst IsConsistent (sym c.self-2.view_is) (c.settle.ensures.consistent tells)))).consistent

pub returns-in_err-create-clause-scratch : goal.returns-in_err-create-clause-scratch
returns-in_err-create-clause-scratch g c =
    λ tells was.
    (after_create (known_of c.reserve.new.self) c.name_of.result (g.D.Disk.shown c.self-2.inside.disk).told
    (g.D.Disk.shown c.create.new.self).told
    (g.met.D.Disk.well c.self-2.inside.disk tells) c.name_of.ensures (c.in_err-create.ensures.err tells)
    (subst (λ x. IsConsistentWith x (g.D.Disk.shown c.self-2.inside.disk).told) (sym c.reserve.ensures.same)
    (subst IsConsistent (sym c.self-2.view_is) (c.settle.ensures.consistent tells)))).scratch
    (subst (λ x. AreFromScratch x.rows (g.D.Disk.shown c.self-2.inside.disk).told) (sym c.reserve.ensures.same)
    (subst IsFromScratch (sym c.self-2.view_is) (c.settle.ensures.scratch tells was)))

pub returns-in_err-create-clause-synced : goal.returns-in_err-create-clause-synced
returns-in_err-create-clause-synced g c =
    λ tells was.
    (after_create (known_of c.reserve.new.self) c.name_of.result (g.D.Disk.shown c.self-2.inside.disk).told
    (g.D.Disk.shown c.create.new.self).told
    (g.met.D.Disk.well c.self-2.inside.disk tells) c.name_of.ensures (c.in_err-create.ensures.err tells)
    (subst (λ x. IsConsistentWith x (g.D.Disk.shown c.self-2.inside.disk).told) (sym c.reserve.ensures.same)
    (subst IsConsistent (sym c.self-2.view_is) (c.settle.ensures.consistent tells)))).synced
    (subst (λ x. AreSyncedIfSealed x.rows (g.D.Disk.shown c.self-2.inside.disk).told) (sym c.reserve.ensures.same)
    (subst IsSyncedIfSealed (sym c.self-2.view_is) (c.settle.ensures.synced tells was)))

pub returns-clause-consistent : goal.returns-clause-consistent
returns-clause-consistent g c = λ tells. let same : known_of c.reserve.new.self ≡ c.args.self.now.catalog =
    c.reserve.ensures.same ∙ ap (λ (s : Seen). s.catalog) c.self-2.view_is ∙ c.settle.ensures.catalog in
    let synced : IsSettled c.args.self.now.catalog.active c.settle.new.self.told =
    settled_is c.args.self.now.catalog.active c.args.self.now.catalog.last
    c.args.self.now.catalog.rows c.args.self.now.told
    c.settle.new.self.told (c.requires.consistent tells) (c.in_ok-settle.ensures.settled tells) in
    let settled : IsSettled (known_of c.reserve.new.self).active (g.D.Disk.shown c.self-2.inside.disk).told =
    subst (λ (x : Known). IsSettled x.active (g.D.Disk.shown c.self-2.inside.disk).told) (sym same)
    (subst (λ x. IsSettled c.args.self.now.catalog.active x)
    (sym (ap (λ (s : Seen). s.told) c.self-2.view_is)) synced) in
    (after_begin (known_of c.reserve.new.self) (known_of c.begin.new.self) c.name_of.result
    (g.D.Disk.shown c.self-2.inside.disk).told (g.D.Disk.shown c.create.new.self).told
    (g.met.D.Disk.well c.self-2.inside.disk tells)
    (ap (λ (x : Known). torn_of x.active) same ∙ c.requires.whole) settled c.name_of.ensures
    c.begin.ensures (c.in_ok-create.ensures.created tells)
    (subst (λ x. IsConsistentWith x (g.D.Disk.shown c.self-2.inside.disk).told) (sym c.reserve.ensures.same)
    (subst IsConsistent (sym c.self-2.view_is) (c.settle.ensures.consistent tells)))).consistent

pub returns-clause-scratch : goal.returns-clause-scratch
returns-clause-scratch g c = λ tells was. let same : known_of c.reserve.new.self ≡ c.args.self.now.catalog =
    c.reserve.ensures.same ∙ ap (λ (s : Seen). s.catalog) c.self-2.view_is ∙ c.settle.ensures.catalog in
    let synced : IsSettled c.args.self.now.catalog.active c.settle.new.self.told =
    settled_is c.args.self.now.catalog.active c.args.self.now.catalog.last
    c.args.self.now.catalog.rows c.args.self.now.told
    c.settle.new.self.told (c.requires.consistent tells) (c.in_ok-settle.ensures.settled tells) in
    let settled : IsSettled (known_of c.reserve.new.self).active (g.D.Disk.shown c.self-2.inside.disk).told =
    subst (λ (x : Known). IsSettled x.active (g.D.Disk.shown c.self-2.inside.disk).told) (sym same)
    (subst (λ x. IsSettled c.args.self.now.catalog.active x)
    (sym (ap (λ (s : Seen). s.told) c.self-2.view_is)) synced) in
    (after_begin (known_of c.reserve.new.self) (known_of c.begin.new.self) c.name_of.result
    (g.D.Disk.shown c.self-2.inside.disk).told (g.D.Disk.shown c.create.new.self).told
    (g.met.D.Disk.well c.self-2.inside.disk tells)
    (ap (λ (x : Known). torn_of x.active) same ∙ c.requires.whole) settled c.name_of.ensures
    c.begin.ensures (c.in_ok-create.ensures.created tells)
    (subst (λ x. IsConsistentWith x (g.D.Disk.shown c.self-2.inside.disk).told) (sym c.reserve.ensures.same)
    (subst IsConsistent (sym c.self-2.view_is) (c.settle.ensures.consistent tells)))).scratch
    (subst (λ x. AreFromScratch x.rows (g.D.Disk.shown c.self-2.inside.disk).told) (sym c.reserve.ensures.same)
    (subst IsFromScratch (sym c.self-2.view_is) (c.settle.ensures.scratch tells was)))

pub returns-clause-synced : goal.returns-clause-synced
returns-clause-synced g c = λ tells was. let same : known_of c.reserve.new.self ≡ c.args.self.now.catalog =
    c.reserve.ensures.same ∙ ap (λ (s : Seen). s.catalog) c.self-2.view_is ∙ c.settle.ensures.catalog in
    let synced : IsSettled c.args.self.now.catalog.active c.settle.new.self.told =
    settled_is c.args.self.now.catalog.active c.args.self.now.catalog.last
    c.args.self.now.catalog.rows c.args.self.now.told
    c.settle.new.self.told (c.requires.consistent tells) (c.in_ok-settle.ensures.settled tells) in
    let settled : IsSettled (known_of c.reserve.new.self).active (g.D.Disk.shown c.self-2.inside.disk).told =
    subst (λ (x : Known). IsSettled x.active (g.D.Disk.shown c.self-2.inside.disk).told) (sym same)
    (subst (λ x. IsSettled c.args.self.now.catalog.active x)
    (sym (ap (λ (s : Seen). s.told) c.self-2.view_is)) synced) in
    (after_begin (known_of c.reserve.new.self) (known_of c.begin.new.self) c.name_of.result
    (g.D.Disk.shown c.self-2.inside.disk).told (g.D.Disk.shown c.create.new.self).told
    (g.met.D.Disk.well c.self-2.inside.disk tells)
    (ap (λ (x : Known). torn_of x.active) same ∙ c.requires.whole) settled c.name_of.ensures
    c.begin.ensures (c.in_ok-create.ensures.created tells)
    (subst (λ x. IsConsistentWith x (g.D.Disk.shown c.self-2.inside.disk).told) (sym c.reserve.ensures.same)
    (subst IsConsistent (sym c.self-2.view_is) (c.settle.ensures.consistent tells)))).synced
    (subst (λ x. AreSyncedIfSealed x.rows (g.D.Disk.shown c.self-2.inside.disk).told) (sym c.reserve.ensures.same)
    (subst IsSyncedIfSealed (sym c.self-2.view_is) (c.settle.ensures.synced tells was)))
