use Rattle.std.proofs.Common.{◌+◌, ◌∷◌, [], subst, sym, ◌∙◌}
use Rattle.std.proofs.lemmas.Bool.{true≢false}
use Rattle.bk_load.specs.Learning.{AreFit, KeepsWithin, Known, Learns}
use Rattle.bk_load.proofs.Learned.{fit_newer, fit_older, learn_newer, learn_older}
use Rattle.bk_load.proofs.Places.{within_none, within_put}
use Rattle.bk_load.proofs.learning.Learned.learn.Goals as goal
use Rattle.bk_load.proofs.learning.Learned.learn.Goals.{then-is_newer+in_ok-ready, else-is_newer}

pub returns-clause-learns : goal.returns-clause-learns
returns-clause-learns c = elim c.if-is_newer.branch [
  | then-is_newer+in_ok-ready w ↦ rw w.self-inside-is
      (subst (λ (k : Known). Learns ((c.args.key, c.args.version) ∷ []) k.keys.entries w.put_version-earlier.new.self.entries) c.self.view_is
      (learn_newer c.self.inside.keydir w.ready.new.self c.args.key c.args.version _ _ w.put_version-earlier.new.self.entries
      w.ready.ensures.same w.put_version-earlier.ensures.entries (c.is_newer.ensures.0 w.if-is_newer.true)))
  | else-is_newer w ↦ rw w.self-inside-is
      (subst (λ (k : Known). Learns ((c.args.key, c.args.version) ∷ []) k.keys.entries c.self.inside.keydir.entries) c.self.view_is
      (learn_older c.self.inside.keydir c.args.key c.args.version c.self.invariant.0
      (λ newer. true≢false (sym (c.is_newer.ensures.1 newer) ∙ w.if-is_newer.false))))
]

pub returns-clause-fit : goal.returns-clause-fit
returns-clause-fit c = λ fit. elim c.if-is_newer.branch [
  | then-is_newer+in_ok-ready w ↦ rw (c.max.ensures, w.self-inside-is)
      (fit_newer c.self.inside.keydir w.ready.new.self w.put_version-earlier.new.self c.self.inside.last.0 c.args.key c.args.version _ _
      w.ready.ensures.same w.put_version-earlier.ensures.entries c.self.invariant.0 c.requires
      (subst AreFit (sym c.self.view_is) fit))
  | else-is_newer w ↦ rw (c.max.ensures, w.self-inside-is)
      (fit_older c.self.inside.keydir c.self.inside.last.0 c.args.key c.args.version c.requires
      (subst AreFit (sym c.self.view_is) fit))
]

pub returns-clause-kept : goal.returns-clause-kept
returns-clause-kept c = elim c.if-is_newer.branch [
  | then-is_newer+in_ok-ready w ↦ rw w.self-inside-is
      (subst (λ (k : Known). KeepsWithin c.args.version.file (c.args.version.at + c.args.version.size) k.keys.entries
      w.put_version-earlier.new.self.entries) c.self.view_is
      (within_put c.self.inside.keydir w.ready.new.self c.args.key c.args.version _ _ w.put_version-earlier.new.self.entries
      w.ready.ensures.same w.put_version-earlier.ensures.entries))
  | else-is_newer w ↦ rw w.self-inside-is
      (subst (λ (k : Known). KeepsWithin c.args.version.file (c.args.version.at + c.args.version.size) k.keys.entries
      c.self.inside.keydir.entries) c.self.view_is
      (within_none c.args.version.file (c.args.version.at + c.args.version.size) c.self.inside.keydir.entries))
]
