use Rattle.std.proofs.Common.{◌∙◌, refl, sym}
use Rattle.std.proofs.lemmas.Bool.{true≢false}
use Rattle.bk_load.proofs.Listings.{listed_at, not_listed, not_listed_more}
use Rattle.bk_load.proofs.settling.has_name.Goals as goal

pub loop-file-init : goal.loop-file-init
loop-file-init c = λ listed. listed.1

pub returns-then-is_named : goal.returns-then-is_named
returns-then-is_named c =
    (λ _. listed_at _ _ _ _ c.loop-file-test.true (sym c.is_named.ensures ∙ c.if-is_named.true), λ _. refl)

pub loop-file-preserved : goal.loop-file-preserved
loop-file-preserved c =
    not_listed_more _ _ _ _ c.loop-file-test.true (sym c.is_named.ensures ∙ c.if-is_named.false) c.loop-file.invariant

pub returns : goal.returns
returns c = (
  λ is. absurd (true≢false (sym is)),
  λ listed. absurd (not_listed _ _ _ c.loop-file-test.false c.loop-file.invariant listed),
)
