use Rattle.std.proofs.Common.{◌≡◌, ◌<◌, ◌∙◌, ◌++◌, ◌∷◌, [], ap, sym, subst, take, arith, append-nil}
use Rattle.std.proofs.lemmas.Grind.{common_steps}
use Rattle.bk_base.specs.Bounds.{AreBytes}
use Rattle.bk_memdisk.specs.Crash.{all_flipped}
use Rattle.bk_base.proofs.Bytes.{AreBytes-take}
use Rattle.bk_memdisk.proofs.Left
use Rattle.bk_memdisk.proofs.choices.left.Goals as goal

pub loop-offset-init : goal.loop-offset-init
loop-offset-init c =
    let start : c.in_ok-left.left.items ≡ take c.args.synced c.args.bytes.now = grind (arith, common_steps) in
    let small : AreBytes c.args.bytes.now = λ i. omega (arith, c.type_inv.bytes i) in (
      start ∙ sym (append-nil (take c.args.synced c.args.bytes.now)),
      subst AreBytes (sym start) (AreBytes-take c.args.synced c.args.bytes.now small),
    )

pub loop-offset-preserved : goal.loop-offset-preserved
loop-offset-preserved c =
    let byte = rw c.deref.ensures.value at c.flip.ensures in
    let small : c.flip.result < 256 = omega arith in (
      c.in_ok-push.ensures.items
          ∙ ap (λ bs. bs ++ c.flip.result ∷ []) c.loop-offset.invariant.0
          ∙ ap (λ b. take c.args.synced c.args.bytes.now ++ all_flipped c.args.choice.now.flips.items 0
          (take c.loop-offset.offset c.kept-part.result.now) ++ b ∷ []) byte
          ∙ sym (Left.left_more c.args.choice.now.flips.items (take c.args.synced c.args.bytes.now)
          c.kept-part.result.now c.loop-offset.offset 0 c.loop-offset-test.true),
      subst AreBytes (sym c.in_ok-push.ensures.items)
          (Left.bytes_push c.loop-offset.left.items c.flip.result c.loop-offset.invariant.1 small),
    )
