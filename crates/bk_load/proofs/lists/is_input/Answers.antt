use Rattle.std.proofs.Common.{◌≡◌, ◌∙◌, List, refl, sym, subst, arith, inl, inr}
use Rattle.std.proofs.Common.{eq-eqb}
use Rattle.std.proofs.lemmas.Bool.{eqb-true, true≢false}
use Rattle.std.proofs.lemmas.List.{take_all}
use Rattle.std.proofs.Common.{ℕ}
use Rattle.bk_base.specs.declared.numbers.FileId.{FileId}
use Rattle.bk_image.specs.Readings.{In}
use Rattle.bk_load.specs.declared.lists.Standing.{Standing}
use Rattle.bk_load.specs.Lists.{IsInputOf}
use Rattle.bk_swap.specs.Lists.{numbers}
use Rattle.bk_load.proofs.Items.{in_get, in_more, in_numbers, numbers_place}
use Rattle.bk_load.proofs.lists.is_input.Goals as goal

pub loop-standing-init : goal.loop-standing-init
loop-standing-init c = λ input. input.1

pub returns-then-contains : goal.returns-then-contains
returns-then-contains c =
    let found = c.if-contains.ensures.cases in
    let d : FileId = record { 0 = 0 } in
    let item : In c.standing-item.result c.args.lists.now =
    subst (λ (x : Standing). In x c.args.lists.now) (sym c.standing-item.is)
    (in_get c.args.lists.now c.loop-standing.standing-index c.standing-item.result c.loop-standing-test.true) in
    let id : In c.args.file.0 (numbers c.deref.result.now) =
    subst (λ (n : ℕ). In n (numbers c.deref.result.now)) (eqb-true _ _ (found.2 d)) (in_numbers c.deref.result.now found.0 d found.1) in (
      λ _. (c.standing-item.result, item, subst (λ (xs : List FileId). In c.args.file.0 (numbers xs)) c.deref.ensures.value id),
      λ _. refl,
    )

pub loop-standing-preserved : goal.loop-standing-preserved
loop-standing-preserved c = λ (x, is_in, ids).
    elim (in_more x c.args.lists.now c.loop-standing.standing-index c.standing-item.result c.loop-standing-test.true is_in) [
      | inl before ↦ c.loop-standing.invariant (x, before, ids)
      | inr here ↦
          let d : FileId = record { 0 = 0 } in
          let same : x ≡ c.standing-item.result = here ∙ sym c.standing-item.is in
          let there : In c.args.file.0 (numbers c.deref.result.now) =
          subst (λ (xs : List FileId). In c.args.file.0 (numbers xs)) (sym c.deref.ensures.value)
          (subst (λ (y : Standing). In c.args.file.0 (numbers y.list.inputs.items)) same ids) in
          let (k, low, is) = numbers_place c.deref.result.now c.args.file.0 d there in
          true≢false (sym (eq-eqb _ _ is) ∙ c.if-contains.ensures.cases k d (omega arith) low)
    ]

pub returns : goal.returns
returns c = (
  λ is. absurd (true≢false (sym is)),
  λ input. absurd (c.loop-standing.invariant
      (subst (λ (xs : List Standing). IsInputOf xs c.args.file.0)
      (sym (take_all c.loop-standing.standing-index c.args.lists.now c.loop-standing-test.false)) input)),
)
