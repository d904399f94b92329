use Rattle.std.proofs.Common.{◌≡◌, ◌∷◌, Err, ap, sym, refl, ◌∙◌, arith}
use Rattle.std.specs.Prelude.{string_bytes}
use Rattle.std.proofs.lemmas.Grind.{common_steps}
use Rattle.std.proofs.lemmas.Result.{err_from_is_err_and}
use Rattle.toml.specs.View.{view}
use Rattle.toml.proofs.Views.{Entry}
use Rattle.bk_policy.specs.Reading.{after_member}
use Rattle.bk_policy.proofs.settings.Settings.of_table.Goals as goal

pub returns-in_err-take : goal.returns-in_err-take
returns-in_err-take c =
    let (can, finite, same) = c.members.invariant in
    let p = err_from_is_err_and c.from_residual.result c.from_residual.ensures.1 in
    let e : Entry = (c.in-Some.key.now, c.in-Some.value.now) in
    let iter : c.members.key-iterator ≡ e ∷ c.next.new.self = grind (arith, common_steps) in
    let refused : after_member c.members.settings (string_bytes e.0) (view e.1) ≡ Err c.in_err-take.field-0.0 =
    ap (λ k. after_member c.members.settings k (view e.1)) (sym c.as_str.ensures.value)
    ∙ c.in_err-take.ensures.refused in
    rw (p.1, p.2) (sym (rw (iter, refused) refl) ∙ same)
