use Rattle.std.proofs.Common.{◌≡◌, ℕ, ◌<◌, List, [], ◌∷◌, length, drop, Err, refl, sym, ◌∙◌, arith, length-drop}
use Rattle.bk_wire.specs.declared.stops.Stop.TheVariants.{Short}
use Rattle.bk_wire.specs.Reading.{literal_at}
use Rattle.bk_wire.proofs.fields.literal.Goals as goal

-- no byte is left, and some of the text is
nothing_left : (text bytes : List ℕ) → 0 < length text → length bytes ≡ 0 → literal_at text bytes ≡ Err Short
unfolding literal_at
nothing_left [] bytes some none = absurd (omega arith)
nothing_left (c ∷ text) [] some none = refl
nothing_left (c ∷ text) (b ∷ bytes) some none = absurd (omega arith)

pub returns-in_default : goal.returns-in_default
returns-in_default c =
    let text = c.args.text.now in
    let some : 0 < length (drop c.loop-expected.expected-index text) =
    omega (arith, length-drop c.loop-expected.expected-index text) in
    sym c.loop-expected.invariant ∙ nothing_left _ _ some (omega (arith, c.in_default.ensures.cases))
