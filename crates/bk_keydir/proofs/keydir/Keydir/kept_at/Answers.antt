use Rattle.std.proofs.Common.{◌≡◌, Some, slice_get, sym, ap, ◌∙◌}
use Rattle.std.specs.Option.{option_map}
use Rattle.std.specs.Map.Iter.{deref_pair}
use Rattle.bk_keydir.proofs.KeptLemmas.{chain_at, versions_at-none, versions_at-shown}
use Rattle.bk_keydir.proofs.keydir.Keydir.kept_at.Goals as goal

pub returns-in-Some-clause-versions : goal.returns-in-Some-clause-versions
returns-in-Some-clause-versions c =
    let es = c.self.inside.keys.entries in
    let at : slice_get es c.args.place ≡ Some (c.in-Some.field-0-0.now, c.in-Some.kept.now) =
    sym c.get_index.ensures.entry ∙ ap (λ o. option_map deref_pair o) c.in-Some.is in
    rw (← c.self.view_is) (versions_at-shown c.args.place es (c.in-Some.field-0-0.now, c.in-Some.kept.now) at).0

pub returns-in-Some-clause-chain : goal.returns-in-Some-clause-chain
returns-in-Some-clause-chain c =
    let es = c.self.inside.keys.entries in
    let at : slice_get es c.args.place ≡ Some (c.in-Some.field-0-0.now, c.in-Some.kept.now) =
    sym c.get_index.ensures.entry ∙ ap (λ o. option_map deref_pair o) c.in-Some.is in
    chain_at c.args.place es (c.in-Some.field-0-0.now, c.in-Some.kept.now) c.self.invariant.0 at

pub returns-in-None-clause-versions : goal.returns-in-None-clause-versions
returns-in-None-clause-versions c =
    let es = c.self.inside.keys.entries in
    rw (← c.self.view_is)
    (versions_at-none c.args.place es (sym c.get_index.ensures.entry ∙ ap (λ o. option_map deref_pair o) c.in-None.is))
