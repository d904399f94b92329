use Rattle.std.proofs.Common.{◌≡◌, Some, slice_get, sym, ap, ◌∙◌}
use Rattle.std.specs.Option.{option_map}
use Rattle.std.specs.Map.Iter.{deref_pair}
use Rattle.bk_keydir.proofs.KeptLemmas.{versions_at-shown}
use Rattle.bk_keydir.proofs.keydir.Keydir.key_at.Goals as goal

pub returns : goal.returns
returns c =
    let es = c.self.inside.keys.entries in
    let pair = c.unwrap.result in
    let at : slice_get es c.args.position ≡ Some (pair.0.now, pair.1.now) =
    sym c.get_index.ensures.entry ∙ ap (λ o. option_map deref_pair o) c.unwrap.ensures in
    rw (← c.self.view_is) (versions_at-shown c.args.position es (pair.0.now, pair.1.now) at).1
