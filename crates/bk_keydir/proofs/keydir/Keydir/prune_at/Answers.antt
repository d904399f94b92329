use Rattle.std.proofs.Common.{◌≡◌, sym, ap, ◌∙◌, refl}
use Rattle.bk_keydir.specs.Keydir.{Shown, left_by_prune, pruned}
use Rattle.bk_keydir.specs.Kept.{all_shown}
use Rattle.bk_keydir.proofs.CallLemmas.{counts_prune, keeps_prune}
use Rattle.bk_keydir.proofs.KeptLemmas.{chain-left, chain_at, chains-edited_at, edited_at-same, shown-written_at, versions_at-shown}
use Rattle.bk_keydir.proofs.keydir.Keydir.prune_at.Goals as goal

pub prune-requires : goal.prune-requires
prune-requires c =
    let pair = c.pair_mut-kept.result in
    chain_at c.args.position c.self.inside.keys.entries (pair.0.now, pair.1.now) c.self.invariant.0 c.pair_mut-kept.ensures.value

pub invariant_of-self : goal.invariant_of-self
invariant_of-self c =
    let pair = c.pair_mut-kept.result in
    let es = c.self.inside.keys.entries in
    let slots = c.self.inside.slots in
    let is = shown-written_at c.args.position (left_by_prune slots) c.prune.new.self es (pair.0.now, pair.1.now)
    c.pair_mut-kept.ensures.value c.prune.ensures.versions in
    (rw is (chains-edited_at c.args.position (left_by_prune slots) (chain-left slots) (all_shown es) c.self.invariant.0), c.self.invariant.1)

pub returns-clause-pruned : goal.returns-clause-pruned
returns-clause-pruned c =
    let pair = c.pair_mut-kept.result in
    let es = c.self.inside.keys.entries in
    let shows = (versions_at-shown c.args.position es (pair.0.now, pair.1.now) c.pair_mut-kept.ensures.value).0 in
    rw (← c.self.view_is, shows) c.prune.ensures.pruned

pub returns-clause-entries : goal.returns-clause-entries
returns-clause-entries c =
    let pair = c.pair_mut-kept.result in
    let es = c.self.inside.keys.entries in
    let slots = c.self.inside.slots in
    let is = shown-written_at c.args.position (left_by_prune slots) c.prune.new.self es (pair.0.now, pair.1.now)
    c.pair_mut-kept.ensures.value c.prune.ensures.versions in
    rw (← c.self.view_is, is) refl

pub returns-clause-nothing : goal.returns-clause-nothing
returns-clause-nothing c = λ none.
    let pair = c.pair_mut-kept.result in
    let es = c.self.inside.keys.entries in
    let slots = c.self.inside.slots in
    let is = shown-written_at c.args.position (left_by_prune slots) c.prune.new.self es (pair.0.now, pair.1.now)
    c.pair_mut-kept.ensures.value c.prune.ensures.versions in
    let shows = (versions_at-shown c.args.position es (pair.0.now, pair.1.now) c.pair_mut-kept.ensures.value).0 in
    let same = edited_at-same slots c.args.position (all_shown es)
    (ap (λ vs. pruned slots vs) shows ∙ sym c.prune.ensures.pruned ∙ none) in
    rw (← c.self.view_is, is, same) refl

pub returns-clause-folds : goal.returns-clause-folds
returns-clause-folds c =
    let pair = c.pair_mut-kept.result in
    let es = c.self.inside.keys.entries in
    let slots = c.self.inside.slots in
    let is = shown-written_at c.args.position (left_by_prune slots) c.prune.new.self es (pair.0.now, pair.1.now)
    c.pair_mut-kept.ensures.value c.prune.ensures.versions in
    rw (← c.self.view_is) (keeps_prune c.args.position _ _ refl is)

pub returns-clause-counts : goal.returns-clause-counts
returns-clause-counts c =
    let pair = c.pair_mut-kept.result in
    let es = c.self.inside.keys.entries in
    let slots = c.self.inside.slots in
    let d = c.args.self.now in
    let is = shown-written_at c.args.position (left_by_prune slots) c.prune.new.self es (pair.0.now, pair.1.now)
    c.pair_mut-kept.ensures.value c.prune.ensures.versions in
    let entries : all_shown es ≡ d.entries = ap (λ (x : Shown). x.entries) c.self.view_is in
    let same_slots : slots ≡ d.slots = ap (λ (x : Shown). x.slots) c.self.view_is in
    let shows = (versions_at-shown c.args.position es (pair.0.now, pair.1.now) c.pair_mut-kept.ensures.value).0 in
    counts_prune c.args.position d _ c.prune.result (rw (← c.self.view_is) is) (rw (← c.self.view_is, shows) c.prune.ensures.pruned)
