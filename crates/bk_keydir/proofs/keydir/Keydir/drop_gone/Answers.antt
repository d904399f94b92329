use Rattle.std.proofs.Common.{◌≡◌, List, rules, not, filter, ℕ}
use Rattle.indexmap.proofs.CallerLemmas.{filter-RetainsPairs}
use Rattle.bk_keydir.specs.declared.kept.Kept.{Kept}
use Rattle.bk_keydir.specs.Keydir.{is_lone_gone}
use Rattle.bk_keydir.specs.Kept.{all_shown, versions_in}
use Rattle.bk_keydir.proofs.CountLemmas.{gone_same}
use Rattle.bk_keydir.proofs.KeptLemmas.{chains-without_gone, shown-filter}
use Rattle.bk_keydir.proofs.keydir.Keydir.drop_gone.Goals as goal

pub invariant_of-self : goal.invariant_of-self
invariant_of-self c =
    let es = c.self.inside.keys.entries in
    let kept : c.retain.new.self.entries ≡ filter (λ (e : List ℕ × Kept). not (is_lone_gone (versions_in e.1))) es =
    filter-RetainsPairs _ (λ (e : List ℕ × Kept). not (is_lone_gone (versions_in e.1))) _
    (λ k v b w g call. search rules) es _ c.retain.ensures.filtered in
    (rw (kept, shown-filter es) (chains-without_gone (all_shown es) c.self.invariant.0), c.self.invariant.1)

pub returns-clause-entries : goal.returns-clause-entries
returns-clause-entries c =
    let es = c.self.inside.keys.entries in
    let kept : c.retain.new.self.entries ≡ filter (λ (e : List ℕ × Kept). not (is_lone_gone (versions_in e.1))) es =
    filter-RetainsPairs _ (λ (e : List ℕ × Kept). not (is_lone_gone (versions_in e.1))) _
    (λ k v b w g call. search rules) es _ c.retain.ensures.filtered in
    rw (kept, ← c.self.view_is) (shown-filter es)

pub returns-clause-counts : goal.returns-clause-counts
returns-clause-counts c =
    let es = c.self.inside.keys.entries in
    let kept : c.retain.new.self.entries ≡ filter (λ (e : List ℕ × Kept). not (is_lone_gone (versions_in e.1))) es =
    filter-RetainsPairs _ (λ (e : List ℕ × Kept). not (is_lone_gone (versions_in e.1))) _
    (λ k v b w g call. search rules) es _ c.retain.ensures.filtered in
    rw (kept, shown-filter es, ← c.self.view_is) (gone_same (all_shown es))
