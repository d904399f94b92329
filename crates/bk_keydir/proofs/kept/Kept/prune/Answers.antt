use Rattle.std.proofs.Common.{◌≡◌, None, Some, sym, ◌∙◌}
use Rattle.std.specs.List.{position}
use Rattle.bk_keydir.specs.Keydir.{is_unseen, older_of}
use Rattle.bk_keydir.specs.Kept.{IsChain}
use Rattle.bk_keydir.proofs.PruneLemmas.{one_left, pruned-none, pruned-some}
use Rattle.bk_keydir.proofs.kept.Kept.prune.Goals as goal

pub returns-in_err-place-clause-pruned : goal.returns-in_err-place-clause-pruned
returns-in_err-place-clause-pruned c =
    let vs = c.in-Several.versions.items in
    let chain : IsChain vs = rw c.in-Several.is at c.requires in
    let at : position (is_unseen c.args.slots.now vs) (older_of vs) ≡ None =
    rw c.deref.ensures.value at (sym c.first_unseen.ensures) ∙ c.in_err-place.was in
    rw (c.from_residual.ensures, c.in-Several.is) (pruned-none c.args.slots.now vs chain at).0

pub returns-in_err-place-clause-versions : goal.returns-in_err-place-clause-versions
returns-in_err-place-clause-versions c =
    let vs = c.in-Several.versions.items in
    let chain : IsChain vs = rw c.in-Several.is at c.requires in
    let at : position (is_unseen c.args.slots.now vs) (older_of vs) ≡ None =
    rw c.deref.ensures.value at (sym c.first_unseen.ensures) ∙ c.in_err-place.was in
    rw c.in-Several.is (pruned-none c.args.slots.now vs chain at).1

pub returns-then-len-eq1-clause-pruned : goal.returns-then-len-eq1-clause-pruned
returns-then-len-eq1-clause-pruned c =
    let vs = c.in-Several.versions.items in
    let chain : IsChain vs = rw c.in-Several.is at c.requires in
    let at : position (is_unseen c.args.slots.now vs) (older_of vs) ≡ Some c.in_ok-place.place =
    rw c.deref.ensures.value at (sym c.first_unseen.ensures) ∙ c.in_ok-place.was in
    rw c.in-Several.is
    (pruned-some c.args.slots.now vs c.in_ok-place.place c.remove-version.result chain at c.remove-version.ensures.value).0

pub returns-then-len-eq1-clause-versions : goal.returns-then-len-eq1-clause-versions
returns-then-len-eq1-clause-versions c =
    let vs = c.in-Several.versions.items in
    let chain : IsChain vs = rw c.in-Several.is at c.requires in
    let at : position (is_unseen c.args.slots.now vs) (older_of vs) ≡ Some c.in_ok-place.place =
    rw c.deref.ensures.value at (sym c.first_unseen.ensures) ∙ c.in_ok-place.was in
    let left = (pruned-some c.args.slots.now vs c.in_ok-place.place c.remove-version.result chain at c.remove-version.ensures.value).1 in
    rw c.in-Several.is
    (c.one.ensures ∙ one_left c.remove-version.new.self.items c.index.result.now (sym c.remove-version.new.self.ok.0 ∙ sym c.len.ensures ∙ c.if-len-eq1.true)
    c.index.ensures
    ∙ c.remove-version.ensures.items ∙ left)

pub returns-else-len-eq1-clause-pruned : goal.returns-else-len-eq1-clause-pruned
returns-else-len-eq1-clause-pruned c =
    let vs = c.in-Several.versions.items in
    let chain : IsChain vs = rw c.in-Several.is at c.requires in
    let at : position (is_unseen c.args.slots.now vs) (older_of vs) ≡ Some c.in_ok-place.place =
    rw c.deref.ensures.value at (sym c.first_unseen.ensures) ∙ c.in_ok-place.was in
    rw c.in-Several.is
    (pruned-some c.args.slots.now vs c.in_ok-place.place c.remove-version.result chain at c.remove-version.ensures.value).0

pub returns-else-len-eq1-clause-versions : goal.returns-else-len-eq1-clause-versions
returns-else-len-eq1-clause-versions c =
    let vs = c.in-Several.versions.items in
    let chain : IsChain vs = rw c.in-Several.is at c.requires in
    let at : position (is_unseen c.args.slots.now vs) (older_of vs) ≡ Some c.in_ok-place.place =
    rw c.deref.ensures.value at (sym c.first_unseen.ensures) ∙ c.in_ok-place.was in
    rw c.in-Several.is (c.remove-version.ensures.items
    ∙ (pruned-some c.args.slots.now vs c.in_ok-place.place c.remove-version.result chain at c.remove-version.ensures.value).1)
