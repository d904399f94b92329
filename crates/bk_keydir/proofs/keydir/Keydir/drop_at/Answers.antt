use Rattle.std.proofs.Common.{◌≡◌, ◌<◌, true, length, sym, ap, ◌∙◌}
use Rattle.bk_keydir.specs.Keydir.{Shown, dropped_at, is_lone_gone, versions_at}
use Rattle.bk_keydir.specs.Kept.{all_shown}
use Rattle.bk_keydir.proofs.CountLemmas.{drop_counts}
use Rattle.bk_keydir.proofs.KeptLemmas.{chains-dropped_at}
use Rattle.bk_keydir.proofs.keydir.Keydir.drop_at.Goals as goal

pub invariant_of-self : goal.invariant_of-self
invariant_of-self c =
    let es = c.self.inside.keys.entries in
    let entries : all_shown es ≡ c.args.self.now.entries = ap (λ (x : Shown). x.entries) c.self.view_is in
    let low : c.args.position < length (all_shown es) = rw entries c.requires in
    (rw c.drop_entry.ensures.entries (chains-dropped_at c.args.position (all_shown es) low c.self.invariant.0), c.self.invariant.1)

pub returns-then-can_drop-clause-entries : goal.returns-then-can_drop-clause-entries
returns-then-can_drop-clause-entries c = rw (c.if-can_drop.true, ← c.self.view_is) c.drop_entry.ensures.entries

pub returns-then-can_drop-clause-counts : goal.returns-then-can_drop-clause-counts
returns-then-can_drop-clause-counts c =
    let d = c.args.self.now in
    let gone : is_lone_gone (versions_at c.args.position d.entries) ≡ true =
    sym c.is_lone_gone-can_drop.ensures ∙ c.if-can_drop.true in
    let is : all_shown c.drop_entry.new.keys.entries ≡ dropped_at c.args.position d.entries =
    rw (← c.self.view_is) c.drop_entry.ensures.entries in
    rw is (drop_counts c.args.position d.entries c.requires gone)
