use Rattle.std.proofs.Common.{◌≡◌, false, true, sym, ◌∙◌, refl, is_some}
use Rattle.std.specs.List.{IsDistinct}
use Rattle.std.specs.Map.{keys_of, lookup}
use Rattle.std.specs.Str.{bytes_eq}
use Rattle.indexmap.specs.Layout.{set_value_at}
use Rattle.bk_base.proofs.Places.{found}
use Rattle.bk_keydir.specs.Keydir.{edited, is_put_of, moved, versions_of}
use Rattle.bk_keydir.specs.Kept.{all_shown, versions_in}
use Rattle.bk_keydir.proofs.CountLemmas.{move_counts}
use Rattle.bk_keydir.proofs.FoldLemmas.{moved_to}
use Rattle.bk_keydir.proofs.KeptLemmas.{chain-moved, chains-edited, edited-same, found_first, keys_of-shown, versions_of-absent, written_first}
use Rattle.bk_keydir.proofs.keydir.Keydir.move_if.Goals as goal

pub returns-in_default-clause-moved : goal.returns-in_default-clause-moved
returns-in_default-clause-moved c =
    let none : false ≡ is_some (lookup (bytes_eq c.args.key.now) c.self.inside.keys.entries) = c.in_default.ensures.found in
    rw (← c.self.view_is, versions_of-absent c.args.key.now c.self.inside.keys.entries none) refl

pub returns-in_default-clause-entries : goal.returns-in_default-clause-entries
returns-in_default-clause-entries c =
    let es = c.self.inside.keys.entries in
    let none : false ≡ is_some (lookup (bytes_eq c.args.key.now) es) = c.in_default.ensures.found in
    let no_put : is_put_of c.args.seq.0 (versions_of c.args.key.now (all_shown es)) ≡ false =
    rw (versions_of-absent c.args.key.now es none) refl in
    rw (← c.self.view_is, edited-same c.args.key.now c.args.seq.0 c.args.to c.args.at (all_shown es) no_put) refl

-- the entries after the write, and the versions that the key had
entries_after : (c : goal.After-self-1)
    → all_shown (set_value_at c.self.inside.keys.entries c.in-Some.place c.move_if.new.self)
    ≡ edited c.args.key.now (moved c.args.seq.0 c.args.to c.args.at) (all_shown c.self.inside.keys.entries)
entries_after c =
    let es = c.self.inside.keys.entries in
    let pair = c.pair_mut-kept.result in
    written_first c.args.key.now (moved c.args.seq.0 c.args.to c.args.at) c.move_if.new.self es c.in-Some.place (pair.0.now, pair.1.now)
    (found (bytes_eq c.args.key.now) (keys_of es) c.in-Some.place (sym c.get_index_of.ensures.index ∙ c.in-Some.is))
    c.pair_mut-kept.ensures.value c.move_if.ensures.versions

versions_before : (c : goal.After-self-1)
    → versions_of c.args.key.now (all_shown c.self.inside.keys.entries) ≡ versions_in c.pair_mut-kept.result.1.now
versions_before c =
    let es = c.self.inside.keys.entries in
    let pair = c.pair_mut-kept.result in
    found_first c.args.key.now es c.in-Some.place (pair.0.now, pair.1.now)
    (found (bytes_eq c.args.key.now) (keys_of es) c.in-Some.place (sym c.get_index_of.ensures.index ∙ c.in-Some.is))
    c.pair_mut-kept.ensures.value

pub invariant_of-self : goal.invariant_of-self
invariant_of-self c =
    let f = moved c.args.seq.0 c.args.to c.args.at in (
      rw (entries_after c) (chains-edited c.args.key.now f (chain-moved c.args.seq.0 c.args.to c.args.at)
          (all_shown c.self.inside.keys.entries) c.self.invariant.0),
      c.self.invariant.1,
    )

pub returns-clause-moved : goal.returns-clause-moved
returns-clause-moved c = rw (← c.self.view_is, versions_before c) c.move_if.ensures.moved

pub returns-clause-entries : goal.returns-clause-entries
returns-clause-entries c = rw (← c.self.view_is, entries_after c) refl

pub returns-clause-nothing : goal.returns-clause-nothing
returns-clause-nothing c = λ no.
    let es = c.self.inside.keys.entries in
    let no_put : is_put_of c.args.seq.0 (versions_of c.args.key.now (all_shown es)) ≡ false =
    rw (versions_before c) (sym c.move_if.ensures.moved ∙ no) in
    let same = edited-same c.args.key.now c.args.seq.0 c.args.to c.args.at (all_shown es) no_put in
    rw (← c.self.view_is, entries_after c, same) refl

pub returns-clause-folds : goal.returns-clause-folds
returns-clause-folds c = λ so s o.
    let es = c.self.inside.keys.entries in
    let distinct : IsDistinct bytes_eq (keys_of (all_shown es)) = rw (keys_of-shown es) c.get_index_of.ensures.unique in
    let put : is_put_of c.args.seq.0 (versions_of c.args.key.now (all_shown es)) ≡ true =
    rw (versions_before c) (sym c.move_if.ensures.moved ∙ so) in
    rw (← c.self.view_is, entries_after c)
    (moved_to c.args.key.now c.args.seq.0 c.args.to c.args.at s (all_shown es) c.self.invariant.0 distinct put)

pub returns-clause-counts : goal.returns-clause-counts
returns-clause-counts c = λ so.
    let es = c.self.inside.keys.entries in
    let put : is_put_of c.args.seq.0 (versions_of c.args.key.now (all_shown es)) ≡ true =
    rw (versions_before c) (sym c.move_if.ensures.moved ∙ so) in
    rw (← c.self.view_is, entries_after c) (move_counts c.args.key.now c.args.seq.0 c.args.to c.args.at (all_shown es) put)
