use Rattle.std.proofs.Common.{◌≡◌, ◌<◌, ◌∷◌, [], None, Some, cond, true, length, sym, ap, ◌∙◌, refl}
use Rattle.std.specs.List.{position_or_len}
use Rattle.std.specs.Map.{keys_of, lookup}
use Rattle.std.specs.Str.{bytes_eq}
use Rattle.indexmap.specs.IndexMap.{insert_entry, spare}
use Rattle.indexmap.specs.Layout.{set_value_at}
use Rattle.bk_keydir.specs.Keydir.{HasRoomFor, IsNewerThan, Shown, keeps_newest, older_of, put_over, replaced, versions_of, with_version}
use Rattle.bk_keydir.specs.Kept.{all_shown, room_in, versions_if, versions_in}
use Rattle.bk_keydir.specs.Slots.{reaches}
use Rattle.bk_keydir.proofs.CallLemmas.{counts_put, keeps_put, ok_unless}
use Rattle.bk_keydir.proofs.KeptLemmas.{chain_found, chains-with_version, shown-inserted, shown-inserted_new, versions_of-shown}
use Rattle.bk_keydir.proofs.RoomLemmas.{keeps-reached, room_reached}
use Rattle.bk_keydir.proofs.keydir.Keydir.put_version.Goals as goal

pub unwrap-place-requires : goal.unwrap-place-requires
unwrap-place-requires c =
    let es = c.self.inside.keys.entries in
    let d = c.args.self.now in
    let entries : d.entries ≡ all_shown es = sym (ap (λ (x : Shown). x.entries) c.self.view_is) in
    let room : d.spare ≡ spare c.self.inside.keys = sym (ap (λ (x : Shown). x.spare) c.self.view_is) in
    ok_unless c.insert_full-inserted.result (lookup (bytes_eq c.args.key) es) (λ none.
    let absent : versions_of c.args.key d.entries ≡ [] =
    ap (λ ys. versions_of c.args.key ys) entries ∙ versions_of-shown c.args.key es ∙ ap versions_if none in
    let has : HasRoomFor d [] = rw absent at c.requires.room in
    c.insert_full-inserted.ensures.succeeds (rw room at has))
    c.insert_full-inserted.ensures.absent

-- a new key

new_entries : (c : goal.After-from_residual)
    → all_shown c.insert_full-inserted.new.self.entries
    ≡ with_version c.self.inside.slots c.args.key c.args.version (all_shown c.self.inside.keys.entries)
new_entries c =
    let es = c.self.inside.keys.entries in
    let old : c.unwrap-place.result.1 ≡ lookup (bytes_eq c.args.key) es = rw c.unwrap-place.ensures at c.insert_full-inserted.ensures.old in
    let entries : c.insert_full-inserted.new.self.entries ≡ insert_entry bytes_eq es c.args.key c.one.result =
    rw c.unwrap-place.ensures at c.insert_full-inserted.ensures.entries in
    ap all_shown entries
    ∙ shown-inserted_new c.self.inside.slots c.args.key c.args.version c.one.result es c.one.ensures (sym old ∙ c.in_err-earlier.was)

pub invariant_of-self : goal.invariant_of-self
invariant_of-self c =
    let es = c.self.inside.keys.entries in
    let entries : all_shown es ≡ c.args.self.now.entries = ap (λ (x : Shown). x.entries) c.self.view_is in
    let newer : IsNewerThan c.args.version.seq.0 (versions_of c.args.key (all_shown es)) = rw entries c.requires.newer.newest in (
      rw (new_entries c) (chains-with_version c.self.inside.slots c.args.key c.args.version (all_shown es) c.self.invariant.0 newer),
      c.self.invariant.1,
    )

pub returns-in_err-earlier-clause-replaced : goal.returns-in_err-earlier-clause-replaced
returns-in_err-earlier-clause-replaced c =
    let es = c.self.inside.keys.entries in
    let old : c.unwrap-place.result.1 ≡ lookup (bytes_eq c.args.key) es = rw c.unwrap-place.ensures at c.insert_full-inserted.ensures.old in
    let none : lookup (bytes_eq c.args.key) es ≡ None = sym old ∙ c.in_err-earlier.was in
    rw (c.from_residual.ensures, ← c.self.view_is, versions_of-shown c.args.key es, none) refl

pub returns-in_err-earlier-clause-entries : goal.returns-in_err-earlier-clause-entries
returns-in_err-earlier-clause-entries c = rw (← c.self.view_is) (new_entries c)

pub returns-in_err-earlier-clause-folds : goal.returns-in_err-earlier-clause-folds
returns-in_err-earlier-clause-folds c =
    keeps_put c.args.key c.args.version c.args.self.now _ (ap (λ (x : Shown). x.slots) c.self.view_is)
    (returns-in_err-earlier-clause-entries c) c.requires.newer

pub returns-in_err-earlier-clause-counts : goal.returns-in_err-earlier-clause-counts
returns-in_err-earlier-clause-counts c =
    counts_put c.args.key c.args.version c.args.self.now _ c.from_residual.result
    (returns-in_err-earlier-clause-entries c) (returns-in_err-earlier-clause-replaced c)

-- a key that is there

pub newest-newest-requires : goal.newest-newest-requires
newest-newest-requires c =
    let es = c.self.inside.keys.entries in
    let old : c.unwrap-place.result.1 ≡ lookup (bytes_eq c.args.key) es = rw c.unwrap-place.ensures at c.insert_full-inserted.ensures.old in
    chain_found c.args.key es c.in_ok-earlier.earlier c.self.invariant.0 (sym old ∙ c.in_ok-earlier.was)

pub overwritten-kept-requires-clause-room : goal.overwritten-kept-requires-clause-room
overwritten-kept-requires-clause-room c = λ high.
    let es = c.self.inside.keys.entries in
    let d = c.args.self.now in
    let old : c.unwrap-place.result.1 ≡ lookup (bytes_eq c.args.key) es = rw c.unwrap-place.ensures at c.insert_full-inserted.ensures.old in
    let there : lookup (bytes_eq c.args.key) es ≡ Some c.in_ok-earlier.earlier = sym old ∙ c.in_ok-earlier.was in
    let chain = chain_found c.args.key es c.in_ok-earlier.earlier c.self.invariant.0 there in
    let entries : d.entries ≡ all_shown es = sym (ap (λ (x : Shown). x.entries) c.self.view_is) in
    let vs : versions_of c.args.key d.entries ≡ versions_in c.in_ok-earlier.earlier =
    ap (λ ys. versions_of c.args.key ys) entries ∙ versions_of-shown c.args.key es ∙ ap versions_if there in
    let reached : reaches d.slots c.newest-newest.result.seq.0 ≡ true = rw (← c.self.view_is) (sym c.reach-is_seen.ensures ∙ high) in
    let has : HasRoomFor d (versions_in c.in_ok-earlier.earlier) = rw vs at c.requires.room in
    let room : d.chain ≡ room_in c.self.inside.chain = sym (ap (λ (x : Shown). x.chain) c.self.view_is) in
    let fits : length (versions_in c.in_ok-earlier.earlier) < d.chain =
    room_reached d (versions_in c.in_ok-earlier.earlier) c.newest-newest.result chain c.newest-newest.ensures reached has in
    rw room at fits

found_there : (c : goal.After-unless) → lookup (bytes_eq c.args.key) c.self.inside.keys.entries ≡ Some c.in_ok-earlier.earlier
found_there c =
    let es = c.self.inside.keys.entries in
    let old : c.unwrap-place.result.1 ≡ lookup (bytes_eq c.args.key) es = rw c.unwrap-place.ensures at c.insert_full-inserted.ensures.old in
    sym old ∙ c.in_ok-earlier.was

is_kept : (c : goal.After-unless) → c.reach-is_seen.result ≡ keeps_newest c.self.inside.slots (versions_in c.in_ok-earlier.earlier)
is_kept c =
    let chain = chain_found c.args.key c.self.inside.keys.entries c.in_ok-earlier.earlier c.self.invariant.0 (found_there c) in
    c.reach-is_seen.ensures
    ∙ sym (keeps-reached c.self.inside.slots (versions_in c.in_ok-earlier.earlier) c.newest-newest.result chain c.newest-newest.ensures)

entries_there : (c : goal.After-unless)
    → all_shown (set_value_at c.insert_full-inserted.new.self.entries c.unwrap-place.result.0 c.overwritten-kept.result)
    ≡ with_version c.self.inside.slots c.args.key c.args.version (all_shown c.self.inside.keys.entries)
entries_there c =
    let es = c.self.inside.keys.entries in
    let vs = versions_in c.in_ok-earlier.earlier in
    let entries : c.insert_full-inserted.new.self.entries ≡ insert_entry bytes_eq es c.args.key c.one.result =
    rw c.unwrap-place.ensures at c.insert_full-inserted.ensures.entries in
    let index : c.unwrap-place.result.0 ≡ position_or_len (bytes_eq c.args.key) (keys_of es) =
    rw c.unwrap-place.ensures at c.insert_full-inserted.ensures.index in
    let shows : versions_in c.overwritten-kept.result ≡ put_over c.self.inside.slots c.args.version vs =
    c.overwritten-kept.ensures.versions ∙ ap (λ b. c.args.version ∷ cond b vs (older_of vs)) (is_kept c) in
    rw (entries, index)
    (shown-inserted c.self.inside.slots c.args.key c.args.version c.one.result c.in_ok-earlier.earlier c.overwritten-kept.result es
    (found_there c) shows)

pub invariant_of-self-2 : goal.invariant_of-self-2
invariant_of-self-2 c =
    let es = c.self.inside.keys.entries in
    let entries : all_shown es ≡ c.args.self.now.entries = ap (λ (x : Shown). x.entries) c.self.view_is in
    let newer : IsNewerThan c.args.version.seq.0 (versions_of c.args.key (all_shown es)) = rw entries c.requires.newer.newest in (
      rw (entries_there c) (chains-with_version c.self.inside.slots c.args.key c.args.version (all_shown es) c.self.invariant.0 newer),
      c.overwritten-kept.ensures.empty,
    )

pub returns-clause-replaced : goal.returns-clause-replaced
returns-clause-replaced c =
    let es = c.self.inside.keys.entries in
    let slots = c.self.inside.slots in
    let vs = versions_in c.in_ok-earlier.earlier in
    let w = c.newest-newest.result in
    let gone : cond c.reach-is_seen.result None (Some w) ≡ replaced slots vs =
    ap (λ b. cond b None (Some w)) (is_kept c) ∙ ap (λ o. cond (keeps_newest slots vs) None o) (sym c.newest-newest.ensures) in
    rw (c.unless.ensures, ← c.self.view_is, versions_of-shown c.args.key es, found_there c) gone

pub returns-clause-entries : goal.returns-clause-entries
returns-clause-entries c = rw (← c.self.view_is) (entries_there c)

pub returns-clause-folds : goal.returns-clause-folds
returns-clause-folds c =
    keeps_put c.args.key c.args.version c.args.self.now _ (ap (λ (x : Shown). x.slots) c.self.view_is)
    (returns-clause-entries c) c.requires.newer

pub returns-clause-counts : goal.returns-clause-counts
returns-clause-counts c =
    counts_put c.args.key c.args.version c.args.self.now _ c.unless.result (returns-clause-entries c) (returns-clause-replaced c)
