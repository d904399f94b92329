-- The clauses of a call, from what its entries are.
use Rattle.std.proofs.Common.{◌≡◌, ◌<◌, ◌≤◌, ℕ, false, List, Option, None, Result, Ok, Err, refl, min, arith, IsOk, OnErr}
use Rattle.bk_base.specs.declared.writes.Version.{Version}
use Rattle.bk_keydir.specs.Slots.{has_open}
use Rattle.bk_keydir.specs.Keydir.{Entry, IsNewer, Shown, edited_at, left_by_prune, newest_of, pruned, replaced, versions_at, versions_of, with_version}
use Rattle.bk_keydir.specs.Folds.{KeepsFolds}
use Rattle.bk_keydir.specs.Counts.{PruneCounts, PutCounts}
use Rattle.bk_keydir.proofs.FoldLemmas.{none_open, same-prune, same-put, same_to-refl}
use Rattle.bk_keydir.proofs.CountLemmas.{prune_counts, put_counts}

pub keeps_put : (key : List ℕ) (v : Version) (d n : Shown) → n.slots ≡ d.slots → n.entries ≡ with_version d.slots key v d.entries
    → IsNewer v.seq.0 key d → KeepsFolds d n
keeps_put key v d n slots is newer = record {
  slots = slots;
  same = λ s o. rw is (same-put d.slots key s v d.entries o (newer.epochs s o));
}

pub counts_put : (key : List ℕ) (v : Version) (d : Shown) (es : List Entry) (r : Option Version)
    → es ≡ with_version d.slots key v d.entries → r ≡ replaced d.slots (versions_of key d.entries)
    → PutCounts v (newest_of (versions_of key d.entries)) r d.entries es
counts_put key v d es r is gone = rw (is, gone) (put_counts d.slots key v d.entries)

pub keeps_prune : (n : ℕ) (d w : Shown) → w.slots ≡ d.slots → w.entries ≡ edited_at n (left_by_prune d.slots) d.entries → KeepsFolds d w
keeps_prune n d w slots is = record { slots = slots; same = λ s o. rw is (same-prune d.slots s n d.entries o) }

pub counts_prune : (n : ℕ) (d : Shown) (es : List Entry) (r : Option Version) → es ≡ edited_at n (left_by_prune d.slots) d.entries
    → r ≡ pruned d.slots (versions_at n d.entries) → PruneCounts r d.entries es
counts_prune n d es r is gone = rw (is, gone) (prune_counts d.slots n d.entries)

pub keeps_closed : (d w : Shown) → w.slots ≡ d.slots → has_open d.slots ≡ false → KeepsFolds d w
keeps_closed d w slots closed = record { slots = slots; same = λ s o. absurd (none_open d.slots s closed o) }

pub keeps_same : (d w : Shown) → w ≡ d → KeepsFolds d w
keeps_same d w is = rw is (record { slots = refl; same = λ s o. same_to-refl s d.entries })

-- a call that is refused only where there is nothing, and isn't there
pub ok_unless : {X Y Z : Type 0} (r : Result X Y) (o : Option Z) → (o ≡ None → IsOk r) → OnErr r (o ≡ None) → IsOk r
ok_unless (Ok x) o there absent = refl
ok_unless (Err y) o there absent = there absent

pub from_min : (c n p : ℕ) → min c n ≤ p → p < n → c ≤ p
from_min c n p low within = grind (arith, low, within)
