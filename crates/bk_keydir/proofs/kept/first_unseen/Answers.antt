use Rattle.std.proofs.Common.{◌≡◌, ◌<◌, ◌≤◌, length, not, ap, sym, ◌∙◌, get_or, true, false}
use Rattle.bk_base.specs.declared.writes.Version.{Version}
use Rattle.bk_keydir.specs.Keydir.{is_unseen, older_of}
use Rattle.bk_keydir.specs.Slots.{within}
use Rattle.bk_keydir.proofs.PruneLemmas.{all_behind, ends_at, goes_past, is_unseen_at, stops_at}
use Rattle.bk_keydir.proofs.kept.first_unseen.Goals as goal

blank : Version
blank = record {
  seq = record { 0 = 0 };
  at = 0;
  moment = record { 0 = 0 };
  file = record { 0 = 0 };
  size = 0;
  crc = 0;
  gone = false;
}

pub returns-then-not-lie_within : goal.returns-then-not-lie_within
unfolding blank
returns-then-not-lie_within c =
    let vs = c.args.versions.now in
    let place = c.loop-place.place in
    let low : place < length (older_of vs) = rw (all_behind vs) at c.loop-place-test.true in
    let said : c.lie_within.result ≡ within c.args.slots.now (get_or (older_of vs) place blank).seq.0 (get_or vs place blank).seq.0 =
    rw (all_behind vs) at c.lie_within.ensures in
    let unseen : is_unseen c.args.slots.now vs (get_or (older_of vs) place blank) ≡ true =
    is_unseen_at c.args.slots.now vs place blank c.requires low ∙ ap not (sym said ∙ c.if-not-lie_within.true) in
    stops_at (is_unseen c.args.slots.now vs) (older_of vs) place blank low unseen c.loop-place.invariant

pub loop-place-preserved : goal.loop-place-preserved
unfolding blank
loop-place-preserved c =
    let vs = c.args.versions.now in
    let place = c.loop-place.place in
    let low : place < length (older_of vs) = rw (all_behind vs) at c.loop-place-test.true in
    let said : c.lie_within.result ≡ within c.args.slots.now (get_or (older_of vs) place blank).seq.0 (get_or vs place blank).seq.0 =
    rw (all_behind vs) at c.lie_within.ensures in
    let seen : is_unseen c.args.slots.now vs (get_or (older_of vs) place blank) ≡ false =
    is_unseen_at c.args.slots.now vs place blank c.requires low ∙ ap not (sym said ∙ c.if-not-lie_within.false) in
    goes_past (is_unseen c.args.slots.now vs) (older_of vs) place blank low seen c.loop-place.invariant

pub returns : goal.returns
returns c =
    let vs = c.args.versions.now in
    let high : length (older_of vs) ≤ c.loop-place.place = rw (all_behind vs) at c.loop-place-test.false in
    ends_at (is_unseen c.args.slots.now vs) (older_of vs) c.loop-place.place high c.loop-place.invariant
