use Rattle.std.proofs.Common.{◌≡◌, drop}
use Rattle.std.specs.List.{position_from}
use Rattle.bk_keydir.specs.Keydir.{is_unseen, older_of}
use Rattle.bk_keydir.proofs.kept.first_unseen.Given as goal

abbrev pub invariant-loop-place : goal.invariant-loop-place
invariant-loop-place l =
    position_from (is_unseen l.slots l.versions) l.place (drop l.place (older_of l.versions))
    ≡ position_from (is_unseen l.slots l.versions) 0 (older_of l.versions)
