use Rattle.std.proofs.Common.{◌≡◌, drop}
use Rattle.bk_keydir.specs.Slots.{at_epoch}
use Rattle.bk_keydir.proofs.kept.first_up_to.Given as goal

abbrev pub invariant-loop-version : goal.invariant-loop-version
invariant-loop-version l = at_epoch l.epoch.0 (drop l.version-index l.versions) ≡ at_epoch l.epoch.0 l.versions
