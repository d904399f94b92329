use Rattle.std.proofs.Common.{◌≡◌}
use Rattle.bk_keydir.specs.Keydir.{IsNewerThan, versions_of}
use Rattle.bk_keydir.specs.Slots.{reaches}
use Rattle.bk_keydir.proofs.RoomLemmas.{newer_by}
use Rattle.bk_keydir.proofs.keydir.Keydir.is_newer.Goals as goal

pub returns-then-is_above : goal.returns-then-is_above
returns-then-is_above c =
    let d = c.args.self.now in
    let reached : c.reach.result ≡ reaches d.slots c.args.seq.0 = rw (← c.self.view_is) c.reach.ensures in
    let newer : IsNewerThan c.args.seq.0 (versions_of c.args.key.now d.entries) =
    (c.is_above.ensures (versions_of c.args.key.now d.entries) c.newest.ensures).0 c.if-is_above.true in
    newer_by c.args.seq.0 c.args.key.now d c.reach.result reached newer
