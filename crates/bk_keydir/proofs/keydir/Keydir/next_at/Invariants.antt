use Rattle.std.proofs.Common.{◌≡◌, ◌≤◌, min, length, take, drop}
use Rattle.bk_keydir.specs.Folds.{listing}
use Rattle.bk_keydir.proofs.keydir.Keydir.next_at.Given as goal

abbrev pub invariant-loop-place : goal.invariant-loop-place
invariant-loop-place l = (min l.fold.cursor (length l.self.entries) ≤ l.place)
    × (listing l.ttl l.fold (drop l.place l.self.entries) ≡ listing l.ttl l.fold (drop l.fold.cursor l.self.entries))
    × (listing l.ttl l.fold (take l.place l.self.entries) ≡ listing l.ttl l.fold (take l.fold.cursor l.self.entries))
