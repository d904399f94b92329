use Rattle.std.proofs.Common.{◌≡◌, ◌+◌, ◌<◌, ◌≤◌, ◌∙◌, false, true, arith, sym, ap}
use Rattle.std.specs.Option.{option_copied}
use Rattle.bk_keydir.specs.Keydir.{versions_of}
use Rattle.bk_keydir.specs.Kept.{versions_if, versions_in}
use Rattle.bk_keydir.specs.Slots.{has_open, reaches}
use Rattle.bk_keydir.proofs.RoomLemmas.{room_closed, room_reached, room_unreached}
use Rattle.bk_keydir.proofs.keydir.Keydir.ready.Goals as goal

pub returns-then-not-has_open-clause-room : goal.returns-then-not-has_open-clause-room
returns-then-not-has_open-clause-room c =
    let d = c.args.self.now in
    let closed : has_open d.slots ≡ false = rw (← c.self.view_is) (sym c.has_open.ensures ∙ c.if-not-has_open.true) in
    let spare : 0 < d.spare = rw (← c.self.view_is) (omega arith) in
    room_closed d (versions_of c.args.key.now d.entries) spare closed

pub returns-then-not-reach-clause-room : goal.returns-then-not-reach-clause-room
returns-then-not-reach-clause-room c =
    let d = c.args.self.now in
    let w = c.newest.result in
    let low : reaches d.slots w.seq.0 ≡ false = rw (← c.self.view_is) (sym c.reach.ensures ∙ c.if-not-reach.true) in
    let is : versions_of c.args.key.now d.entries ≡ versions_in c.in-Some.kept.now =
    c.kept.ensures.versions ∙ ap (λ o. versions_if (option_copied o)) c.in-Some.is in
    rw is (room_unreached d (versions_in c.in-Some.kept.now) w c.in-Some.ensures.chain c.newest.ensures low)

pub returns-clause-enough : goal.returns-clause-enough
returns-clause-enough c = λ room.
    let d = c.args.self.now in
    let w = c.newest.result in
    let high : reaches d.slots w.seq.0 ≡ true = rw (← c.self.view_is) (sym c.reach.ensures ∙ c.if-not-reach.false) in
    let is : versions_of c.args.key.now d.entries ≡ versions_in c.in-Some.kept.now =
    c.kept.ensures.versions ∙ ap (λ o. versions_if (option_copied o)) c.in-Some.is in
    let fits = room_reached d (versions_in c.in-Some.kept.now) w c.in-Some.ensures.chain c.newest.ensures high (rw is at room) in
    let enough : c.len-len.result + 1 ≤ d.chain = omega (arith, fits, c.len-len.ensures) in
    c.ready_chain.ensures.enough enough
