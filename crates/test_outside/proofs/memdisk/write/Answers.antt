use Rattle.std.proofs.Common.{length, sym, subst}
use Rattle.bk_disk.specs.Told.{IsOurs}
use Rattle.bk_disk.proofs.Files.{made_ours, appended_ours, synced_ours}
use Rattle.test_outside.proofs.memdisk.write.Goals as goal

pub ready-requires : goal.ready-requires
ready-requires g c tells =
    let made = made_ours _ _ _ (g.met.D.Disk.well _ tells) (c.requires tells) (c.in_ok-create.ensures.created tells) in
    made

pub append-requires-clause-ours : goal.append-requires-clause-ours
append-requires-clause-ours g c tells =
    let made = made_ours _ _ _ (g.met.D.Disk.well _ tells) (c.requires tells) (c.in_ok-create.ensures.created tells) in
    let readied = subst (IsOurs c.args.name) (sym (c.in_ok-ready.ensures.told tells)) made in
    readied

pub sync-requires : goal.sync-requires
sync-requires g c tells =
    let made = made_ours _ _ _ (g.met.D.Disk.well _ tells) (c.requires tells) (c.in_ok-create.ensures.created tells) in
    let readied = subst (IsOurs c.args.name) (sym (c.in_ok-ready.ensures.told tells)) made in
    let appended =
    appended_ours c.args.name c.args.name (length c.args.synced.now) c.args.synced.now _ _
    (c.in_ok-append.ensures.appended tells) readied in
    appended

pub ready-requires-2 : goal.ready-requires-2
ready-requires-2 g c tells =
    let made = made_ours _ _ _ (g.met.D.Disk.well _ tells) (c.requires tells) (c.in_ok-create.ensures.created tells) in
    let readied = subst (IsOurs c.args.name) (sym (c.in_ok-ready.ensures.told tells)) made in
    let appended =
    appended_ours c.args.name c.args.name (length c.args.synced.now) c.args.synced.now _ _
    (c.in_ok-append.ensures.appended tells) readied in
    let synced = synced_ours _ _ _ _ (c.in_ok-sync.ensures.synced tells) appended in
    synced

pub append-requires-2-clause-ours : goal.append-requires-2-clause-ours
append-requires-2-clause-ours g c tells =
    let made = made_ours _ _ _ (g.met.D.Disk.well _ tells) (c.requires tells) (c.in_ok-create.ensures.created tells) in
    let readied = subst (IsOurs c.args.name) (sym (c.in_ok-ready.ensures.told tells)) made in
    let appended =
    appended_ours c.args.name c.args.name (length c.args.synced.now) c.args.synced.now _ _
    (c.in_ok-append.ensures.appended tells) readied in
    let synced = synced_ours _ _ _ _ (c.in_ok-sync.ensures.synced tells) appended in
    subst (IsOurs c.args.name) (sym (c.in_ok-ready-2.ensures.told tells)) synced
