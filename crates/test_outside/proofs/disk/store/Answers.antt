use Rattle.std.proofs.Common.{◌∙◌, ap, sym, subst, ◌++◌}
use Rattle.bk_disk.specs.Told.{IsOurs, bytes_of}
use Rattle.bk_disk.proofs.Files.{made_ours, appended_ours, appended_whole, made_bytes}
use Rattle.test_outside.proofs.disk.store.Goals as goal

pub ready-requires : goal.ready-requires
ready-requires g c tells =
    made_ours _ _ _ (g.met.D.Disk.well _ tells) (c.requires tells) (c.in_ok-create.ensures.created tells)

pub append-requires-clause-ours : goal.append-requires-clause-ours
append-requires-clause-ours g c tells =
    let made = made_ours _ _ _ (g.met.D.Disk.well _ tells) (c.requires tells) (c.in_ok-create.ensures.created tells) in
    subst (IsOurs c.args.name) (sym (c.in_ok-ready.ensures.told tells)) made

pub sync-requires : goal.sync-requires
sync-requires g c tells =
    let made = made_ours _ _ _ (g.met.D.Disk.well _ tells) (c.requires tells) (c.in_ok-create.ensures.created tells) in
    let readied = subst (IsOurs c.args.name) (sym (c.in_ok-ready.ensures.told tells)) made in
    appended_ours _ _ _ _ _ _ (c.in_ok-append.ensures.appended tells) readied

pub returns-clause-stored : goal.returns-clause-stored
returns-clause-stored g c tells =
    let made = made_ours _ _ _ (g.met.D.Disk.well _ tells) (c.requires tells) (c.in_ok-create.ensures.created tells) in
    let readied = subst (IsOurs c.args.name) (sym (c.in_ok-ready.ensures.told tells)) made in
    let empty = ap (λ t. bytes_of c.args.name t.image) (c.in_ok-ready.ensures.told tells)
    ∙ made_bytes _ _ _ _ (c.requires tells) (c.in_ok-create.ensures.created tells) in
    ap (bytes_of c.args.name) ((c.in_ok-sync.ensures.synced tells).image)
    ∙ appended_whole _ _ _ _ readied (c.in_ok-append.ensures.appended tells)
    ∙ ap (λ bytes. bytes ++ c.args.bytes.now) empty
