use Rattle.bk_load.proofs.Listings.{map_some, whole_view}
use Rattle.bk_load.proofs.settings_file.read_settings.Goals as goal

pub read_whole-requires : goal.read_whole-requires
read_whole-requires g c = λ tells.
    let there = map_some _ _ (c.requires tells) in
    whole_view (g.D.Disk.shown c.args.disk.now).told.image _ there.0 c.args.len (λ e. cc e) there.1 there.2
