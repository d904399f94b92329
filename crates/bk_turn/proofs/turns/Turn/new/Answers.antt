use Rattle.bk_turn.proofs.Opens.{made}
use Rattle.bk_turn.proofs.turns.Turn.new.Goals as goal

pub vacant-requires : goal.vacant-requires
vacant-requires g c = made g.S.Stands.stands c.args.first c.ranges.first.fits
