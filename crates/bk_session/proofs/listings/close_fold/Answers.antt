use Rattle.bk_session.specs.Listing.{Closes}
use Rattle.bk_session.proofs.FoldCalls.{listed_closed, on_ok}
use Rattle.bk_session.proofs.listings.close_fold.Goals as goal
use Rattle.std.specs.Prelude.{Bool, false}
use Rattle.bk_session.proofs.Following.{known_way}
use Rattle.bk_disk.specs.Told.{untold}

pub returns-clause-closes : goal.returns-clause-closes
returns-clause-closes g c =
    λ known sub. known_way known g.D.Disk.tells (λ (t : Bool). Closes t c.args.slot c.args.store.now c.fold_close.new.self) sub
    (λ b given behind quiet steps l.
    listed_closed g.D.Disk.tells b c.args.slot c.args.store.now c.fold_close.new.self given behind quiet steps l c.requires.ours
    (on_ok c.fold_close.result c.fold_close.ensures.owner.0 c.requires.ours c.fold_close.ensures.closed)
    (λ tell. on_ok c.fold_close.result c.fold_close.ensures.owner.0 c.requires.ours (c.fold_close.ensures.ok tell)))
    (λ b given behind quiet steps l.
    listed_closed false b c.args.slot c.args.store.now c.fold_close.new.self given behind quiet steps l c.requires.ours
    (on_ok c.fold_close.result c.fold_close.ensures.owner.0 c.requires.ours c.fold_close.ensures.closed)
    (λ t. untold t))
