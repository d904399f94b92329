use Rattle.std.proofs.Common.{inl, refl}
use Rattle.bk_load.proofs.lists.Lists.take.Goals as goal

pub returns-in_ok-push-in-Ok : goal.returns-in_ok-push-in-Ok
returns-in_ok-push-in-Ok c = inl (record {
  list = record { list = c.in-Ok.list; id = c.args.name.id };
  id = refl;
  whole = c.in-Ok.ensures.whole;
  added = c.in_ok-push-in-Ok.ensures.items;
  same_odd = refl;
})
