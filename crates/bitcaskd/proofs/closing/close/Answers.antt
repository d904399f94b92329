use Rattle.std.proofs.Common.{inl, inr, refl}
use Rattle.bitcaskd.proofs.ClosingLaws.{all_synced, none_synced}
use Rattle.bitcaskd.proofs.closing.close.Goals as goal

pub returns-in-Ok-clause-closes : goal.returns-in-Ok-clause-closes
returns-in-Ok-clause-closes g c = inl (
  refl,
  all_synced _ _ _ c.in-Ok.field-0 c.sync.ensures.rest c.sync.ensures.same c.sync.ensures.crash c.in-Ok.ensures.ok,
)

pub returns-in-Err-clause-closes : goal.returns-in-Err-clause-closes
returns-in-Err-clause-closes g c = inr (
  c.if_unsynced.ensures,
  c.in-Err.ensures.cause.failed,
  none_synced _ _ _ c.sync.ensures.rest c.sync.ensures.same c.sync.ensures.crash c.in-Err.ensures.cause.failed
      c.in-Err.ensures.refused,
)
