-- Exchanges that a command has with its store by itself: no client sends their requests, and their replies go nowhere.
use Rattle.std.specs.Prelude.{◌≡◌, List, ◌++◌, Bool, IsTrue}
use Rattle.std.specs.List.{AllByRecursion}
use Rattle.bk_base.specs.declared.histories.Opening.{Opening}
use Rattle.bk_base.specs.declared.histories.Step.{Step}
use Rattle.bk_base.specs.declared.writes.Write.{Write}
use Rattle.bk_exchange.specs.Exchanges.{Exchange, steps_of}
use Rattle.bk_exchange.specs.OneThread.{IsOwn, MayBeTried}
use Rattle.bk_exchange.specs.Points.{point_of}
use Rattle.bk_exchange.specs.Sessions.{AreServed}
use Rattle.bk_exchange.specs.Writes.{told_writes}
use Rattle.bk_laws.specs.History.{log_of}
use Rattle.bk_session.specs.Crashes.{CrashesBetween}
use Rattle.bk_session.specs.Following.{Follows, own_context}
use Rattle.bk_store.specs.Shown.{Shown}

-- These exchanges are all that took place between the store as it was and as it is. The log gains the writes that they
-- tell, and no other. At each moment of the disk's clock since they began a crash leaves what those of them say that
-- were done by then.
pub record AreMade (known : Bool) (old new : Shown) (o : Opening) (h : List Step) (first : List Write)
    (xs : List Exchange) : Type 0 where
  pub tried : List Write
  pub served : AreServed (own_context o) (point_of o h) xs
  pub own : AllByRecursion (IsOwn (own_context o)) xs
  pub log : log_of o (h ++ steps_of xs) ≡ log_of o h ++ told_writes xs
  pub tries : MayBeTried (log_of o (h ++ steps_of xs)) first xs tried
  pub follows : Follows known new o (h ++ steps_of xs) tried
  pub crash : IsTrue known → CrashesBetween old.files.told new.files.told o h first xs
