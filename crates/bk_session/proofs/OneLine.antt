-- A request that one line serves: from what the store answered to what the session shows.
use Rattle.std.proofs.Common.{◌≡◌, ◌∙◌, ℕ, ◌+◌, ◌<◌, Bool, true, false, List, [], ◌∷◌, ◌++◌, Option, Some, None}
use Rattle.std.proofs.Common.{refl, sym, ap, subst, arith, inl, inr}
use Rattle.std.specs.Prelude.{IsTrue, ◌≢◌, is_some}
use Rattle.std.specs.List.{flat_map}
use Rattle.std.proofs.lemmas.List.{append-nil}
use Rattle.bk_base.specs.declared.histories.Step.{Step}
use Rattle.bk_base.specs.declared.numbers.Moment.{Moment}
use Rattle.bk_base.specs.declared.requests.Reply.{Reply}
use Rattle.bk_base.specs.declared.requests.Reply.TheVariants.{Bye}
use Rattle.bk_base.specs.declared.requests.Request.{Request}
use Rattle.bk_base.specs.declared.requests.Request.TheVariants.{Quit as quit_request}
use Rattle.bk_disk.specs.Told.{Told, clock, untold}
use Rattle.bk_exchange.specs.Answers.{Context}
use Rattle.bk_exchange.specs.Exchanges.{Exchange, IsExchange, asked_in, asks_clock}
use Rattle.bk_exchange.specs.OneThread.{QuietCalls, one_if_quiet}
use Rattle.bk_exchange.specs.Points.{Point, point_of}
use Rattle.bk_exchange.specs.Refusals.{is_listing, is_quit}
use Rattle.bk_exchange.specs.Sessions.{IsQuit, Ticks}
use Rattle.bk_laws.specs.Wire.{Fits, reply_text}
use Rattle.bk_store.specs.Events.{clock_of}
use Rattle.bk_store.specs.Shown.{Shown}
use Rattle.bk_session.specs.declared.serving.Onward.{Onward}
use Rattle.bk_session.specs.declared.serving.Onward.TheVariants.{Next, Quit, Sink, Memory}
use Rattle.bk_session.specs.Following.{Follows, own_context}
use Rattle.bk_session.specs.Outgoing.{Outgoing}
use Rattle.bk_session.specs.Replying.{RepliesOnce, exchange_of}
use Rattle.bk_session.specs.Serving.{IsLater, IsServedAs, SessionState, SendsAs, Serves, Tells}

-- ---- what holds of each exchange

pub as_served : (onward : Onward) (c : Context) (p : Point) (x : Exchange) → onward ≢ Quit → IsExchange c p x
    → is_quit x.request ≡ false → IsServedAs onward c p x
as_served Next c p x goes is other = (is, other)
as_served Quit c p x goes is other = absurd (goes refl)
as_served Sink c p x goes is other = inl (is, other)
as_served Memory c p x goes is other = inl (is, other)

-- the text of one line
pub sends_line : (onward : Onward) (old new : Outgoing) (reply : Reply) → SendsAs onward old (reply_text reply) new
    → SendsAs onward old (flat_map reply_text (reply ∷ [])) new
sends_line onward old new reply sent =
    subst (λ (l : List ℕ). SendsAs onward old l new) (sym (append-nil (reply_text reply))) sent

pub at_told : (tells : Bool) (t : Told) → IsTrue tells → clock_of tells t ≡ Some (clock t)
at_told true t tell = refl
at_told false t tell = untold tell

pub is_later : (tells : Bool) (u : Told) (step : Step) (k : ℕ) → IsTrue tells → step.at ≡ clock_of tells u → k < clock u
    → IsLater k step
is_later tells u step k tell at before = (clock u, at ∙ at_told tells u tell, before)

-- ---- one line and one step

pub served_once : (t : Tells) (request : Request) (now : Option Moment) (reply : Reply) (onward : Onward) (old new : SessionState)
    → Fits request → is_listing request ≡ false → is_quit request ≡ false → is_some now ≡ asks_clock request
    → (IsTrue t.clock → Ticks (asked_in now) old.moments new.moments)
    → RepliesOnce t.disk request now reply old.store new.store → onward ≢ Quit
    → (IsTrue t.sink → SendsAs onward old.out (reply_text reply) new.out)
    → Serves t request onward old new
served_once t request now reply onward old new fits no_list goes asks ticks replies within sent o h tried follows =
    let r = replies o h tried follows in
    let x = exchange_of request now (r.step ∷ []) (reply ∷ []) in
    let clock_now = clock new.store.files.told in
    record {
      x = x;
      left = r.left;
      asked = refl;
      is = as_served onward (own_context o) (point_of o h) x within
          (record { fits = fits; clock = asks; replied = r.replied }) goes;
      own = record {
        alone = (r.caller, tt);
        few = λ other. omega arith;
        quiet = subst (QuietCalls (Some reply)) (one_more (one_if_quiet r.step.entry.call)) r.quiet;
      };
      ticks = ticks;
      follows = r.follows;
      tries = r.tries;
      since = λ tell. (
        (clock_now, r.at ∙ at_told t.disk new.store.files.told tell, (r.past tell).later),
        tt,
      );
      crash = λ tell k low high. record {
        later = (is_later t.disk new.store.files.told r.step k tell r.at high, tt);
        meets = r.crash tell k low (omega arith);
      };
      writes = λ tell. sends_line onward old.out new.out reply (sent tell);
    }
  where
    one_more : (n : ℕ) → n ≡ n + 0
    one_more n = omega arith

-- ---- QUIT: no call, and the last line

as_quit : (onward : Onward) (c : Context) (p : Point) (x : Exchange) → onward ≢ Next → IsQuit c p x → IsServedAs onward c p x
as_quit Next c p x goes is = absurd (goes refl)
as_quit Quit c p x goes is = is
as_quit Sink c p x goes is = inr (inl is)
as_quit Memory c p x goes is = inr (inl is)

pub quit_served : (t : Tells) (onward : Onward) (old new : SessionState) → new.store ≡ old.store → new.moments ≡ old.moments
    → onward ≢ Next → (IsTrue t.sink → SendsAs onward old.out (reply_text Bye) new.out) → Serves t quit_request onward old new
quit_served t onward old new store moments ends sent o h tried follows = record {
  x = exchange_of quit_request None [] (Bye ∷ []);
  left = tried;
  asked = refl;
  is = as_quit onward (own_context o) (point_of o h) (exchange_of quit_request None [] (Bye ∷ [])) ends (
    refl,
    record {
      fits = tt;
      clock = refl;
      replied = inl (record { called = refl; lines = refl });
    },
  );
  own = record { alone = tt; few = λ other. omega arith; quiet = refl };
  ticks = λ tell. moments;
  follows = subst (λ (v : Shown). Follows t.disk v o (h ++ []) tried) (sym store)
      (subst (λ (k : List Step). Follows t.disk old.store o k tried) (sym (append-nil h)) follows);
  tries = inr (inl (refl, refl));
  since = λ tell. tt;
  crash = λ tell k low high. absurd (omega (arith, low, high, ap (λ (v : Shown). clock v.files.told) store));
  writes = λ tell. sends_line onward old.out new.out Bye (sent tell);
}
