-- A request that was found in some bytes, without where it lies. Only private functions speak of it.
use Rattle.std.specs.Prelude.{◌≡◌, ℕ, List, length, drop, Result, Ok, Err}
use Rattle.bk_laws.specs.Wire.{request_text, StandsIn, IsPartial, IsBad}
use Rattle.bk_wire.specs.declared.stops.Stop.{Stop}
use Rattle.bk_wire.specs.declared.stops.Stop.TheVariants.{Short, Bad}
use Rattle.bk_base.specs.declared.requests.Request.{Request}
use Rattle.bk_base.specs.declared.requests.Request.TheVariants.{Get as get_request, Put as put_request, Delete as delete_request}
use Rattle.bk_base.specs.declared.requests.Request.TheVariants.{Fold as fold_request, Keys as keys_request, Sync as sync_request}
use Rattle.bk_base.specs.declared.requests.Request.TheVariants.{Stat as stat_request, Quit as quit_request}
use Rattle.bk_wire.specs.declared.requests.Found.{Found}
use Rattle.bk_wire.specs.declared.requests.Found.TheVariants.{Get, Put, Delete, Fold, Keys, Sync, Stat, Quit}

abbrev pub request_of : Found → Request
request_of (Get key) = get_request key.now
request_of (Put key value) = put_request key.now value.now
request_of (Delete key) = delete_request key.now
request_of Fold = fold_request
request_of Keys = keys_request
request_of Sync = sync_request
request_of Stat = stat_request
request_of Quit = quit_request

-- the request that was found stands at the front and has this many bytes; a stop says why there is none
abbrev pub Finds : Result (Found × ℕ) Stop → List ℕ → Type 0
Finds (Ok x) stream =
    StandsIn stream (request_of x.0) (drop x.1 stream) × (x.1 ≡ length (request_text (request_of x.0)))
Finds (Err Short) stream = IsPartial stream
Finds (Err Bad) stream = IsBad stream
