-- Data of a history that say nothing: they stand where nothing was recorded, or until the call that
-- knows better picks its own.
use Rattle.std.specs.Prelude.{[], None, false}
use Rattle.bk_base.specs.declared.calls.Call.TheVariants.{Quiet}
use Rattle.bk_base.specs.declared.calls.Answer.TheVariants.{Done}
use Rattle.bk_base.specs.declared.histories.Snapshot.{Snapshot}
use Rattle.bk_base.specs.declared.histories.StoreSettings.{StoreSettings}
use Rattle.bk_base.specs.declared.histories.Opening.{Opening}
use Rattle.bk_base.specs.declared.histories.Step.{Step}

-- no rows, no merge
abbrev pub blank_snapshot : Snapshot
blank_snapshot = record { rows = []; written = []; job = None; last_file = record { 0 = 0 } }

abbrev pub blank_settings : StoreSettings
blank_settings = record { dead_bytes = 0; max_file = 0; ttl = 0; dead_percent = 0 }

-- an empty log, without folds
abbrev pub blank_opening : Opening
blank_opening = record {
  log = [];
  folds = [];
  snapshot = blank_snapshot;
  settings = blank_settings;
  faults = 0;
  views = 0;
  outs = 0;
  whole = false;
}

-- a quiet call of caller 0
abbrev pub blank_step : Step
blank_step = record {
  entry = record { caller = 0; call = Quiet; reply = Done };
  faults = 0;
  views = 0;
  outs = 0;
  at = None;
  snapshot = blank_snapshot;
  clean = false;
}
