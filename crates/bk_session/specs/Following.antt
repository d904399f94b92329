-- When a store follows a history: what it has in memory agrees with it, and where what it holds is known, all
-- that it has stands for it. It may be known only where the disk tells.
use Rattle.std.specs.Prelude.{◌≡◌, ℕ, ◌<◌, Bool, true, false, IsTrue, List, is_some, map}
use Rattle.bk_base.specs.declared.histories.Opening.{Opening}
use Rattle.bk_base.specs.declared.histories.Snapshot.{Snapshot}
use Rattle.bk_base.specs.declared.histories.Step.{Step}
use Rattle.bk_base.specs.declared.limits.TheConstants.{MOST_FOLDS}
use Rattle.bk_base.specs.declared.rows.Row.{Row}
use Rattle.bk_base.specs.declared.rows.RowState.TheVariants.{Sealed}
use Rattle.bk_base.specs.declared.writes.Write.{Write}
use Rattle.bk_exchange.specs.Answers.{Context}
use Rattle.bk_keydir.specs.Slots.{slot_at}
use Rattle.bk_laws.specs.History.{is_open, log_of, state_after}
use Rattle.bk_laws.specs.Log.{last_seq}
use Rattle.bk_store.specs.History.{AreCounted, last_snapshot}
use Rattle.bk_store.specs.Shown.{Shown, settings_of, snapshot_of}
use Rattle.bk_store.specs.Standing.{StandsFor}

-- The session of one thread is caller 0, and takes no tickets.
abbrev pub own_context : Opening → Context
own_context o = record { who = 0; opening = o; spent = false }

-- What a history of the session records of the files. That a row is the active file's it says only where what
-- the store holds is known: otherwise nothing shows which one is.
abbrev pub at_rest : Row → Row
at_rest r = record r { state = Sealed }

abbrev pub snapshot_in : Bool → Shown → Snapshot
snapshot_in true v = snapshot_of v
snapshot_in false v = record (snapshot_of v) { rows = map at_rest v.files.catalog.rows }

-- The last seq, the settings, the files, the open folds and the counts are those of the history.
pub record Agrees (known : Bool) (v : Shown) (o : Opening) (h : List Step) : Type 0 where
  pub seq : v.seq ≡ last_seq (log_of o h)
  pub settings : o.settings ≡ settings_of v.settings
  pub limit : v.files.catalog.max_file ≡ v.settings.max_file
  pub snapshot : last_snapshot o h ≡ snapshot_in known v
  pub slots : (n : ℕ) → n < MOST_FOLDS → is_open n (state_after o h) ≡ is_some (slot_at v.keys.slots n)
  pub counts : AreCounted v.files o h

-- An opening is whole only where what the store holds is known.
pub record Follows (known : Bool) (v : Shown) (o : Opening) (h : List Step) (tried : List Write) : Type 0 where
  pub agrees : Agrees known v o h
  pub stands : IsTrue known → StandsFor v o h tried
  pub whole : o.whole ≡ true → IsTrue known
