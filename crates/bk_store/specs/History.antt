-- What a history says of the store that has it.
use Rattle.std.specs.Prelude.{ℕ, false, List, [], ◌∷◌, length, sum_by}
use Rattle.bk_base.specs.declared.calls.Answer.{Answer}
use Rattle.bk_base.specs.declared.calls.Answer.TheVariants.{Numbered}
use Rattle.bk_base.specs.declared.calls.Call.{Call}
use Rattle.bk_base.specs.declared.calls.Call.TheVariants.{Sync}
use Rattle.bk_base.specs.declared.calls.Entry.{Entry}
use Rattle.bk_base.specs.declared.histories.Opening.{Opening}
use Rattle.bk_base.specs.declared.histories.Snapshot.{Snapshot}
use Rattle.bk_base.specs.declared.histories.Step.{Step}
use Rattle.bk_base.specs.declared.histories.OpenFold.{OpenFold}
use Rattle.bk_disk.specs.Counts.{Counted}
use Rattle.bk_files.specs.Files.{Seen}
use Rattle.bk_laws.specs.History.{State, after, entries, opened, state_after}

-- how many writes of the log a crash can't take: all, once a sync has answered
abbrev pub kept_now : Call → Answer → State → ℕ → ℕ
kept_now Sync (Numbered n) s kept = length s.log
kept_now call reply s kept = kept

abbrev pub kept_after : State → ℕ → List Entry → ℕ
kept_after s kept [] = kept
kept_after s kept (e ∷ es) = kept_after (after s e) (kept_now e.call e.reply s kept) es

-- the length of the log as the last sync answered, or of the log that the history opened with
abbrev pub kept_of : Opening → List Step → ℕ
kept_of o h = kept_after (opened o) (length o.log) (entries h)

abbrev pub folds_of : Opening → List Step → List OpenFold
folds_of o h = (state_after o h).folds

-- the snapshot of the last step, or of the opening
abbrev pub snapshot_after : Snapshot → List Step → Snapshot
snapshot_after s [] = s
snapshot_after s (step ∷ steps) = snapshot_after step.snapshot steps

abbrev pub last_snapshot : Opening → List Step → Snapshot
last_snapshot o h = snapshot_after o.snapshot h

-- The disk's counts are those of the opening, and by how much they rose since.
pub record AreCounted (s : Seen) (o : Opening) (h : List Step) : Type 0 where
  pub faults : Counted false o.faults (sum_by (λ (step : Step). step.faults) h) s.faults
  pub views : Counted false o.views (sum_by (λ (step : Step). step.views) h) s.fallible_views
  pub outs : Counted false o.outs (sum_by (λ (step : Step). step.outs) h) s.fallible_outs
