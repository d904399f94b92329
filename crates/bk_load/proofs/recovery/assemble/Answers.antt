use Rattle.std.proofs.Common.{sym, subst, ◌∙◌}
use Rattle.bk_load.specs.Counting.{RowsRise}
use Rattle.bk_load.proofs.StartedLoads.{rows_rise_all}
use Rattle.bk_load.proofs.recovery.assemble.Goals as goal

pub count_versions-requires : goal.count_versions-requires
count_versions-requires c =
    subst (RowsRise 0) (sym (c.deref_mut.ensures.value ∙ c.in_ok-rows.ensures)) (rows_rise_all c.args.files.now c.requires)
