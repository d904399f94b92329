use Rattle.std.proofs.Common.{◌∙◌, List, ap, sym}
use Rattle.std.proofs.lemmas.List.{take_all}
use Rattle.bk_disk.specs.declared.disks.Listed.{Listed}
use Rattle.bk_load.specs.Directory.{len_in}
use Rattle.bk_load.proofs.Lengths.{len_put, len_skip}
use Rattle.bk_load.proofs.directory.lengths.Goals as goal
use Rattle.bk_load.proofs.directory.lengths.Goals.{then-is_named+in_ok-insert, else-is_named}

pub loop-file-preserved : goal.loop-file-preserved
loop-file-preserved c = elim c.if-is_named.branch [
  | then-is_named+in_ok-insert w ↦ rw w.lengths-is
      (λ q. len_put _ _ _ _ c.loop-file-test.true (sym c.is_named.ensures ∙ w.if-is_named.true) _ _ q (c.loop-file.invariant q)
      (w.in_ok-insert.ensures.updates.0 q))
  | else-is_named w ↦ rw w.lengths-is
      (λ q. len_skip _ _ _ _ c.loop-file-test.true (sym c.is_named.ensures ∙ w.if-is_named.false) _ q (c.loop-file.invariant q))
]

pub returns : goal.returns
returns c = λ id.
    c.loop-file.invariant id
    ∙ ap (λ (fs : List Listed). len_in fs (record { id = id; kind = c.args.kind })) (take_all _ _ c.loop-file-test.false)
