use Rattle.std.proofs.Common.{◌∙◌, List, ap, sym}
use Rattle.std.proofs.lemmas.List.{take_all}
use Rattle.bk_disk.specs.declared.disks.Listed.{Listed}
use Rattle.bk_load.specs.Directory.{len_in}
use Rattle.bk_load.proofs.Lengths.{len_here, len_elsewhere}
use Rattle.bk_load.proofs.settings_file.length_of.Goals as goal
use Rattle.bk_load.proofs.settings_file.length_of.Goals.{then-is_named, else-is_named}

pub loop-file-preserved : goal.loop-file-preserved
loop-file-preserved c = elim c.if-is_named.branch [
  | then-is_named w ↦ rw w.len-is
      (len_here _ _ _ c.args.name c.loop-file-test.true (sym c.is_named.ensures ∙ w.if-is_named.true))
  | else-is_named w ↦ rw w.len-is
      (len_elsewhere _ _ _ c.args.name _ c.loop-file-test.true (sym c.is_named.ensures ∙ w.if-is_named.false) c.loop-file.invariant)
]

pub returns : goal.returns
returns c =
    c.loop-file.invariant ∙ ap (λ (fs : List Listed). len_in fs c.args.name) (take_all _ _ c.loop-file-test.false)
