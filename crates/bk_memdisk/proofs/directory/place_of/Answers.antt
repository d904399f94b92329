use Rattle.std.proofs.Common.{sym, ◌∙◌, subst}
use Rattle.std.specs.Option.{IsSome}
use Rattle.bk_memdisk.proofs.Places.{found, there_found}
use Rattle.bk_memdisk.proofs.directory.place_of.Goals as goal

pub unwrap-requires : goal.unwrap-requires
unwrap-requires c =
    subst (λ o. IsSome o) (sym c.find.ensures.place) (there_found c.args.name c.args.files.now c.requires)

pub returns-clause-first : goal.returns-clause-first
returns-clause-first c = found c.args.name c.args.files.now _ (sym c.find.ensures.place ∙ c.unwrap.ensures)
