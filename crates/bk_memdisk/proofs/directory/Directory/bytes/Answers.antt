use Rattle.std.proofs.Common.{[], sym, ◌∙◌}
use Rattle.bk_memdisk.specs.Journal.{after_all}
use Rattle.bk_memdisk.proofs.Edits
use Rattle.bk_memdisk.proofs.Places.{found, at-not_found}
use Rattle.bk_memdisk.proofs.directory.Directory.bytes.Goals as goal

pub returns-in-Some : goal.returns-in-Some
returns-in-Some c =
    let first =
    rw c.deref.ensures.value
    at (found c.args.name c.deref.result.now c.in-Some.index
    (sym c.find.ensures.place ∙ c.in-Some.is)) in
    rw (c.as_slice.ensures.value, ← c.self.view_is) (sym (Edits.file_bytes c.args.name c.self.inside.files.items
    (after_all [] c.self.inside.journal.items) c.in-Some.index c.index.result.now c.self.invariant.tied first
    c.index.ensures))

pub returns-in-None : goal.returns-in-None
returns-in-None c =
    let absent =
    rw c.deref.ensures.value
    at (at-not_found (λ f. f.bytes.items) c.args.name c.deref.result.now
    (sym c.find.ensures.place ∙ c.in-None.is)) in
    rw (← c.self.view_is) (sym absent)
