use Rattle.bk_keydir.proofs.KeptLemmas.{shown-swapped}
use Rattle.bk_keydir.proofs.keydir.drop_entry.Goals as goal

pub returns-clause-entries : goal.returns-clause-entries
returns-clause-entries c =
    shown-swapped c.args.place c.args.keys.now.entries _ c.swap_remove_index-dropped.result c.requires
    c.swap_remove_index-dropped.ensures.entry c.swap_remove_index-dropped.ensures.entries
