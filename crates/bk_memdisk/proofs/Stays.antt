-- Each name still stands once after a call of the disk: the lemmas as one list.
use Rattle.bk_disk.proofs.Still.{still_appended, still_synced, still_cut, still_made, still_removed, still_renamed, still_returned, still_viewed, still_same}

pub ruleset stays =
    (still_appended, still_synced, still_cut, still_made, still_removed, still_renamed, still_returned, still_viewed, still_same)
