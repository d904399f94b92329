-- The counts of the rows.
use Rattle.std.specs.Prelude.{ℕ, ◌+◌, ◌≤◌, cond, min, List, [], ◌∷◌, Option, None, Some}
use Rattle.bk_base.specs.declared.rows.Row.{Row}
use Rattle.bk_base.specs.declared.writes.Version.{Version}
use Rattle.bk_files.specs.Catalog.{edited}
use Rattle.bk_keydir.specs.Keydir.{Entry, newest_of}

-- the ids of the rows rise, from `low` on
abbrev pub RowsRise : ℕ → List Row → Type 0
RowsRise low [] = Unit {0}
RowsRise low (r ∷ rs) = (low ≤ r.id.0) × RowsRise (r.id.0 + 1) rs

-- the greatest number of 64 bits, at which a count stays
abbrev pub top : ℕ
top = 18446744073709551615

abbrev pub with_put : Version → Row → Row
with_put v r = record r { live = min (r.live + v.size) top; refs = min (r.refs + 1) top }

-- a put is counted in the row of its file
abbrev pub counted_in : Version → List Row → List Row
counted_in v rows = cond v.gone rows (edited v.file.0 (with_put v) rows)

abbrev pub counted_if : Option Version → List Row → List Row
counted_if None rows = rows
counted_if (Some v) rows = counted_in v rows

-- the newest version of each key, in their order
abbrev pub all_counted : List Entry → List Row → List Row
all_counted [] rows = rows
all_counted (e ∷ es) rows = all_counted es (counted_if (newest_of e.1) rows)
