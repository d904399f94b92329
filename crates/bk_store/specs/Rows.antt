-- The counts in the rows, against the versions that are kept.
use Rattle.std.specs.Prelude.{◌≡◌, ℕ, ◌≤◌, List, Some}
use Rattle.bk_base.specs.declared.rows.Row.{Row}
use Rattle.bk_files.specs.Catalog.{row_of}
use Rattle.bk_keydir.specs.Counts.{live_of, refs_of}
use Rattle.bk_keydir.specs.Keydir.{Entry}

-- A row's counts are those made from scratch. They are no greater than the bytes of its records.
pub record RowStands (entries : List Entry) (id : ℕ) (r : Row) : Type 0 where
  pub live : r.live ≡ live_of id entries
  pub refs : r.refs ≡ refs_of id entries
  pub live_within : r.live ≤ r.total
  pub refs_within : r.refs ≤ r.total

abbrev pub RowsStand : List Row → List Entry → Type 0
RowsStand rows entries = (id : ℕ) (r : Row) → row_of id rows ≡ Some r → RowStands entries id r
