-- When a merge is due.
use Rattle.std.specs.Prelude.{◌≡◌, ◌⊎◌, ℕ, ◌-◌, ◌*◌, ◌<◌, ◌≤◌}
use Rattle.bk_base.specs.declared.rows.Row.{Row}
use Rattle.bk_base.specs.declared.rows.RowState.TheVariants.{Sealed}
use Rattle.bk_policy.specs.declared.settings.Settings.{Settings}

-- the bytes of a file's records that no newest put needs; none where more are live than there are
abbrev pub dead_in : Row → ℕ
dead_in row = row.total - row.live

-- A sealed file has so many dead bytes, or so large a part of its records is dead.
abbrev pub IsDue : Settings → Row → Type 0
IsDue s row = (row.state ≡ Sealed)
    × ((s.dead_bytes ≤ dead_in row) ⊎ ((0 < row.total)
    × (s.dead_percent * row.total ≤ dead_in row * 100)))
