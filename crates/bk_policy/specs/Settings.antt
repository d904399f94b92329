-- The settings by name: their keys, ranges and defaults.
use Rattle.std.specs.Prelude.{ℕ, ◌&&◌, nat_le, cond, codes, bytes_eq, List, Bool, Option, Some, None}
use Rattle.bk_base.specs.declared.limits.TheConstants.{DEFAULT_MAX_FILE}
use Rattle.bk_policy.specs.declared.settings.Settings.{Settings}
use Rattle.bk_policy.specs.declared.names.SettingName.{SettingName}
use Rattle.bk_policy.specs.declared.names.SettingName.TheVariants.{DeadBytes, DeadPercent, MaxFile, Ttl}

-- the setting of a key
abbrev pub name_of : List ℕ → Option SettingName
name_of key =
    cond (bytes_eq key (codes "dead_bytes")) (Some DeadBytes)
    (cond (bytes_eq key (codes "dead_percent")) (Some DeadPercent)
    (cond (bytes_eq key (codes "max_file")) (Some MaxFile)
    (cond (bytes_eq key (codes "ttl")) (Some Ttl) None)))

abbrev pub least : SettingName → ℕ
least DeadBytes = 1
least DeadPercent = 1
least MaxFile = 4096
least Ttl = 0

abbrev pub greatest : SettingName → ℕ
greatest DeadBytes = 1099511627776
greatest DeadPercent = 100
greatest MaxFile = 1073741824
greatest Ttl = 4294967295

abbrev pub is_in_range : SettingName → ℕ → Bool
is_in_range name n = nat_le (least name) n && nat_le n (greatest name)

-- what stands where the file names no other value
abbrev pub defaults : Settings
defaults = record { max_file = DEFAULT_MAX_FILE; ttl = 0; dead_bytes = 33554432; dead_percent = 60 }

-- the settings with another value of one
abbrev pub with_value : Settings → SettingName → ℕ → Settings
with_value s DeadBytes n = record s { dead_bytes = n }
with_value s DeadPercent n = record s { dead_percent = n }
with_value s MaxFile n = record s { max_file = n }
with_value s Ttl n = record s { ttl = n }
