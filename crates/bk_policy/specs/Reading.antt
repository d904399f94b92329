-- The settings that a text says, and where each refusal comes. A text is TOML; its members are looked
-- at in the order of their keys' bytes, and the first that is wrong is told.
use Rattle.std.specs.Prelude.{◌≡◌, ℕ, ◌<◌, ◌≤◌, ℤ, pos, negsuc, cond, List, length, Option, Some, None, Result, Ok, Err, IsUtf8}
use Rattle.bk_base.specs.declared.limits.TheConstants.{LONGEST_SETTINGS}
use Rattle.toml.specs.Data.{Data, Members, no_members, member, as_integer}
use Rattle.toml.specs.Parse.{parse_document}
use Rattle.bk_policy.specs.declared.settings.Settings.{Settings}
use Rattle.bk_policy.specs.declared.names.SettingName.{SettingName}
use Rattle.bk_policy.specs.declared.errors.SettingsError.{SettingsError}
use Rattle.bk_policy.specs.declared.errors.SettingsError.TheVariants.{TooLong, NotToml, UnknownKey, NotInteger, OutOfRange, Memory}
use Rattle.bk_policy.specs.Settings.{defaults, is_in_range, name_of, with_value}

-- an integer as the value of a setting
abbrev pub value_of : SettingName → ℤ → Result ℕ SettingsError
value_of name (pos n) = cond (is_in_range name n) (Ok n) (Err (OutOfRange name (pos n)))
value_of name (negsuc n) = Err (OutOfRange name (negsuc n))

-- ---- the settings after one member

abbrev pub after_value : Settings → SettingName → Result ℕ SettingsError
    → Result Settings SettingsError
after_value s name (Ok n) = Ok (with_value s name n)
after_value s name (Err e) = Err e

abbrev pub after_integer : Settings → SettingName → Option ℤ → Result Settings SettingsError
after_integer s name None = Err (NotInteger name)
after_integer s name (Some z) = after_value s name (value_of name z)

abbrev pub after_named : Settings → Option SettingName → Data → Result Settings SettingsError
after_named s None found = Err UnknownKey
after_named s (Some name) found = after_integer s name (as_integer found)

abbrev pub after_member : Settings → List ℕ → Data → Result Settings SettingsError
after_member s key found = after_named s (name_of key) found

-- ---- the settings after all members of a table

abbrev pub and_then : Result Settings SettingsError → (Settings → Result Settings SettingsError)
    → Result Settings SettingsError
and_then (Ok s) next = next s
and_then (Err e) next = Err e

abbrev pub after_members : Members → Settings → Result Settings SettingsError
after_members no_members s = Ok s
after_members (member key found rest) s = and_then (after_member s key found) (after_members rest)

abbrev pub settings_in : Members → Result Settings SettingsError
settings_in table = after_members table defaults

-- ---- of a text

-- the text is TOML and says this table
abbrev pub IsDocument : List ℕ → Members → Type 0
IsDocument text table = IsUtf8 text × (parse_document text ≡ Some table)

-- the text isn't too long, and its table says this
abbrev pub Says : List ℕ → Result Settings SettingsError → Type 0
Says text answer = (length text ≤ LONGEST_SETTINGS) × (table : Members) × IsDocument text table
    × (settings_in table ≡ answer)

-- Where each refusal comes.
abbrev pub IsSettingsError : List ℕ → SettingsError → Type 0
IsSettingsError text (TooLong len) = (LONGEST_SETTINGS < length text) × (len ≡ length text)
IsSettingsError text NotToml = (length text ≤ LONGEST_SETTINGS) × ((table : Members)
    → IsDocument text table → ⊥)
IsSettingsError text UnknownKey = Says text (Err UnknownKey)
IsSettingsError text (NotInteger name) = Says text (Err (NotInteger name))
IsSettingsError text (OutOfRange name value) = Says text (Err (OutOfRange name value))
IsSettingsError text Memory = length text ≤ LONGEST_SETTINGS
