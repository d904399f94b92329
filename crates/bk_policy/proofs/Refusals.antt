-- A table is refused for one of its keys alone.
use Rattle.std.proofs.Common.{◌≡◌, ℕ, ◌≤◌, ℤ, pos, negsuc, Bool, true, false, cond, List, length, Option, Some, None, Result, Ok, Err, IfErr, sym, subst}
use Rattle.bk_base.specs.declared.limits.TheConstants.{LONGEST_SETTINGS}
use Rattle.toml.specs.Data.{Data, Members, no_members, member, as_integer}
use Rattle.bk_policy.specs.declared.settings.Settings.{Settings}
use Rattle.bk_policy.specs.declared.names.SettingName.{SettingName}
use Rattle.bk_policy.specs.declared.errors.SettingsError.{SettingsError}
use Rattle.bk_policy.specs.declared.errors.SettingsError.TheVariants.{TooLong, NotToml, UnknownKey, NotInteger, OutOfRange, Memory}
use Rattle.bk_policy.specs.Settings.{defaults, is_in_range, name_of}
use Rattle.bk_policy.specs.Reading.{IsDocument, IsSettingsError, after_integer, after_member, after_members, after_named, after_value, and_then, settings_in}

-- the refusal is for a key
abbrev IsOfKey : SettingsError → Type 0
IsOfKey (TooLong len) = ⊥
IsOfKey NotToml = ⊥
IsOfKey UnknownKey = Unit {0}
IsOfKey (NotInteger name) = Unit {0}
IsOfKey (OutOfRange name value) = Unit {0}
IsOfKey Memory = ⊥

of_value : (s : Settings) (name : SettingName) (b : Bool) (n : ℕ) (z : ℤ)
    → IfErr (after_value s name (cond b (Ok n) (Err (OutOfRange name z)))) IsOfKey
of_value s name true n z = tt
of_value s name false n z = tt

of_integer : (s : Settings) (name : SettingName) (o : Option ℤ)
    → IfErr (after_integer s name o) IsOfKey
of_integer s name None = tt
of_integer s name (Some (pos n)) = of_value s name (is_in_range name n) n (pos n)
of_integer s name (Some (negsuc n)) = tt

of_named : (s : Settings) (o : Option SettingName) (found : Data)
    → IfErr (after_named s o found) IsOfKey
of_named s None found = tt
of_named s (Some name) found = of_integer s name (as_integer found)

both : (r : Result Settings SettingsError) (next : Settings → Result Settings SettingsError)
    → IfErr r IsOfKey
    → ((s : Settings) → IfErr (next s) IsOfKey) → IfErr (and_then r next) IsOfKey
both (Ok s) next first second = second s
both (Err e) next first second = first

of_members : (table : Members) (s : Settings) → IfErr (after_members table s) IsOfKey
of_members no_members s = tt
of_members (member key found rest) s =
    both (after_member s key found) (after_members rest) (of_named s (name_of key) found) (of_members rest)

module _ (text : List ℕ) (short : length text ≤ LONGEST_SETTINGS) (table : Members) (is : IsDocument text table) where
  told : (e : SettingsError) → IsOfKey e → settings_in table ≡ Err e → IsSettingsError text e
  told (TooLong len) of_key says = absurd of_key
  told NotToml of_key says = absurd of_key
  told UnknownKey of_key says = (short, table, is, says)
  told (NotInteger name) of_key says = (short, table, is, says)
  told (OutOfRange name value) of_key says = (short, table, is, says)
  told Memory of_key says = short

  -- what a table is refused for is why its text is refused
  pub refused : (r : Result Settings SettingsError) → r ≡ settings_in table
      → IfErr r (IsSettingsError text)
  refused (Ok s) says = tt
  refused (Err e) says =
      let P : Result Settings SettingsError → Type 0 = λ r. IfErr r IsOfKey in
      told e (subst P (sym says) (of_members table defaults)) (sym says)
