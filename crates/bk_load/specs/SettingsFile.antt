-- What the file of the settings says, and how they are loaded.
use Rattle.std.specs.Prelude.{◌≡◌, ℕ, ◌≤◌, List, Option, None, Some, Result, Ok, Err, IsErrOf}
use Rattle.bk_base.specs.declared.names.Name.{Name}
use Rattle.bk_base.specs.declared.names.Kind.TheVariants.{Settings as settings_kind}
use Rattle.bk_disk.specs.Causes.{Rose}
use Rattle.bk_disk.specs.Shown.{DiskShown}
use Rattle.bk_policy.specs.Reading.{IsSettingsError, Says}
use Rattle.bk_policy.specs.Settings.{defaults}
use Rattle.bk_policy.specs.declared.errors.SettingsError.TheVariants.{Memory as text_memory}
use Rattle.bk_policy.specs.declared.settings.Settings.{Settings}
use Rattle.bk_load.specs.declared.errors.LoadSettings.{LoadSettings}
use Rattle.bk_load.specs.declared.errors.LoadSettings.TheVariants.{Bad, Disk, Read, Memory}

-- the name of `bitcask.toml`
abbrev pub settings_file : Name
settings_file = record { id = 0; kind = settings_kind }

-- What a text of the settings says, or why it says none. Other refusals say nothing of it.
abbrev pub AnswersText : List ℕ → Result Settings LoadSettings → Type 0
AnswersText text (Ok settings) = Says text (Ok settings)
AnswersText text (Err (Bad error)) = IsSettingsError text error × (error ≡ text_memory → ⊥)
AnswersText text (Err _) = Unit {0}

-- the same of the file, where it is there; else there are the defaults
abbrev pub Answers : Option (List ℕ) → Result Settings LoadSettings → Type 0
Answers (Some text) answer = AnswersText text answer
Answers None (Ok settings) = settings ≡ defaults
Answers None (Err (Bad error)) = Unit {0} → ⊥
Answers None (Err _) = Unit {0}

-- a refusal that no call on the disk gives
abbrev pub IsOfText : LoadSettings → Type 0
IsOfText (Bad error) = Unit {0}
IsOfText Memory = Unit {0}
IsOfText Disk = Unit {0} → ⊥
IsOfText Read = Unit {0} → ⊥

-- No count falls. `Disk` comes only where the disk's count of faults rose, `Read` only where that of the
-- fallible views did.
pub record Loads (was now : DiskShown) (result : Result Settings LoadSettings) : Type 0 where
  pub faults : was.faults ≤ now.faults
  pub views : was.views ≤ now.views
  pub outs : now.outs ≡ was.outs
  pub disk : IsErrOf result Disk → Rose was.faults now.faults
  pub read : IsErrOf result Read → Rose was.views now.views
