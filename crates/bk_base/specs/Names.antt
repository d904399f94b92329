-- The names of the store's files. This table is all of them.
use Rattle.std.specs.Prelude.{◌≡◌, ℕ, ◌≤◌, List, ◌∷◌, ◌++◌, Option, Some, None, MatchOption, codes}
use Rattle.std.specs.Fmt.{decimal}
use Rattle.bk_base.specs.declared.limits.TheConstants.{LAST_FILE}
use Rattle.bk_base.specs.declared.names.Kind.{Kind}
use Rattle.bk_base.specs.declared.names.Kind.TheVariants.{Main, MainTemp, Hint, HintTemp, Swap, SwapTemp, Settings}
use Rattle.bk_base.specs.declared.names.Name.{Name}

-- what stands behind the number and a dot, for the kinds whose files are numbered
abbrev pub ending_of : Kind → Option (List ℕ)
ending_of Main = Some (codes "bitcask.data")
ending_of MainTemp = Some (codes "bitcask.temp")
ending_of Hint = Some (codes "bitcask.hint")
ending_of HintTemp = Some (codes "bitcask.htmp")
ending_of Swap = Some (codes "bitcask.swap")
ending_of SwapTemp = Some (codes "bitcask.stmp")
ending_of Settings = None

-- the text of a name with this number and this ending; 46 is the dot
abbrev pub text_with : ℕ → Option (List ℕ) → List ℕ
text_with id (Some ending) = decimal id ++ 46 ∷ ending
text_with id None = codes "bitcask.toml"

-- the text of a name
abbrev pub text_of : Name → List ℕ
text_of name = text_with name.id (ending_of name.kind)

-- a number that a file may have
abbrev pub IsFileNumber : ℕ → Type 0
IsFileNumber id = (1 ≤ id) × (id ≤ LAST_FILE)

-- the name is one of the table: a number where its kind is numbered, and 0 for the settings
abbrev pub IsListed : Name → Type 0
IsListed name = MatchOption (ending_of name.kind) (name.id ≡ 0) (λ _. IsFileNumber name.id)
