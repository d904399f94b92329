-- How what is kept of a key shows its versions.
use Rattle.std.specs.Prelude.{◌≡◌, ℕ, Bool, true, false, List, [], ◌∷◌, map, Option, None, Some}
use Rattle.std.specs.Vec.{vec_capacity}
use Rattle.std.specs.declared.vec.Vec.{Vec}
use Rattle.bk_base.specs.declared.writes.Version.{Version}
use Rattle.bk_keydir.specs.declared.kept.Kept.{Kept}
use Rattle.bk_keydir.specs.declared.kept.Kept.TheVariants.{Put, Gone, Several}
use Rattle.bk_keydir.specs.declared.kept.Place.{Place}
use Rattle.bk_keydir.specs.Keydir.{Entry, FallsBelow}

abbrev pub version_in : Bool → Place → Version
version_in gone p = record { seq = p.seq; at = p.at; moment = p.moment; file = p.file; size = p.size; crc = p.crc; gone = gone }

abbrev pub versions_in : Kept → List Version
versions_in (Put p) = version_in false p ∷ []
versions_in (Gone p) = version_in true p ∷ []
versions_in (Several vs) = vs.items

abbrev pub versions_if : Option Kept → List Version
versions_if None = []
versions_if (Some kept) = versions_in kept

abbrev pub shown : List ℕ × Kept → Entry
shown e = (e.0, versions_in e.1)

abbrev pub all_shown : List (List ℕ × Kept) → List Entry
all_shown es = map shown es

-- at least one version, and seqs that fall
abbrev pub IsChain : List Version → Type 0
IsChain [] = ⊥
IsChain (v ∷ vs) = FallsBelow v.seq.0 vs

abbrev pub AreChains : List Entry → Type 0
AreChains [] = Unit {0}
AreChains (e ∷ es) = IsChain e.1 × AreChains es

-- how many versions the chain takes that is made ready; it holds none
abbrev pub room_in : {Z : Type 0} → Option (Vec Version Z) → ℕ
room_in None = 0
room_in (Some chain) = vec_capacity chain

abbrev pub IsEmptyChain : {Z : Type 0} → Option (Vec Version Z) → Type 0
IsEmptyChain None = Unit {0}
IsEmptyChain (Some chain) = chain.items ≡ []
