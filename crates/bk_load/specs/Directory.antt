-- What the listing of a directory says.
use Rattle.std.specs.Prelude.{◌≡◌, ℕ, ◌+◌, ◌≤◌, cond, max, Bool, true, false, not, List, [], ◌∷◌, is_some, Option, None, Some}
use Rattle.bk_base.specs.declared.names.Name.{Name}
use Rattle.bk_base.specs.declared.names.Kind.{Kind}
use Rattle.bk_base.specs.declared.names.Kind.TheVariants.{Main, MainTemp, Hint, HintTemp, Swap, SwapTemp, Settings}
use Rattle.bk_disk.specs.declared.disks.Listed.{Listed}
use Rattle.bk_disk.specs.Names.{same}
use Rattle.bk_image.specs.Readings.{In, IsThere, Reading, main}
use Rattle.bk_load.specs.declared.directory.Numbered.{Numbered}

abbrev pub or_len : Option ℕ → Option ℕ → Option ℕ
or_len (Some len) other = Some len
or_len None other = other

-- the length of a file that is listed; of a name that is listed twice the last one counts
abbrev pub len_in : List Listed → Name → Option ℕ
len_in [] n = None
len_in (f ∷ fs) n = or_len (len_in fs n) (cond (same n f.name) (Some f.len) None)

-- ids that rise, from `low` on
abbrev pub RiseFrom : ℕ → List Numbered → Type 0
RiseFrom low [] = Unit {0}
RiseFrom low (f ∷ fs) = (low ≤ f.id) × RiseFrom (f.id + 1) fs

-- the files of a kind that are listed, from an id on and in order of id
pub record AreNumbered (files : List Listed) (kind : Kind) (least : ℕ) (numbered : List Numbered) : Type 0 where
  pub rise : RiseFrom least numbered
  pub each : (f : Numbered) → In f numbered → len_in files (record { id = f.id; kind = kind }) ≡ Some f.len
  pub all : (id len : ℕ) → least ≤ id → len_in files (record { id = id; kind = kind }) ≡ Some len
      → In (record { len = len; id = id }) numbered

-- the greatest id in a listing, 0 where there is none
abbrev pub greatest_in : List Listed → ℕ
greatest_in [] = 0
greatest_in (f ∷ fs) = max f.name.id (greatest_in fs)

-- a file of this name is listed
abbrev pub IsListed : List Listed → Name → Type 0
IsListed files n = (f : Listed) × In f files × (f.name ≡ n)

-- nothing needs a file of this kind: it is temporary, or a hint whose data file isn't there
abbrev pub loose_by : Bool → Kind → Bool
loose_by has_main MainTemp = true
loose_by has_main HintTemp = true
loose_by has_main SwapTemp = true
loose_by has_main Hint = not has_main
loose_by has_main Main = false
loose_by has_main Swap = false
loose_by has_main Settings = false

-- no file is there that nothing needs
abbrev pub IsCleared : Reading → Type 0
IsCleared r = (n : Name) → IsThere r n → loose_by (is_some (r (main n.id))) n.kind ≡ false
