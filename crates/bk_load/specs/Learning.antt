-- What the keydir knows of the records that were read.
use Rattle.std.specs.Prelude.{◌≡◌, ℕ, ◌+◌, ◌≤◌, ◌==◌, ◌⊎◌, cond, nat_lt, max, List, [], ◌∷◌, length, Option, None, Some}
use Rattle.std.specs.List.{AllByRecursion}
use Rattle.std.specs.Str.{bytes_eq}
use Rattle.bk_base.specs.declared.limits.TheConstants.{LAST_SEQ, LONGEST_VALUE, RECORD_HEADER}
use Rattle.bk_base.specs.declared.numbers.FileId.{FileId}
use Rattle.bk_base.specs.declared.writes.Version.{Version}
use Rattle.bk_base.specs.declared.writes.Write.{Write}
use Rattle.bk_laws.specs.Record.{IsSeq}
use Rattle.bk_image.specs.Readings.{In}
use Rattle.bk_keydir.specs.Keydir.{Entry, Shown, newest_of, versions_of}
use Rattle.bk_keydir.specs.Counts.{live_of}

-- what was learned: the keydir, and the greatest seq that was read
pub record Known : Type 0 where
  pub keys : Shown
  pub last : ℕ

-- Of two versions of a key the one with the greater seq; of two with one seq, the one that was read
-- first.
abbrev pub newer : Option Version → Option Version → Option Version
newer None second = second
newer (Some v) None = Some v
newer (Some v) (Some w) = cond (nat_lt v.seq.0 w.seq.0) (Some w) (Some v)

abbrev pub if_of : List ℕ → List ℕ × Version → Option Version
if_of key p = cond (bytes_eq key p.0) (Some p.1) None

-- the newest version of a key among these, in the order in which they were read
abbrev pub newest_in : List ℕ → List (List ℕ × Version) → Option Version
newest_in key [] = None
newest_in key (p ∷ ps) = newer (if_of key p) (newest_in key ps)

-- Of each key the newest version is known, also of these.
abbrev pub Learns : List (List ℕ × Version) → List Entry → List Entry → Type 0
Learns read es fs = (key : List ℕ) → newest_of (versions_of key fs) ≡ newer (newest_of (versions_of key es)) (newest_in key read)

-- Of one file's records more bytes may be live now, at most so many; of others none.
abbrev pub Grows : ℕ → ℕ → List Entry → List Entry → Type 0
Grows file size es fs = (other : ℕ) → live_of other fs ≤ live_of other es + cond (other == file) size 0

-- it is a version of one of these keys
abbrev pub IsKept : Version → List Entry → Type 0
IsKept v es = (e : Entry) × In e es × In v e.1

-- Each version that is kept now was so before, or it ends within so many bytes of this file.
abbrev pub KeepsWithin : FileId → ℕ → List Entry → List Entry → Type 0
KeepsWithin file len es fs = (v : Version) → IsKept v fs → IsKept v es ⊎ ((v.file ≡ file) × (v.at + v.size ≤ len))

-- a version that a record of this key may have
pub record FitsVersion (key : List ℕ) (v : Version) : Type 0 where
  pub seq : IsSeq v.seq.0
  pub long : RECORD_HEADER + length key ≤ v.size
  pub most : v.size ≤ RECORD_HEADER + length key + LONGEST_VALUE

-- the key has one version, which fits and was read
abbrev pub IsLone : ℕ → List ℕ → List Version → Type 0
IsLone last key [] = Unit {0} → ⊥
IsLone last key (v ∷ w ∷ vs) = Unit {0} → ⊥
IsLone last key (v ∷ []) = FitsVersion key v × (v.seq.0 ≤ last)

abbrev pub IsLoneEntry : ℕ → Entry → Type 0
IsLoneEntry last e = IsLone last e.0 e.1

pub record AreFit (k : Known) : Type 0 where
  pub last : k.last ≤ LAST_SEQ
  pub entries : AllByRecursion (IsLoneEntry k.last) k.keys.entries

-- the greatest seq of these writes and of one before
abbrev pub greatest : ℕ → List Write → ℕ
greatest seq [] = seq
greatest seq (w ∷ ws) = greatest (max seq w.seq.0) ws
