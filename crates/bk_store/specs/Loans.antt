-- A record that a store lends to be read, and what the store answered by lending it.
use Rattle.std.specs.Prelude.{◌≡◌, ℕ, ◌+◌, ◌&&◌, not, Bool, true, false, List, length, drop, Option, None, Some, IsTrue}
use Rattle.bk_base.specs.declared.calls.Answer.{Answer}
use Rattle.bk_base.specs.declared.calls.Answer.TheVariants.{Found, Nothing}
use Rattle.bk_base.specs.declared.limits.TheConstants.{CHECKSUM, RECORD_HEADER}
use Rattle.bk_base.specs.declared.numbers.FileId.{FileId}
use Rattle.bk_base.specs.declared.writes.Version.{Version}
use Rattle.bk_base.specs.declared.writes.Write.{Write}
use Rattle.bk_crc.specs.Crc.{crc_of}
use Rattle.bk_disk.specs.Calls.{viewed}
use Rattle.bk_disk.specs.Causes.{Rose, bumped}
use Rattle.bk_disk.specs.Told.{Told}
use Rattle.bk_files.specs.Catalog.{main}
use Rattle.bk_store.specs.declared.errors.ReadError.{ReadError}
use Rattle.bk_store.specs.declared.errors.ReadError.TheVariants.{Read, Damaged}
use Rattle.bk_laws.specs.Log.{is_fresh}
use Rattle.bk_laws.specs.Record.{record_of, size_of}

-- a record that is lent: its view, and what is known of it
pub record Lent : Type 0 where
  -- the bytes that are still to be read, where they are told, and how many they are
  pub left : List ℕ
  pub rest : ℕ
  pub faults : ℕ
  pub fallible : Bool
  pub file : FileId
  pub at : ℕ
  pub size : ℕ
  pub crc : ℕ
  -- where in the record the value stands
  pub value_at : ℕ

-- the checksum of a record's bytes
abbrev pub check_of : List ℕ → ℕ
check_of bytes = crc_of (drop CHECKSUM bytes)

-- the version is a put
abbrev pub is_put : Option Version → Bool
is_put None = false
is_put (Some v) = not v.gone

-- it is a put that is live at this moment
abbrev pub is_live : ℕ → ℕ → Option Version → Bool
is_live ttl now None = false
is_live ttl now (Some v) = not v.gone && is_fresh v.moment.0 now ttl

-- what is lent of a version
pub record LendsVersion (key : List ℕ) (v : Version) (l : Lent) : Type 0 where
  pub file : l.file ≡ v.file
  pub at : l.at ≡ v.at
  pub size : l.size ≡ v.size
  pub crc : l.crc ≡ v.crc
  pub value_at : l.value_at ≡ RECORD_HEADER + length key
  pub rest : l.rest ≡ l.size

-- The loan is of the record of a write, whole, and its checksum is the one that was kept.
pub record LendsRecord (l : Lent) (w : Write) : Type 0 where
  pub text : l.left ≡ record_of w
  pub size : l.size ≡ size_of w
  pub crc : check_of l.left ≡ l.crc

-- what is lent is the record of this write, where there is one
abbrev pub LendsWrite : Option Write → Option Lent → Type 0
LendsWrite w None = Unit {0}
LendsWrite None (Some l) = ⊥
LendsWrite (Some w) (Some l) = LendsRecord l w

-- One view was made, of exactly the record, or none where nothing is lent.
abbrev pub Views : Option Lent → Told → Told → Type 0
Views None t u = u ≡ t
Views (Some l) t u = u ≡ viewed true (main l.file.0) l.at l.size t

-- A call that was refused made no view, and left the files and what a crash may leave of them.
pub record ViewsNothing (t u : Told) : Type 0 where
  pub image : u.image ≡ t.image
  pub fronts : u.fronts ≡ t.fronts
  pub past : u.past ≡ t.past
  pub asked : u.asked ≡ t.asked

abbrev pub view_of : Option Lent → ℕ → ℕ
view_of None n = n
view_of (Some l) n = bumped l.fallible n

-- the answer to a get: the value that stands in the record
abbrev pub get_reply : Option Lent → Answer
get_reply None = Nothing
get_reply (Some l) = Found (drop l.value_at l.left)

-- Why a loan couldn't be read: its view's count rose, or the bytes that were read have another checksum.
abbrev pub IsReadError : Bool → Lent → Lent → List ℕ → ReadError → Type 0
IsReadError tells old new into Read = Rose old.faults new.faults
IsReadError tells old new into (Damaged d) =
    (d.at ≡ old.at) × (d.file ≡ old.file) × (d.kept ≡ old.crc) × (d.found ≡ check_of into) × (d.found ≡ d.kept → ⊥)
    × (IsTrue tells → into ≡ old.left)

-- the version, where it is a put that is live
abbrev pub live_if : Bool → Option Version → Option Version
live_if true v = v
live_if false v = None

abbrev pub live_of : ℕ → ℕ → Option Version → Option Version
live_of ttl now v = live_if (is_live ttl now v) v

-- the version is lent exactly where it is a put that is live
abbrev pub LendsLive : List ℕ → Option Version → Option Lent → Type 0
LendsLive key None None = Unit {0}
LendsLive key None (Some l) = ⊥
LendsLive key (Some v) None = ⊥
LendsLive key (Some v) (Some l) = LendsVersion key v l

abbrev pub LendsNewest : ℕ → ℕ → List ℕ → Option Version → Option Lent → Type 0
LendsNewest ttl now key newest found = LendsLive key (live_of ttl now newest) found
