-- What the files of a running store hold of its log. The log is `settled ++ recent`: no crash takes
-- a write of the first, and the second was appended since the last good sync. `tried` is what a
-- failed append was handed, until it is repaired. How many writes that may be is left to the store.
use Rattle.std.specs.Prelude.{◌≡◌, ℕ, ◌≤◌, Bool, true, false, List, [], ◌++◌, length, take, Option}
use Rattle.std.specs.Prelude.{None, Some, is_some}
use Rattle.std.specs.List.{AllByRecursion}
use Rattle.bk_base.specs.declared.names.Name.{Name}
use Rattle.bk_base.specs.declared.names.Kind.{Kind}
use Rattle.bk_base.specs.declared.names.Kind.TheVariants.{MainTemp, HintTemp, SwapTemp}
use Rattle.bk_base.specs.declared.writes.Write.{Write}
use Rattle.bk_disk.specs.Names.{same}
use Rattle.bk_disk.specs.Told.{Front, Image, Table, at}
use Rattle.bk_laws.specs.Log.{IsLog}
use Rattle.bk_laws.specs.Record.{IsWritable, records_of}
use Rattle.bk_image.specs.Readings.{Books, hint, main, synced_of}
use Rattle.bk_image.specs.CountedFiles.{Counts, IsOutput}
use Rattle.bk_image.specs.RecoveredLog.{Safe}

-- the active file, and how many of its bytes are known to be whole records
pub record ActiveFile : Type 0 where
  pub id : ℕ
  pub len : ℕ

-- the name isn't that of the active file, where there is one
abbrev pub IsOther : Option ActiveFile → Name → Type 0
IsOther None n = Unit {0}
IsOther (Some a) n = same n (main a.id) ≡ false

-- A file that isn't appended to is there where its front is. While it isn't lent it reads as its
-- synced bytes, and a crash leaves just these.
pub record IsSettledAt (bytes : Option (List ℕ)) (f : Front) : Type 0 where
  pub there : is_some bytes ≡ true
  pub reads : f.lent ≡ false → bytes ≡ Some f.synced
  pub whole : f.lent ≡ false → f.longest ≤ length f.synced
  pub nothing_pending : f.lent ≡ false → f.pending ≡ []

abbrev pub RestsAt : Option (List ℕ) → Option Front → Type 0
RestsAt bytes None = bytes ≡ None
RestsAt bytes (Some f) = IsSettledAt bytes f

-- The active file counts, has no hint, and holds its book in its synced bytes. The recent writes
-- and those tried were handed to it since; it reads as far as these got through.
pub record IsActiveFile (a : ActiveFile) (image : Image) (fronts : Table Front) (books : Books)
    (recent tried : List Write) : Type 0 where
  pub front : Front
  pub is : at fronts (main a.id) ≡ Some front
  pub ours : front.lent ≡ false
  pub counts : Counts (synced_of fronts) (main a.id)
  pub no_hint : at fronts (hint a.id) ≡ None
  pub synced : front.synced ≡ records_of (books (main a.id))
  pub pending : front.pending ≡ records_of (recent ++ tried)
  pub rest : recent ++ tried ≡ [] → front.longest ≤ length front.synced
  pub known : a.len ≡ length (records_of (books (main a.id) ++ recent))
  -- how many bytes of what was tried stand behind the known ones
  pub through : ℕ
  pub bytes : at image (main a.id) ≡ Some
      (records_of (books (main a.id) ++ recent) ++ take through (records_of tried))

-- without an active file nothing was appended
abbrev pub HasActive : Option ActiveFile → Image → Table Front → Books → List Write → List Write
    → Type 0
HasActive None image fronts books recent tried = recent ++ tried ≡ []
HasActive (Some a) image fronts books recent tried = IsActiveFile a image fronts books recent tried

abbrev pub is_temporary : Kind → Bool
is_temporary MainTemp = true
is_temporary HintTemp = true
is_temporary SwapTemp = true
is_temporary kind = false

-- A file that may be lent: a crash leaves any bytes under its name, and none of them count.
pub record MayBeLent (fronts : Table Front) (n : Name) : Type 0 where
  pub temporary : is_temporary n.kind ≡ true
  pub unlisted : n.kind ≡ MainTemp → IsOutput (synced_of fronts) n.id → ⊥

-- It stands over the fronts, since they tell what each crash leaves; the image follows.
pub record Core (image : Image) (fronts : Table Front) (books : Books) (active : Option ActiveFile)
    (settled recent tried : List Write) : Type 0 where
  -- the synced bytes hold the settled writes
  pub safe : Safe (synced_of fronts) books settled
  pub rises : IsLog (settled ++ (recent ++ tried))
  pub fit : AllByRecursion IsWritable (recent ++ tried)
  pub has_active : HasActive active image fronts books recent tried
  pub others : (n : Name) → IsOther active n → RestsAt (at image n) (at fronts n)
  pub lent : (n : Name) (f : Front) → at fronts n ≡ Some f → f.lent ≡ true → MayBeLent fronts n
