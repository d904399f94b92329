-- What a scan of a file has, and what it finds.
use Rattle.std.specs.Prelude.{◌≡◌, ℕ, ◌+◌, ◌-◌, ◌≤◌, List, ◌++◌, length, Bool, true, Option, None, Some, Result, IsTrue, IsErrOf}
use Rattle.std.specs.List.{AllByRecursion}
use Rattle.bk_base.specs.declared.limits.TheConstants.{LONGEST_KEY, LONGEST_VALUE, RECORD_HEADER}
use Rattle.bk_base.specs.declared.numbers.FileId.{FileId}
use Rattle.bk_base.specs.declared.writes.Write.{Write}
use Rattle.bk_disk.specs.Causes.{Rose}
use Rattle.bk_laws.specs.Record.{IsWritable, NoRecord, RecordStands, checksum_of, records_of, size_of}
use Rattle.bk_laws.specs.Version.{version_at}
use Rattle.bk_files.specs.declared.scan.Found.{Found}
use Rattle.bk_files.specs.declared.scan.FoundKey.{FoundKey}
use Rattle.bk_files.specs.declared.scan.ScanError.{ScanError}
use Rattle.bk_files.specs.declared.scan.ScanError.TheVariants.{Read}

-- how many bytes a record has at most: a header, 65,535 of a key and 16,777,216 of a value
abbrev pub largest : ℕ
largest = RECORD_HEADER + LONGEST_KEY + LONGEST_VALUE

-- how many bytes a scan holds at most: a record that isn't whole, and a piece of 65,536
abbrev pub most_held : ℕ
most_held = largest - 1 + 65536

-- a scan of a file
pub record Scanned : Type 0 where
  -- the bytes that were read and not given yet
  pub held : List ℕ
  -- where in the file they begin
  pub place : ℕ
  -- how many bytes of the file stand behind them
  pub unread : ℕ
  pub file : FileId

-- how many bytes the file has
abbrev pub file_len : Scanned → ℕ
file_len s = s.place + length s.held + s.unread

-- However the bytes go on, no record stands at their front.
abbrev pub IsHopeless : List ℕ → Type 0
IsHopeless bytes = (left : List ℕ) → NoRecord (bytes ++ left)

-- However the bytes go on, a record at their front has at least n bytes; and where so many are
-- there, it is there whole.
pub record IsNeeded (bytes : List ℕ) (n : ℕ) : Type 0 where
  pub bound : n ≤ largest
  pub least : (left : List ℕ) (w : Write) (rest : List ℕ) → RecordStands (bytes ++ left) w rest → n ≤ size_of w
  pub whole : n ≤ length bytes → (left : List ℕ) (w : Write) (rest : List ℕ)
      → RecordStands (bytes ++ left) w rest → size_of w ≤ length bytes

-- However the file goes on, by so many bytes, a record at its front is held whole.
abbrev pub IsSettled : List ℕ → ℕ → Type 0
IsSettled held unread = (left : List ℕ) → length left ≡ unread → (w : Write) (rest : List ℕ)
    → RecordStands (held ++ left) w rest → size_of w ≤ length held

-- the record at the front of the text was found, and the rest is left; or none stands there, and all is left
abbrev pub Finds : Option Found → List ℕ → List ℕ → Type 0
Finds (Some f) text rest = RecordStands text f.write rest
Finds None text rest = NoRecord text × (rest ≡ text)

-- what was found says its place, its size and its checksum, and the scan goes on behind it
pub record IsFound (f : Found) (before now : ℕ) : Type 0 where
  pub fits : IsWritable f.write
  pub at : f.at ≡ before
  pub size : f.size ≡ size_of f.write
  pub crc : f.crc ≡ checksum_of f.write
  pub behind : now ≡ before + f.size

abbrev pub Placed : Option Found → ℕ → ℕ → Type 0
Placed (Some f) before now = IsFound f before now
Placed None before now = now ≡ before

-- what was found without its value is said of some write, and the scan goes on behind its record
pub record IsFoundKey (f : FoundKey) (before : Scanned) (now : ℕ) : Type 0 where
  pub write : Write
  pub fits : IsWritable write
  pub key : f.key ≡ write.key
  pub version : f.version ≡ version_at before.file before.place write
  pub behind : now ≡ before.place + f.version.size

abbrev pub PlacedKey : Option FoundKey → Scanned → ℕ → Type 0
PlacedKey (Some f) before now = IsFoundKey f before now
PlacedKey None before now = now ≡ before.place

-- The record at the front of the text was found without its value, and the rest is left. So `next`
-- finds the same write there.
pub record FindsWrite (f : FoundKey) (before : Scanned) (text rest : List ℕ) : Type 0 where
  pub write : Write
  pub stands : RecordStands text write rest
  pub key : f.key ≡ write.key
  pub version : f.version ≡ version_at before.file before.place write

abbrev pub FindsKey : Option FoundKey → Scanned → List ℕ → List ℕ → Type 0
FindsKey (Some f) before text rest = FindsWrite f before text rest
FindsKey None before text rest = NoRecord text × (rest ≡ text)

-- a view tells the bytes that it has left, and they are as many as it says
pub record IsTold (tells : Bool) (bytes : List ℕ) (size : ℕ) : Type 0 where
  pub shown : IsTrue tells
  pub whole : length bytes ≡ size

-- a view's count of faults doesn't fall, and a read failed only where it rose and the view is fallible
pub record HasReadCause {T : Type 0} (before now : ℕ) (was_fallible is_fallible : Bool) (result : Result T ScanError)
    : Type 0 where
  pub later : before ≤ now
  pub fallible : is_fallible ≡ was_fallible
  pub failed : IsErrOf result Read → Rose before now × (was_fallible ≡ true)

-- The text begins at this place of its file. Its first records are those of these writes, they end
-- at the second place, and the rest follows.
pub record AreFirst (text : List ℕ) (at : ℕ) (writes : List Write) (end : ℕ) (rest : List ℕ) : Type 0 where
  pub fit : AllByRecursion IsWritable writes
  pub whole : text ≡ records_of writes ++ rest
  pub ends : end ≡ at + length (records_of writes)
