-- What the parts of an event do that puts a write.
use Rattle.std.specs.Prelude.{◌≡◌, ℕ, ◌+◌, ◌-◌, ◌≤◌, ◌<◌, ◌==◌, Bool, true, false, IsTrue, cond, List, [], ◌∷◌, ◌++◌, drop, take, is_some, length, Option, None, Some}
use Rattle.bk_base.specs.declared.names.Name.{Name}
use Rattle.bk_base.specs.declared.rows.Row.{Row}
use Rattle.bk_base.specs.declared.writes.Version.{Version}
use Rattle.bk_base.specs.declared.writes.Write.{Write}
use Rattle.bk_base.specs.declared.limits.TheConstants.{LAST_FILE}
use Rattle.bk_disk.specs.Causes.{Rose}
use Rattle.bk_disk.specs.Crashes.{AtEach}
use Rattle.bk_disk.specs.Told.{clock}
use Rattle.bk_files.specs.Catalog.{Begins, row_of, with_counts}
use Rattle.bk_files.specs.Files.{HalfRolled, IsConsistent, IsFromScratch, IsSyncedIfSealed, Rolled, Seen, is_due, is_torn, last_of}
use Rattle.bk_files.specs.declared.errors.RollError.{RollError}
use Rattle.bk_files.specs.declared.errors.RollError.TheVariants.{FullFiles as no_file, Disk as roll_failed, Memory as roll_memory}
use Rattle.bk_image.specs.Prefix.{MeetsEither}
use Rattle.bk_image.specs.Readings.{Reading, bytes_in, main}
use Rattle.bk_keydir.specs.Counts.{bytes_in as bytes_of_version, is_put_in, live_of, one_in, refs_of}
use Rattle.bk_keydir.specs.Keydir.{Entry, HasRoom, with_version}
use Rattle.bk_keydir.specs.Keydir.{Shown as KeydirShown}
use Rattle.bk_laws.specs.Log.{last_seq}
use Rattle.bk_laws.specs.Record.{IsWritable, record_of, size_of}
use Rattle.bk_laws.specs.Version.{version_at}
use Rattle.bk_store.specs.declared.appending.Place.{Place}
use Rattle.bk_store.specs.declared.errors.PutError.{PutError}
use Rattle.bk_store.specs.declared.errors.PutError.TheVariants.{FullSeq, FullFiles, Disk, Memory}
use Rattle.bk_store.specs.Shown.{known_bytes}
use Rattle.bk_store.specs.Standing.{Content, ContentStands, FilesStand}
use Rattle.bk_store.specs.Events.{IsLeft, KeepsPast}

-- ---- the files

-- each file's known bytes are still there, and perhaps more behind them
abbrev pub Extends : Reading → Reading → Type 0
Extends r s = (n : Name) → (more : List ℕ) × (bytes_in s n ≡ bytes_in r n ++ more)

abbrev pub live_in : Option Row → ℕ
live_in None = 0
live_in (Some r) = r.live

abbrev pub refs_in : Option Row → ℕ
refs_in None = 0
refs_in (Some r) = r.refs

abbrev pub total_in : Option Row → ℕ
total_in None = 0
total_in (Some r) = r.total

-- A row after a call: its counts are as before, 0 where it is new, and its records have at least so
-- many bytes more.
pub record RowGoesOn (more : ℕ) (old : Option Row) (r : Row) : Type 0 where
  pub live : r.live ≡ live_in old
  pub refs : r.refs ≡ refs_in old
  pub total : total_in old + more ≤ r.total

abbrev pub RowGoes : ℕ → Option Row → Option Row → Type 0
RowGoes more old None = old ≡ None
RowGoes more old (Some r) = RowGoesOn more old r

-- no row is gone, and each has the counts that it had
abbrev pub RowsStay : List Row → List Row → Type 0
RowsStay old new = (n : ℕ) → RowGoes 0 (row_of n old) (row_of n new)

-- and that of this file has so many bytes more
abbrev pub RowsGrow : ℕ → ℕ → List Row → List Row → Type 0
RowsGrow id size old new = (n : ℕ) → RowGoes (cond (n == id) size 0) (row_of n old) (row_of n new)

-- what was tried is another
abbrev pub with_tried : List Write → Content → Content
with_tried tried c = record c { tried = tried }

-- the log has one write more, and nothing is tried
abbrev pub with_write : Write → Content → Content
with_write w c = record c { log = c.log ++ w ∷ []; tried = [] }

abbrev pub CrashMeetsFrom : Seen → Seen → Content → List Write → Type 0
CrashMeetsFrom old new c more = AtEach new.told (clock old.told) (MeetsEither c.log c.kept c.tried more)

-- the record of a write was appended at this place
pub record IsAppended (old new : Seen) (c : Content) (w : Write) (p : Place) : Type 0 where
  pub disk : FilesStand new (with_write w c)
  pub known : Extends (known_bytes old) (known_bytes new)
  pub placed : take (size_of w) (drop p.at (bytes_in (known_bytes new) (main p.file.0))) ≡ record_of w
  pub rows : RowsGrow p.file.0 (size_of w) old.catalog.rows new.catalog.rows
  pub crash : CrashMeetsFrom old new c (w ∷ [])

-- It was refused: of what the files hold, what is tried alone may be another. What the event tries, a crash
-- within it may meet; what is left of it may be less.
pub record IsNotAppended (old new : Seen) (c : Content) (more tries : List Write) : Type 0 where
  pub left : List Write
  pub is_left : IsLeft c.tried tries left
  pub disk : FilesStand new (with_tried left c)
  pub known : Extends (known_bytes old) (known_bytes new)
  pub rows : RowsStay old.catalog.rows new.catalog.rows
  pub crash : CrashMeetsFrom old new c more

-- the write may follow this log, and this is its record
pub record MayFollow (w : Write) (text : List ℕ) (c : Content) : Type 0 where
  pub fits : IsWritable w
  pub is : text ≡ record_of w
  pub newer : last_seq c.log < w.seq.0

abbrev pub Appends : List ℕ → Place → Seen → Seen → Type 0
Appends text p old new = (c : Content) (w : Write) → FilesStand old c → MayFollow w text c → IsAppended old new c w p

-- what a write that was refused may leave tried: its record, where the disk failed
abbrev pub tried_by : PutError → Write → List Write
tried_by Disk w = w ∷ []
tried_by e w = []

abbrev pub DoesNotAppend : PutError → List ℕ → Seen → Seen → Type 0
DoesNotAppend e text old new = (c : Content) (w : Write) → FilesStand old c → MayFollow w text c
    → IsNotAppended old new c (w ∷ []) (tried_by e w)

-- what each call on the files keeps
pub record KeepsFacts (old new : Seen) : Type 0 where
  pub consistent : IsConsistent new
  pub totals : IsFromScratch old → IsFromScratch new
  pub synced : IsSyncedIfSealed old → IsSyncedIfSealed new

-- over every disk
pub record FilesGo (tells : Bool) (old new : Seen) : Type 0 where
  pub consistent : IsTrue tells → IsConsistent new
  pub past : IsTrue tells → KeepsPast old.told new.told
  pub later : old.faults ≤ new.faults
  pub views : new.fallible_views ≡ old.fallible_views
  pub outs : new.fallible_outs ≡ old.fallible_outs
  pub limit : new.catalog.max_file ≡ old.catalog.max_file

-- a new file was made, or nothing was done
abbrev pub IsRolledFor : Bool → Bool → Seen → Seen → Type 0
IsRolledFor tells true old new = Begins old.catalog new.catalog × (IsTrue tells → Rolled old new)
IsRolledFor tells false old new = new ≡ old

-- A text of this size now needs no new file; where it needed one, a file number was left for it.
pub record Rolls (tells : Bool) (size : ℕ) (rolled : Bool) (old new : Seen) : Type 0 where
  pub is : rolled ≡ is_due size old
  pub moved : IsRolledFor tells rolled old new
  pub whole : is_torn new ≡ false
  pub fits : is_due size new ≡ false
  pub room : is_due size old ≡ false → old.room ≤ new.room
  pub file_left : is_due size old ≡ true → last_of old < LAST_FILE

abbrev pub WhyNoRoll : Seen → Seen → RollError → Type 0
WhyNoRoll old new no_file = LAST_FILE ≤ last_of old
WhyNoRoll old new roll_failed = Rose old.faults new.faults
WhyNoRoll old new roll_memory = Unit {0}

-- the roll was refused
pub record RollsNot (tells : Bool) (size : ℕ) (old new : Seen) (e : RollError) : Type 0 where
  pub due : is_due size old ≡ true
  pub why : WhyNoRoll old new e
  pub catalog : new.catalog ≡ old.catalog
  pub half : IsTrue tells → HalfRolled old new

-- the record was appended
pub record AppendsAt (tells : Bool) (text : List ℕ) (p : Place) (old new : Seen) : Type 0 where
  pub rolled : p.rolled ≡ is_due (length text) old
  pub file_left : is_due (length text) old ≡ true → last_of old < LAST_FILE
  pub appended : IsTrue tells → Appends text p old new

abbrev pub WhyNoAppend : List ℕ → Seen → Seen → PutError → Type 0
WhyNoAppend text old new FullSeq = ⊥
WhyNoAppend text old new FullFiles = (is_due (length text) old ≡ true) × (LAST_FILE ≤ last_of old)
WhyNoAppend text old new Disk = Rose old.faults new.faults
WhyNoAppend text old new Memory = is_due (length text) old ≡ false → length text ≤ old.room → ⊥

-- it was refused
pub record AppendsNot (tells : Bool) (text : List ℕ) (old new : Seen) (e : PutError) : Type 0 where
  pub why : WhyNoAppend text old new e
  pub nothing : IsTrue tells → DoesNotAppend e text old new

-- ---- the counts

-- The counts are those of the versions before, and there is room for one version more.
pub record RowHasRoom (v : Version) (entries : List Entry) (id : ℕ) (r : Row) : Type 0 where
  pub live : r.live ≡ live_of id entries
  pub refs : r.refs ≡ refs_of id entries
  pub live_fits : r.live + bytes_of_version id v ≤ r.total
  pub refs_fits : r.refs + one_in id v ≤ r.total

abbrev pub RowsHaveRoom : Version → List Row → List Entry → Type 0
RowsHaveRoom v rows entries = (id : ℕ) (r : Row) → row_of id rows ≡ Some r → RowHasRoom v entries id r

-- Of the files the counts alone may have changed.
pub record CountsAlone (tells : Bool) (old new : Seen) : Type 0 where
  pub same : new ≡ record old { catalog = record old.catalog { rows = new.catalog.rows } }
  pub there : (id : ℕ) → is_some (row_of id new.catalog.rows) ≡ is_some (row_of id old.catalog.rows)
  pub consistent : IsTrue tells → IsConsistent old → IsConsistent new
  pub totals : IsTrue tells → IsFromScratch old → IsFromScratch new
  pub synced : IsTrue tells → IsSyncedIfSealed old → IsSyncedIfSealed new

-- ---- one version more or less in the counts

-- the counts take a version more without passing the bytes of the file's records
pub record CanAdd (id : ℕ) (v : Version) (r : Row) : Type 0 where
  pub live : r.live + bytes_of_version id v ≤ r.total
  pub refs : r.refs + one_in id v ≤ r.total

abbrev pub counts_added : ℕ → Version → Row → Row
counts_added id v r = with_counts (r.live + bytes_of_version id v) (r.refs + one_in id v) r

-- so many references less, where the version names this file
abbrev pub counts_taken : ℕ → Version → ℕ → Row → Row
counts_taken id v refs r = with_counts (r.live - bytes_of_version id v) (r.refs - cond (is_put_in id v) refs 0) r

-- the version that has gone, or the one that a fold still sees
abbrev pub earlier_taken : ℕ → Option Version → Option Version → Row → Row
earlier_taken id (Some v) seen r = counts_taken id v 1 r
earlier_taken id None (Some v) r = counts_taken id v 0 r
earlier_taken id None None r = r

-- an older version that has gone
abbrev pub ref_taken : ℕ → Version → Row → Row
ref_taken id v r = with_counts r.live (r.refs - one_in id v) r

-- ---- the whole

-- the store has one write more
abbrev pub PutsWrite : Write → Seen → KeydirShown → Seen → KeydirShown → Type 0
PutsWrite w files keys new_files new_keys = (ttl : ℕ) (c : Content) → ContentStands ttl files keys c
    → last_seq c.log < w.seq.0 → ContentStands ttl new_files new_keys (with_write w c)

-- it has what it had, but for what is tried
abbrev pub PutsNothing : PutError → Write → Seen → KeydirShown → Seen → KeydirShown → Type 0
PutsNothing e w files keys new_files new_keys = (ttl : ℕ) (c : Content) → ContentStands ttl files keys c
    → last_seq c.log < w.seq.0
    → (left : List Write) × IsLeft c.tried (tried_by e w) left × ContentStands ttl new_files new_keys (with_tried left c)

abbrev pub CrashMeetsPut : Write → Seen → Seen → Type 0
CrashMeetsPut w old new = (c : Content) → FilesStand old c → last_seq c.log < w.seq.0 → CrashMeetsFrom old new c (w ∷ [])

-- the version of the write was put
pub record HasVersionOf (w : Write) (old new : KeydirShown) : Type 0 where
  pub version : Version
  pub says : version ≡ version_at version.file version.at w
  pub entries : new.entries ≡ with_version old.slots w.key version old.entries

-- ---- a write, over every disk

-- All that a write needs is there already: its record fits the active file, and neither making it nor
-- its key's version takes memory.
pub record HasReserved (w : Write) (files : Seen) (keys : KeydirShown) (capacity : ℕ) : Type 0 where
  pub no_new_file : is_due (size_of w) files ≡ false
  pub room : size_of w ≤ files.room
  pub buffer : size_of w ≤ capacity
  pub key : HasRoom w.key keys

-- the write was made
pub record WritesDown (tells : Bool) (w : Write) (rolled : Bool) (files : Seen) (keys : KeydirShown) (new : Seen) (now : KeydirShown)
    : Type 0 where
  pub is_rolled : rolled ≡ is_due (size_of w) files
  pub file_left : is_due (size_of w) files ≡ true → last_of files < LAST_FILE
  pub entries : HasVersionOf w keys now
  pub puts : IsTrue tells → PutsWrite w files keys new now

abbrev pub WhyNoWrite : Write → Seen → Seen → PutError → Type 0
WhyNoWrite w files new FullSeq = ⊥
WhyNoWrite w files new FullFiles = (is_due (size_of w) files ≡ true) × (LAST_FILE ≤ last_of files)
WhyNoWrite w files new Disk = Rose files.faults new.faults
WhyNoWrite w files new Memory = Unit {0}

-- it was refused
pub record WritesNot (tells : Bool) (w : Write) (files : Seen) (keys : KeydirShown) (new : Seen) (now : KeydirShown)
    (e : PutError) : Type 0 where
  pub why : WhyNoWrite w files new e
  pub entries : now.entries ≡ keys.entries
  pub nothing : IsTrue tells → PutsNothing e w files keys new now
