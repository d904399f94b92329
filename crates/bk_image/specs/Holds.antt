-- A disk holds a log. All that a merge adds to this stands in one parameter `J`, a fact over plain
-- data that lasts through the store's own events; without merges it is that no swap list stands.
use Rattle.std.specs.Prelude.{◌≡◌, ℕ, ◌<◌, ◌≤◌, ◌⊎◌, Bool, false, List, [], ◌∷◌, ◌++◌, length}
use Rattle.std.specs.Prelude.{Option, None, Some, IfSome, option_map, unwrap_or}
use Rattle.bk_base.specs.declared.names.Name.{Name}
use Rattle.bk_base.specs.declared.names.Kind.TheVariants.{Main}
use Rattle.bk_base.specs.declared.writes.Write.{Write}
use Rattle.bk_disk.specs.Names.{same}
use Rattle.bk_disk.specs.Told.{Front, Image, IsWell, Table, Told, at, bytes_of}
use Rattle.bk_disk.specs.Crashes.{AtEach}
use Rattle.bk_laws.specs.Log.{IsLog}
use Rattle.bk_laws.specs.Record.{records_of}
use Rattle.bk_image.specs.Readings.{Books, In, Reading, added, bytes_in, main, placed, synced_of}
use Rattle.bk_image.specs.CountedFiles.{Counts, HasNoList, IsInput, IsOutput}
use Rattle.bk_image.specs.Prefix.{MeetsEither}
use Rattle.bk_image.specs.Core.{ActiveFile, Core}
use Rattle.bk_image.specs.Known.{KnowsSame, known_of}

-- what `J` may speak of
pub record Shape : Type 0 where
  -- the id of the active file, and the greatest id given out
  pub active : Option ℕ
  pub last : ℕ
  -- the synced bytes of each file, and whether it is lent
  pub reading : Reading
  pub lent : Name → Bool
  pub books : Books
  -- the writes that no crash takes, and the whole log
  pub settled : List Write
  pub log : List Write

abbrev pub lent_in : Table Front → Name → Bool
lent_in fronts n = unwrap_or (option_map (λ f. f.lent) (at fronts n)) false

abbrev pub shape_of : Table Front → Option ActiveFile → ℕ → Books → List Write → List Write → Shape
shape_of fronts a last books settled log = record {
  active = option_map (λ (f : ActiveFile). f.id) a;
  last = last;
  reading = synced_of fronts;
  lent = lent_in fronts;
  books = books;
  settled = settled;
  log = log;
}

-- The active file was synced: it now holds these writes more, and each other file reads as before.
pub record Syncs (v : Shape) (id : ℕ) (more : List Write) (s : Reading) : Type 0 where
  pub active : v.active ≡ Some id
  pub counts : Counts v.reading (main id)
  pub reads : s (main id) ≡ Some (records_of (v.books (main id) ++ more))
  pub others : (n : Name) → same n (main id) ≡ false → s n ≡ v.reading n
  pub split : v.log ≡ v.settled ++ more
  pub rises : IsLog v.log
  pub within : (n : Name) (w : Write) → Counts v.reading n → In w (v.books n) → In w v.settled

-- A new data file was made, or stood there empty, and no list names it.
pub record Makes (v : Shape) (id : ℕ) (s : Reading) : Type 0 where
  pub above : v.last < id
  pub was_empty : bytes_in v.reading (main id) ≡ []
  pub no_input : IsInput v.reading id → ⊥
  pub no_output : IsOutput v.reading id → ⊥
  pub reads : s (main id) ≡ Some []
  pub others : (n : Name) → same n (main id) ≡ false → s n ≡ v.reading n

-- a fact that lasts through what the store does to its files between merges
pub record Lasts (J : Shape → Type 0) : Type 0 where
  pub writes : (v : Shape) (w : Write) → J v → J (record v { log = v.log ++ w ∷ [] })
  pub syncs : (v : Shape) (id : ℕ) (more : List Write) (s : Reading) → Syncs v id more s → J v
      → J (record v {
        reading = s;
        books = added (main id) more v.books;
        settled =
            v.settled ++ more;
      })
  pub makes : (v : Shape) (id : ℕ) (s : Reading) → Makes v id s → J v
      → J (record v { reading = s; books = placed (main id) [] v.books })
  pub rolls : (v : Shape) (id : ℕ) → v.last < id → v.books (main id) ≡ [] → J v
      → J (record v { active = Some id; last = id })

-- Each seq in the active file is greater than each in another counted file.
abbrev pub IsYoungest : Shape → Type 0
IsYoungest v = (id : ℕ) (n : Name) (w x : Write) → v.active ≡ Some id → Counts v.reading n
    → same n (main id) ≡ false
    → In w (v.books (main id)) → In x (v.books n) → x.seq.0 < w.seq.0

abbrev pub Both : (Shape → Type 0) → (Shape → Type 0) → Shape → Type 0
Both P Q v = P v × Q v

abbrev pub Young : (Shape → Type 0) → Shape → Type 0
Young K = Both IsYoungest K

-- no merge has left a list
abbrev pub IsIdle : Shape → Type 0
IsIdle v = HasNoList v.reading

-- Of the ids to come no file is there but an empty data file that a refused roll may have left, and
-- no list names one.
pub record AreFree (last : ℕ) (image : Image) (fronts : Table Front) : Type 0 where
  pub empty : (id : ℕ) → last < id → bytes_of (main id) image ≡ []
  pub ours : (id : ℕ) (f : Front) → last < id → at fronts (main id) ≡ Some f → f.lent ≡ false
  pub others : (n : Name) → last < n.id → (n.kind ≡ Main → ⊥) → at image n ≡ None
  pub no_input : (id : ℕ) → last < id → IsInput (synced_of fronts) id → ⊥
  pub no_output : (id : ℕ) → last < id → IsOutput (synced_of fronts) id → ⊥

-- The disk holds this log, of which a crash keeps at least the first `kept` writes.
pub record Holds (J : Shape → Type 0) (t : Told) (active : Option ActiveFile) (last : ℕ)
    (log : List Write)
    (kept : ℕ) (tried : List Write) : Type 0 where
  pub books : Books
  pub settled : List Write
  pub recent : List Write
  pub split : log ≡ settled ++ recent
  pub kept_safe : kept ≤ length settled
  pub well : IsWell t
  pub within : IfSome active (λ a. a.id ≤ last)
  pub free : AreFree last t.image t.fronts
  pub core : Core t.image t.fronts books active settled recent tried
  pub job : J (shape_of t.fronts active last books settled log)

-- How an event began: at a moment, with these known bytes, with a log of which `kept` writes were
-- synced, with what had been tried before, and with what it tries itself.
pub record Begun : Type 0 where
  pub from : ℕ
  pub known : Reading
  pub log : List Write
  pub kept : ℕ
  pub tried : List Write
  pub more : List Write

-- what was tried before the event, nothing, or what it tries itself
abbrev pub IsLeft : Begun → List Write → Type 0
IsLeft e left = (left ≡ e.tried) ⊎ ((left ≡ []) ⊎ (left ≡ e.more))

-- How far the event has come: the disk holds the log as it began, with `left` now tried, the known
-- bytes are as they were, and a crash at each moment since meets the prefix.
pub record SoFar (J : Shape → Type 0) (e : Begun) (t : Told) (active : Option ActiveFile) (last : ℕ)
    (left : List Write) : Type 0 where
  pub holds : Holds J t active last e.log e.kept left
  pub is_left : IsLeft e left
  pub known : KnowsSame e.known (known_of active t.image)
  pub each : AtEach t e.from (MeetsEither e.log e.kept e.tried e.more)
