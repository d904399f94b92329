-- What is written as a listing ends.
use Rattle.std.specs.Prelude.{◌≡◌, ◌⊎◌, ℕ, List, ◌++◌, Bool, IsTrue}
use Rattle.bk_base.specs.declared.requests.Reply.TheVariants.{Damaged as damaged_line}
use Rattle.bk_disk.specs.Streams.{LeftOver, Wrote}
use Rattle.bk_laws.specs.Wire.{reply_text}
use Rattle.bk_session.specs.declared.outbox.Unread.{Unread}
use Rattle.bk_session.specs.declared.outbox.Unread.TheVariants.{Sink as sink_failed, Memory as no_memory, Read, Damaged as is_damaged}
use Rattle.bk_store.specs.declared.errors.FoldError.{FoldError}
use Rattle.bk_store.specs.declared.errors.FoldError.TheVariants.{Disk as fold_disk}
use Rattle.bk_store.specs.declared.errors.LocateError.{LocateError}
use Rattle.bk_store.specs.declared.errors.LocateError.TheVariants.{Disk as locate_disk, Memory as locate_memory}
use Rattle.bk_list.specs.declared.lists.ListEnd.{ListEnd}
use Rattle.bk_list.specs.declared.lists.ListEnd.TheVariants.{Disk, Memory, Sink, Damaged}

-- how a fold that gave no pair ends the listing
abbrev pub end_of : FoldError → ListEnd
end_of fold_disk = Disk
end_of error = Memory

abbrev pub end_of_locate : LocateError → ListEnd
end_of_locate locate_disk = Disk
end_of_locate locate_memory = Memory

-- All that was gathered was written, and the listing ends so; or the sink failed and took a first part of it.
abbrev pub WritesAll : ListEnd → ListEnd → Bool → List ℕ → List ℕ → List ℕ → Type 0
WritesAll end result tells before now gathered =
    ((result ≡ end) × (IsTrue tells → Wrote before now gathered))
    ⊎ ((result ≡ Sink) × (IsTrue tells → LeftOver before now gathered))

-- The same, with this line behind what was gathered; or there was no memory for the line.
abbrev pub WritesLine : ListEnd → ListEnd → Bool → List ℕ → List ℕ → List ℕ → List ℕ → Type 0
WritesLine end result tells before now gathered line =
    WritesAll end result tells before now (gathered ++ line)
    ⊎ ((result ≡ Memory) × (IsTrue tells → Wrote before now gathered))

-- what is written where a pair couldn't be gathered
abbrev pub Breaks : Unread → ListEnd → Bool → List ℕ → List ℕ → List ℕ → Type 0
Breaks sink_failed result tells before now gathered = (result ≡ Sink) × (now ≡ before)
Breaks no_memory result tells before now gathered = WritesAll Memory result tells before now gathered
Breaks Read result tells before now gathered = WritesAll Disk result tells before now gathered
Breaks (is_damaged d) result tells before now gathered =
    WritesLine Damaged result tells before now gathered (reply_text (damaged_line d))
