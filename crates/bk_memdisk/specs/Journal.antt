-- What the journal of a disk in memory says of each file: its bytes, and what a crash may leave of it.
use Rattle.std.specs.Prelude.{ℕ, Bool, List, [], ◌∷◌, ◌++◌, length, take, map}
use Rattle.bk_disk.specs.Told.{Table, Front, changed, with_name, without, renamed}
use Rattle.bk_disk.specs.Crashes.{front_of}
use Rattle.bk_disk.specs.Calls.{pending_more, all_synced, fresh, brought_back}
use Rattle.bk_memdisk.specs.declared.changes.Change.{Change}
use Rattle.bk_memdisk.specs.declared.changes.Change.TheVariants.{Made, Handed, Synced, Returned, Placed, Renamed, Removed}
use Rattle.bk_memdisk.specs.Contents.{placed}

-- A file by the journal. A cut isn't written there, so the text may go on past the file's end.
pub record Kept : Type 0 where
  pub text : List ℕ
  pub front : Front

abbrev pub handed : ℕ → ℕ → List ℕ → Kept → Kept
handed from through bytes k =
    let text = take from k.text ++ take through bytes in
    record { text = text; front = pending_more (length text) bytes k.front }

abbrev pub synced : ℕ → Kept → Kept
synced len k = record { text = take len k.text; front = all_synced (take len k.text) k.front }

abbrev pub returned : List ℕ → Kept → Kept
returned bytes k = record { text = bytes; front = brought_back bytes k.front }

abbrev pub made : Bool → Kept
made lent = record { text = []; front = fresh lent }

abbrev pub whole : List ℕ → Kept
whole bytes = record { text = bytes; front = front_of bytes }

-- the files after a change
abbrev pub after : Table Kept → Change → Table Kept
after t (Made name lent) = with_name name (made lent) t
after t (Handed name from through bytes) = changed name (handed from through bytes.items) t
after t (Synced name len) = changed name (synced len) t
after t (Returned name bytes) = changed name (returned bytes.items) t
after t (Placed name bytes) = placed name (whole bytes.items) t
after t (Renamed from to) = renamed from to t
after t (Removed name) = without name t

abbrev pub after_all : Table Kept → List Change → Table Kept
after_all t [] = t
after_all t (c ∷ cs) = after_all (after t c) cs

-- the fronts of files
abbrev pub fronts_of : Table Kept → Table Front
fronts_of t = map (λ e. (e.0, e.1.front)) t

-- the fronts before each change
abbrev pub fronts_before : Table Kept → List Change → List (Table Front)
fronts_before t [] = []
fronts_before t (c ∷ cs) = fronts_of t ∷ fronts_before (after t c) cs
