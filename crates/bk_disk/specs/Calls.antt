-- What the calls of a disk do to what it tells.
use Rattle.std.specs.Prelude.{◌≡◌, ◌⊎◌, ℕ, max, Bool, false, not, cond, List, [], ◌∷◌, ◌++◌, length, take}
use Rattle.bk_base.specs.declared.names.Name.{Name}
use Rattle.bk_disk.specs.Causes.{bumped}
use Rattle.bk_disk.specs.Told.{Table, Image, Front, Told, changed, with_name, without, renamed, bytes_of, is_within}

-- A crash before the change still counts: the clock goes on, and the fronts of before are kept.
-- A change that no crash can tell may be left out.
abbrev pub Passes : Told → Told → Type 0
Passes old new =
    ((new.past ≡ old.past) × (new.fronts ≡ old.fronts)) ⊎ (new.past ≡ old.past ++ old.fronts ∷ [])

-- the image and the fronts are edited, and nothing is asked
pub record Becomes (edit : Image → Image) (step : Table Front → Table Front) (old new : Told) : Type 0 where
  pub passes : Passes old new
  pub image : new.image ≡ edit old.image
  pub fronts : new.fronts ≡ step old.fronts
  pub asked : new.asked ≡ old.asked
  pub stray_views : new.stray_views ≡ old.stray_views

-- bytes were handed to a file that then had this length
abbrev pub pending_more : ℕ → List ℕ → Front → Front
pending_more len bytes f =
    record { synced = f.synced; longest = max f.longest len; pending = f.pending ++ bytes; lent = f.lent }

-- these bytes are synced
abbrev pub all_synced : List ℕ → Front → Front
all_synced bytes f = record { synced = bytes; longest = length bytes; pending = []; lent = f.lent }

-- a new file
abbrev pub fresh : Bool → Front
fresh is_lent = record { synced = []; longest = 0; pending = []; lent = is_lent }

-- a lent file came back with these bytes
abbrev pub brought_back : List ℕ → Front → Front
brought_back bytes f = record { synced = bytes; longest = length bytes; pending = []; lent = false }

-- the first n bytes of a piece got through; all of it was handed
abbrev pub Appended : Name → ℕ → List ℕ → Told → Told → Type 0
Appended name n piece old new =
    Becomes (changed name (λ b. b ++ take n piece))
    (changed name (pending_more (length (bytes_of name old.image ++ take n piece)) piece)) old new

abbrev pub Synced : Name → Told → Told → Type 0
Synced name old new = Becomes (λ image. image) (changed name (all_synced (bytes_of name old.image))) old new

-- a crash knows nothing of a cut
abbrev pub Cut : Name → ℕ → Told → Told → Type 0
Cut name len = Becomes (changed name (λ b. take len b)) (λ fronts. fronts)

abbrev pub Made : Name → Bool → Told → Told → Type 0
Made name is_lent = Becomes (with_name name []) (with_name name (fresh is_lent))

abbrev pub Removed : Name → Told → Told → Type 0
Removed name = Becomes (without name) (without name)

abbrev pub Renamed : Name → Name → Told → Told → Type 0
Renamed from to = Becomes (renamed from to) (renamed from to)

abbrev pub Returned : Name → List ℕ → Told → Told → Type 0
Returned name bytes = Becomes (changed name (λ _. bytes)) (changed name (brought_back bytes))

-- a view was asked for, and made or refused
abbrev pub viewed : Bool → Name → ℕ → ℕ → Told → Told
viewed made n from size t = record {
  image = t.image;
  past = t.past;
  fronts = t.fronts;
  asked = cond made (t.asked ++ record { name = n; len = size } ∷ []) t.asked;
  stray_views = bumped (not (is_within n from size t.image)) t.stray_views;
}
