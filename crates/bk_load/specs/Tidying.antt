-- What recovery may do to a directory: which bytes count for an id stays as it is, and the hint beside
-- them. So the log that the directory holds stays, whatever it is.
use Rattle.std.specs.Prelude.{◌≡◌, ◌⊎◌, ℕ, ◌<◌, ◌≤◌, false, length, Option, None, Some}
use Rattle.bk_base.specs.declared.names.Name.{Name}
use Rattle.bk_base.specs.declared.names.Kind.{Kind}
use Rattle.bk_disk.specs.Told.{Front, Image, Table, Told, asked_of, at, clock}
use Rattle.bk_disk.specs.Crashes.{IsSynced, MayLeave, fronts_at}
use Rattle.bk_laws.specs.Hint.{Hinted, IsGood}
use Rattle.bk_image.specs.Readings.{IsThere, Reading, hint, main, swap}
use Rattle.bk_image.specs.CountedFiles.{CountsAs}
use Rattle.std.specs.Prelude.{List}

-- these bytes count for the id, under one of its names
abbrev pub CountsWith : Reading → ℕ → List ℕ → Type 0
CountsWith r id bytes = (kind : Kind) × CountsAs kind r id × (r (record { id = id; kind = kind }) ≡ Some bytes)

-- From r recovery came to s. For each id the same bytes count, with the same hint. There is no id and
-- no swap list that wasn't there.
pub record Tidied (r s : Reading) : Type 0 where
  pub was : (id : ℕ) (bytes : List ℕ) → CountsWith s id bytes → CountsWith r id bytes
  pub is : (id : ℕ) (bytes : List ℕ) → CountsWith r id bytes → CountsWith s id bytes
  pub hints : (id : ℕ) (bytes : List ℕ) → CountsWith s id bytes → s (hint id) ≡ r (hint id)
  pub lists : (id : ℕ) (bytes : List ℕ) → s (swap id) ≡ Some bytes → r (swap id) ≡ Some bytes
  pub ids : (n : Name) → IsThere s n → (m : Name) × IsThere r m × (m.id ≡ n.id)

-- The hint is Good and covers the file whole.
abbrev pub CoversAll : Option (List ℕ) → ℕ → Type 0
CoversAll None len = Unit {0} → ⊥
CoversAll (Some bytes) len = (rows : List Hinted) × IsGood bytes len len rows

-- The data file counts, and no Good hint covers it whole: so some of it has to be read.
abbrev pub NeedsScan : Reading → ℕ → Type 0
NeedsScan r id = (bytes : List ℕ) × CountsWith r id bytes × (CoversAll (r (hint id)) (length bytes) → ⊥)

-- no file is lent
abbrev pub NoneLent : Table Front → Type 0
NoneLent fronts = (n : Name) (f : Front) → at fronts n ≡ Some f → f.lent ≡ false

-- Recovery brought a disk from t to u.
pub record Goes (t u : Told) : Type 0 where
  pub later : clock t ≤ clock u
  pub past : (k : ℕ) → k < clock t → fronts_at u k ≡ fronts_at t k
  pub tidied : Tidied (at t.image) (at u.image)
  -- a crash takes nothing of a synced disk, and so leaves what recovery had come to
  pub synced : IsSynced t → IsSynced u
  pub each : IsSynced t → (k : ℕ) → clock t ≤ k → k ≤ clock u → (left : Image) → MayLeave (fronts_at u k) left
      → Tidied (at t.image) (at left)
  pub lent : NoneLent t.fronts → NoneLent u.fronts
  pub stray_views : u.stray_views ≡ t.stray_views
  -- a data file is read only where it has to be
  pub asked : (id : ℕ) → (asked_of (main id) u ≡ asked_of (main id) t) ⊎ NeedsScan (at t.image) id
