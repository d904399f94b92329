-- What the command does: a fold gives the keys, and their pairs are printed in the order of the keys.
use Rattle.std.specs.Prelude.{◌≡◌, ◌⊎◌, ℕ, ◌≤◌, false, IsTrue, List, [], ◌∷◌, ◌++◌}
use Rattle.bk_base.specs.declared.histories.Opening.{Opening}
use Rattle.bk_base.specs.declared.histories.Step.{Step}
use Rattle.bk_base.specs.declared.numbers.Moment.{Moment}
use Rattle.bk_base.specs.declared.writes.Write.{Write}
use Rattle.bk_disk.specs.Crashes.{AtEach}
use Rattle.bk_disk.specs.Told.{clock}
use Rattle.bk_exchange.specs.Listings.{Row, closing_call, end_call}
use Rattle.bk_exchange.specs.Sessions.{Ticks}
use Rattle.bk_image.specs.Prefix.{MeetsEither}
use Rattle.bk_laws.specs.History.{log_of}
use Rattle.bk_session.specs.Following.{Follows}
use Rattle.bk_session.specs.Listing.{Begun, Listed}
use Rattle.bk_session.specs.Serving.{Tells}
use Rattle.bk_store.specs.History.{kept_of}
use Rattle.bk_store.specs.Shown.{Shown}
use Rattle.bk_list.specs.declared.lists.ListEnd.{ListEnd}
use Rattle.bk_list.specs.declared.lists.ListEnd.TheVariants.{Damaged, Done}
use Rattle.bk_list.specs.Gathering.{Stops, keys_of}
use Rattle.bk_list.specs.Printing.{Asked, PrintsTo, asked_keys, found_rows, get_calls}
use Rattle.bk_list.specs.Sorting.{AreSorted, IsSortedMap}

-- the store, what the sink took, and the moments that the clock has still to give
pub record Sides : Type 0 where
  pub store : Shown
  pub written : List ℕ
  pub moments : List Moment

abbrev pub sides_of : Shown → List ℕ → List Moment → Sides
sides_of store written moments = record { store = store; written = written; moments = moments }

-- where the fold was opened
abbrev pub begun_at : Sides → Opening → List Step → List Write → Moment → Begun
begun_at old o h tried now = record { opening = o; before = h; tried = tried; now = now; told = old.store.files.told }

-- The fold gave all its pairs and was closed. Then keys were got in the order of the sorted pairs, and their rows were
-- printed. Where it is known what the store holds, the sorted pairs are those that are live, and what was got shows them.
pub record ListsAll (tells : Tells) (old new : Sides) (end : ListEnd) (b : Begun) (steps : List Step) : Type 0 where
  pub slot : ℕ
  pub given : List Row
  pub sorted : List Row
  pub order : AreSorted given sorted
  pub got : List Asked
  pub others : List Row
  pub are : keys_of sorted ≡ asked_keys got ++ keys_of others
  pub quiet : ℕ
  pub few : quiet ≤ 1
  pub listed : Listed tells.disk b slot new.store given (end_call slot ∷ closing_call slot ∷ get_calls b.now got) quiet steps
  pub live : IsTrue tells.disk → IsSortedMap b.opening.settings.ttl b.now.0 (log_of b.opening b.before) sorted
  pub shows : IsTrue tells.disk → sorted ≡ found_rows got ++ others
  pub whole : end ≡ Done → (others ≡ []) × (quiet ≡ 0)
  pub prints : IsTrue tells.sink → PrintsTo tells.disk end (found_rows got) others old.written new.written
  pub damaged : end ≡ Damaged → tells.disk ≡ false

-- The fold was refused before its end and closed, and nothing was printed.
pub record ListsNone (tells : Tells) (old new : Sides) (end : ListEnd) (b : Begun) (steps : List Step) : Type 0 where
  pub slot : ℕ
  pub given : List Row
  pub quiet : ℕ
  pub few : quiet ≤ 1
  pub listed : Listed tells.disk b slot new.store given (closing_call slot ∷ []) quiet steps
  pub stops : Stops end
  pub nothing : new.written ≡ old.written

-- One moment was asked for. The history went on by calls that changed no log, and a crash since leaves
-- what one before left: the map of a prefix of the log that has each synced write.
pub record Lists (tells : Tells) (old new : Sides) (end : ListEnd) (o : Opening) (h : List Step) (tried : List Write)
    : Type 0 where
  pub now : Moment
  pub ticks : IsTrue tells.clock → Ticks (now ∷ []) old.moments new.moments
  pub steps : List Step
  pub lists : ListsAll tells old new end (begun_at old o h tried now) steps ⊎ ListsNone tells old new end (begun_at old o h tried now) steps
  pub log : log_of o (h ++ steps) ≡ log_of o h
  pub crash : IsTrue tells.disk
      → AtEach new.store.files.told (clock old.store.files.told) (MeetsEither (log_of o h) (kept_of o h) tried [])

-- It is said of each history that the store followed, with all that is known of what it holds.
abbrev pub ListsFor : Tells → Sides → Sides → ListEnd → Type 0
ListsFor tells old new end = (o : Opening) (h : List Step) (tried : List Write)
    → Follows tells.disk old.store o h tried → Lists tells old new end o h tried

-- Over every disk no fold is left open, and of the store nothing but the disk's counts has changed.
pub record IsAsBefore (v u : Shown) : Type 0 where
  pub keys : u.keys ≡ v.keys
  pub seq : u.seq ≡ v.seq
  pub settings : u.settings ≡ v.settings
  pub catalog : u.files.catalog ≡ v.files.catalog
  pub faults : v.files.faults ≤ u.files.faults
  pub outs : u.files.fallible_outs ≡ v.files.fallible_outs
