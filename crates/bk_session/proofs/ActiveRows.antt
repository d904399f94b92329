-- What the rows of a store say of its active file, and what a point of a history has of them.
use Rattle.std.proofs.Common.{◌≡◌, ◌∙◌, ℕ, suc, ◌+◌, Bool, true, false, List, [], ◌∷◌, ◌++◌, length, Option, Some, None, refl, sym, ap}
use Rattle.std.specs.Prelude.{IsTrue, map, sum_by, ◌≢◌}
use Rattle.std.proofs.lemmas.List.Sums.{sum_by-cons}
use Rattle.bk_base.specs.declared.histories.Opening.{Opening}
use Rattle.bk_base.specs.declared.histories.Step.{Step}
use Rattle.bk_base.specs.declared.rows.Row.{Row}
use Rattle.bk_base.specs.declared.rows.RowState.{RowState}
use Rattle.bk_base.specs.declared.rows.RowState.TheVariants.{Active as active_state, Sealed, Input, Output}
use Rattle.bk_disk.specs.Told.{Told}
use Rattle.bk_exchange.specs.Points.{Point, next_point, opening_point, point_after, point_of}
use Rattle.bk_exchange.specs.Refusals.{active_len, active_or, needs_file}
use Rattle.bk_files.specs.declared.catalog.Active.{Active}
use Rattle.bk_files.specs.Catalog.{due_of}
use Rattle.bk_files.specs.Files.{IsConsistent, Seen, is_due}
use Rattle.bk_files.specs.Rows.{AreAtRest, AreRows}
use Rattle.bk_store.specs.History.{last_snapshot, snapshot_after}
use Rattle.bk_store.specs.Shown.{Shown}
use Rattle.bk_session.specs.Following.{at_rest, snapshot_in}

-- ---- points

snapshot_at : (p : Point) (h : List Step) → (point_after p h).snapshot ≡ snapshot_after p.snapshot h
snapshot_at p [] = refl
snapshot_at p (step ∷ h) = snapshot_at (next_point p step) h

pub snapshot_of_point : (o : Opening) (h : List Step) → (point_of o h).snapshot ≡ last_snapshot o h
snapshot_of_point o h = snapshot_at (opening_point o) h

-- ---- rows of which none is the active file's

not_active : (r : Row) (state : RowState) (later : Option ℕ) → state ≢ active_state → active_or r state later ≡ later
not_active r active_state later other = absurd (other refl)
not_active r Sealed later other = refl
not_active r Input later other = refl
not_active r Output later other = refl

passed : (low high : ℕ) (rows behind : List Row) (t : Told) → AreAtRest low high rows t
    → active_len (rows ++ behind) ≡ active_len behind
passed low high [] behind t rest = refl
passed low high (r ∷ rows) behind t rest =
    not_active r r.state (active_len (rows ++ behind)) rest.2.state ∙ passed (r.id.0 + 1) high rows behind t rest.3

none_active : (low high : ℕ) (rows : List Row) (t : Told) → AreAtRest low high rows t → active_len rows ≡ None
none_active low high [] t rest = refl
none_active low high (r ∷ rows) t rest =
    not_active r r.state (active_len rows) rest.2.state ∙ none_active (r.id.0 + 1) high rows t rest.3

pub none_at_rest : (rows : List Row) → active_len (map at_rest rows) ≡ None
none_at_rest [] = refl
none_at_rest (r ∷ rows) = none_at_rest rows

here_active : (r : Row) (later : Option ℕ) → r.state ≡ active_state → active_or r r.state later ≡ Some r.len
here_active r later is = ap (λ (s : RowState). active_or r s later) is

needs_same : (size limit : ℕ) (active : Option Active) (last : ℕ) (rows : List Row) (t : Told) → AreRows active last rows t
    → needs_file size limit (active_len rows) ≡ due_of size limit active
needs_same size limit None last rows t are = ap (needs_file size limit) (none_active 1 (last + 1) rows t are)
needs_same size limit (Some a) last rows t are =
    ap (needs_file size limit)
    (ap active_len are.are ∙ passed 1 a.id.0 are.before (are.row ∷ are.behind) t are.earlier
    ∙ here_active are.row (active_len are.behind) are.now.state ∙ ap (λ (n : ℕ). Some n) are.now.len)

-- a new file is due by the rows
pub needs_by_rows : (size : ℕ) (s : Seen) → IsConsistent s → is_due size s ≡ true
    → needs_file size s.catalog.max_file (active_len s.catalog.rows) ≡ true
needs_by_rows size s consistent due =
    needs_same size s.catalog.max_file s.catalog.active s.catalog.last s.catalog.rows s.told consistent.made ∙ due

pub needs_in : (tells : Bool) (size : ℕ) (v : Shown) → (IsTrue tells → IsConsistent v.files) → is_due size v.files ≡ true
    → needs_file size v.files.catalog.max_file (active_len (snapshot_in tells v).rows) ≡ true
needs_in true size v consistent due = needs_by_rows size v.files (consistent refl) due
needs_in false size v consistent due = ap (needs_file size v.files.catalog.max_file) (none_at_rest v.files.catalog.rows)

-- ---- the numbers of the rows

pub length_at_rest : (rows : List Row) → length (map at_rest rows) ≡ length rows
length_at_rest [] = refl
length_at_rest (r ∷ rows) = ap suc (length_at_rest rows)

pub totals_at_rest : (rows : List Row) → sum_by (λ (r : Row). r.total) (map at_rest rows) ≡ sum_by (λ (r : Row). r.total) rows
totals_at_rest [] = refl
totals_at_rest (r ∷ rows) =
    sum_by-cons (λ (x : Row). x.total) (at_rest r) (map at_rest rows) ∙ ap (λ (n : ℕ). r.total + n) (totals_at_rest rows)
    ∙ sym (sum_by-cons (λ (x : Row). x.total) r rows)

pub lives_at_rest : (rows : List Row) → sum_by (λ (r : Row). r.live) (map at_rest rows) ≡ sum_by (λ (r : Row). r.live) rows
lives_at_rest [] = refl
lives_at_rest (r ∷ rows) =
    sum_by-cons (λ (x : Row). x.live) (at_rest r) (map at_rest rows) ∙ ap (λ (n : ℕ). r.live + n) (lives_at_rest rows)
    ∙ sym (sum_by-cons (λ (x : Row). x.live) r rows)

pub files_in : (tells : Bool) (v : Shown) → length (snapshot_in tells v).rows ≡ length v.files.catalog.rows
files_in true v = refl
files_in false v = length_at_rest v.files.catalog.rows

pub totals_in : (tells : Bool) (v : Shown)
    → sum_by (λ (r : Row). r.total) (snapshot_in tells v).rows ≡ sum_by (λ (r : Row). r.total) v.files.catalog.rows
totals_in true v = refl
totals_in false v = totals_at_rest v.files.catalog.rows

pub lives_in : (tells : Bool) (v : Shown)
    → sum_by (λ (r : Row). r.live) (snapshot_in tells v).rows ≡ sum_by (λ (r : Row). r.live) v.files.catalog.rows
lives_in true v = refl
lives_in false v = lives_at_rest v.files.catalog.rows

pub last_in : (tells : Bool) (v : Shown) → (snapshot_in tells v).last_file.0 ≡ v.files.catalog.last
last_in true v = refl
last_in false v = refl
