-- What is known of the data files.
use Rattle.std.specs.Prelude.{◌≡◌, ℕ, zero, suc, ◌+◌, ◌==◌, ◌&&◌, Bool, true, false, not, cond, nat_lt, List, [], ◌∷◌, ◌++◌, length, Option, None, Some}
use Rattle.bk_base.specs.declared.names.Name.{Name}
use Rattle.bk_base.specs.declared.names.Kind.TheVariants.{Main}
use Rattle.bk_base.specs.declared.rows.Row.{Row}
use Rattle.bk_base.specs.declared.rows.RowState.TheVariants.{Active as active_state, Sealed}
use Rattle.bk_files.specs.declared.catalog.Active.{Active}

-- the rows in order of id, the active file and its place among them, and the greatest id given out
pub record Known : Type 0 where
  pub rows : List Row
  pub active : Option Active
  pub last : ℕ
  pub max_file : ℕ

-- the name of a data file
abbrev pub main : ℕ → Name
main id = record { id = id; kind = Main }

-- A text of this size needs a new file: there is no active file, or it has bytes and the text
-- doesn't fit. A file takes any first text.
abbrev pub due_of : ℕ → ℕ → Option Active → Bool
due_of size limit None = true
due_of size limit (Some a) = not (a.len == 0) && nat_lt limit (a.len + size)

-- words for the active file, and what they say where there is none
abbrev pub id_of : Option Active → ℕ
id_of None = 0
id_of (Some a) = a.id.0

abbrev pub len_of : Option Active → ℕ
len_of None = 0
len_of (Some a) = a.len

abbrev pub torn_of : Option Active → Bool
torn_of None = false
torn_of (Some a) = a.torn

-- the active file with another length, torn or whole
abbrev pub going_on : ℕ → Bool → Active → Active
going_on len torn a = record { id = a.id; place = a.place; len = len; torn = torn }

abbrev pub grown_of : ℕ → Option Active → Option Active
grown_of size None = None
grown_of size (Some a) = Some (going_on (a.len + size) false a)

abbrev pub with_torn : Bool → Option Active → Option Active
with_torn torn None = None
with_torn torn (Some a) = Some (going_on a.len torn a)

-- the first row of a file
abbrev pub row_of : ℕ → List Row → Option Row
row_of id [] = None
row_of id (r ∷ rs) = cond (r.id.0 == id) (Some r) (row_of id rs)

-- the first row of a file, edited
abbrev pub edited : ℕ → (Row → Row) → List Row → List Row
edited id f [] = []
edited id f (r ∷ rs) = cond (r.id.0 == id) (f r ∷ rs) (r ∷ edited id f rs)

-- the row at a place, edited
abbrev pub edited_at : ℕ → (Row → Row) → List Row → List Row
edited_at i f [] = []
edited_at zero f (r ∷ rs) = f r ∷ rs
edited_at (suc i) f (r ∷ rs) = r ∷ edited_at i f rs

-- the row of the active file, edited
abbrev pub active_edited : (Row → Row) → Option Active → List Row → List Row
active_edited f None rows = rows
active_edited f (Some a) rows = edited_at a.place f rows

-- edits of a row
abbrev pub with_len : ℕ → Row → Row
with_len len r = record r { len = len; total = len }

abbrev pub with_counts : ℕ → ℕ → Row → Row
with_counts live refs r = record r { live = live; refs = refs }

abbrev pub sealed : Row → Row
sealed r = record r { state = Sealed }

-- the row of a new file
abbrev pub new_row : ℕ → Row
new_row id = record { len = 0; total = 0; live = 0; refs = 0; id = record { 0 = id }; state = active_state }

-- a new file, whose row has this place
abbrev pub new_active : ℕ → ℕ → Active
new_active id place = record { id = record { 0 = id }; place = place; len = 0; torn = false }

-- a text was appended to the active file
pub record Grows (size : ℕ) (c d : Known) : Type 0 where
  pub active : d.active ≡ grown_of size c.active
  pub rows : d.rows ≡ active_edited (with_len (len_of c.active + size)) c.active c.rows
  pub last : d.last ≡ c.last
  pub max_file : d.max_file ≡ c.max_file

-- the next file is the active one, its row is the last, and the one before is sealed
pub record Begins (c d : Known) : Type 0 where
  pub active : d.active ≡ Some (new_active (c.last + 1) (length c.rows))
  pub rows : d.rows ≡ active_edited sealed c.active c.rows ++ new_row (c.last + 1) ∷ []
  pub last : d.last ≡ c.last + 1
  pub max_file : d.max_file ≡ c.max_file

-- an append to the active file failed; it was repaired
abbrev pub torn : Known → Known
torn c = record { rows = c.rows; active = with_torn true c.active; last = c.last; max_file = c.max_file }

abbrev pub mended : Known → Known
mended c = record { rows = c.rows; active = with_torn false c.active; last = c.last; max_file = c.max_file }

-- the counts of a file's row are set
abbrev pub counted : ℕ → ℕ → ℕ → Known → Known
counted id live refs c =
    record { rows = edited id (with_counts live refs) c.rows; active = c.active; last = c.last; max_file = c.max_file }
