-- What the actors of a drill keep, and how far their folds are.
use Rattle.std.specs.Prelude.{◌≡◌, ◌≢◌, ◌⊎◌, ℕ, true, List, drop, slice_index_or, Option, None}
use Rattle.bk_script.specs.declared.printed.Printed.{Printed}
use Rattle.bk_script.specs.declared.printed.Printed.TheVariants.{Damaged, Memory, Pair, Read}
use Rattle.bk_store.specs.declared.errors.ReadError.{ReadError}
use Rattle.bk_store.specs.declared.errors.ReadError.TheVariants.{Read as read_failed, Damaged as is_damaged}
use Rattle.bk_store.specs.Loans.{Lent, check_of}

-- what an actor keeps
abbrev pub loan_in : List (Option Lent) → ℕ → Option Lent
loan_in loans actor = slice_index_or loans actor None

-- how many pairs the fold in a slot has listed
abbrev pub tally_in : List ℕ → ℕ → ℕ
tally_in tallies slot = slice_index_or tallies slot 0

-- a loan of which nothing was read
abbrev pub IsUnread : Lent → Type 0
IsUnread l = l.rest ≡ l.size

-- the line of a read that failed
abbrev pub line_of_read : ReadError → Printed
line_of_read read_failed = Read
line_of_read (is_damaged d) = Damaged d

-- why a loan couldn't be read, where its view tells
abbrev pub IsUnreadFor : Lent → Printed → Type 0
IsUnreadFor l Memory = Unit {0}
IsUnreadFor l Read = l.fallible ≡ true
IsUnreadFor l (Damaged d) = (d.kept ≢ d.found) × (d.kept ≡ l.crc) × (d.found ≡ check_of l.left)
IsUnreadFor l line = ⊥

-- the pair's line, or why its value couldn't be read
abbrev pub ShowsPair : List ℕ → Lent → Printed → Type 0
ShowsPair key l line =
    ((value : List ℕ) × (line ≡ Pair key value) × (value ≡ drop l.value_at l.left)) ⊎ IsUnreadFor l line
