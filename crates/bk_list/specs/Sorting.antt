-- A listing in the order of its keys, over plain lists.
use Rattle.std.specs.Prelude.{◌≡◌, ℕ, List, [], ◌∷◌, cond, length, Option, Some, None, IsPermutation, IsSorted}
use Rattle.std.specs.List.{AllAdjacentBelow}
use Rattle.std.specs.Cmp.Lexicographic.{slice_cmp}
use Rattle.std.specs.Ordering.{nat_cmp}
use Rattle.std.specs.Str.{bytes_eq}
use Rattle.std.specs.declared.cmp.Ordering.{Ordering}
use Rattle.std.specs.declared.cmp.Ordering.TheVariants.{Less}
use Rattle.bk_base.specs.declared.writes.Write.{Write}
use Rattle.bk_exchange.specs.Listings.{Row}
use Rattle.bk_laws.specs.Log.{live}

-- Keys are compared byte by byte, and one that begins another comes first.
abbrev pub key_cmp : Row → Row → Ordering
key_cmp a b = slice_cmp nat_cmp a.key b.key

-- the same rows, in the order of their keys
pub record AreSorted (given rows : List Row) : Type 0 where
  pub same : IsPermutation given rows
  pub rise : IsSorted key_cmp rows

-- the value of the first row of a key
abbrev pub value_in : List Row → List ℕ → Option (List ℕ)
value_in [] key = None
value_in (row ∷ rows) key = cond (bytes_eq key row.key) (Some row.value) (value_in rows key)

-- Each key is below the next one, and a key has the value that is live of it, or no row where none is.
pub record IsSortedMap (ttl now : ℕ) (log : List Write) (rows : List Row) : Type 0 where
  pub rise : AllAdjacentBelow (λ a b. key_cmp a b ≡ Less) rows (length rows)
  pub values : (key : List ℕ) → value_in rows key ≡ live log key now ttl
