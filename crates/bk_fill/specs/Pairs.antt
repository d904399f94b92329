-- The pairs that are put: one for each number from 0 on.
use Rattle.std.specs.Prelude.{ℕ, ◌%◌, List, ◌++◌, codes}
use Rattle.std.specs.Fmt.{decimal}
use Rattle.bk_base.specs.declared.requests.Request.{Request}
use Rattle.bk_base.specs.declared.requests.Request.TheVariants.{Put}
use Rattle.bk_fill.specs.declared.pairs.TheConstants.{KEYS}

-- the keys come again and again
abbrev pub key_at : ℕ → List ℕ
key_at n = codes "k" ++ decimal (n % KEYS)

abbrev pub value_at : ℕ → List ℕ
value_at n = decimal n

-- the request for the pair with this number
abbrev pub put_at : ℕ → Request
put_at n = Put (key_at n) (value_at n)
