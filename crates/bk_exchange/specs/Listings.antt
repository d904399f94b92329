-- A listing: the calls of a FOLD or KEYS, and the rows that show its pairs.
use Rattle.std.specs.Prelude.{◌≡◌, ℕ, List, [], ◌∷◌, ◌++◌, false, None, Some, map}
use Rattle.bk_base.specs.declared.calls.Answer.TheVariants.{Fold as fold_answer, Pair as pair_answer, End as end_answer}
use Rattle.bk_base.specs.declared.calls.Answer.TheVariants.{Done}
use Rattle.bk_base.specs.declared.calls.Call.TheVariants.{FoldOpen, FoldNext, FoldClose}
use Rattle.bk_base.specs.declared.numbers.Moment.{Moment}
use Rattle.bk_base.specs.declared.numbers.Seq.{Seq}
use Rattle.bk_base.specs.declared.requests.Reply.{Reply}
use Rattle.bk_base.specs.declared.requests.Reply.TheVariants.{Pair as pair_line, Key as key_line}
use Rattle.bk_base.specs.declared.requests.Request.{Request}
use Rattle.bk_base.specs.declared.requests.Request.TheVariants.{Keys}
use Rattle.bk_base.specs.declared.writes.Write.{Write}
use Rattle.bk_laws.specs.History.{is_listed}
use Rattle.bk_laws.specs.Log.{live}
use Rattle.bk_exchange.specs.Points.{Said, said}

-- a pair that a fold gave
pub record Row : Type 0 where
  pub key : List ℕ
  pub value : List ℕ

abbrev pub opening_call : Moment → Seq → ℕ → Said
opening_call now epoch slot = said (FoldOpen now) (fold_answer epoch slot)

abbrev pub row_call : ℕ → Row → Said
row_call slot row = said (FoldNext slot) (pair_answer row.key row.value)

abbrev pub end_call : ℕ → Said
end_call slot = said (FoldNext slot) end_answer

abbrev pub closing_call : ℕ → Said
closing_call slot = said (FoldClose slot) Done

abbrev pub row_calls : ℕ → List Row → List Said
row_calls slot rows = map (row_call slot) rows

-- the fold is opened and gives these pairs, and then come these calls
abbrev pub listing_calls : Moment → Seq → ℕ → List Row → List Said → List Said
listing_calls now epoch slot rows behind = opening_call now epoch slot ∷ (row_calls slot rows ++ behind)

-- KEYS shows the key of a pair, and FOLD its value too.
abbrev pub row_line : Request → Row → Reply
row_line Keys row = key_line row.key
row_line request row = pair_line row.key row.value

abbrev pub row_lines : Request → List Row → List Reply
row_lines request rows = map (row_line request) rows

-- The rows are a listing of a log at a moment, behind keys that were listed before: no key stands twice, each
-- pair is live, and of the other keys none is.
abbrev pub IsListing : ℕ → ℕ → List Write → List (List ℕ) → List Row → Type 0
IsListing ttl now log listed [] = (key : List ℕ) → is_listed key listed ≡ false → live log key now ttl ≡ None
IsListing ttl now log listed (row ∷ rows) =
    (is_listed row.key listed ≡ false) × (live log row.key now ttl ≡ Some row.value)
    × IsListing ttl now log (listed ++ row.key ∷ []) rows
