-- What is printed of keys that are sorted: each is got, and its pair is a line.
use Rattle.std.specs.Prelude.{◌≡◌, ◌≢◌, ◌⊎◌, ℕ, ◌≤◌, Bool, false, List, [], ◌∷◌, ◌++◌}
use Rattle.std.specs.Prelude.{length, map, Option, None, Some}
use Rattle.std.specs.List.{flat_map}
use Rattle.bk_base.specs.declared.calls.Answer.{Answer}
use Rattle.bk_base.specs.declared.calls.Answer.TheVariants.{Found, Nothing}
use Rattle.bk_base.specs.declared.calls.Call.TheVariants.{Get}
use Rattle.bk_base.specs.declared.damages.Damage.{Damage}
use Rattle.bk_base.specs.declared.numbers.Moment.{Moment}
use Rattle.bk_base.specs.declared.requests.Reply.TheVariants.{Damaged as damaged_line, End}
use Rattle.bk_base.specs.declared.requests.Request.TheVariants.{Fold}
use Rattle.bk_exchange.specs.Listings.{Row}
use Rattle.bk_exchange.specs.Points.{Said, said}
use Rattle.bk_exchange.specs.Sessions.{IsStart}
use Rattle.bk_laws.specs.Wire.{reply_text}
use Rattle.bk_session.specs.Listing.{rows_text}
use Rattle.bk_list.specs.declared.lists.ListEnd.{ListEnd}
use Rattle.bk_list.specs.declared.lists.ListEnd.TheVariants.{Done, Damaged, Sink}

-- ---- keys that were got

-- a key, and the value that was found
pub record Asked : Type 0 where
  pub key : List ℕ
  pub found : Option (List ℕ)

abbrev pub asked : List ℕ → Option (List ℕ) → Asked
asked key found = record { key = key; found = found }

abbrev pub answer_of : Option (List ℕ) → Answer
answer_of None = Nothing
answer_of (Some value) = Found value

abbrev pub get_call : Moment → Asked → Said
get_call now a = said (Get a.key now) (answer_of a.found)

abbrev pub get_calls : Moment → List Asked → List Said
get_calls now got = map (get_call now) got

abbrev pub asked_keys : List Asked → List (List ℕ)
asked_keys got = map (λ (a : Asked). a.key) got

-- the row of a key with a value
abbrev pub row_if : List ℕ → Option (List ℕ) → List Row
row_if key None = []
row_if key (Some value) = (record { key = key; value = value }) ∷ []

abbrev pub found_rows : List Asked → List Row
found_rows got = flat_map (λ (a : Asked). row_if a.key a.found) got

-- ---- what is printed

-- a line PAIR for each row, and then their number
abbrev pub listing_text : List Row → List ℕ
listing_text rows = rows_text Fold rows ++ reply_text (End (length rows))

-- all rows, or all but the last one, and this text behind them
pub record BreaksOff (rows : List Row) (behind text : List ℕ) : Type 0 where
  pub first : List Row
  pub last : List Row
  pub few : length last ≤ 1
  pub are : rows ≡ first ++ last
  pub is : text ≡ rows_text Fold first ++ behind

-- the same, and the line of a record whose checksum isn't the one that was kept
pub record IsDamaged (known : Bool) (rows : List Row) (text : List ℕ) : Type 0 where
  pub unknown : known ≡ false
  pub damage : Damage
  pub differs : damage.kept ≢ damage.found
  pub breaks : BreaksOff rows (reply_text (damaged_line damage)) text

-- What is printed of the rows that were got, with others that weren't asked for, by how the listing ends. The row that
-- was got last may be missing. Only a sink that fails leaves a part of a line.
abbrev pub Prints : Bool → ListEnd → List Row → List Row → List ℕ → Type 0
Prints known Done rows others output = (others ≡ []) × (output ≡ listing_text rows)
Prints known Damaged rows others output = IsDamaged known rows output
Prints known Sink rows others output =
    IsStart output (listing_text (rows ++ others)) ⊎ ((text : List ℕ) × IsDamaged known rows text × IsStart output text)
Prints known end rows others output = BreaksOff rows [] output

-- and it was written behind what the sink had taken
abbrev pub PrintsTo : Bool → ListEnd → List Row → List Row → List ℕ → List ℕ → Type 0
PrintsTo known end rows others before now = (output : List ℕ) × (now ≡ before ++ output) × Prints known end rows others output
