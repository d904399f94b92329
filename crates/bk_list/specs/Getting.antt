-- How the keys are got and printed, one after the other.
use Rattle.std.specs.Prelude.{◌≡◌, ◌≢◌, ℕ, ◌≤◌, Bool, false, IsTrue, List, [], ◌∷◌, ◌++◌}
use Rattle.std.specs.Prelude.{min, None, Some, IsPermutation, IsSorted}
use Rattle.std.specs.Cmp.Lexicographic.{slice_cmp}
use Rattle.std.specs.Ordering.{nat_cmp}
use Rattle.bk_base.specs.declared.histories.Step.{Step}
use Rattle.bk_base.specs.declared.numbers.Moment.{Moment}
use Rattle.bk_base.specs.declared.requests.Reply.TheVariants.{Pair}
use Rattle.bk_disk.specs.Causes.{most}
use Rattle.bk_exchange.specs.Listings.{Row}
use Rattle.bk_exchange.specs.Points.{Said}
use Rattle.bk_laws.specs.Wire.{reply_text}
use Rattle.bk_session.specs.declared.outbox.Unread.{Unread}
use Rattle.bk_session.specs.declared.outbox.Unread.TheVariants.{Sink as sink_failed, Damaged as is_damaged}
use Rattle.bk_session.specs.Listing.{Begun, Listed}
use Rattle.bk_session.specs.Outgoing.{Outgoing, Sends, Stops}
use Rattle.bk_store.specs.Shown.{Shown as StoreShown}
use Rattle.bk_list.specs.declared.lists.ListEnd.{ListEnd}
use Rattle.bk_list.specs.declared.lists.ListEnd.TheVariants.{Done, Damaged}
use Rattle.bk_list.specs.declared.printing.Shown.{Shown}
use Rattle.bk_list.specs.declared.printing.Shown.TheVariants.{Row as shown_row, Absent, Unread as is_unread, Refused}
use Rattle.bk_list.specs.Gathering.{keys_of}
use Rattle.bk_list.specs.Printing.{Asked, asked, get_call, get_calls, asked_keys, found_rows, PrintsTo}

-- ---- one key

-- the history went on to these calls
pub record GoesTo (known : Bool) (b : Begun) (slot : ℕ) (v : StoreShown) (given : List Row) (behind : List Said) (quiet : ℕ)
    : Type 0 where
  pub steps : List Step
  pub listed : Listed known b slot v given behind quiet steps

-- why the value that was found isn't gathered
abbrev pub IsUnsent : Unread → Bool → Bool → List ℕ → List ℕ → Outgoing → Outgoing → Type 0
IsUnsent sink_failed known sink key value out new = IsTrue sink → Stops out (reply_text (Pair key value)) new
IsUnsent (is_damaged d) known sink key value out new = (new ≡ out) × (d.kept ≢ d.found) × (known ≡ false)
IsUnsent why known sink key value out new = new ≡ out

-- what became of a key, behind these calls
abbrev pub ShowsAt : Shown → Bool → Bool → List ℕ → Moment → Begun → ℕ → List Row → List Said → Outgoing → StoreShown → Outgoing
    → Type 0
ShowsAt shown_row known sink key now b slot given behind out u new =
    (value : List ℕ) × GoesTo known b slot u given (behind ++ get_call now (asked key (Some value)) ∷ []) 0
    × (IsTrue sink → Sends out (reply_text (Pair key value)) new)
ShowsAt Absent known sink key now b slot given behind out u new =
    GoesTo known b slot u given (behind ++ get_call now (asked key None) ∷ []) 0 × (new ≡ out)
ShowsAt (is_unread why) known sink key now b slot given behind out u new =
    (value : List ℕ) × GoesTo known b slot u given (behind ++ get_call now (asked key (Some value)) ∷ []) 0
    × IsUnsent why known sink key value out new
ShowsAt (Refused error) known sink key now b slot given behind out u new =
    GoesTo known b slot u given behind 1 × (new ≡ out)

abbrev pub Shows : Shown → Bool → Bool → List ℕ → Moment → StoreShown → Outgoing → StoreShown → Outgoing → Type 0
Shows shown known sink key now v out u new = (b : Begun) (slot : ℕ) (given : List Row) (behind : List Said) (steps : List Step)
    → Listed known b slot v given behind 0 steps → ShowsAt shown known sink key now b slot given behind out u new

-- Over every disk nothing but the disk's counts has changed.
pub record Stays (v u : StoreShown) : Type 0 where
  pub same : u ≡ record v { files = u.files }
  pub catalog : u.files.catalog ≡ v.files.catalog
  pub faults : v.files.faults ≤ u.files.faults
  pub views : min v.files.fallible_views most ≤ u.files.fallible_views
  pub outs : u.files.fallible_outs ≡ v.files.fallible_outs

-- ---- all keys

-- Some first keys were got, and of their rows this was printed.
pub record PrintedKeys (known sink : Bool) (end : ListEnd) (now : Moment) (keys : List (List ℕ)) (b : Begun) (slot : ℕ)
    (u : StoreShown) (given : List Row) (behind : List Said) (before after : List ℕ) : Type 0 where
  pub got : List Asked
  pub left : List (List ℕ)
  pub are : keys ≡ asked_keys got ++ left
  pub quiet : ℕ
  pub few : quiet ≤ 1
  pub goes : GoesTo known b slot u given (behind ++ get_calls now got) quiet
  pub prints : IsTrue sink → (others : List Row) → keys_of others ≡ left → PrintsTo known end (found_rows got) others before after
  pub whole : end ≡ Done → (left ≡ []) × (quiet ≡ 0)
  pub damaged : end ≡ Damaged → known ≡ false

-- in this order
abbrev pub PrintsKeys : Bool → Bool → ListEnd → Moment → List (List ℕ) → StoreShown → StoreShown → List ℕ → List ℕ → Type 0
PrintsKeys known sink end now keys v u before after = (b : Begun) (slot : ℕ) (given : List Row) (behind : List Said)
    (steps : List Step) → Listed known b slot v given behind 0 steps
    → PrintedKeys known sink end now keys b slot u given behind before after

-- sorted
pub record PrintsSorted (known sink : Bool) (end : ListEnd) (now : Moment) (keys : List (List ℕ)) (v u : StoreShown)
    (before after : List ℕ) : Type 0 where
  pub sorted : List (List ℕ)
  pub same : IsPermutation keys sorted
  pub rise : IsSorted (slice_cmp nat_cmp) sorted
  pub prints : PrintsKeys known sink end now sorted v u before after
