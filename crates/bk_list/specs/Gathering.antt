-- What is gathered of a fold.
use Rattle.std.specs.Prelude.{◌≡◌, ℕ, ◌≤◌, Bool, List, [], map, min, slice_set}
use Rattle.bk_base.specs.declared.histories.Step.{Step}
use Rattle.bk_disk.specs.Causes.{most}
use Rattle.bk_exchange.specs.Listings.{Row}
use Rattle.bk_exchange.specs.Points.{Said}
use Rattle.bk_keydir.specs.Slots.{slot_at}
use Rattle.bk_session.specs.Listing.{Begun, Listed}
use Rattle.bk_store.specs.Shown.{Shown}
use Rattle.bk_list.specs.declared.lists.ListEnd.{ListEnd}
use Rattle.bk_list.specs.declared.lists.ListEnd.TheVariants.{Disk, Memory}

abbrev pub keys_of : List Row → List (List ℕ)
keys_of rows = map (λ (row : Row). row.key) rows

-- The fold gave pairs with these keys, and then these calls came.
pub record Gathered (known : Bool) (b : Begun) (slot : ℕ) (v : Shown) (keys : List (List ℕ)) (behind : List Said) : Type 0 where
  pub rows : List Row
  pub are : keys_of rows ≡ keys
  pub steps : List Step
  pub listed : Listed known b slot v rows behind 0 steps

abbrev pub Gathers : Bool → ℕ → List Said → Shown → Shown → List (List ℕ) → Type 0
Gathers known slot behind v u keys = (b : Begun) (steps : List Step) → Listed known b slot v [] [] 0 steps
    → Gathered known b slot u keys behind

-- The fold was asked for some pairs, and then refused.
pub record IsRefused (known : Bool) (b : Begun) (slot : ℕ) (v : Shown) : Type 0 where
  pub given : List Row
  pub quiet : ℕ
  pub few : quiet ≤ 1
  pub steps : List Step
  pub listed : Listed known b slot v given [] quiet steps

abbrev pub Refuses : Bool → ℕ → Shown → Shown → Type 0
Refuses known slot v u = (b : Begun) (steps : List Step) → Listed known b slot v [] [] 0 steps → IsRefused known b slot u

-- how it ends where not all keys were gathered
abbrev pub Stops : ListEnd → Type 0
Stops Disk = Unit {0}
Stops Memory = Unit {0}
Stops end = ⊥

-- Over every disk nothing but the fold in this slot has changed, and the disk's counts. That of its views doesn't
-- fall, unless from above its last value.
pub record MovesOn (slot : ℕ) (v u : Shown) : Type 0 where
  pub keys : u.keys ≡ record v.keys { slots = slice_set v.keys.slots slot (slot_at u.keys.slots slot) }
  pub seq : u.seq ≡ v.seq
  pub settings : u.settings ≡ v.settings
  pub catalog : u.files.catalog ≡ v.files.catalog
  pub faults : v.files.faults ≤ u.files.faults
  pub views : min v.files.fallible_views most ≤ u.files.fallible_views
  pub outs : u.files.fallible_outs ≡ v.files.fallible_outs
