-- What a crash leaves of a log: a prefix of it with every synced write.
use Rattle.std.specs.Prelude.{ℕ, ◌≤◌, ◌⊎◌, List, ◌++◌, length, take}
use Rattle.bk_base.specs.declared.writes.Write.{Write}
use Rattle.bk_disk.specs.Told.{Front, Image, Table}
use Rattle.bk_disk.specs.Crashes.{MayLeave}
use Rattle.bk_laws.specs.Log.{SameMap}
use Rattle.bk_image.specs.Chance.{NoChance}
use Rattle.bk_image.specs.SoundDirectory.{IsSound}

-- what was found has the map of the first n of these writes, and n is at least `kept`
pub record HasPrefix (found : List Write) (kept : ℕ) (writes : List Write) : Type 0 where
  pub n : ℕ
  pub low : kept ≤ n
  pub high : n ≤ length writes
  pub same_map : SameMap found (take n writes)

-- The image is sound, and it has the map of a prefix of the log with the writes that were tried
-- behind it. The first `kept` writes, those that a sync has answered for, are all in it.
pub record Prefix (image : Image) (log : List Write) (kept : ℕ) (tried : List Write) : Type 0 where
  pub found : List Write
  pub sound : IsSound image found
  pub part : HasPrefix found kept (log ++ tried)

-- each image that a crash may leave without a chance match meets it
abbrev pub MeetsPrefix : List Write → ℕ → List Write → Table Front → Type 0
MeetsPrefix log kept tried fronts = (image : Image) → MayLeave fronts image → NoChance fronts image
    → Prefix image log kept tried

-- within an event: with what was tried before it, or with what it tries
abbrev pub MeetsEither : List Write → ℕ → List Write → List Write → Table Front → Type 0
MeetsEither log kept tried more fronts = (image : Image) → MayLeave fronts image
    → NoChance fronts image
    → Prefix image log kept tried ⊎ Prefix image log kept more
