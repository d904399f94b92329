-- The bytes that a store knows to be whole records.
use Rattle.std.specs.Prelude.{◌≡◌, cond, take, Option, None, Some, option_map}
use Rattle.bk_base.specs.declared.names.Name.{Name}
use Rattle.bk_disk.specs.Names.{same}
use Rattle.bk_disk.specs.Told.{Image, at}
use Rattle.bk_image.specs.Readings.{Reading, bytes_in, main}
use Rattle.bk_image.specs.Core.{ActiveFile}

-- The image, and of the active file its known bytes alone. A failed append and the cut that mends
-- it leave this as it is, so the places of versions are read through it.
abbrev pub known_of : Option ActiveFile → Image → Reading
known_of None image n = at image n
known_of (Some a) image n =
    cond (same n (main a.id)) (option_map (take a.len) (at image n)) (at image n)

-- The known bytes of each file are the same. A new file that is empty changes none.
abbrev pub KnowsSame : Reading → Reading → Type 0
KnowsSame r s = (n : Name) → bytes_in s n ≡ bytes_in r n
