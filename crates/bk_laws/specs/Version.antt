-- What is known of a record without its value.
use Rattle.std.specs.Prelude.{ℕ, ◌+◌, Bool, false, true, List, [], ◌∷◌}
use Rattle.bk_base.specs.declared.numbers.FileId.{FileId}
use Rattle.bk_base.specs.declared.writes.Body.{Body}
use Rattle.bk_base.specs.declared.writes.Body.TheVariants.{Put, Gone}
use Rattle.bk_base.specs.declared.writes.Version.{Version}
use Rattle.bk_base.specs.declared.writes.Write.{Write}
use Rattle.bk_laws.specs.Record.{checksum_of, size_of}

abbrev pub is_tombstone : Body → Bool
is_tombstone (Put value) = false
is_tombstone Gone = true

-- the version of a write whose record stands at this place of the file
abbrev pub version_at : FileId → ℕ → Write → Version
version_at file place w = record {
  seq = w.seq;
  at = place;
  moment = w.moment;
  file = file;
  size = size_of w;
  crc = checksum_of w;
  gone = is_tombstone w.body;
}

-- the keys and the versions of writes whose records stand one after the other from this place on
abbrev pub placed_from : FileId → ℕ → List Write → List (List ℕ × Version)
placed_from file place [] = []
placed_from file place (w ∷ ws) = (w.key, version_at file place w) ∷ placed_from file (place + size_of w) ws
