-- What a reader answers, and what it holds then.
use Rattle.std.specs.Prelude.{◌≡◌, ◌+◌, length}
use Rattle.bk_laws.specs.Wire.{request_text, StandsIn, IsPartial, IsBad}
use Rattle.bk_wire.specs.declared.reader.Next.{Next}
use Rattle.bk_wire.specs.declared.reader.Next.TheVariants.{Need, Ask, Bad}
use Rattle.bk_wire.specs.Stream.{Stream}

abbrev pub Answers : Next → Stream → Stream → Type 0
Answers Need old new = IsPartial old.rest × (new ≡ old)
Answers (Ask request) old new =
    StandsIn old.rest request new.rest × (new.offset ≡ old.offset + length (request_text request))
    × (new.most ≡ old.most)
Answers (Bad offset) old new = IsBad old.rest × (offset ≡ old.offset) × (new ≡ old)
