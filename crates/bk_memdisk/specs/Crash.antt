-- What a crash leaves of a disk in memory, by a choice.
use Rattle.std.specs.Prelude.{ℕ, ◌+◌, ◌==◌, cond, List, [], ◌∷◌, ◌++◌, length, take, drop, bit_xor}
use Rattle.std.specs.List.{list_any}
use Rattle.std.specs.declared.option.Option.{Option}
use Rattle.std.specs.declared.option.Option.TheVariants.{None, Some}
use Rattle.bk_disk.specs.Told.{Table, Image, Front}

-- what stays of the unsynced part
abbrev pub kept_part : Option ℕ → List ℕ → List ℕ
kept_part None part = part
kept_part (Some keep) part = take keep part

-- the byte at this offset of the part, with its lowest bit changed where that is chosen
abbrev pub flipped : List ℕ → ℕ → ℕ → ℕ
flipped flips offset byte = cond (list_any (λ f. f == offset) flips) (bit_xor byte 1) byte

abbrev pub all_flipped : List ℕ → ℕ → List ℕ → List ℕ
all_flipped flips offset [] = []
all_flipped flips offset (b ∷ bs) = flipped flips offset b ∷ all_flipped flips (offset + 1) bs

-- of a file of which so many bytes are synced
abbrev pub left_of : Option ℕ → List ℕ → ℕ → List ℕ → List ℕ
left_of keep flips safe bytes = take safe bytes ++ all_flipped flips 0 (kept_part keep (drop safe bytes))

-- of all files; the unsynced part is taken as it reads
abbrev pub crashed : Option ℕ → List ℕ → Table Front → Image → Image
crashed keep flips [] [] = []
crashed keep flips [] (e ∷ es) = []
crashed keep flips (f ∷ fs) [] = []
crashed keep flips (f ∷ fs) (e ∷ es) = (e.0, left_of keep flips (length (f.1).synced) e.1) ∷ crashed keep flips fs es
