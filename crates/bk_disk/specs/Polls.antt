-- What a polled stream does.
use Rattle.std.specs.Prelude.{◌≡◌, ℕ, ◌<◌, ◌≤◌, List, ◌++◌, length, take}
use Rattle.bk_disk.specs.Streams.{Takes}
use Rattle.bk_disk.specs.declared.polls.Drained.{Drained}
use Rattle.bk_disk.specs.declared.polls.Drained.TheVariants.{Taken as drained, Later as later_drained}
use Rattle.bk_disk.specs.declared.polls.Polled.{Polled}
use Rattle.bk_disk.specs.declared.polls.Polled.TheVariants.{Taken, End, Later}

-- as many bytes as the slice has room for, and at least one where it has some
abbrev pub FitsIn : Polled → List ℕ → Type 0
FitsIn (Taken n) into = (n ≤ length into) × (0 < length into → 0 < n)
FitsIn End into = Unit {0}
FitsIn Later into = Unit {0}

-- bytes of the whole input were taken; or it is at its end; or nothing was taken
abbrev pub Polls : Polled → List ℕ → ℕ → ℕ → List ℕ → Type 0
Polls (Taken n) whole before now into = Takes whole before now n into
Polls End whole before now into = (now ≡ before) × (before ≡ length whole)
Polls Later whole before now into = now ≡ before

abbrev pub FitsPiece : Drained → List ℕ → Type 0
FitsPiece (drained n) piece = (n ≤ length piece) × (0 < length piece → 0 < n)
FitsPiece later_drained piece = Unit {0}

-- a first part of the piece was taken; or nothing
abbrev pub Drains : Drained → List ℕ → List ℕ → List ℕ → Type 0
Drains (drained n) before now piece = now ≡ before ++ take n piece
Drains later_drained before now piece = now ≡ before
