-- The words of the program, and what they ask for.
use Rattle.std.specs.Prelude.{◌≡◌, ℕ, ◌<◌, ◌≤◌, List, [], ◌∷◌, length, codes}
use Rattle.std.specs.Fmt.{decimal}
use Rattle.bitcaskd.specs.declared.command.Command.{Command}
use Rattle.bitcaskd.specs.declared.command.Command.TheVariants.{Check, Drill, Open}
use Rattle.bitcaskd.specs.declared.command.TheConstants.{MOST_PAIRS}
use Rattle.bitcaskd.specs.declared.command.Work.TheVariants.{Fill, List as list_work, Pipe}

-- the first word of a command
abbrev pub verb_of : Command → List ℕ
verb_of (Open Pipe) = codes "pipe"
verb_of (Open list_work) = codes "list"
verb_of (Open (Fill count)) = codes "fill"
verb_of Check = codes "check"
verb_of Drill = codes "drill"

-- a command that works over a directory
abbrev pub HasDirectory : Command → Type 0
HasDirectory Drill = ⊥
HasDirectory command = Unit {0}

-- the words behind its directory: how many pairs are to be put
abbrev pub count_words : Command → List (List ℕ)
count_words (Open Pipe) = []
count_words (Open list_work) = []
count_words (Open (Fill count)) = decimal count ∷ []
count_words Check = []
count_words Drill = []

abbrev pub IsCount : ℕ → Type 0
IsCount count = count ≤ MOST_PAIRS

-- a command that may be asked for
abbrev pub MayBeAsked : Command → Type 0
MayBeAsked (Open Pipe) = Unit {0}
MayBeAsked (Open list_work) = Unit {0}
MayBeAsked (Open (Fill count)) = IsCount count
MayBeAsked Check = Unit {0}
MayBeAsked Drill = Unit {0}

-- The words ask for this command, and if it has one over some directory, whose name has a byte.
abbrev pub AsksFor : Command → List (List ℕ) → Type 0
AsksFor Drill words = words ≡ verb_of Drill ∷ []
AsksFor command words =
    (dir : List ℕ) × (words ≡ verb_of command ∷ dir ∷ count_words command) × (0 < length dir) × MayBeAsked command

abbrev pub IsCommand : List (List ℕ) → Type 0
IsCommand words = (command : Command) × AsksFor command words

-- The words ask for a command over a directory.
abbrev pub NamesDirectory : List (List ℕ) → Type 0
NamesDirectory words = (command : Command) × HasDirectory command × AsksFor command words

-- a fill whose number of pairs this word writes
abbrev pub IsFillOf : Command → List ℕ → Type 0
IsFillOf (Open (Fill count)) text = IsCount count × (text ≡ decimal count)
IsFillOf command text = ⊥
