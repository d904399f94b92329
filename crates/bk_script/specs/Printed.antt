-- The lines that a drill prints.
use Rattle.std.specs.Prelude.{ℕ, ◌&&◌, ◌==◌, nat_lt, cond, List, ◌∷◌, ◌++◌, length, codes}
use Rattle.std.specs.Fmt.{decimal}
use Rattle.std.specs.List.{list_all}
use Rattle.bk_laws.specs.Wire.{line, numbered, and_number, and_hex, full_word}
use Rattle.bk_script.specs.declared.limits.TheConstants.{LONGEST_WORD}
use Rattle.bk_script.specs.declared.printed.Printed.{Printed}
use Rattle.bk_script.specs.declared.printed.Printed.TheVariants.{Numbered, Absent, Loan, Value, NoLoan, Synced, Fold, Pair, End}
use Rattle.bk_script.specs.declared.printed.Printed.TheVariants.{Closed, Reopened, Torn, Memory, Disk, Read, Damaged, Full, NoFold, Syntax}

-- a value of nothing but x, 120, that is too long for a line is printed as how many they are
abbrev pub value_word : List ℕ → List ℕ
value_word value =
    cond (nat_lt LONGEST_WORD (length value) && list_all (λ b. b == 120) value)
    (decimal (length value) ++ codes "*x") value

unfoldable pub printed_text : Printed → List ℕ
printed_text (Numbered seq) = line (numbered (codes "OK ") seq.0)
printed_text Absent = line (codes "NONE")
printed_text Loan = line (codes "LOAN")
printed_text (Value value) = line (codes "VALUE " ++ value_word value)
printed_text NoLoan = line (codes "NOLOAN")
printed_text (Synced seq) = line (numbered (codes "SYNCED ") seq.0)
printed_text (Fold slot epoch) = line (and_number (numbered (codes "FOLD ") slot) epoch.0)
printed_text (Pair key value) = line (codes "PAIR " ++ key ++ 32 ∷ value_word value)
printed_text (End n) = line (numbered (codes "END ") n)
printed_text Closed = line (codes "CLOSED")
printed_text (Reopened seq keys torn) = line (and_number (and_number (numbered (codes "REOPENED ") seq.0) keys) torn)
printed_text (Torn file at bytes) = line (and_number (and_number (numbered (codes "TORN ") file.0) at) bytes)
printed_text Memory = line (codes "MEMORY")
printed_text Disk = line (codes "DISK")
printed_text Read = line (codes "READ")
printed_text (Damaged d) =
    line (and_hex (and_hex (and_number (numbered (codes "DAMAGED ") d.file.0) d.at) d.kept) d.found)
printed_text (Full full) = line (codes "FULL " ++ full_word full)
printed_text (NoFold slot) = line (numbered (codes "NOFOLD ") slot)
printed_text (Syntax offset) = line (numbered (codes "SYNTAX ") offset)
