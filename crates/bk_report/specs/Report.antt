-- The lines that tell what a recovery found.
use Rattle.std.specs.Prelude.{◌==◌, ℕ, cond, List, [], ◌++◌, length, codes}
use Rattle.std.specs.List.{flat_map}
use Rattle.bk_base.specs.declared.names.Name.{Name}
use Rattle.bk_base.specs.declared.rows.Row.{Row}
use Rattle.bk_hint.specs.declared.judging.Verdict.{Verdict}
use Rattle.bk_hint.specs.declared.judging.Verdict.TheVariants.{NotWhole, BadCheck, LengthDiffers, BadRow, Good}
use Rattle.bk_keydir.specs.declared.loads.HintNote.{HintNote}
use Rattle.bk_keydir.specs.declared.loads.Report.{Report}
use Rattle.bk_keydir.specs.declared.loads.Torn.{Torn}
use Rattle.bk_laws.specs.Wire.{line, numbered, and_number, and_hex}

-- a data file: its number, its length, the bytes of its whole records, and those that are live
abbrev pub file_line : Row → List ℕ
file_line row = line (and_number (and_number (and_number (numbered (codes "FILE ") row.id.0) row.len) row.total) row.live)

-- bytes behind its whole records: where they begin, and how many they are
abbrev pub torn_line : Torn → List ℕ
torn_line torn = line (and_number (and_number (numbered (codes "TORN ") torn.file.0) torn.at) torn.bytes)

-- what its hint is
abbrev pub verdict_text : Verdict → List ℕ
verdict_text (Good covered rows) = codes " GOOD"
verdict_text NotWhole = codes " NOTWHOLE"
verdict_text (BadCheck stored computed) = and_hex (and_hex (codes " BADCHECK") stored) computed
verdict_text (LengthDiffers said is) = and_number (numbered (codes " LENGTH ") said) is
verdict_text (BadRow row) = numbered (codes " ROW ") row

abbrev pub hint_line : HintNote → List ℕ
hint_line note = line (numbered (codes "HINT ") note.file.0 ++ verdict_text note.verdict)

-- a swap list that says nothing
abbrev pub odd_line : Name → List ℕ
odd_line name = line (numbered (codes "ODD ") name.id ++ codes ".bitcask.swap")

-- what is said of the file with this number
abbrev pub torn_of : ℕ → Torn → List ℕ
torn_of id torn = cond (torn.file.0 == id) (torn_line torn) []

abbrev pub hint_of : ℕ → HintNote → List ℕ
hint_of id note = cond (note.file.0 == id) (hint_line note) []

abbrev pub lines_of : Report → Row → List ℕ
lines_of report row = file_line row ++ (flat_map (torn_of row.id.0) report.torn.items
    ++ flat_map (hint_of row.id.0) report.hints.items)

-- how many files were looked at, and how many of them are torn
abbrev pub checked_line : ℕ → ℕ → List ℕ
checked_line files torn = line (and_number (numbered (codes "CHECKED ") files) torn)

-- the whole report
abbrev pub report_text : List Row → Report → List ℕ
report_text rows report =
    flat_map (lines_of report) rows ++ (flat_map odd_line report.odd.items ++ checked_line (length rows) (length report.torn.items))
