-- The hint that was written for the records of a file is true of it.
use Rattle.std.proofs.Common.{ℕ, ◌^◌, ◌<◌, ◌≤◌, List, ◌++◌, length, refl}
use Rattle.std.specs.List.{AllByRecursion}
use Rattle.bk_base.specs.declared.writes.Write.{Write}
use Rattle.bk_hint.proofs.RoundTrips.{one_reading, written_is_good}
use Rattle.bk_laws.specs.Hint.{hint_text, rows_from}
use Rattle.bk_laws.specs.Record.{IsWritable, records_of}
use Rattle.bk_image.specs.RecoveredLog.{HintTrue}

-- also where the file has gone on behind them
pub written_hint : (first later : List Write) (len : ℕ) → AllByRecursion IsWritable first
    → length (records_of first) ≤ len → len < 2 ^ 64
    → HintTrue (hint_text first) len (first ++ later)
written_hint first later len fit within small covered rows good =
    let written = written_is_good first len fit within small in
    let same = one_reading (hint_text first) len len covered (length (records_of first)) rows
    (rows_from 0 first) good written in
    record { first = first; later = later; whole = refl; rows_are = same.1; covers = same.0 }
