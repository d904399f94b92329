-- What a recovery found and counted is what the report of the directory tells.
use Rattle.std.proofs.Common.{◌≡◌, ◌∙◌, ℕ, ◌+◌, ◌≤◌, List, [], ◌∷◌, ◌++◌, length, map, filter, sum_by, Option, refl, sym, ap, subst, inl, inr}
use Rattle.std.specs.List.{AllByRecursion, IsDistinct, flat_map}
use Rattle.std.specs.Map.{keys_of}
use Rattle.std.specs.Option.{is_some, unwrap_or}
use Rattle.std.specs.Str.{bytes_eq}
use Rattle.bk_base.specs.declared.numbers.FileId.{FileId}
use Rattle.bk_base.specs.declared.rows.Row.{Row}
use Rattle.bk_base.specs.declared.writes.Version.{Version}
use Rattle.bk_base.specs.declared.writes.Write.{Write}
use Rattle.bk_disk.specs.Told.{Told, at}
use Rattle.bk_image.specs.CountedFiles.{Counts, HasNoList}
use Rattle.bk_image.specs.Readings.{Books, In, Reading, bytes_in, hint, main}
use Rattle.bk_image.specs.RecoveredLog.{HintTrue, HintsTrue, Recovers}
use Rattle.bk_image.specs.SoundDirectory.{IsSound}
use Rattle.bk_keydir.specs.Counts.{live_of}
use Rattle.bk_keydir.specs.declared.loads.HintNote.{HintNote}
use Rattle.bk_keydir.specs.declared.loads.Loaded.{Loaded}
use Rattle.bk_keydir.specs.declared.loads.Torn.{Torn}
use Rattle.bk_laws.specs.Record.{AreRecords, records_of}
use Rattle.bk_laws.specs.Version.{placed_from}
use Rattle.bk_load.specs.Counting.{RowsRise}
use Rattle.bk_load.specs.Found.{FilesRise, HasTotal, IsFound, IsJudged, IsUncounted, found_row, note_if, notes_in, placed_in, torn_if, torn_in}
use Rattle.bk_load.specs.Lists.{AreOdd}
use Rattle.bk_load.specs.Loads.{AreBooks, IsLoadedFrom, SaysAsRead}
use Rattle.bk_load.specs.Tidying.{CountsWith, Tidied}
use Rattle.bk_load.proofs.KeptKeys.{all_in}
use Rattle.bk_load.proofs.KeptLogs.{counts_bytes, tidied_sound}
use Rattle.bk_load.proofs.Recovered.{Held}
use Rattle.bk_load.proofs.Tidied.{with_first, counts_own, own_name}
use Rattle.bk_store.specs.Rows.{RowsStand}
use Rattle.bk_store.specs.Starting.{IsInOrder}
use Rattle.bk_report.specs.Directory.{AreCountedFiles, AreLiveBy, AreRead, HasLive, HasNewest, HasWhole, IsCountedFile, IsReportOf, ReportedFile, is_newest, records_in, row_in, size_in}
use Rattle.bk_report.specs.Report.{report_text}
use Rattle.bk_report.proofs.CountedRows.{AreRowsOf, IsRowOf, each_reported, file_reported, notes_of_file, notes_reported, records_of_file, records_reported, rise_again, rows_are, rows_live, rows_reported, reported_in, reported_of, torn_reported}
use Rattle.bk_report.proofs.LiveBytes.{live_bytes, newest_bytes}

-- ---- what two directories say where one was tidied

own_counts : (s : Reading) (id : ℕ) (bytes : List ℕ) → HasNoList s → CountsWith s id bytes → Counts s (main id)
own_counts s id bytes none c =
    (ap is_some (own_name s id bytes none c), λ input. let (l, has, is_in) = input in none l has, with_first s id bytes c)

own_bytes : (s : Reading) (id : ℕ) (bytes : List ℕ) → HasNoList s → CountsWith s id bytes → bytes_in s (main id) ≡ bytes
own_bytes s id bytes none c = ap (λ (o : Option (List ℕ)). unwrap_or o []) (own_name s id bytes none c)

abbrev books_of : (ℕ → List Write) → Books
books_of writes n = writes n.id

module _ (r s : Reading) (tidied : Tidied r s) where
  -- what was read of the one holds of the other
  read_books : (writes : ℕ → List Write) → AreRead r writes → AreBooks s (books_of writes)
  read_books writes read n c =
      let here = counts_bytes s n c in read.records n.id (bytes_in s n) (tidied.was n.id (bytes_in s n) here)

  read_hints : (writes : ℕ → List Write) → AreRead r writes → HintsTrue s (books_of writes)
  read_hints writes read n text c is =
      let here = counts_bytes s n c in
      read.hints n.id (bytes_in s n) text (tidied.was n.id (bytes_in s n) here)
      (sym (tidied.hints n.id (bytes_in s n) here) ∙ is)

  sound_read : (books : Books) (log : List Write) → HasNoList s → Recovers s books log → HintsTrue s books
      → AreRead r (λ id. books (main id))
  sound_read books log none recovers tell = record {
    records = λ id bytes c.
        let here = tidied.is id bytes c in
        subst (λ (b : List ℕ). AreRecords b (books (main id))) (own_bytes s id bytes none here)
        (recovers.reads (main id) (own_counts s id bytes none here));
    hints = λ id bytes text c is.
        let here = tidied.is id bytes c in
        subst (λ (b : List ℕ). HintTrue text (length b) (books (main id))) (own_bytes s id bytes none here)
        (tell (main id) text (own_counts s id bytes none here) (tidied.hints id bytes here ∙ is));
  }

-- ---- the files that were found, of a type that is the load's own

rise_found : (low : ℕ) (fs : List _) → FilesRise low fs → RowsRise low (map found_row fs)
rise_found low [] rise = tt
rise_found low (f ∷ fs) rise = (rise.0, rise_found (f.row.id.0 + 1) fs rise.1)

torn_found : (fs : List _) → torn_in fs ≡ flat_map torn_if (map found_row fs)
torn_found [] = refl
torn_found (f ∷ fs) = ap (λ (t : List Torn). torn_if f.row ++ t) (torn_found fs)

notes_found : (fs : List _) → notes_in fs ≡ flat_map (notes_of_file found_row (λ f. f.verdict)) fs
notes_found [] = refl
notes_found (f ∷ fs) = ap (λ (t : List HintNote). note_if f.row.id f.verdict ++ t) (notes_found fs)

records_found : (writes : ℕ → List Write) (fs : List _)
    → placed_in (books_of writes) fs ≡ flat_map (records_of_file found_row (λ f. f.verdict) writes) fs
records_found writes [] = refl
records_found writes (f ∷ fs) =
    ap (λ (t : List (List ℕ × Version)). placed_from f.row.id 0 (writes f.row.id.0) ++ t) (records_found writes fs)

all_both : {X : Type 0} (P Q : X → Type 0) (xs : List X) → AllByRecursion P xs → AllByRecursion Q xs
    → AllByRecursion (λ x. P x × Q x) xs
all_both P Q [] p q = tt
all_both P Q (x ∷ xs) p q = ((p.0, q.0), all_both P Q xs p.1 q.1)

all_with : {X : Type 0} (P Q : X → Type 0) (xs : List X) → ((x : X) → In x xs → P x → Q x) → AllByRecursion P xs
    → AllByRecursion Q xs
all_with P Q [] step all = tt
all_with P Q (x ∷ xs) step all = (step x (inl refl) all.0, all_with P Q xs (λ y is_in. step y (inr is_in)) all.1)

-- ---- the files that count

counted_file : (r s : Reading) (f : _) → IsFound s f → IsUncounted f → (row : Row) → IsRowOf f.row row → 1 ≤ f.row.id.0
    → HasNoList s → Tidied r s → IsCountedFile r (reported_of f.verdict row)
counted_file r s f found uncounted row is low none tidied =
    let here = counts_own s f.row.id.0 found.bytes low none found.there in
    let id : f.row.id ≡ row.id = sym is.id in
    record {
      bytes = found.bytes;
      counts = subst (λ (i : FileId). CountsWith r i.0 found.bytes) id (tidied.was f.row.id.0 found.bytes here);
      len = is.len ∙ found.len;
      judged = subst (λ (i : FileId). IsJudged (r (hint i.0)) row.len f.verdict) id
          (subst (λ (n : ℕ). IsJudged (r (hint f.row.id.0)) n f.verdict) (sym is.len)
          (subst (λ (o : Option (List ℕ)). IsJudged o f.row.len f.verdict) (tidied.hints f.row.id.0 found.bytes here)
          found.judged));
      within = subst (λ (n : ℕ). n ≤ row.len) (sym is.total)
          (subst (λ (n : ℕ). f.row.total ≤ n) (sym is.len) uncounted.total);
    }

module _ (was now : Told) (l : Loaded) (tidied : Tidied (at was.image) (at now.image)) (none : HasNoList (at now.image))
    (from : IsLoadedFrom (at now.image) l) (odd : AreOdd (at was.image) l.report.odd.items) (order : IsInOrder l)
    (once : IsDistinct bytes_eq (keys_of l.keydir.entries)) where
  rows : AreRowsOf (map found_row from.found) l.rows.items
  rows = subst (AreRowsOf (map found_row from.found)) (sym from.rows) (rows_are l.keydir.entries (map found_row from.found))

  abbrev files : List ReportedFile
  files = reported_in (map (λ f. f.verdict) from.found) l.rows.items

  same_rows : map row_in files ≡ l.rows.items
  same_rows = rows_reported found_row (λ f. f.verdict) from.found l.rows.items rows

  found_rise : RowsRise 1 (map found_row from.found)
  found_rise = rise_found 1 from.found from.rise

  files_rise : RowsRise 1 (map row_in files)
  files_rise =
      subst (RowsRise 1) (sym same_rows) (rise_again 1 (map found_row from.found) l.rows.items rows found_rise)

  counted_files : AreCountedFiles (at was.image) files
  counted_files = record {
    rise = files_rise;
    each = each_reported found_row (λ f. f.verdict) (λ f. IsFound (at now.image) f × IsUncounted f)
        (IsCountedFile (at was.image)) 1 from.found l.rows.items rows found_rise
        (all_both (IsFound (at now.image)) IsUncounted from.found from.files.each from.uncounted)
        (λ f row low is known.
        counted_file (at was.image) (at now.image) f known.0 known.1 row is low none tidied);
    all = λ id bytes c.
        let here = tidied.is id bytes c in
        let (f, there, is) = from.files.all id bytes (with_first (at now.image) id bytes here)
        (own_name (at now.image) id bytes none here) in
        let (g, in_files, same) = file_reported found_row (λ f. f.verdict) from.found l.rows.items f rows there in
        (g, in_files, ap (λ (i : FileId). i.0) same ∙ is);
  }

  -- ---- where the hints tell the truth

  says_of : (writes : ℕ → List Write) → AreRead (at was.image) writes → SaysAsRead (books_of writes) from.found l
  says_of writes read =
      from.read (books_of writes) (read_books (at was.image) (at now.image) tidied writes read)
      (read_hints (at was.image) (at now.image) tidied writes read)

  files_live : RowsStand l.rows.items l.keydir.entries
      → AllByRecursion (λ (f : ReportedFile). f.row.live ≡ live_of f.row.id.0 l.keydir.entries) files
  files_live stand =
      rows_live l.keydir.entries files files_rise
      (subst (λ (rows : List Row). RowsStand rows l.keydir.entries) (sym same_rows) stand)

  whole_files : (writes : ℕ → List Write) → AreRead (at was.image) writes → AllByRecursion (HasWhole writes) files
  whole_files writes read =
      each_reported found_row (λ f. f.verdict) (HasTotal (books_of writes)) (HasWhole writes) 1 from.found l.rows.items rows
      found_rise (says_of writes read).totals (λ f row low is total.
      is.total ∙ subst (λ (i : FileId). f.row.total ≡ length (records_of (writes i.0))) (sym is.id) total)

  newest_files : (writes : ℕ → List Write) → AreRead (at was.image) writes → AllByRecursion (HasNewest writes files) files
  newest_files writes read =
      let says = says_of writes read in
      let same : placed_in (books_of writes) from.found ≡ flat_map (records_in writes) files =
      records_found writes from.found
      ∙ sym (records_reported found_row (λ f. f.verdict) writes from.found l.rows.items rows) in
      all_with (λ (f : ReportedFile). f.row.live ≡ live_of f.row.id.0 l.keydir.entries) (HasNewest writes files) files
      (λ f is_in live.
      live ∙ newest_bytes (books_of writes) from.found l says from.lone order f.row.id once
      ∙ ap (λ (all : List (List ℕ × Version)). sum_by size_in (filter (is_newest all) (records_in writes f))) same)
      (files_live says.counts)

  -- ---- where the directory is sound

  live_by : (log : List Write) → IsSound was.image log → AreLiveBy (at was.image) log files
  live_by log sound =
      let still = tidied_sound was.image now.image log tidied sound in
      let says = from.read still.books still.recovers.reads still.hints in
      let held : Held (at now.image) still.books from.found log =
      record { no_list = none; rise = from.rise; files = from.files; recovers = still.recovers } in
      record {
        writes = λ id. still.books (main id);
        read = sound_read (at was.image) (at now.image) tidied still.books log none still.recovers still.hints;
        live = all_with (λ (f : ReportedFile). f.row.live ≡ live_of f.row.id.0 l.keydir.entries)
            (HasLive log (λ id. still.books (main id))) files
            (λ f is_in live.
            let file = all_in (IsCountedFile (at was.image)) files f counted_files.each is_in in
            let here = tidied.is f.row.id.0 file.bytes file.counts in
            live ∙ live_bytes (at now.image) still.books from.found log l held says from.lone order f.row.id.0
            (own_counts (at now.image) f.row.id.0 file.bytes none here) once)
            (files_live says.counts);
      }

  pub is_report_of : IsReportOf was now (report_text l.rows.items l.report)
  is_report_of = record {
    files = files;
    report = l.report;
    is_report = record {
      counted = counted_files;
      torn = from.report.torn ∙ torn_found from.found
          ∙ sym (torn_reported found_row (λ f. f.verdict) from.found l.rows.items rows);
      hints = from.report.hints ∙ notes_found from.found
          ∙ sym (notes_reported found_row (λ f. f.verdict) from.found l.rows.items rows);
      odd = odd;
      whole = whole_files;
      newest = newest_files;
      live = live_by;
    };
    says = ap (λ (items : List Row). report_text items l.report) (sym same_rows);
    idle = none;
  }
