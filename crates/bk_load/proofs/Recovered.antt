-- What the records of a sound directory said is what its log says.
use Rattle.std.proofs.Common.{◌≡◌, ◌==◌, ◌⊎◌, ℕ, ◌+◌, ◌<◌, ◌≤◌, Bool, true, false, cond, max, nat_lt, List, [], ◌∷◌, ◌++◌, length, take, drop, map, Option, Some, None, refl, sym, ap, subst, ◌∙◌, inl, inr, arith, length-append, append_assoc, eq-eqb}
use Rattle.std.specs.Option.{is_some, unwrap_or}
use Rattle.std.specs.List.{AllByRecursion}
use Rattle.std.specs.Str.{bytes_eq}
use Rattle.std.proofs.lemmas.Bool.{cases_Bool, cases_lt, true≢false}
use Rattle.std.proofs.lemmas.Bool.Decides.{nat_tests}
use Rattle.std.proofs.lemmas.List.{take_all}
use Rattle.std.proofs.Math.Seq.{drop-append_seam, take-append_seam}
use Rattle.bk_base.specs.declared.names.Kind.{Kind}
use Rattle.bk_base.specs.declared.names.Kind.TheVariants.{Main, MainTemp}
use Rattle.bk_base.specs.declared.names.Name.{Name}
use Rattle.bk_base.specs.declared.numbers.FileId.{FileId}
use Rattle.bk_base.specs.declared.rows.Row.{Row}
use Rattle.bk_base.specs.declared.writes.Body.{Body}
use Rattle.bk_base.specs.declared.writes.Body.TheVariants.{Put, Gone}
use Rattle.bk_base.specs.declared.writes.Version.{Version}
use Rattle.bk_base.specs.declared.writes.Write.{Write}
use Rattle.bk_disk.specs.Crashes.{IsSynced}
use Rattle.bk_disk.specs.Told.{IsWell, Told, at, bytes_of}
use Rattle.bk_files.specs.Catalog.{row_of}
use Rattle.bk_files.specs.Rows.{AreFromScratch, IsRowFromScratch}
use Rattle.bk_image.proofs.Chances.{records_of-append}
use Rattle.bk_image.proofs.Lists.{in-append, in-append_left, in-append_right}
use Rattle.bk_image.proofs.Logs.{rises-last, seq_after-in}
use Rattle.bk_image.proofs.Places.{counts_first}
use Rattle.bk_image.proofs.Winners.{winner-in, winner_is}
use Rattle.bk_image.specs.CountedFiles.{Counts, CountsAs, HasNoList}
use Rattle.bk_image.specs.Readings.{Books, In, Reading, bytes_in, main}
use Rattle.bk_image.specs.RecoveredLog.{Recovers}
use Rattle.bk_image.specs.SoundDirectory.{IsSound, IsSoundDisk}
use Rattle.bk_keydir.specs.declared.loads.Loaded.{Loaded}
use Rattle.bk_laws.proofs.RecordBytes.{length-record_of}
use Rattle.bk_laws.specs.Log.{IsLog, last_seq, put_in, winner}
use Rattle.bk_laws.specs.Record.{AreRecords, record_of, records_of, size_of}
use Rattle.bk_laws.specs.Version.{is_tombstone, placed_from, version_at}
use Rattle.bk_store.specs.Starting.{IsLoadOf}
use Rattle.bk_store.specs.Versions.{KeyStands, KeysStand, VersionStands}
use Rattle.bk_load.specs.declared.files.FileFound.{FileFound}
use Rattle.bk_load.specs.Found.{AreFound, FilesRise, HasTotal, IsFound, found_row, placed_in, writes_in}
use Rattle.bk_load.specs.Learning.{greatest, if_of, newer, newest_in}
use Rattle.bk_load.specs.Loads.{AreLone, IsLoadedFrom, SaysAsRead, put_if}
use Rattle.bk_load.specs.Tidying.{Tidied}
use Rattle.bk_load.proofs.Counted.{all_rows, some_counted}
use Rattle.bk_load.proofs.KeptKeys.{all_in}
use Rattle.bk_load.proofs.KeptLogs.{counts_bytes, tidied_sound}
use Rattle.bk_store.proofs.Keys.{key_is, key_same, key_sym}
use Rattle.bk_load.proofs.Tidied.{own_name}
use Rattle.bk_load.proofs.Places.{above_low}

-- ---- the newest of some versions

abbrev pub Read : Type 0
Read = List ℕ × Version

newer_from : (a b : Option Version) (v : Version) → newer a b ≡ Some v → (a ≡ Some v) ⊎ (b ≡ Some v)
newer_from None b v is = inr is
newer_from (Some x) None v is = inl is
newer_from (Some x) (Some y) v is = go (nat_lt x.seq.0 y.seq.0) is where
  go : (c : Bool) → cond c (Some y) (Some x) ≡ Some v → (Some x ≡ Some v) ⊎ (Some y ≡ Some v)
  go true is = inr is
  go false is = inl is

newer_high : (a b : Option Version) (v w : Version) → newer a b ≡ Some v → (a ≡ Some w) ⊎ (b ≡ Some w) → w.seq.0 ≤ v.seq.0
newer_high None b v w is (inl one) = absurd (cc one)
newer_high None b v w is (inr one) =
    let same : Some v ≡ Some w = sym is ∙ one in
    let same_version : v ≡ w = cc same in
    let seq : v.seq.0 ≡ w.seq.0 = ap (λ (x : Version). x.seq.0) same_version in
    omega (arith, seq)
newer_high (Some x) None v w is (inr one) = absurd (cc one)
newer_high (Some x) None v w is (inl one) =
    let same : Some v ≡ Some w = sym is ∙ one in
    let same_version : v ≡ w = cc same in
    let seq : v.seq.0 ≡ w.seq.0 = ap (λ (x : Version). x.seq.0) same_version in
    omega (arith, seq)
newer_high (Some x) (Some y) v w is one = go (cases_lt x.seq.0 y.seq.0) where
  seq_of : (z : Version) → Some z ≡ Some w → z.seq.0 ≡ w.seq.0
  seq_of z e = let same : z ≡ w = cc e in ap (λ (u : Version). u.seq.0) same

  go : (x.seq.0 < y.seq.0) ⊎ (y.seq.0 ≤ x.seq.0) → w.seq.0 ≤ v.seq.0
  go (inl lt) =
      let test : nat_lt x.seq.0 y.seq.0 ≡ true = grind (arith, nat_tests, lt) in
      let found : Some y ≡ Some v = sym (ap (λ (c : Bool). cond c (Some y) (Some x)) test) ∙ is in
      let same : y ≡ v = cc found in
      let seq : y.seq.0 ≡ v.seq.0 = ap (λ (u : Version). u.seq.0) same in
      elim one [
        | inl e ↦ let f = seq_of x e in omega (arith, f, seq, lt)
        | inr e ↦ let f = seq_of y e in omega (arith, f, seq)
      ]
  go (inr le) =
      let test : nat_lt x.seq.0 y.seq.0 ≡ false = grind (arith, nat_tests, le) in
      let found : Some x ≡ Some v = sym (ap (λ (c : Bool). cond c (Some y) (Some x)) test) ∙ is in
      let same : x ≡ v = cc found in
      let seq : x.seq.0 ≡ v.seq.0 = ap (λ (u : Version). u.seq.0) same in
      elim one [
        | inl e ↦ let f = seq_of x e in omega (arith, f, seq)
        | inr e ↦ let f = seq_of y e in omega (arith, f, seq, le)
      ]

newer_some : (a : Option Version) (v : Version) → newer (Some v) a ≡ None → ⊥
newer_some None v is = cc is
newer_some (Some w) v is = go (nat_lt v.seq.0 w.seq.0) is where
  go : (c : Bool) → cond c (Some w) (Some v) ≡ None → ⊥
  go true is = cc is
  go false is = cc is

newer_none_right : (a b : Option Version) → newer a b ≡ None → b ≡ None
newer_none_right None b is = is
newer_none_right (Some v) b is = absurd (newer_some b v is)

-- none of the key was read
none_read : (key : List ℕ) (ps : List Read) (p : Read) → newest_in key ps ≡ None → In p ps → bytes_eq key p.0 ≡ true → ⊥
none_read key [] p is is_in same = is_in
none_read key (q ∷ qs) p is (inl here) same =
    let one : if_of key q ≡ Some q.1 =
    ap (λ (b : Bool). cond b (Some q.1) None) (ap (λ (x : Read). bytes_eq key x.0) (sym here) ∙ same) in
    newer_some (newest_in key qs) q.1 (ap (λ (o : Option Version). newer o (newest_in key qs)) (sym one) ∙ is)
none_read key (q ∷ qs) p is (inr later) same =
    none_read key qs p (newer_none_right (if_of key q) (newest_in key qs) is) later same

if_is : (key : List ℕ) (q : Read) (v : Version) → if_of key q ≡ Some v → (bytes_eq key q.0 ≡ true) × (q.1 ≡ v)
if_is key q v is = go (bytes_eq key q.0) refl is where
  go : (b : Bool) → bytes_eq key q.0 ≡ b → cond b (Some q.1) None ≡ Some v → (bytes_eq key q.0 ≡ true) × (q.1 ≡ v)
  go true e is = (e, cc is)
  go false e is = absurd (cc is)

-- the newest of the key was read
pub newest_read : (key : List ℕ) (ps : List Read) (v : Version) → newest_in key ps ≡ Some v
    → (p : Read) × In p ps × (bytes_eq key p.0 ≡ true) × (p.1 ≡ v)
newest_read key [] v is = absurd (cc is)
newest_read key (q ∷ qs) v is =
    elim (newer_from (if_of key q) (newest_in key qs) v is) [
      | inl here ↦ let (same, one) = if_is key q v here in (q, inl refl, same, one)
      | inr later ↦ let (p, is_in, same, one) = newest_read key qs v later in (p, inr is_in, same, one)
    ]

-- and it has the greatest seq
newest_high : (key : List ℕ) (ps : List Read) (v : Version) (p : Read) → newest_in key ps ≡ Some v → In p ps
    → bytes_eq key p.0 ≡ true → p.1.seq.0 ≤ v.seq.0
newest_high key [] v p is is_in same = absurd is_in
newest_high key (q ∷ qs) v p is (inl here) same =
    let one : if_of key q ≡ Some p.1 =
    ap (λ (b : Bool). cond b (Some q.1) None) (ap (λ (x : Read). bytes_eq key x.0) (sym here) ∙ same)
    ∙ ap (λ (x : Read). Some x.1) (sym here) in
    newer_high (if_of key q) (newest_in key qs) v p.1 is (inl one)
newest_high key (q ∷ qs) v p is (inr later) same =
    go (newest_in key qs) refl (λ w some. newest_high key qs w p some later same) where
      go : (o : Option Version) → newest_in key qs ≡ o
          → ((w : Version) → newest_in key qs ≡ Some w → p.1.seq.0 ≤ w.seq.0) → p.1.seq.0 ≤ v.seq.0
      go None none within = absurd (none_read key qs p none later same)
      go (Some w) some within =
          let low = within w some in
          let high = newer_high (if_of key q) (newest_in key qs) v w is (inr some) in
          omega (arith, low, high)

-- ---- where a version stands

-- the version of a write of a file, behind those before it
pub record StandsAt (file : FileId) (from : ℕ) (writes : List Write) (p : List ℕ × Version) : Type 0 where
  pub before : List Write
  pub write : Write
  pub later : List Write
  pub whole : writes ≡ before ++ write ∷ later
  pub key : p.0 ≡ write.key
  pub version : p.1 ≡ version_at file (from + length (records_of before)) write

placed_at : (file : FileId) (from : ℕ) (ws : List Write) (p : Read) → In p (placed_from file from ws) → StandsAt file from ws p
placed_at file from [] p is_in = absurd is_in
placed_at file from (w ∷ ws) p (inl is) = record {
  before = [];
  write = w;
  later = ws;
  whole = refl;
  key = ap (λ (x : Read). x.0) is;
  version = ap (λ (x : Read). x.1) is ∙ ap (λ (n : ℕ). version_at file n w) (omega arith);
}
placed_at file from (w ∷ ws) p (inr later) =
    let s = placed_at file (from + size_of w) ws p later in
    let long : length (record_of w ++ records_of s.before) ≡ size_of w + length (records_of s.before) =
    length-append (record_of w) (records_of s.before) ∙ ap (λ (n : ℕ). n + length (records_of s.before)) (length-record_of w) in
    let place : (from + size_of w) + length (records_of s.before) ≡ from + length (records_of (w ∷ s.before)) = omega (arith, long) in
    record {
      before = w ∷ s.before;
      write = s.write;
      later = s.later;
      whole = ap (λ (xs : List Write). w ∷ xs) s.whole;
      key = s.key;
      version = s.version ∙ ap (λ (n : ℕ). version_at file n s.write) place;
    }

is_placed : (file : FileId) (from : ℕ) (ws : List Write) (w : Write) → In w ws
    → (v : Version) × In (w.key, v) (placed_from file from ws) × (v.seq.0 ≡ w.seq.0)
is_placed file from [] w is_in = absurd is_in
is_placed file from (x ∷ xs) w (inl is) =
    (version_at file from x, inl (ap (λ (y : Write). (y.key, version_at file from x)) is), ap (λ (y : Write). y.seq.0) (sym is))
is_placed file from (x ∷ xs) w (inr later) =
    let (v, is_in, seq) = is_placed file (from + size_of x) xs w later in (v, inr is_in, seq)

-- in one of the files
pub placed_file : (books : Books) (fs : List FileFound) (p : Read) → In p (placed_in books fs)
    → (f : FileFound) × In f fs × StandsAt f.row.id 0 (books (main f.row.id.0)) p
placed_file books [] p is_in = absurd is_in
placed_file books (f ∷ fs) p is_in =
    elim (in-append p (placed_from f.row.id 0 (books (main f.row.id.0))) (placed_in books fs) is_in) [
      | inl here ↦ (f, inl refl, placed_at f.row.id 0 (books (main f.row.id.0)) p here)
      | inr later ↦ let (g, there, s) = placed_file books fs p later in (g, inr there, s)
    ]

file_placed : (books : Books) (fs : List FileFound) (f : FileFound) (w : Write) → In f fs → In w (books (main f.row.id.0))
    → (v : Version) × In (w.key, v) (placed_in books fs) × (v.seq.0 ≡ w.seq.0)
file_placed books [] f w there is_in = absurd there
file_placed books (g ∷ gs) f w (inl is) is_in =
    let here : In w (books (main g.row.id.0)) = subst (λ (x : FileFound). In w (books (main x.row.id.0))) is is_in in
    let (v, placed, seq) = is_placed g.row.id 0 (books (main g.row.id.0)) w here in
    (v, in-append_left (w.key, v) (placed_from g.row.id 0 (books (main g.row.id.0))) (placed_in books gs) placed, seq)
file_placed books (g ∷ gs) f w (inr later) is_in =
    let (v, placed, seq) = file_placed books gs f w later is_in in
    (v, in-append_right (w.key, v) (placed_from g.row.id 0 (books (main g.row.id.0))) (placed_in books gs) placed, seq)

write_of : (books : Books) (fs : List FileFound) (w : Write) → In w (writes_in books fs)
    → (f : FileFound) × In f fs × In w (books (main f.row.id.0))
write_of books [] w is_in = absurd is_in
write_of books (f ∷ fs) w is_in =
    elim (in-append w (books (main f.row.id.0)) (writes_in books fs) is_in) [
      | inl here ↦ (f, inl refl, here)
      | inr later ↦ let (g, there, found) = write_of books fs w later in (g, inr there, found)
    ]

write_in : (books : Books) (fs : List FileFound) (f : FileFound) (w : Write) → In f fs → In w (books (main f.row.id.0))
    → In w (writes_in books fs)
write_in books [] f w there is_in = absurd there
write_in books (g ∷ gs) f w (inl is) is_in =
    in-append_left w (books (main g.row.id.0)) (writes_in books gs)
    (subst (λ (x : FileFound). In w (books (main x.row.id.0))) is is_in)
write_in books (g ∷ gs) f w (inr later) is_in =
    in-append_right w (books (main g.row.id.0)) (writes_in books gs) (write_in books gs f w later is_in)

-- ---- the greatest seq

greatest_low : (n : ℕ) (ws : List Write) → n ≤ greatest n ws
greatest_low n [] = omega arith
greatest_low n (w ∷ ws) = let p = greatest_low (max n w.seq.0) ws in omega (arith, p)

greatest_high : (n : ℕ) (ws : List Write) (w : Write) → In w ws → w.seq.0 ≤ greatest n ws
greatest_high n [] w is_in = absurd is_in
greatest_high n (x ∷ xs) w (inl is) =
    let p = greatest_low (max n x.seq.0) xs in
    let seq : w.seq.0 ≡ x.seq.0 = ap (λ (y : Write). y.seq.0) is in
    omega (arith, p, seq)
greatest_high n (x ∷ xs) w (inr later) = greatest_high (max n x.seq.0) xs w later

greatest_in_bound : (n most : ℕ) (ws : List Write) → n ≤ most → ((w : Write) → In w ws → w.seq.0 ≤ most) → greatest n ws ≤ most
greatest_in_bound n most [] le all = le
greatest_in_bound n most (w ∷ ws) le all =
    let here = all w (inl refl) in
    greatest_in_bound (max n w.seq.0) most ws (omega (arith, le, here)) (λ x is_in. all x (inr is_in))

-- a log's last seq is the greatest of its writes
last_is : (log ws : List Write) → IsLog log → ((w : Write) → In w ws → In w log) → ((w : Write) → In w log → In w ws)
    → greatest 0 ws ≡ last_seq log
last_is log ws rises within all =
    let high : greatest 0 ws ≤ last_seq log =
    greatest_in_bound 0 (last_seq log) ws (omega arith) (λ w is_in. rises-last 0 log w rises (within w is_in)) in
    elim (seq_after-in 0 log) [
      | inl none ↦ let zero_is : last_seq log ≡ 0 = none in omega (arith, high, zero_is)
      | inr last ↦
          let (w, is_in, seq) = last in
          let low = greatest_high 0 ws w (all w is_in) in
          let is : w.seq.0 ≡ last_seq log = seq in
          omega (arith, high, low, is)
    ]

-- ---- a directory without lists, whose files hold the log

pub record Held (r : Reading) (books : Books) (found : List FileFound) (log : List Write) : Type 0 where
  pub no_list : HasNoList r
  pub rise : FilesRise 1 found
  pub files : AreFound r found
  pub recovers : Recovers r books log

pub found_counts : (r : Reading) (found : List FileFound) (f : FileFound) → HasNoList r → FilesRise 1 found → AreFound r found
    → In f found → Counts r (main f.row.id.0)
found_counts r found f none rise files is_in =
    let is = all_in (IsFound r) found f files.each is_in in
    (ap is_some is.there, λ input. let (l, has, there) = input in none l has, above_low 1 found f rise is_in)

own : (r : Reading) (n : Name) → HasNoList r → Counts r n → n ≡ main n.id
own r n none c = go n.kind n.id c where
  go : (kind : Kind) (id : ℕ) → CountsAs kind r id → record { id = id; kind = kind } ≡ main id
  go Main id c = refl
  go MainTemp id c = let (l, has, there) = c.1 in absurd (none l has)
  go kind id c = absurd c

-- each write of the log was read
log_found : (r : Reading) (books : Books) (found : List FileFound) (log : List Write) (w : Write) → Held r books found log
    → In w log → (f : FileFound) × In f found × In w (books (main f.row.id.0))
log_found r books found log w h is_in =
    let (n, counts, in_book) = h.recovers.from w is_in in
    let (f, there, id) = h.files.all n.id (bytes_in r n) (counts_first r n counts)
    (own_name r n.id (bytes_in r n) h.no_list (counts_bytes r n counts)) in
    let name : n ≡ main f.row.id.0 = own r n h.no_list counts ∙ ap main (sym id) in
    (f, there, subst (λ (m : Name). In w (books m)) name in_book)

text_at : (bytes : List ℕ) (ws before : List Write) (w : Write) (later : List Write) → AreRecords bytes ws → ws ≡ before ++ w ∷ later
    → take (size_of w) (drop (0 + length (records_of before)) bytes) ≡ record_of w
text_at bytes ws before w later are whole =
    let rest : List ℕ = drop (length (records_of ws)) bytes in
    let parts : records_of ws ≡ records_of before ++ (record_of w ++ records_of later) =
    ap records_of whole ∙ records_of-append before (w ∷ later) in
    let all : bytes ≡ records_of before ++ (record_of w ++ (records_of later ++ rest)) =
    are.held ∙ ap (λ (x : List ℕ). x ++ rest) parts
    ∙ append_assoc (records_of before) (record_of w ++ records_of later) rest
    ∙ ap (λ (x : List ℕ). records_of before ++ x) (append_assoc (record_of w) (records_of later) rest) in
    let from : 0 + length (records_of before) ≡ length (records_of before) = omega arith in
    ap (λ (n : ℕ). take (size_of w) (drop n bytes)) from
    ∙ ap (λ (x : List ℕ). take (size_of w) (drop (length (records_of before)) x)) all
    ∙ ap (take (size_of w)) (drop-append_seam (records_of before) (record_of w ++ (records_of later ++ rest)))
    ∙ ap (λ (n : ℕ). take n (record_of w ++ (records_of later ++ rest))) (sym (length-record_of w))
    ∙ take-append_seam (record_of w) (records_of later ++ rest)

version_stands : (r : Reading) (books : Books) (file : FileId) (p : Read) (s : StandsAt file 0 (books (main file.0)) p)
    → AreRecords (bytes_in r (main file.0)) (books (main file.0)) → VersionStands r p.1 s.write
version_stands r books file p s are = record {
  says = subst (λ (x : Version). x ≡ version_at x.file x.at s.write) (sym s.version) refl;
  text = subst (λ (x : Version). x.gone ≡ false → take x.size (drop x.at (bytes_in r (main x.file.0))) ≡ record_of s.write)
      (sym s.version)
      (λ put. text_at (bytes_in r (main file.0)) (books (main file.0)) s.before s.write s.later are s.whole);
}

-- The version is that of the winner.
pub record IsWon (r : Reading) (log : List Write) (key : List ℕ) (v : Version) : Type 0 where
  pub write : Write
  pub in_log : In write log
  pub key_is : write.key ≡ key
  pub wins : winner log key ≡ Some write
  pub stands : VersionStands r v write

pub won : (r : Reading) (books : Books) (found : List FileFound) (log : List Write) (key : List ℕ) (v : Version) → Held r books found log
    → newest_in key (placed_in books found) ≡ Some v → IsWon r log key v
won r books found log key v h newest = go (newest_read key (placed_in books found) v newest) where
  go : ((p : Read) × In p (placed_in books found) × (bytes_eq key p.0 ≡ true) × (p.1 ≡ v)) → IsWon r log key v
  go (p, is_in, same, is) = at_file (placed_file books found p is_in) where
    at_file : ((f : FileFound) × In f found × StandsAt f.row.id 0 (books (main f.row.id.0)) p) → IsWon r log key v
    at_file (f, there, s) =
        let counts : Counts r (main f.row.id.0) = found_counts r found f h.no_list h.rise h.files there in
        let in_book : In s.write (books (main f.row.id.0)) =
        subst (In s.write) (sym s.whole) (in-append_right s.write s.before (s.write ∷ s.later) (inl refl)) in
        let in_log : In s.write log = h.recovers.all (main f.row.id.0) s.write counts in_book in
        let key_is : s.write.key ≡ key = sym (key_is key p.0 same ∙ s.key) in
        let seq : v.seq.0 ≡ s.write.seq.0 = ap (λ (x : Version). x.seq.0) (sym is ∙ s.version) in
        record {
          write = s.write;
          in_log = in_log;
          key_is = key_is;
          wins = winner_is log key s.write h.recovers.rising in_log (key_same s.write.key key key_is) (λ x x_in x_key.
              let (g, g_in, x_book) = log_found r books found log x h x_in in
              let (u, u_in, u_seq) = file_placed books found g x g_in x_book in
              let high = newest_high key (placed_in books found) v (x.key, u) newest u_in (key_sym key x.key ∙ x_key) in
              omega (arith, high, u_seq, seq));
          stands = subst (λ (y : Version). VersionStands r y s.write) is
              (version_stands r books f.row.id p s (h.recovers.reads (main f.row.id.0) counts));
        }

body_gone : (w : Write) (b : Body) → is_tombstone b ≡ true → put_in w b ≡ None
body_gone w (Put value) is = absurd (true≢false (sym is))
body_gone w Gone is = refl

key_stands : (r : Reading) (books : Books) (found : List FileFound) (log : List Write) (key : List ℕ) → Held r books found log
    → KeyStands r (put_if (newest_in key (placed_in books found))) (winner log key)
key_stands r books found log key h = go (newest_in key (placed_in books found)) refl where
  never : (w : Write) → newest_in key (placed_in books found) ≡ None → winner log key ≡ Some w → ⊥
  never w none wins =
      let (in_log, same) = winner-in log key w wins in
      let (f, there, in_book) = log_found r books found log w h in_log in
      let (u, u_in, u_seq) = file_placed books found f w there in_book in
      none_read key (placed_in books found) (w.key, u) none u_in (key_sym key w.key ∙ same)

  no_winner : (o : Option Write) → newest_in key (placed_in books found) ≡ None → winner log key ≡ o → KeyStands r None o
  no_winner None none wins = refl
  no_winner (Some w) none wins = absurd (never w none wins)

  a_winner : (v : Version) (g : Bool) → v.gone ≡ g → IsWon r log key v → KeyStands r (cond g None (Some v)) (winner log key)
  a_winner v true gone won =
      let tombstone : is_tombstone won.write.body ≡ true = sym (ap (λ (x : Version). x.gone) won.stands.says) ∙ gone in
      subst (KeyStands r None) (sym won.wins) (body_gone won.write won.write.body tombstone)
  a_winner v false gone won = subst (KeyStands r (Some v)) (sym won.wins) won.stands

  go : (o : Option Version) → newest_in key (placed_in books found) ≡ o → KeyStands r (put_if o) (winner log key)
  go None none = no_winner (winner log key) none refl
  go (Some v) newest = a_winner v v.gone refl (won r books found log key v h newest)

pub put_if_is : (o : Option Version) (v : Version) → put_if o ≡ Some v → o ≡ Some v
put_if_is None v is = absurd (cc is)
put_if_is (Some w) v is = go w.gone is where
  go : (g : Bool) → cond g None (Some w) ≡ Some v → Some w ≡ Some v
  go true is = absurd (cc is)
  go false is = is

-- ---- what was loaded of it

pub keys_stand : (r : Reading) (books : Books) (found : List FileFound) (log : List Write) (l : Loaded) → Held r books found log
    → SaysAsRead books found l → AreLone l.keydir.entries → KeysStand r l.keydir.entries log
keys_stand r books found log l h says lone = record {
  newest = λ key. subst (λ (o : Option Version). KeyStands r o (winner log key)) (sym (says.keys key)) (key_stands r books found log key h);
  placed = λ e v is_in there gone.
      let kept : put_if (newest_in e.0 (placed_in books found)) ≡ Some v = sym (says.keys e.0) ∙ lone e v is_in there in
      let w = won r books found log e.0 v h (put_if_is (newest_in e.0 (placed_in books found)) v kept) in
      (w.write, w.in_log, w.key_is, w.stands);
}

last_stands : (r : Reading) (books : Books) (found : List FileFound) (log : List Write) → Held r books found log
    → greatest 0 (writes_in books found) ≡ last_seq log
last_stands r books found log h = last_is log (writes_in books found) h.recovers.rising within all where
  within : (w : Write) → In w (writes_in books found) → In w log
  within w is_in =
      let (f, there, in_book) = write_of books found w is_in in
      h.recovers.all (main f.row.id.0) w (found_counts r found f h.no_list h.rise h.files there) in_book

  all : (w : Write) → In w log → In w (writes_in books found)
  all w is_in =
      let (f, there, in_book) = log_found r books found log w h is_in in write_in books found f w there in_book

scratch : (u : Told) (books : Books) (f : FileFound) → IsFound (at u.image) f → HasTotal books f
    → AreRecords (bytes_in (at u.image) (main f.row.id.0)) (books (main f.row.id.0)) → IsRowFromScratch u f.row
scratch u books f found total are =
    let bytes : bytes_of (main f.row.id.0) u.image ≡ found.bytes = ap (λ (o : Option (List ℕ)). unwrap_or o []) found.there in
    let long : f.row.len ≡ length (bytes_of (main f.row.id.0) u.image) = found.len ∙ ap length (sym bytes) in
    let taken : take f.row.len (bytes_of (main f.row.id.0) u.image) ≡ bytes_of (main f.row.id.0) u.image =
    take_all f.row.len (bytes_of (main f.row.id.0) u.image) (omega (arith, long)) in
    record {
      writes = books (main f.row.id.0);
      records = subst (λ (b : List ℕ). AreRecords b (books (main f.row.id.0))) (sym taken) are;
      total = total;
    }

scratches : (u : Told) (books : Books) (fs : List FileFound) → AllByRecursion (IsFound (at u.image)) fs
    → AllByRecursion (HasTotal books) fs
    → ((f : FileFound) → In f fs → AreRecords (bytes_in (at u.image) (main f.row.id.0)) (books (main f.row.id.0)))
    → AreFromScratch (map found_row fs) u
scratches u books [] found totals are = tt
scratches u books (f ∷ fs) found totals are = (
  scratch u books f found.0 totals.0 (are f (inl refl)),
  scratches u books fs found.1 totals.1 (λ g is_in. are g (inr is_in)),
)

row_there : (id : ℕ) (fs : List FileFound) (f : FileFound) → In f fs → f.row.id.0 ≡ id → is_some (row_of id (map found_row fs)) ≡ true
row_there id [] f is_in is = absurd is_in
row_there id (g ∷ gs) f is_in is =
    elim (cases_Bool (g.row.id.0 == id)) [
      | inl p ↦ rw p refl
      | inr p ↦ rw p (elim is_in [
        | inl here ↦
            let same : g.row.id.0 ≡ id = ap (λ (x : FileFound). x.row.id.0) (sym here) ∙ is in
            absurd (true≢false (sym (eq-eqb g.row.id.0 id same) ∙ p))
        | inr later ↦ row_there id gs f later is
      ])
    ]

covered : (u : Told) (l : Loaded) → IsLoadedFrom (at u.image) l → (id : ℕ) → 1 ≤ id
    → is_some (row_of id l.rows.items) ≡ false → bytes_of (main id) u.image ≡ []
covered u l load id first no_row = go (at u.image (main id)) refl where
  is_row : is_some (row_of id (map found_row load.found)) ≡ false
  is_row =
      sym (some_counted id l.keydir.entries (map found_row load.found))
      ∙ sym (ap (λ (rows : List Row). is_some (row_of id rows)) load.rows) ∙ no_row

  go : (o : Option (List ℕ)) → at u.image (main id) ≡ o → unwrap_or o [] ≡ []
  go None there = refl
  go (Some bytes) there =
      let (f, is_in, is) = load.files.all id bytes first there in
      absurd (true≢false (sym (row_there id load.found f is_in is) ∙ is_row))

-- What was loaded of a sound directory is what its log says.
pub sound_load : (t u : Told) (l : Loaded) (log : List Write) → Tidied (at t.image) (at u.image) → IsSoundDisk t log
    → IsWell u → IsSynced u → HasNoList (at u.image) → IsLoadedFrom (at u.image) l → IsLoadOf u l log
sound_load t u l log tidied sound well synced none load = record {
  disk = record { well = well; sound = now; synced = synced };
  idle = none;
  seq = says.last ∙ last_stands (at u.image) now.books load.found log held;
  keys = keys_stand (at u.image) now.books load.found log l held says load.lone;
  totals = subst (λ (rows : List Row). AreFromScratch rows u) (sym load.rows)
      (all_rows (IsRowFromScratch u) l.keydir.entries (map found_row load.found) (λ v r s. record {
        writes = s.writes;
        records = s.records;
        total = s.total;
      })
      (scratches u now.books load.found load.files.each says.totals
      (λ f is_in. now.recovers.reads (main f.row.id.0) (found_counts (at u.image) load.found f none load.rise load.files is_in))));
  counts = says.counts;
  covered = λ id first. covered u l load id first;
} where
  now : IsSound u.image log
  now = tidied_sound t.image u.image log tidied sound.sound

  says : SaysAsRead now.books load.found l
  says = load.read now.books now.recovers.reads now.hints

  held : Held (at u.image) now.books load.found log
  held = record { no_list = none; rise = load.rise; files = load.files; recovers = now.recovers }
