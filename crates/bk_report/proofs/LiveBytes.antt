-- The live bytes of a file, by what was loaded: those of its records that are the newest of their key and puts, by the
-- log that the directory holds, and by all records alone.
use Rattle.std.proofs.Common.{◌≡◌, ◌∙◌, ◌==◌, ◌&&◌, ℕ, ◌+◌, ◌≤◌, Bool, true, false, not, cond, List, [], ◌∷◌, length, filter, sum_by, Option, None, Some, refl, sym, ap, subst, arith, inl, inr, eq-eqb, eqb-true}
use Rattle.std.specs.List.{IsDistinct}
use Rattle.std.specs.Map.{keys_of}
use Rattle.std.specs.Str.{bytes_eq}
use Rattle.std.proofs.lemmas.Bool.{not-true, true≢false}
use Rattle.bk_base.specs.declared.names.Name.{Name}
use Rattle.bk_base.specs.declared.numbers.FileId.{FileId}
use Rattle.bk_base.specs.declared.numbers.Seq.{Seq}
use Rattle.bk_base.specs.declared.writes.Body.{Body}
use Rattle.bk_base.specs.declared.writes.Body.TheVariants.{Put, Gone}
use Rattle.bk_base.specs.declared.writes.Version.{Version}
use Rattle.bk_base.specs.declared.writes.Write.{Write}
use Rattle.bk_image.proofs.Lists.{in-append, in-append_right}
use Rattle.bk_image.proofs.Logs.{one_seq}
use Rattle.bk_image.specs.CountedFiles.{Counts}
use Rattle.bk_image.specs.Readings.{Books, In, Reading, main}
use Rattle.bk_image.specs.RecoveredLog.{AreOnce}
use Rattle.bk_keydir.specs.Counts.{live_of}
use Rattle.bk_keydir.specs.Keydir.{Entry, newest_of, versions_of}
use Rattle.bk_keydir.specs.declared.loads.Loaded.{Loaded}
use Rattle.bk_laws.specs.Log.{put_in, put_of, winner}
use Rattle.bk_laws.specs.Record.{records_of, size_of}
use Rattle.bk_laws.specs.Version.{is_tombstone, placed_from}
use Rattle.bk_load.specs.Found.{placed_in}
use Rattle.bk_load.specs.Learning.{newest_in}
use Rattle.bk_load.specs.Loads.{AreLone, SaysAsRead, put_if}
use Rattle.bk_load.proofs.Recovered.{Held, Read, StandsAt, found_counts, keys_stand, newest_read, placed_file, put_if_is, won}
use Rattle.bk_report.specs.Directory.{has_seq, is_live_put, is_newest, is_put_at, size_in}
use Rattle.bk_report.proofs.Named.{Finds, IsNamed, and_true, both, named_bytes, newest_entry}
use Rattle.bk_report.proofs.Picked.{AreUnlike, records_filter, sum_filter}
use Rattle.bk_store.proofs.Keys.{key_is}
use Rattle.bk_store.specs.Starting.{IsInOrder}
use Rattle.bk_store.specs.Versions.{KeyStands}

-- ---- what was loaded of some records

-- the one version of an entry, a put, is its key's newest record
record IsLoadedKey (all : List Read) (e : Entry) : Type 0 where
  pub version : Version
  pub newest : newest_of e.1 ≡ Some version
  pub put : version.gone ≡ false
  pub read : newest_in e.0 all ≡ Some version

module _ (books : Books) (found : List _) (l : Loaded) (says : SaysAsRead books found l)
    (lone : AreLone l.keydir.entries) (order : IsInOrder l) where
  loaded_key : (e : Entry) → In e l.keydir.entries → IsLoadedKey (placed_in books found) e
  loaded_key e is_in =
      let one = order.keys e is_in in
      let kept = lone e one.version is_in (subst (In one.version) (sym one.alone) (inl refl)) in
      record {
        version = one.version;
        newest = ap newest_of one.alone;
        put = one.put;
        read = put_if_is (newest_in e.0 (placed_in books found)) one.version (sym (says.keys e.0) ∙ kept);
      }

  -- the newest record of a key is that of an entry, where it is a put
  key_loaded : (key : List ℕ) (v : Version) → newest_in key (placed_in books found) ≡ Some v → v.gone ≡ false
      → (e : Entry) × In e l.keydir.entries × (bytes_eq key e.0 ≡ true) × (newest_of e.1 ≡ Some v)
  key_loaded key v is put =
      newest_entry key l.keydir.entries v
      (says.keys key ∙ ap put_if is ∙ ap (λ (gone : Bool). cond gone None (Some v)) put)

same_version : (o : Option Version) (v w : Version) → o ≡ Some v → o ≡ Some w → v ≡ w
same_version o v w p q = let both_are : Some v ≡ Some w = sym p ∙ q in cc both_are

-- ---- by the records alone

placed_low : (file : FileId) (from : ℕ) (ws : List Write) (p : Read) → In p (placed_from file from ws) → from ≤ p.1.at
placed_low file from [] p is_in = absurd is_in
placed_low file from (w ∷ ws) p (inl is) =
    let place : p.1.at ≡ from = ap (λ (q : Read). q.1.at) is in omega (arith, place)
placed_low file from (w ∷ ws) p (inr later) =
    let low = placed_low file (from + size_of w) ws p later in omega (arith, low)

unlike_placed : (file : FileId) (from : ℕ) (ws : List Write) → AreUnlike (λ (p : Read). p.1.at) (placed_from file from ws)
unlike_placed file from [] = tt
unlike_placed file from (w ∷ ws) = (
  λ p is_in same. let low = placed_low file (from + size_of w) ws p is_in in absurd (omega (arith, low, same)),
  unlike_placed file (from + size_of w) ws,
)

placed_of : (file : FileId) (from : ℕ) (ws : List Write) (p : Read) → In p (placed_from file from ws) → p.1.file ≡ file
placed_of file from [] p is_in = absurd is_in
placed_of file from (w ∷ ws) p (inl is) = ap (λ (q : Read). q.1.file) is
placed_of file from (w ∷ ws) p (inr later) = placed_of file (from + size_of w) ws p later

file_of : (books : Books) (fs : List _) (p : Read) → In p (placed_in books fs)
    → In p (placed_from p.1.file 0 (books (main p.1.file.0)))
file_of books [] p is_in = absurd is_in
file_of books (f ∷ fs) p is_in =
    elim (in-append p (placed_from f.row.id 0 (books (main f.row.id.0))) (placed_in books fs) is_in) [
      | inl here ↦
          subst (λ (i : FileId). In p (placed_from i 0 (books (main i.0))))
          (sym (placed_of f.row.id 0 (books (main f.row.id.0)) p here)) here
      | inr later ↦ file_of books fs p later
    ]

file_is : (a b : FileId) → a.0 ≡ b.0 → a ≡ b
file_is a b is = λ i. record { 0 = is i }

abbrev key_in : Read → List ℕ
key_in p = p.0

abbrev place_in : Read → ℕ
place_in p = p.1.at

abbrev place_of : Version → ℕ
place_of v = v.at

module _ (books : Books) (found : List _) (l : Loaded) (says : SaysAsRead books found l)
    (lone : AreLone l.keydir.entries) (order : IsInOrder l) (file : FileId) where
  finds_record : (e : Entry) → In e l.keydir.entries
      → Finds size_in key_in place_in place_of file.0 (placed_from file 0 (books (main file.0))) e
  finds_record e is_in =
      let k = loaded_key books found l says lone order e is_in in
      record {
        version = k.version;
        newest = k.newest;
        put = k.put;
        found = λ here.
            let (p, there, same, is) = newest_read e.0 (placed_in books found) k.version k.read in
            let in_file : p.1.file ≡ file = file_is p.1.file file (ap (λ (v : Version). v.file.0) is ∙ here) in (
              p,
              subst (λ (i : FileId). In p (placed_from i 0 (books (main i.0)))) in_file (file_of books found p there),
              record {
                key_is = sym (key_is e.0 p.0 same);
                put = k.put;
                file = here;
                mark_is = ap (λ (v : Version). v.at) (sym is);
              },
              ap (λ (v : Version). v.size) (sym is),
            );
      }

  named_newest : (p : Read) → In p (placed_from file 0 (books (main file.0)))
      → IsNamed size_in key_in place_in place_of file.0 l.keydir.entries p → is_newest (placed_in books found) p ≡ true
  named_newest p is_in n =
      let k = loaded_key books found l says lone order n.entry n.is_in in
      let same = same_version (newest_of n.entry.1) k.version n.version k.newest n.newest in
      let newest : newest_in p.0 (placed_in books found) ≡ Some n.version =
      ap (λ (key : List ℕ). newest_in key (placed_in books found)) n.is.key_is ∙ k.read ∙ ap (λ (v : Version). Some v) same in
      let file_same : n.version.file.0 ≡ p.1.file.0 =
      n.is.file ∙ ap (λ (i : FileId). i.0) (sym (placed_of file 0 (books (main file.0)) p is_in)) in
      ap (λ (o : Option Version). is_put_at o p.1) newest
      ∙ and_true (not n.version.gone) ((n.version.file.0 == p.1.file.0) && (n.version.at == p.1.at)) (ap not n.is.put)
      (and_true (n.version.file.0 == p.1.file.0) (n.version.at == p.1.at)
      (eq-eqb n.version.file.0 p.1.file.0 file_same) (eq-eqb n.version.at p.1.at n.is.mark_is))

  newest_named : (p : Read) → In p (placed_from file 0 (books (main file.0)))
      → is_newest (placed_in books found) p ≡ true → IsNamed size_in key_in place_in place_of file.0 l.keydir.entries p
  newest_named p is_in = go (newest_in p.0 (placed_in books found)) refl where
    go : (o : Option Version) → newest_in p.0 (placed_in books found) ≡ o → is_put_at o p.1 ≡ true
        → IsNamed size_in key_in place_in place_of file.0 l.keydir.entries p
    go None none is = absurd (true≢false (sym is))
    go (Some v) newest is =
        let (kept, rest) = both (not v.gone) ((v.file.0 == p.1.file.0) && (v.at == p.1.at)) is in
        let (files, places) = both (v.file.0 == p.1.file.0) (v.at == p.1.at) rest in
        let put = not-true v.gone kept in
        let (e, there, same, first) = key_loaded books found l says lone order p.0 v newest put in
        record {
          entry = e;
          is_in = there;
          version = v;
          newest = first;
          is = record {
            key_is = key_is p.0 e.0 same;
            put = put;
            file = eqb-true v.file.0 p.1.file.0 files
                ∙ ap (λ (i : FileId). i.0) (placed_of file 0 (books (main file.0)) p is_in);
            mark_is = eqb-true v.at p.1.at places;
          };
        }

  pub newest_bytes : IsDistinct bytes_eq (keys_of l.keydir.entries)
      → live_of file.0 l.keydir.entries
      ≡ sum_by size_in (filter (is_newest (placed_in books found)) (placed_from file 0 (books (main file.0))))
  newest_bytes once =
      named_bytes size_in key_in place_in place_of file.0 l.keydir.entries (placed_from file 0 (books (main file.0)))
      (is_newest (placed_in books found)) once (unlike_placed file 0 (books (main file.0))) finds_record named_newest newest_named
      ∙ sym (sum_filter size_in (is_newest (placed_in books found)) (placed_from file 0 (books (main file.0))))

-- ---- by the log

seq_is : (a b : Seq) → a.0 ≡ b.0 → a ≡ b
seq_is a b is = λ i. record { 0 = is i }

unlike_once : (ws : List Write) → AreOnce ws → AreUnlike (λ (w : Write). w.seq.0) ws
unlike_once [] once = tt
unlike_once (w ∷ ws) once = (λ x is_in same. once.0 x is_in (seq_is w.seq x.seq same), unlike_once ws once.1)

body_put : (w : Write) (b : Body) → is_tombstone b ≡ false → put_in w b ≡ Some w
body_put w (Put value) is = refl
body_put w Gone is = absurd (true≢false is)

abbrev key_written : Write → List ℕ
key_written w = w.key

abbrev seq_written : Write → ℕ
seq_written w = w.seq.0

abbrev seq_of : Version → ℕ
seq_of v = v.seq.0

-- The write of a key's newest version, in its file.
record IsNewest (s : Reading) (books : Books) (log : List Write) (key : List ℕ) (v : Version) : Type 0 where
  pub write : Write
  pub in_log : In write log
  pub counts : Counts s (main v.file.0)
  pub in_book : In write (books (main v.file.0))
  pub key_is : write.key ≡ key
  pub wins : winner log key ≡ Some write
  pub seq : v.seq ≡ write.seq
  pub size : v.size ≡ size_of write
  pub put : v.gone ≡ false → put_of (Some write) ≡ Some write

module _ (s : Reading) (books : Books) (found : List _) (log : List Write) (l : Loaded)
    (held : Held s books found log) (says : SaysAsRead books found l) (lone : AreLone l.keydir.entries)
    (order : IsInOrder l) where
  newest : (key : List ℕ) (v : Version) → newest_in key (placed_in books found) ≡ Some v → IsNewest s books log key v
  newest key v is = go (newest_read key (placed_in books found) v is) where
    go : ((p : Read) × In p (placed_in books found) × (bytes_eq key p.0 ≡ true) × (p.1 ≡ v)) → IsNewest s books log key v
    go (p, is_in, same, version) = at_file (placed_file books found p is_in) where
      at_file : ((f : _) × In f found × StandsAt f.row.id 0 (books (main f.row.id.0)) p) → IsNewest s books log key v
      at_file (f, there, at) =
          let w = won s books found log key v held is in
          let counts = found_counts s found f held.no_list held.rise held.files there in
          let in_book : In at.write (books (main f.row.id.0)) =
          subst (In at.write) (sym at.whole) (in-append_right at.write at.before (at.write ∷ at.later) (inl refl)) in
          let in_log = held.recovers.all (main f.row.id.0) at.write counts in_book in
          let stands = sym version ∙ at.version in
          let seqs : at.write.seq.0 ≡ w.write.seq.0 =
          ap (λ (x : Version). x.seq.0) (sym stands) ∙ ap (λ (x : Version). x.seq.0) w.stands.says in
          let one : at.write ≡ w.write = one_seq 0 log at.write w.write held.recovers.rising in_log w.in_log seqs in
          let file : f.row.id.0 ≡ v.file.0 = ap (λ (x : Version). x.file.0) (sym stands) in
          record {
            write = w.write;
            in_log = w.in_log;
            counts = subst (λ (n : ℕ). Counts s (main n)) file counts;
            in_book = subst (λ (n : ℕ). In w.write (books (main n))) file
                (subst (λ (x : Write). In x (books (main f.row.id.0))) one in_book);
            key_is = w.key_is;
            wins = w.wins;
            seq = ap (λ (x : Version). x.seq) w.stands.says;
            size = ap (λ (x : Version). x.size) w.stands.says;
            put = λ put. body_put w.write w.write.body (sym (ap (λ (x : Version). x.gone) w.stands.says) ∙ put);
          }

  module _ (id : ℕ) (counted : Counts s (main id)) where
    finds_write : (e : Entry) → In e l.keydir.entries
        → Finds size_of key_written seq_written seq_of id (books (main id)) e
    finds_write e is_in =
        let k = loaded_key books found l says lone order e is_in in
        let n = newest e.0 k.version k.read in
        record {
          version = k.version;
          newest = k.newest;
          put = k.put;
          found = λ here. (
            n.write,
            subst (λ (i : ℕ). In n.write (books (main i))) here n.in_book,
            record { key_is = n.key_is; put = k.put; file = here; mark_is = ap (λ (q : Seq). q.0) n.seq },
            n.size,
          );
        }

    -- An entry names the write exactly where that is the newest of its key and a put.
    named_live : (w : Write) → In w (books (main id))
        → IsNamed size_of key_written seq_written seq_of id l.keydir.entries w → is_live_put log w ≡ true
    named_live w is_in named =
        let k = loaded_key books found l says lone order named.entry named.is_in in
        let same = same_version (newest_of named.entry.1) k.version named.version k.newest named.newest in
        let n = newest named.entry.0 named.version (k.read ∙ ap (λ (v : Version). Some v) same) in
        let wins : winner log w.key ≡ Some n.write = ap (winner log) named.is.key_is ∙ n.wins in
        ap (has_seq w.seq.0) (ap put_of wins ∙ n.put named.is.put)
        ∙ eq-eqb n.write.seq.0 w.seq.0 (sym (ap (λ (q : Seq). q.0) n.seq) ∙ named.is.mark_is)

    live_named : (w : Write) → In w (books (main id)) → is_live_put log w ≡ true
        → IsNamed size_of key_written seq_written seq_of id l.keydir.entries w
    live_named w is_in live = go (newest_of (versions_of w.key l.keydir.entries)) refl where
      go : (o : Option Version) → newest_of (versions_of w.key l.keydir.entries) ≡ o
          → IsNamed size_of key_written seq_written seq_of id l.keydir.entries w
      go None none =
          let no_put : put_of (winner log w.key) ≡ None =
          subst (λ (o : Option Version). KeyStands s o (winner log w.key)) none
          ((keys_stand s books found log l held says lone).newest w.key) in
          absurd (true≢false (sym live ∙ ap (has_seq w.seq.0) no_put))
      go (Some v) is =
          let (e, there, same, first) = newest_entry w.key l.keydir.entries v is in
          let k = loaded_key books found l says lone order e there in
          let put : v.gone ≡ false =
          subst (λ (x : Version). x.gone ≡ false) (same_version (newest_of e.1) k.version v k.newest first) k.put in
          let n = newest w.key v (put_if_is (newest_in w.key (placed_in books found)) v (sym (says.keys w.key) ∙ is)) in
          let found_seq : (n.write.seq.0 == w.seq.0) ≡ true =
          sym (ap (has_seq w.seq.0) (ap put_of n.wins ∙ n.put put)) ∙ live in
          let seqs = eqb-true n.write.seq.0 w.seq.0 found_seq in
          let in_log = held.recovers.all (main id) w counted is_in in
          let one : n.write ≡ w = one_seq 0 log n.write w held.recovers.rising n.in_log in_log seqs in
          let in_v : In w (books (main v.file.0)) = subst (λ (x : Write). In x (books (main v.file.0))) one n.in_book in
          let files = held.recovers.apart (main v.file.0) (main id) w n.counts counted in_v is_in in
          record {
            entry = e;
            is_in = there;
            version = v;
            newest = first;
            is = record {
              key_is = key_is w.key e.0 same;
              put = put;
              file = ap (λ (x : Name). x.id) files;
              mark_is = ap (λ (q : Seq). q.0) n.seq ∙ seqs;
            };
          }

    pub live_bytes : IsDistinct bytes_eq (keys_of l.keydir.entries)
        → live_of id l.keydir.entries ≡ length (records_of (filter (is_live_put log) (books (main id))))
    live_bytes once =
        named_bytes size_of key_written seq_written seq_of id l.keydir.entries (books (main id)) (is_live_put log) once
        (unlike_once (books (main id)) (held.recovers.once (main id) counted)) finds_write named_live live_named
        ∙ sym (records_filter (is_live_put log) (books (main id)))
