-- The records of a file are learned one after the other, and some behind others.
use Rattle.std.proofs.Common.{◌≡◌, ℕ, ◌+◌, ◌≤◌, max, List, [], ◌∷◌, ◌++◌, length, drop, refl, sym, ap, subst, ◌∙◌, arith, append_assoc, length-append}
use Rattle.std.proofs.lemmas.List.{append-nil, drop_at}
use Rattle.std.proofs.Math.ListN.{drop_of_length-le}
use Rattle.bk_record.proofs.FileRecords.{one_list}
use Rattle.bk_base.specs.declared.limits.TheConstants.{LONGEST_VALUE}
use Rattle.bk_base.specs.declared.numbers.FileId.{FileId}
use Rattle.bk_base.specs.declared.writes.Body.{Body}
use Rattle.bk_base.specs.declared.writes.Body.TheVariants.{Put, Gone}
use Rattle.bk_base.specs.declared.writes.Version.{Version}
use Rattle.bk_base.specs.declared.writes.Write.{Write}
use Rattle.bk_files.specs.declared.scan.FoundKey.{FoundKey}
use Rattle.bk_files.specs.Scan.{AreFirst, FindsWrite, IsFoundKey, Scanned}
use Rattle.bk_files.proofs.FirstRecords.{first-more}
use Rattle.bk_image.proofs.Chances.{all_records, fit-right, records_of-append}
use Rattle.bk_laws.specs.Record.{AreRecords, FitsBody, IsSeq, NoRecord, record_of, records_of, size_of, value_of}
use Rattle.bk_laws.specs.Version.{placed_from, version_at}
use Rattle.bk_laws.proofs.RecordBytes.{length-record_of}
use Rattle.bk_load.specs.Hints.{HasTaken}
use Rattle.bk_load.specs.Learning.{FitsVersion, Grows, Known, Learns, greatest}
use Rattle.bk_load.specs.Scanning.{HasScanned}
use Rattle.bk_load.proofs.Learned.{greatest_more, grows_more, grows_none, learns_more, learns_none}

-- Places

pub length-records : (vs ws : List Write) → length (records_of (vs ++ ws)) ≡ length (records_of vs) + length (records_of ws)
length-records vs ws = ap length (records_of-append vs ws) ∙ length-append (records_of vs) (records_of ws)

pub placed-append : (file : FileId) (at : ℕ) (vs ws : List Write)
    → placed_from file at (vs ++ ws) ≡ placed_from file at vs ++ placed_from file (at + length (records_of vs)) ws
placed-append file at [] ws = ap (λ (n : ℕ). placed_from file n ws) (omega arith)
placed-append file at (v ∷ vs) ws =
    let long : length (record_of v ++ records_of vs) ≡ size_of v + length (records_of vs) =
    length-append (record_of v) (records_of vs) ∙ ap (λ (n : ℕ). n + length (records_of vs)) (length-record_of v) in
    let place : (at + size_of v) + length (records_of vs) ≡ at + length (records_of (v ∷ vs)) = omega (arith, long) in
    ap (λ (ps : List (List ℕ × Version)). (v.key, version_at file at v) ∷ ps)
    (placed-append file (at + size_of v) vs ws
    ∙ ap (λ (n : ℕ). placed_from file (at + size_of v) vs ++ placed_from file n ws) place)

-- Some records, and others behind them

pub scanned_none : (file : FileId) (at : ℕ) (j : Known) → HasScanned file at [] at j j
scanned_none file at j = record {
  ends = omega arith;
  learns = learns_none j.keys.entries;
  grows = grows_none file.0 0 j.keys.entries;
  last = refl;
}

pub scanned_both : (file : FileId) (at : ℕ) (vs : List Write) (mid : ℕ) (ws : List Write) (end : ℕ) (j k l : Known)
    → HasScanned file at vs mid j k → HasScanned file mid ws end k l → HasScanned file at (vs ++ ws) end j l
scanned_both file at vs mid ws end j k l a b =
    let long = length-records vs ws in
    let first = a.ends in
    let second = b.ends in
    record {
      ends = omega (arith, long, first, second);
      learns = subst (λ (ps : List (List ℕ × Version)). Learns ps j.keys.entries l.keys.entries)
          (ap (λ (n : ℕ). placed_from file at vs ++ placed_from file n ws) a.ends ∙ sym (placed-append file at vs ws))
          (learns_more (placed_from file at vs) (placed_from file mid ws) j.keys.entries k.keys.entries l.keys.entries a.learns b.learns);
      grows = subst (λ (n : ℕ). Grows file.0 n j.keys.entries l.keys.entries) (sym long)
          (grows_more file.0 (length (records_of vs)) (length (records_of ws)) j.keys.entries k.keys.entries l.keys.entries a.grows b.grows);
      last = b.last ∙ ap (λ (n : ℕ). greatest n ws) a.last ∙ sym (greatest_more j.last vs ws);
    }

-- what was learned of one record
pub record LearnsOne (key : List ℕ) (v : Version) (k l : Known) : Type 0 where
  pub learns : Learns ((key, v) ∷ []) k.keys.entries l.keys.entries
  pub grows : Grows v.file.0 v.size k.keys.entries l.keys.entries
  pub last : l.last ≡ max k.last v.seq.0

pub scanned_one : (file : FileId) (at : ℕ) (w : Write) (key : List ℕ) (v : Version) (k l : Known) → key ≡ w.key
    → v ≡ version_at file at w → LearnsOne key v k l → HasScanned file at (w ∷ []) (at + size_of w) k l
scanned_one file at w key v k l is_key is one =
    let this : LearnsOne w.key (version_at file at w) k l =
    subst (λ (x : Version). LearnsOne w.key x k l) is (subst (λ (x : List ℕ). LearnsOne x v k l) is_key one) in
    let long : length (records_of (w ∷ [])) ≡ size_of w =
    ap length (append-nil (record_of w)) ∙ length-record_of w in
    record {
      ends = omega (arith, long);
      learns = this.learns;
      grows = subst (λ (n : ℕ). Grows file.0 n k.keys.entries l.keys.entries) (sym long) this.grows;
      last = this.last;
    }

pub scanned_more : (file : FileId) (at : ℕ) (vs : List Write) (mid : ℕ) (w : Write) (key : List ℕ) (v : Version) (j k l : Known)
    → HasScanned file at vs mid j k → key ≡ w.key → v ≡ version_at file mid w → LearnsOne key v k l
    → HasScanned file at (vs ++ w ∷ []) (mid + size_of w) j l
scanned_more file at vs mid w key v j k l before is_key is one =
    scanned_both file at vs mid (w ∷ []) (mid + size_of w) j k l before (scanned_one file mid w key v k l is_key is one)

-- a scan found one record more
pub record Scanning (text : List ℕ) (file : FileId) (at : ℕ) (place : ℕ) (rest : List ℕ) (j k : Known) : Type 0 where
  pub writes : List Write
  pub first : AreFirst text at writes place rest
  pub scanned : HasScanned file at writes place j k

pub scanning_none : (text : List ℕ) (file : FileId) (at : ℕ) (j : Known) → Scanning text file at at text j j
scanning_none text file at j = record {
  writes = [];
  first = record { fit = tt; whole = refl; ends = omega arith };
  scanned = scanned_none file at j;
}

pub scanning_more : (text : List ℕ) (file : FileId) (at : ℕ) (s : Scanned) (rest left : List ℕ) (f : FoundKey) (now : ℕ)
    (j k l : Known) → Scanning text file at s.place rest j k → s.file ≡ file → FindsWrite f s rest left
    → now ≡ s.place + f.version.size → LearnsOne f.key f.version k l → Scanning text file at now left j l
scanning_more text file at s rest left f now j k l so is_file finds behind one =
    let w = finds.write in
    let size : f.version.size ≡ size_of w = ap (λ (v : Version). v.size) finds.version in
    let place : s.place + size_of w ≡ now = omega (arith, behind, size) in
    record {
      writes = so.writes ++ w ∷ [];
      first = subst (λ (n : ℕ). AreFirst text at (so.writes ++ w ∷ []) n left) place
          (first-more text at so.writes s.place rest w left so.first finds.stands);
      scanned = subst (λ (n : ℕ). HasScanned file at (so.writes ++ w ∷ []) n j l) place
          (scanned_more file at so.writes s.place w f.key f.version j k l so.scanned finds.key
          (finds.version ∙ ap (λ (i : FileId). version_at i s.place w) is_file) one);
    }

value_within : (w : Write) → FitsBody w.body → length (value_of w.body) ≤ LONGEST_VALUE
value_within w fits = go w.body fits where
  go : (b : Body) → FitsBody b → length (value_of b) ≤ LONGEST_VALUE
  go (Put value) fits = fits.bounds
  go Gone fits = omega arith

-- what was found fits its key
pub found_fits : (f : FoundKey) (s : Scanned) (now : ℕ) → IsFoundKey f s now → FitsVersion f.key f.version
found_fits f s now found =
    let w = found.write in
    let size : f.version.size ≡ size_of w = ap (λ (v : Version). v.size) found.version in
    let key : length f.key ≡ length w.key = ap length found.key in
    let seq : f.version.seq.0 ≡ w.seq.0 = ap (λ (v : Version). v.seq.0) found.version in
    record {
      seq = subst IsSeq (sym seq) found.fits.seq;
      long = omega (arith, size, key);
      most = let value = value_within w found.fits.body in omega (arith, size, key, value);
    }

-- and its record ends where the scan goes on
pub found_within : (f : FoundKey) (s : Scanned) (now : ℕ) → IsFoundKey f s now
    → (f.version.file ≡ s.file) × (f.version.at + f.version.size ≡ now)
found_within f s now found =
    let at : f.version.at ≡ s.place = ap (λ (v : Version). v.at) found.version in
    let behind = found.behind in
    (ap (λ (v : Version). v.file) found.version, omega (arith, at, behind))

-- Behind the first records of a file stand the others

pub records_behind : (bytes : List ℕ) (vs ws : List Write) → AreRecords bytes (vs ++ ws)
    → AreRecords (drop (length (records_of vs)) bytes) ws
records_behind bytes vs ws are =
    let joined : records_of (vs ++ ws) ≡ records_of vs ++ records_of ws = records_of-append vs ws in
    let rest = drop (length (records_of (vs ++ ws))) bytes in
    let held : bytes ≡ records_of vs ++ (records_of ws ++ rest) =
    are.held ∙ ap (λ (t : List ℕ). t ++ rest) joined ∙ append_assoc (records_of vs) (records_of ws) rest in
    let behind : drop (length (records_of vs)) bytes ≡ records_of ws ++ rest =
    ap (drop (length (records_of vs))) held ∙ drop_at (records_of vs) (records_of ws ++ rest) (length (records_of vs)) refl in
    let last : drop (length (records_of ws)) (drop (length (records_of vs)) bytes) ≡ rest =
    ap (drop (length (records_of ws))) behind ∙ drop_at (records_of ws) rest (length (records_of ws)) refl in
    record {
      fit = fit-right vs ws are.fit;
      held = behind ∙ ap (λ (t : List ℕ). records_of ws ++ t) (sym last);
      ended = subst NoRecord (sym last) are.ended;
    }

-- what a hint told, and what was scanned behind it
pub taken_and_scanned : (file : FileId) (writes : List Write) (covered end : ℕ) (j k l : Known) (taken : HasTaken file writes covered j k)
    → HasScanned file covered taken.later end k l → HasScanned file 0 writes end j l
taken_and_scanned file writes covered end j k l taken behind =
    subst (λ (ws : List Write). HasScanned file 0 ws end j l) (sym taken.whole)
    (scanned_both file 0 taken.first covered taken.later end j k l taken.scanned behind)

-- The scan of a file that a disk has

pub scan_is : (file : FileId) (from : ℕ) (bytes text : List ℕ) (writes ws : List Write) (end : ℕ) (j k : Known)
    → text ≡ drop from bytes → AreRecords text ws → AreRecords (drop from bytes) writes → HasScanned file from ws end j k
    → HasScanned file from writes end j k
scan_is file from bytes text writes ws end j k is found are scanned =
    let one : ws ≡ writes = one_list ws writes (drop from bytes) (subst (λ (t : List ℕ). AreRecords t ws) is found) are in
    subst (λ (vs : List Write). HasScanned file from vs end j k) one scanned

pub scan_nothing : (file : FileId) (from len : ℕ) (bytes : List ℕ) (writes : List Write) (j : Known) → from ≡ len
    → length bytes ≡ len → AreRecords (drop from bytes) writes → HasScanned file from writes len j j
scan_nothing file from len bytes writes j is long are =
    let none : drop from bytes ≡ [] = drop_of_length-le bytes (omega (arith, is, long)) in
    let empty : AreRecords (drop from bytes) [] = subst (λ (t : List ℕ). AreRecords t []) (sym none) (all_records [] tt) in
    let one : [] ≡ writes = one_list [] writes (drop from bytes) empty are in
    subst (λ (vs : List Write). HasScanned file from vs len j j) one
    (subst (λ (n : ℕ). HasScanned file from [] n j j) is (scanned_none file from j))
