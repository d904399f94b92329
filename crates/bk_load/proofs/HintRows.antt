-- The rows of a hint are learned one after the other.
use Rattle.std.proofs.Common.{◌≡◌, ℕ, ◌+◌, ◌-◌, ◌<◌, ◌≤◌, List, [], ◌∷◌, ◌++◌, length, Some, refl, sym, ap, subst, ◌∙◌, arith, append_assoc}
use Rattle.std.specs.List.{AllByRecursion}
use Rattle.std.proofs.lemmas.List.{append-nil}
use Rattle.bk_base.specs.declared.numbers.FileId.{FileId}
use Rattle.bk_base.specs.declared.writes.Version.{Version}
use Rattle.bk_base.specs.declared.writes.Write.{Write}
use Rattle.bk_hint.specs.Passing.{Gives, Reading}
use Rattle.bk_hint.proofs.RoundTrips.{told_record}
use Rattle.bk_image.proofs.Chances.{fit-right}
use Rattle.bk_laws.specs.Hint.{Hinted, IsSoundRow, RowsLeft, row_end, row_from, rows_from, version_in}
use Rattle.bk_laws.specs.Record.{IsWritable, record_of, records_of, size_of}
use Rattle.bk_laws.specs.Version.{version_at}
use Rattle.bk_laws.proofs.RecordBytes.{length-record_of}
use Rattle.bk_load.specs.Learning.{FitsVersion, Known}
use Rattle.bk_load.specs.Scanning.{HasScanned}
use Rattle.bk_load.proofs.Scans.{LearnsOne, length-records, scanned_more, scanned_none}

-- Some rows of these writes were learned, and the others are left.
pub record Taking (bytes : List ℕ) (file : FileId) (covered : ℕ) (writes : List Write) (at : ℕ) (j k : Known) : Type 0 where
  pub done : List Write
  pub todo : List Write
  pub whole : writes ≡ done ++ todo
  pub left : RowsLeft bytes at covered (rows_from (length (records_of done)) todo)
  pub scanned : HasScanned file 0 done (length (records_of done)) j k

pub taking_none : (bytes : List ℕ) (file : FileId) (covered : ℕ) (writes : List Write) (j : Known)
    → RowsLeft bytes 0 covered (rows_from 0 writes) → Taking bytes file covered writes 0 j j
taking_none bytes file covered writes j left =
    record { done = []; todo = writes; whole = refl; left = left; scanned = scanned_none file 0 j }

one_more : (bytes : List ℕ) (file : FileId) (covered : ℕ) (writes : List Write) (old new : Reading) (v : Version)
    (key : List ℕ) (j k l : Known) (done todo : List Write) → writes ≡ done ++ todo → AllByRecursion IsWritable writes
    → HasScanned file 0 done (length (records_of done)) j k → old.file ≡ file
    → Gives bytes old new (Some (v, key)) covered (rows_from (length (records_of done)) todo) → LearnsOne key v k l
    → Taking bytes file covered writes new.at j l
one_more bytes file covered writes old new v key j k l done [] whole fit scanned is_file (r, later, rows, v_is, key_is, new_is, left) one =
    absurd (cc rows)
one_more bytes file covered writes old new v key j k l done (w ∷ ws) whole fit scanned is_file (r, later, rows, v_is, key_is, new_is, left) one =
    let place = length (records_of done) in
    let fits : IsWritable w = (fit-right done (w ∷ ws) (subst (AllByRecursion IsWritable) whole fit)).0 in
    let row : row_from place w ≡ r = cc rows in
    let others : rows_from (place + size_of w) ws ≡ later = cc rows in
    let version : v ≡ version_at file place w =
    v_is ∙ ap (λ (x : Hinted). version_in old.file x) (sym row) ∙ ap (λ (f : FileId). version_in f (row_from place w)) is_file
    ∙ told_record file place w fits in
    let is_key : key ≡ w.key = key_is ∙ ap (λ (x : Hinted). x.key) (sym row) in
    let long : length (records_of (done ++ w ∷ [])) ≡ place + size_of w =
    length-records done (w ∷ []) ∙ ap (λ (n : ℕ). place + n) (one_long w) in
    record {
      done = done ++ w ∷ [];
      todo = ws;
      whole = whole ∙ sym (append_assoc done (w ∷ []) ws);
      left = subst (λ (n : ℕ). RowsLeft bytes new.at covered (rows_from n ws)) (sym long)
          (subst (RowsLeft bytes new.at covered) (sym others) left);
      scanned = subst (λ (n : ℕ). HasScanned file 0 (done ++ w ∷ []) n j l) (sym long)
          (scanned_more file 0 done place w key v j k l scanned is_key version one);
    } where
      one_long : (w : Write) → length (records_of (w ∷ [])) ≡ size_of w
      one_long w = ap length (append-nil (record_of w)) ∙ length-record_of w

pub taking_more : (bytes : List ℕ) (file : FileId) (covered : ℕ) (writes : List Write) (old new : Reading) (v : Version)
    (key : List ℕ) (j k l : Known) (so : Taking bytes file covered writes old.at j k) → AllByRecursion IsWritable writes
    → old.file ≡ file → Gives bytes old new (Some (v, key)) covered (rows_from (length (records_of so.done)) so.todo)
    → LearnsOne key v k l → Taking bytes file covered writes new.at j l
taking_more bytes file covered writes old new v key j k l so fit is_file gives one =
    one_more bytes file covered writes old new v key j k l so.done so.todo so.whole fit so.scanned is_file gives one

all_done : (at : ℕ) (todo : List Write) → rows_from at todo ≡ [] → todo ≡ []
all_done at [] is = refl
all_done at (w ∷ ws) is = absurd (cc is)

pub taking_all : (bytes : List ℕ) (file : FileId) (covered : ℕ) (writes : List Write) (at : ℕ) (j k : Known)
    (so : Taking bytes file covered writes at j k) → rows_from (length (records_of so.done)) so.todo ≡ []
    → (end : ℕ) × HasScanned file 0 writes end j k
taking_all bytes file covered writes at j k so none =
    let is : so.done ≡ writes =
    sym (append-nil so.done) ∙ ap (λ (ws : List Write). so.done ++ ws) (sym (all_done (length (records_of so.done)) so.todo none))
    ∙ sym so.whole in
    (length (records_of so.done), subst (λ (ws : List Write). HasScanned file 0 ws (length (records_of so.done)) j k) is so.scanned)

-- what a sound row tells fits its key
pub row_fits : (covered : ℕ) (file : FileId) (r : Hinted) (v : Version) (key : List ℕ) → IsSoundRow covered r
    → v ≡ version_in file r → key ≡ r.key → FitsVersion key v
row_fits covered file r v key sound is is_key =
    let value = sound.value in
    let this : FitsVersion r.key (version_in file r) = record { seq = sound.seq; long = omega arith; most = omega (arith, value) } in
    subst (λ (k : List ℕ). FitsVersion k v) (sym is_key) (subst (FitsVersion r.key) (sym is) this)

-- what is read of a hint's rows that are left fits its key, and the reader comes further
pub gives_fits : (bytes : List ℕ) (old new : Reading) (v : Version) (key : List ℕ) (covered : ℕ) (rows : List Hinted)
    → RowsLeft bytes old.at covered rows → Gives bytes old new (Some (v, key)) covered rows → FitsVersion key v
gives_fits bytes old new v key covered rows before (r, later, rows_are, v_is, key_is, new_is, left) =
    row_fits covered old.file r v key (subst (AllByRecursion (IsSoundRow covered)) rows_are before.sound).0 v_is key_is

-- and its record ends within what the hint covers
pub gives_within : (bytes : List ℕ) (old new : Reading) (v : Version) (key : List ℕ) (covered : ℕ) (rows : List Hinted)
    → RowsLeft bytes old.at covered rows → Gives bytes old new (Some (v, key)) covered rows
    → (v.file ≡ old.file) × (v.at + v.size ≤ covered)
gives_within bytes old new v key covered rows before (r, later, rows_are, v_is, key_is, new_is, left) =
    let sound = (subst (AllByRecursion (IsSoundRow covered)) rows_are before.sound).0 in
    let within = sound.within in
    let ends : v.at + v.size ≡ row_end r = ap (λ (x : Version). x.at + x.size) v_is in
    (ap (λ (x : Version). x.file) v_is, omega (arith, within, ends))

pub gives_later : (bytes : List ℕ) (old new : Reading) (v : Version) (key : List ℕ) (covered : ℕ) (rows : List Hinted)
    → Gives bytes old new (Some (v, key)) covered rows → (later : List Hinted) × RowsLeft bytes new.at covered later
gives_later bytes old new v key covered rows (r, later, rows_are, v_is, key_is, new_is, left) = (later, left)

pub gives_file : (bytes : List ℕ) (old new : Reading) (v : Version) (key : List ℕ) (covered : ℕ) (rows : List Hinted)
    → Gives bytes old new (Some (v, key)) covered rows → new.file ≡ old.file
gives_file bytes old new v key covered rows (r, later, rows_are, v_is, key_is, new_is, left) =
    ap (λ (x : Reading). x.file) new_is

pub gives_further : (bytes : List ℕ) (old new : Reading) (v : Version) (key : List ℕ) (covered : ℕ) (rows : List Hinted)
    → Gives bytes old new (Some (v, key)) covered rows → length bytes - new.at < length bytes - old.at
gives_further bytes old new v key covered rows (r, later, rows_are, v_is, key_is, new_is, left) =
    let at : new.at ≡ old.at + (30 + length r.key) = ap (λ (x : Reading). x.at) new_is in
    let within = left.here in
    omega (arith, at, within)
