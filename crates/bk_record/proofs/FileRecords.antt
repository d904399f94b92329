-- The records of a file, one after the other.
use Rattle.std.proofs.Common.{◌≡◌, ℕ, ◌+◌, ◌≤◌, List, [], ◌∷◌, ◌++◌, length, take, drop, refl, sym, ap, subst, ◌∙◌, append_assoc}
use Rattle.std.proofs.lemmas.List.{take_at, drop_at, take-append-drop, take-take, append_cancel_left, length-append, drop-drop}
use Rattle.bk_base.specs.declared.writes.Write.{Write}
use Rattle.bk_laws.specs.Record.{AreRecords, NoRecord, RecordStands, record_of, records_of, size_of}
use Rattle.bk_record.proofs.Codec.{length-record_of, one_record}

-- where no record stands there are none
pub records-none : (bytes : List ℕ) → NoRecord bytes → AreRecords bytes []
records-none bytes none = record { fit = tt; held = refl; ended = none }

-- what is left behind the first record
behind_first : (bytes : List ℕ) (w : Write) (rest : List ℕ) (ws : List Write) → bytes ≡ record_of w ++ rest
    → drop (length (records_of (w ∷ ws))) bytes ≡ drop (length (records_of ws)) rest
behind_first bytes w rest ws whole =
    let len : length (record_of w ++ records_of ws) ≡ length (record_of w) + length (records_of ws) = length-append (record_of w) (records_of ws) in
    let first : drop (length (record_of w)) bytes ≡ rest = ap (drop (length (record_of w))) whole ∙ drop_at (record_of w) rest (length (record_of w)) refl in
    ap (λ (n : ℕ). drop n bytes) len ∙ sym (drop-drop (length (records_of ws)) (length (record_of w)) bytes) ∙ ap (drop (length (records_of ws))) first

-- a record, and then those of the rest
pub records-more : (bytes : List ℕ) (w : Write) (rest : List ℕ) (ws : List Write) → RecordStands bytes w rest → AreRecords rest ws → AreRecords bytes (w ∷ ws)
records-more bytes w rest ws stands are =
    let left = behind_first bytes w rest ws stands.whole in
    record {
      fit = (stands.fits, are.fit);
      held = stands.whole ∙ ap (λ (x : List ℕ). record_of w ++ x) are.held
          ∙ sym (append_assoc (record_of w) (records_of ws) (drop (length (records_of ws)) rest))
          ∙ ap (λ (x : List ℕ). (record_of w ++ records_of ws) ++ x) (sym left);
      ended = subst NoRecord (sym left) are.ended;
    }

-- the first record, and those of the rest
pub records-first : (bytes : List ℕ) (w : Write) (ws : List Write) → AreRecords bytes (w ∷ ws)
    → RecordStands bytes w (records_of ws ++ drop (length (records_of (w ∷ ws))) bytes)
records-first bytes w ws are =
    record {
      fits = are.fit.0;
      whole = are.held
          ∙ append_assoc (record_of w) (records_of ws) (drop (length (records_of (w ∷ ws))) bytes);
    }

pub records-rest : (bytes : List ℕ) (w : Write) (rest : List ℕ) (ws : List Write) → AreRecords bytes (w ∷ ws) → bytes ≡ record_of w ++ rest → AreRecords rest ws
records-rest bytes w rest ws are whole =
    let left = behind_first bytes w rest ws whole in
    record {
      fit = are.fit.1;
      held = append_cancel_left (record_of w) rest (records_of ws ++ drop (length (records_of ws)) rest)
          (sym whole ∙ are.held ∙ append_assoc (record_of w) (records_of ws) (drop (length (records_of (w ∷ ws))) bytes)
          ∙ ap (λ (x : List ℕ). record_of w ++ (records_of ws ++ x)) left);
      ended = subst NoRecord left are.ended;
    }

-- a file has one list of records
pub one_list : (v w : List Write) (bytes : List ℕ) → AreRecords bytes v → AreRecords bytes w → v ≡ w
one_list [] [] bytes p q = refl
one_list [] (b ∷ bs) bytes p q = absurd (p.ended b _ (records-first bytes b bs q))
one_list (a ∷ as') [] bytes p q = absurd (q.ended a _ (records-first bytes a as' p))
one_list (a ∷ as') (b ∷ bs) bytes p q =
    let x = records-first bytes a as' p in
    let y = records-first bytes b bs q in
    let same = one_record bytes a b _ _ x y in
    let whole : bytes ≡ record_of b ++ (records_of as' ++ drop (length (records_of (a ∷ as'))) bytes) = x.whole
    ∙ ap (λ (w : Write). record_of w ++ (records_of as' ++ drop (length (records_of (a ∷ as'))) bytes)) same.0 in
    let rest = one_list as' bs _ (records-rest bytes a _ as' p x.whole) (records-rest bytes b _ bs q whole) in
    λ i. same.0 i ∷ rest i

-- a record stands in each front that is long enough
pub stands-front : (bytes : List ℕ) (w : Write) (rest : List ℕ) (n : ℕ) → RecordStands bytes w rest → size_of w ≤ n
    → RecordStands (take n bytes) w (drop (size_of w) (take n bytes))
stands-front bytes w rest n stands room =
    let text : take (size_of w) bytes ≡ record_of w = ap (take (size_of w)) stands.whole ∙ take_at (record_of w) rest (size_of w) (length-record_of w) in
    let front : take (size_of w) (take n bytes) ≡ record_of w = take-take (size_of w) n bytes room ∙ text in
    record { fits = stands.fits; whole = sym (take-append-drop (size_of w) (take n bytes)) ∙ ap (λ (x : List ℕ). x ++ drop (size_of w) (take n bytes)) front }

-- and whatever follows
pub stands-more : (bytes : List ℕ) (w : Write) (rest more : List ℕ) → RecordStands bytes w rest → RecordStands (bytes ++ more) w (rest ++ more)
stands-more bytes w rest more stands = record { fits = stands.fits; whole = ap (λ (x : List ℕ). x ++ more) stands.whole ∙ append_assoc (record_of w) rest more }
