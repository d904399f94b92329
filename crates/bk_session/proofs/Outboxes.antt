-- The value of a loan comes behind the bytes that are gathered.
use Rattle.std.proofs.Common.{◌≡◌, ◌∙◌, ℕ, ◌+◌, ◌-◌, ◌≤◌, List, [], ◌∷◌, ◌++◌, length, take, drop, Bool, refl, sym, ap}
use Rattle.std.proofs.Common.{arith, append_assoc, codes, IsTrue, Result, Ok, Err, OnOk}
use Rattle.std.proofs.lemmas.List.{drop-drop, drop_at, length-append, length-drop, take-take, take_all, take_at}
use borrow.Rule.Slice.PartMut.{put_mid}
use Rattle.bk_base.specs.declared.requests.Reply.TheVariants.{Pair, Value}
use Rattle.bk_files.proofs.Scanning.{piece_read}
use Rattle.bk_laws.specs.Wire.{and_number, line, numbered, reply_text}
use Rattle.bk_session.specs.Outgoing.{IsValueOf}
use Rattle.bk_store.specs.Loans.{Lent}

-- what was read into all the room behind the bytes held
pub read_behind : (held room items into tail : List ℕ) (at size k len : ℕ) → at ≡ length held
    → items ≡ take size held ++ room → at ≤ size → len ≡ at + length into
    → take len (put_mid at k items into ++ tail) ≡ held ++ into
read_behind held room items into tail at size k len here made all end =
    let read = piece_read held room items into into tail at size k (length into) len here made all
    (omega (arith, end)) (omega arith) refl in
    ap (λ (n : ℕ). take n (put_mid at k items into ++ tail)) end
    ∙ sym (take-take (at + length into) len (put_mid at k items into ++ tail) (omega (arith, end)))
    ∙ read ∙ ap (λ (l : List ℕ). held ++ l) (take_all (length into) into (omega arith))

-- of a record behind these bytes the value stays
pub value_stays : (bytes held record_bytes : List ℕ) (at count : ℕ) → bytes ≡ held ++ record_bytes
    → at ≡ length held
    → take at bytes ++ drop (at + count) bytes ≡ held ++ drop count record_bytes
value_stays bytes held record_bytes at count is here =
    ap (λ (l : List ℕ). take at l ++ drop (at + count) l) is
    ∙ ap (λ (l : List ℕ). l ++ drop (at + count) (held ++ record_bytes)) (take_at held record_bytes at (sym here))
    ∙ ap (λ (l : List ℕ). held ++ l)
    (sym (drop-drop count at (held ++ record_bytes))
    ∙ ap (drop count) (drop_at held record_bytes at (sym here)))

pub is_value : (tells : Bool) (l : Lent) (record_bytes : List ℕ) → length record_bytes ≡ l.size
    → l.value_at ≤ l.size → (IsTrue tells → record_bytes ≡ l.left)
    → IsValueOf tells l (drop l.value_at record_bytes)
is_value tells l record_bytes long few is = record {
  long = omega (arith, long, few, length-drop l.value_at record_bytes);
  bytes = λ t. ap (drop l.value_at) (is t);
}

-- ---- behind a header

pub value_reply : {E : Type 0} (r : Result Unit E) (tells : Bool) (l : Lent) (old mid new : List ℕ) (n : ℕ)
    → n ≡ l.size - l.value_at → mid ≡ old ++ line (numbered (codes "VALUE ") n)
    → OnOk r ((value : List ℕ) × IsValueOf tells l value × (new ≡ mid ++ line value))
    → OnOk r ((value : List ℕ) × (IsTrue tells → value ≡ drop l.value_at l.left)
    × (new ≡ old ++ reply_text (Value value)))
unfolding reply_text
value_reply (Err e) tells l old mid new n is header put = tt
value_reply (Ok x) tells l old mid new n is header (value, of, put) =
    let long : n ≡ length value = omega (arith, is, of.long) in (
      value,
      of.bytes,
      put ∙ ap (λ (w : List ℕ). w ++ line value) header
          ∙ append_assoc old (line (numbered (codes "VALUE ") n)) (line value)
          ∙ ap (λ (k : ℕ). old ++ (line (numbered (codes "VALUE ") k) ++ line value)) long,
    )

pub pair_reply : {E : Type 0} (r : Result Unit E) (tells : Bool) (l : Lent) (key old mid new : List ℕ) (n : ℕ)
    → n ≡ l.size - l.value_at
    → mid ≡ old ++ (line (and_number (numbered (codes "PAIR ") (length key)) n) ++ key)
    → OnOk r ((value : List ℕ) × IsValueOf tells l value × (new ≡ mid ++ line value))
    → OnOk r ((value : List ℕ) × (IsTrue tells → value ≡ drop l.value_at l.left)
    × (new ≡ old ++ reply_text (Pair key value)))
unfolding reply_text
pair_reply (Err e) tells l key old mid new n is header put = tt
pair_reply (Ok x) tells l key old mid new n is header (value, of, put) =
    let long : n ≡ length value = omega (arith, is, of.long) in
    let front = line (and_number (numbered (codes "PAIR ") (length key)) n) in (
      value,
      of.bytes,
      put ∙ ap (λ (w : List ℕ). w ++ line value) header
          ∙ append_assoc old (front ++ key) (line value)
          ∙ ap (λ (w : List ℕ). old ++ w) (append_assoc front key (line value)
          ∙ ap (λ (w : List ℕ). front ++ w) (sym (append_assoc key value (10 ∷ []))))
          ∙ ap (λ (k : ℕ). old ++ (line (and_number (numbered (codes "PAIR ") (length key)) k)
          ++ line (key ++ value))) long,
    )

-- bytes begin as the ones before a header did
pub start_stays : (old header mid new : List ℕ) → mid ≡ old ++ header → take (length mid) new ≡ mid
    → take (length old) new ≡ old
start_stays old header mid new is same =
    sym (take-take (length old) (length mid) new (omega (arith, ap length is, length-append old header)))
    ∙ ap (take (length old)) (same ∙ is) ∙ take_at old header (length old) refl
