-- The refusals of `decode` exclude one another, and what it finds on its way.
use Rattle.std.proofs.Common.{◌≡◌, ℕ, Bool, true, false, cond, ◌==◌, take, ◌<◌, ◌≤◌, List, length, drop, ltb, refl, sym, ap, subst, ◌∙◌, arith, inl, inr}
use Rattle.std.proofs.lemmas.Bool.{cases_lt, le-ltb}
use Rattle.std.proofs.lemmas.Bool.Decides.{nat_tests}
use Rattle.std.proofs.lemmas.List.{length-take}
use Rattle.bk_base.specs.Bounds.{AreBytes}
use Rattle.bk_base.specs.declared.writes.Write.{Write}
use Rattle.bk_crc.specs.Crc.{crc_of}
use Rattle.bk_laws.specs.Record.{RecordStands, checksum_of}
use Rattle.bk_record.specs.declared.decoding.Stop.{Stop}
use Rattle.bk_record.specs.declared.decoding.Stop.TheVariants.{End, Short, BadCheck, BadField, Memory}
use Rattle.bk_base.specs.declared.writes.Body.TheVariants.{Put, Gone}
use Rattle.bk_laws.specs.Version.{is_tombstone}
use Rattle.bk_record.specs.declared.decoding.DecodedKey.{DecodedKey}
use Rattle.bk_record.specs.declared.header.Header.{Header}
use Rattle.bk_record.specs.Header.{IsSound, header_of, said_size, write_in}
use Rattle.bk_record.specs.Stops.{IsChecked, IsDecoded, IsKeyDecoded, IsStop, IsWhole, computed_of, needed, without_value}
use Rattle.bk_record.proofs.Codec.{IsRead, is_read, read_write, reads}

pub needed_is : (bytes : List ℕ) → 22 ≤ length bytes → needed bytes ≡ said_size (header_of bytes)
needed_is bytes long = let no : ltb (length bytes) 22 ≡ false = le-ltb _ _ long in rw no refl

-- the header is followed by fewer bytes than its sizes say
pub too_short : (bytes : List ℕ) → 22 ≤ length bytes → length bytes < said_size (header_of bytes) → IsStop bytes Short
too_short bytes long short = (omega arith, rw (needed_is bytes long) short)

needed_ge : (bytes : List ℕ) → 22 ≤ needed bytes
needed_ge bytes =
    elim (cases_lt (length bytes) 22) [
      | inl lt ↦ (let yes : ltb (length bytes) 22 ≡ true = grind (arith, nat_tests) in rw yes (omega arith))
      | inr le ↦ rw (needed_is bytes le) (omega arith)
    ]

-- ---- no two refusals come at the same bytes

-- the order in which they are tested
abbrev rank : Stop → ℕ
rank End = 0
rank Short = 1
rank (BadCheck stored computed) = 2
rank BadField = 3
rank Memory = 4

rank_le : (s : Stop) → rank s ≤ 4
rank_le End = omega arith
rank_le Short = omega arith
rank_le (BadCheck stored computed) = omega arith
rank_le BadField = omega arith
rank_le Memory = omega arith

apart : (bytes : List ℕ) (s t : Stop) → rank s < rank t → IsStop bytes s → IsStop bytes t → ⊥
apart bytes End Short lt p q = omega (arith, ap length p, q.0)
apart bytes End (BadCheck stored computed) lt p q = omega (arith, ap length p, q.0, needed_ge bytes)
apart bytes End BadField lt p q = omega (arith, ap length p, q.0, needed_ge bytes)
apart bytes End Memory lt p q = omega (arith, ap length p, (reads bytes q.0 q.1 q.2).long)
apart bytes Short (BadCheck stored computed) lt p q = omega (arith, p.1, q.0)
apart bytes Short BadField lt p q = omega (arith, p.1, q.0)
apart bytes Short Memory lt p q = let r = reads bytes q.0 q.1 q.2 in omega (arith, p.1, needed_is bytes (omega (arith, r.long)), r.long, r.size)
apart bytes (BadCheck stored computed) BadField lt p q = p.3 (p.1 ∙ q.1 ∙ sym p.2)
apart bytes (BadCheck stored computed) Memory lt p q = let r = reads bytes q.0 q.1 q.2 in p.3 (p.1 ∙ r.crc ∙ sym r.computed ∙ sym p.2)
apart bytes BadField Memory lt p q = p.2 (reads bytes q.0 q.1 q.2).sound
apart bytes s t lt p q = omega (arith, rank_le t)

same_rank : (bytes : List ℕ) (s t : Stop) → rank s ≡ rank t → IsStop bytes s → IsStop bytes t → s ≡ t
same_rank bytes End End e p q = refl
same_rank bytes Short Short e p q = refl
same_rank bytes (BadCheck a b) (BadCheck c d) e p q = let x : a ≡ c = p.1 ∙ sym q.1 in let y : b ≡ d = p.2 ∙ sym q.2 in λ i. BadCheck (x i) (y i)
same_rank bytes BadField BadField e p q = refl
same_rank bytes Memory Memory e p q = refl
same_rank bytes _ _ e p q = absurd (omega arith)

pub one_stop : (bytes : List ℕ) (s t : Stop) → IsStop bytes s → IsStop bytes t → s ≡ t
one_stop bytes s t p q =
    elim (cases_lt (rank s) (rank t)) [
      | inl lt ↦ absurd (apart bytes s t lt p q)
      | inr le ↦ elim (cases_lt (rank t) (rank s)) [
        | inl gt ↦ absurd (apart bytes t s gt q p)
        | inr ge ↦ same_rank bytes s t (omega arith) p q
      ]
    ]

-- ---- what `decode` has found

-- what is read of a record without its value, by its header, its key and its size
abbrev pub read_of : Header → List ℕ → ℕ → DecodedKey
read_of h key size = record { key = key; seq = record { 0 = h.seq }; moment = h.moment; size = size; crc = h.crc; gone = h.vsz == 4294967295 }

same_check : {bytes : List ℕ} {h : Header} {text : List ℕ} (found : IsWhole bytes h text) (computed : ℕ) → computed ≡ crc_of (drop 4 text) → h.crc ≡ computed
    → (header_of bytes).crc ≡ computed_of bytes
same_check found computed is same = sym (ap (λ (x : Header). x.crc) found.header) ∙ same ∙ is ∙ ap (λ (x : List ℕ). crc_of (drop 4 x)) found.is_text

module _ (bytes : List ℕ) (h : Header) (text : List ℕ) (fits : AreBytes bytes) (checked : IsChecked bytes h text) where
  read_is : IsRead bytes
  read_is =
      let found = checked.whole in
      is_read bytes fits found.long found.sizes (same_check found h.crc checked.check refl) (subst IsSound found.header checked.sound)

  pub stands : IsStop bytes Memory
  stands = (_, _, read_is.stands)

  size_is : length text ≡ said_size (header_of bytes)
  size_is = rw checked.whole.is_text (omega (arith, length-take (said_size (header_of bytes)) bytes, checked.whole.sizes))

  written : (w : Write) → w ≡ write_in h (drop 22 text) → w ≡ read_write bytes
  written w e = e ∙ (λ i. write_in (checked.whole.header i) (drop 22 (checked.whole.is_text i)))

  crc_is : h.crc ≡ checksum_of (read_write bytes)
  crc_is = ap (λ (x : Header). x.crc) checked.whole.header ∙ read_is.crc

  pub decoded : (w : Write) → w ≡ write_in h (drop 22 text) → IsDecoded bytes (record { write = w; size = length text; crc = h.crc })
  decoded w e =
      subst (λ (v : Write). IsDecoded bytes (record { write = v; size = length text; crc = h.crc })) (sym (written w e))
      (record { stands = rw size_is read_is.stands; size = size_is ∙ read_is.size; crc = crc_is })

  pub again : (w v : Write) (rest : List ℕ) → w ≡ write_in h (drop 22 text) → RecordStands bytes v rest → w ≡ v
  again w v rest e there = written w e ∙ (reads bytes v rest there).write

  -- the same without the value
  gone_by : (b : Bool) (value : List ℕ) → is_tombstone (cond b Gone (Put value)) ≡ b
  gone_by true value = refl
  gone_by false value = refl

  says : (key : List ℕ) → key ≡ take h.ksz (drop 22 text) → read_of h key (length text) ≡ without_value (read_write bytes)
  says key e =
      let w = written (write_in h (drop 22 text)) refl in
      let gone = gone_by (h.vsz == 4294967295) (drop h.ksz (drop 22 text)) in
      λ i. record {
        key = (e ∙ ap (λ (v : Write). v.key) w) i;
        seq = (w i).seq;
        moment = (w i).moment;
        size = (size_is ∙ read_is.size) i;
        crc = crc_is i;
        gone = (sym gone ∙ ap (λ (v : Write). is_tombstone v.body) w) i;
      }

  pub key_decoded : (key : List ℕ) → key ≡ take h.ksz (drop 22 text) → IsKeyDecoded bytes (read_of h key (length text))
  key_decoded key e = record { write = read_write bytes; stands = rw size_is read_is.stands; says = says key e }

  pub key_again : (key : List ℕ) (v : Write) (rest : List ℕ) → key ≡ take h.ksz (drop 22 text) → RecordStands bytes v rest
      → read_of h key (length text) ≡ without_value v
  key_again key v rest e there = says key e ∙ ap without_value (reads bytes v rest there).write
