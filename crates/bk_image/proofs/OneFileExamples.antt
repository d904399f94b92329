-- Directories of one data file, made by hand, and what the definitions say of them. Each key has
-- one byte, and the moment is always 5.
use Rattle.std.proofs.Common.{◌≡◌, ℕ, zero, suc, ◌<◌, ◌≤◌, Bool, false, cond, List, [], ◌∷◌, ◌++◌}
use Rattle.std.proofs.Common.{length, take, drop, Option, Some, None, refl, sym, ap, subst, ◌∙◌}
use Rattle.std.proofs.Common.{arith, inl, inr}
use Rattle.std.specs.List.{AllByRecursion}
use Rattle.std.specs.Option.{is_some, unwrap_or}
use Rattle.std.proofs.lemmas.Bool.{cases_Bool, true≢false}
use Rattle.std.proofs.lemmas.List.{append-nil, length-append}
use Rattle.bk_base.specs.Bounds.{AreBytes}
use Rattle.bk_base.specs.declared.names.Kind.{Kind}
use Rattle.bk_base.specs.declared.names.Kind.TheVariants.{Main, MainTemp}
use Rattle.bk_base.specs.declared.names.Name.{Name}
use Rattle.bk_base.specs.declared.writes.Body.TheVariants.{Put, Gone}
use Rattle.bk_base.specs.declared.writes.Write.{Write}
use Rattle.bk_crc.specs.Crc.{bit_step, bit_steps, byte_step}
use Rattle.bk_disk.specs.Names.{same}
use Rattle.bk_disk.specs.Told.{Image, at}
use Rattle.bk_disk.proofs.Names.{same_eq, same_refl}
use Rattle.bk_laws.specs.Log.{IsLog, put_of, winner}
use Rattle.bk_laws.specs.Record.{AreRecords, IsWritable, NoRecord, RecordStands, checksum_of}
use Rattle.bk_laws.specs.Record.{covered_of, fields_of, record_of, records_of}
use Rattle.bk_laws.specs.Wire.{FitsKey}
use Rattle.bk_record.proofs.Codec.{length-record_of, one_record, reads}
use Rattle.bk_record.proofs.FileRecords.{records-more, records-none}
use Rattle.bk_record.specs.Header.{header_of}
use Rattle.bk_record.specs.Stops.{computed_of}
use Rattle.bk_image.specs.Readings.{hint, main, main_temp, swap}
use Rattle.bk_image.specs.CountedFiles.{Counts, CountsAs}
use Rattle.bk_image.specs.Chance.{Begins, IsKept, NoChanceIn}
use Rattle.bk_image.specs.Prefix.{Prefix}
use Rattle.bk_image.specs.SoundDirectory.{IsSound}
use Rattle.bk_image.proofs.Chances.{all_records, begins_from, begins_left, begins_right}
use Rattle.bk_image.proofs.OneLog.{none_sound}
use Rattle.bk_image.proofs.Places.{counts_first, other_kind}
use Rattle.bk_image.proofs.SafeSteps.{once_rising}

-- ---- writes

abbrev pub put : ℕ → ℕ → ℕ → Write
put seq key value = record {
  seq = record { 0 = seq };
  moment = record { 0 = 5 };
  key = key ∷ [];
  body = Put (value ∷ []);
}

one_byte : (b : ℕ) → b < 256 → AreBytes (b ∷ [])
one_byte b small zero = small
one_byte b small (suc i) = omega arith

pub put_fits : (seq key value : ℕ) → 1 ≤ seq → seq < 256 → key < 256 → value < 256
    → IsWritable (put seq key value)
put_fits seq key value low high k v = record {
  seq = (low, omega (arith, high));
  moment = omega arith;
  key = record {
    bounds = record { some = omega arith; short = omega arith };
    bytes =
        one_byte key k;
  };
  body = record { bounds = omega arith; bytes = one_byte value v };
}

-- ---- a directory of one data file

module _ (id : ℕ) (bytes : List ℕ) where
  abbrev alone : Image
  alone = (main id, bytes) ∷ []

  not_there : (n : Name) → same n (main id) ≡ false → at alone n ≡ None
  not_there n other = ap (λ (b : Bool). cond b (Some bytes) None) other

  no_list : (k : ℕ) (b : List ℕ) → at alone (swap k) ≡ Some b → ⊥
  no_list k b is =
      let none : None ≡ Some b = sym (not_there (swap k) (other_kind (swap k) (main id) refl))
      ∙ is in absurd (cc none)

  only_as : (kind : Kind) (k : ℕ) → CountsAs kind (at alone) k
      → record { id = k; kind = kind } ≡ main id
  only_as Main k c =
      elim (cases_Bool (same (main k) (main id))) [
        | inl p ↦ same_eq (main k) (main id) p
        | inr p ↦ absurd (true≢false (sym c.0 ∙ ap is_some (not_there (main k) p)))
      ]
  only_as MainTemp k c =
      absurd (true≢false
      (sym c.0 ∙ ap is_some
      (not_there (main_temp k) (other_kind (main_temp k) (main id) refl))))
  only_as kind k c = absurd c

  here : at alone (main id) ≡ Some bytes
  here = ap (λ (b : Bool). cond b (Some bytes) None) (same_refl (main id))

  counts : 1 ≤ id → Counts (at alone) (main id)
  counts first =
      (ap is_some here, λ input. no_list input.1.id input.1.bytes input.1.there, first)

  -- It holds the log of its records.
  one_file : 1 ≤ id → (log : List Write) → AreRecords bytes log → IsLog log → IsSound alone log
  one_file first log are rises = record {
    books = λ n. log;
    recovers = record {
      reads = λ n c.
          subst (λ (o : Option (List ℕ)). AreRecords (unwrap_or o []) log)
          (sym (ap (at alone) (only_as n.kind n.id c) ∙ here)) are;
      once = λ n c. once_rising 0 log rises;
      apart = λ n m w c d p q. only_as n.kind n.id c ∙ sym (only_as m.kind m.id d);
      rising = rises;
      from = λ w is_in. (main id, counts first, is_in);
      all = λ n w c is_in. is_in;
    };
    hints = λ n b c is.
        let none : None ≡ Some b =
        sym (not_there (hint n.id) (other_kind (hint n.id) (main id) refl)) ∙ is in
        absurd (cc none);
  }

-- ---- one numbered 0 doesn't count, whatever it holds

file_zero : (bytes : List ℕ) → IsSound ((main 0, bytes) ∷ []) []
file_zero bytes =
    none_sound (alone 0 bytes)
    (λ n c.
    let is : n.id ≡ 0 = ap (λ (m : Name). m.id) (only_as 0 bytes n.kind n.id c) in
    omega (arith, counts_first (at (alone 0 bytes)) n c, is))

-- ---- PUT a 1: a file of 24 bytes, and its log

abbrev pub a1 : Write
a1 = put 1 97 49

pub a1_fits : IsWritable a1
a1_fits = put_fits 1 97 49 (omega arith) (omega arith) (omega arith) (omega arith)

one_put_len : length (records_of (a1 ∷ [])) ≡ 24
unfolding record_of covered_of fields_of checksum_of
one_put_len = refl

one_put : IsSound ((main 1, records_of (a1 ∷ [])) ∷ []) (a1 ∷ [])
one_put = one_file 1 (records_of (a1 ∷ [])) (omega arith) (a1 ∷ [])
    (all_records (a1 ∷ []) (a1_fits, tt)) (omega arith, tt)

-- ---- the delete of a key whose value is empty: 46 bytes, and nothing in the map

abbrev a_empty : Write
a_empty = record { seq = record { 0 = 1 }; moment = record { 0 = 5 }; key = 97 ∷ []; body = Put [] }

abbrev a_gone : Write
a_gone = record { seq = record { 0 = 2 }; moment = record { 0 = 5 }; key = 97 ∷ []; body = Gone }

one_delete_len : length (records_of (a_empty ∷ a_gone ∷ [])) ≡ 46
unfolding record_of covered_of fields_of checksum_of
one_delete_len = refl

one_delete : IsSound ((main 1, records_of (a_empty ∷ a_gone ∷ [])) ∷ []) (a_empty ∷ a_gone ∷ [])
one_delete =
    let key : FitsKey (97 ∷ []) =
    record {
      bounds = record { some = omega arith; short = omega arith };
      bytes =
          one_byte 97 (omega arith);
    } in
    let first : IsWritable a_empty = record {
      seq = (omega arith, omega arith);
      moment = omega arith;
      key = key;
      body = record { bounds = omega arith; bytes = λ i. omega arith };
    } in
    let second : IsWritable a_gone =
    record { seq = (omega arith, omega arith); moment = omega arith; key = key; body = tt } in
    let writes = a_empty ∷ a_gone ∷ [] in
    one_file 1 (records_of writes) (omega arith) writes (all_records writes (first, (second, tt)))
    (omega arith, (omega arith, tt))

one_delete_map : put_of (winner (a_empty ∷ a_gone ∷ []) (97 ∷ [])) ≡ None
one_delete_map = refl

-- ---- x is synced, y and z are not; a crash left all bytes but changed a bit in the last one of y

abbrev x1 : Write
x1 = put 1 120 49

abbrev y2 : Write
y2 = put 2 121 50

abbrev z3 : Write
z3 = put 3 122 51

x1_fits : IsWritable x1
x1_fits = put_fits 1 120 49 (omega arith) (omega arith) (omega arith) (omega arith)

y2_fits : IsWritable y2
y2_fits = put_fits 2 121 50 (omega arith) (omega arith) (omega arith) (omega arith)

abbrev torn : List ℕ
torn = take 23 (record_of y2) ++ 51 ∷ record_of z3

crc_said : (header_of torn).crc ≡ 3063952504
unfolding header_of record_of covered_of fields_of checksum_of byte_step bit_steps bit_step
crc_said = refl

crc_is : computed_of torn ≡ 3248948462
unfolding header_of record_of covered_of fields_of checksum_of byte_step bit_steps bit_step
crc_is = refl

-- z's record is whole, but none stands where y's did
none_stands : NoRecord torn
none_stands w rest stands =
    let found = reads torn w rest stands in
    omega (arith, found.crc, found.computed, crc_said, crc_is)

abbrev left : List ℕ
left = record_of x1 ++ torn

torn_records : AreRecords left (x1 ∷ [])
torn_records =
    records-more left x1 torn [] (record { fits = x1_fits; whole = refl })
    (records-none torn none_stands)

torn_prefix : Prefix ((main 1, left) ∷ []) (x1 ∷ y2 ∷ z3 ∷ []) 1 []
torn_prefix = record {
  found = x1 ∷ [];
  sound = one_file 1 left (omega arith) (x1 ∷ []) torn_records (omega arith, tt);
  part = record { n = 1; low = omega arith; high = omega arith; same_map = λ key. refl };
}

-- That is no chance match: behind the record of x none stands.
x1_kept : IsKept (records_of (x1 ∷ y2 ∷ z3 ∷ [])) left (x1 ∷ [])
x1_kept = record {
  fit = (x1_fits, tt);
  was = begins_from _ (records_of (x1 ∷ [])) (records_of (y2 ∷ z3 ∷ []))
      (ap (λ (t : List ℕ). t ++ records_of (y2 ∷ z3 ∷ [])) (sym (append-nil (record_of x1))));
  is = begins_from left (records_of (x1 ∷ [])) torn
      (ap (λ (t : List ℕ). t ++ torn) (sym (append-nil (record_of x1))));
}

none_left : (r : Write) (ws : List Write) → drop (length (record_of r)) left ≡ torn
    → AllByRecursion IsWritable ws
    → Begins torn (records_of ws) → NoRecord (drop (length (records_of (r ∷ ws))) left)
none_left r [] is fit begins =
    subst NoRecord
    (sym (ap (λ (t : List ℕ). drop (length t) left) (append-nil (record_of r)) ∙ is))
    none_stands
none_left r (w ∷ ws) is fit begins =
    absurd (none_stands w (drop (length (record_of w)) torn)
    (record { fits = fit.0; whole = begins_left torn (record_of w) (records_of ws) begins }))

no_chance : NoChanceIn (records_of (x1 ∷ y2 ∷ z3 ∷ [])) left
no_chance [] run =
    let some : length (records_of (x1 ∷ [])) ≤ 0 = run.longest (x1 ∷ []) x1_kept in
    absurd (omega (arith, some, length-append (record_of x1) [], length-record_of x1))
no_chance (r ∷ rs) run =
    let behind = drop (length (record_of r)) left in
    let first : RecordStands left r behind = record {
      fits = run.kept.fit.0;
      whole = begins_left left (record_of r) (records_of rs) run.kept.is;
    } in
    let same = one_record left r x1 behind torn first (record { fits = x1_fits; whole = refl }) in
    none_left r rs same.1 run.kept.fit.1
    (subst (λ (t : List ℕ). Begins t (records_of rs)) same.1
    (begins_right left (record_of r) (records_of rs) run.kept.is))

-- ---- x, a failed append of y all of whose bytes got through, and a crash that keeps them

tried_prefix : Prefix ((main 1, records_of (x1 ∷ y2 ∷ [])) ∷ []) (x1 ∷ []) 0 (y2 ∷ [])
tried_prefix =
    let writes = x1 ∷ y2 ∷ [] in
    record {
      found = writes;
      sound = one_file 1 (records_of writes) (omega arith) writes
          (all_records writes (x1_fits, (y2_fits, tt))) (omega arith, (omega arith, tt));
      part = record { n = 2; low = omega arith; high = omega arith; same_map = λ key. refl };
    }
