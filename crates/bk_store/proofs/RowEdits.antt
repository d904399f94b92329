-- The rows after the counts of one file were set.
use Rattle.std.proofs.Common.{◌≡◌, ℕ, ◌+◌, ◌-◌, ◌≤◌, ◌==◌, Bool, true, false, cond, List, Option, Some, None, refl, sym, ap, ◌∙◌, arith, eqb-true, inl, inr}
use Rattle.std.specs.Prelude.{IsTrue}
use Rattle.std.specs.Option.{is_some, option_map}
use Rattle.std.proofs.lemmas.Bool.{cases_Bool}
use Rattle.std.proofs.lemmas.Bool.Decides.{nat_tests}
use Rattle.bk_base.specs.declared.rows.Row.{Row}
use Rattle.bk_base.specs.declared.writes.Version.{Version}
use Rattle.bk_files.specs.Catalog.{counted, edited, row_of, with_counts}
use Rattle.bk_files.specs.Files.{IsConsistent, IsFromScratch, IsSyncedIfSealed, Seen}
use Rattle.bk_keydir.specs.Counts.{is_put_in, one_in}
use Rattle.bk_keydir.specs.Counts.{bytes_in as bytes_of_version}
use Rattle.bk_store.specs.Appends.{CanAdd, CountsAlone, counts_added, counts_taken}
use Rattle.bk_store.proofs.RowCounts.{row_of-edited}

-- whether there is a row doesn't change
some_edited : (b : Bool) (f : Row → Row) (o : Option Row) → is_some (cond b (option_map f o) o) ≡ is_some o
some_edited true f None = refl
some_edited true f (Some r) = refl
some_edited false f o = refl

pub counts_alone : (tells : Bool) (old new : Seen) (file live refs : ℕ)
    → new ≡ record old { catalog = counted file live refs old.catalog } → (IsTrue tells → IsConsistent old → IsConsistent new)
    → (IsTrue tells → IsFromScratch old → IsFromScratch new) → (IsTrue tells → IsSyncedIfSealed old → IsSyncedIfSealed new)
    → CountsAlone tells old new
counts_alone tells old new file live refs is consistent totals synced =
    let f = with_counts live refs in
    let rows : new.catalog.rows ≡ edited file f old.catalog.rows = ap (λ (s : Seen). s.catalog.rows) is in
    record {
      same = is ∙ sym (ap (λ (rs : List Row). record old { catalog = record old.catalog { rows = rs } }) rows);
      there = λ id.
          ap (λ (rs : List Row). is_some (row_of id rs)) rows
          ∙ ap (λ (o : Option Row). is_some o) (row_of-edited file id f old.catalog.rows (λ r. refl))
          ∙ some_edited (id == file) f (row_of id old.catalog.rows);
      consistent = consistent;
      totals = totals;
      synced = synced;
    }

-- a put names its own file, and no other
in_own : (v : Version) (id : ℕ) → v.gone ≡ false → (id == v.file.0) ≡ true → is_put_in id v ≡ true
in_own v id put is = rw put (grind (arith, nat_tests, eqb-true id v.file.0 is))

in_other : (v : Version) (id : ℕ) → v.gone ≡ false → (id == v.file.0) ≡ false → is_put_in id v ≡ false
in_other v id put is = rw put (grind (arith, nat_tests, is))

no_more : (r : Row) → with_counts (r.live + 0) (r.refs + 0) r ≡ r
no_more r =
    let live : r.live + 0 ≡ r.live = omega arith in
    let refs : r.refs + 0 ≡ r.refs = omega arith in
    ap (λ (n : ℕ). with_counts n (r.refs + 0) r) live ∙ ap (λ (n : ℕ). with_counts r.live n r) refs

no_less : (r : Row) → with_counts (r.live - 0) (r.refs - 0) r ≡ r
no_less r =
    let live : r.live - 0 ≡ r.live = omega arith in
    let refs : r.refs - 0 ≡ r.refs = omega arith in
    ap (λ (n : ℕ). with_counts n (r.refs - 0) r) live ∙ ap (λ (n : ℕ). with_counts r.live n r) refs

module _ (v : Version) (rows new : List Row) (row : Row) (live refs : ℕ) (put : v.gone ≡ false)
    (here : row_of v.file.0 rows ≡ Some row) (is : new ≡ edited v.file.0 (with_counts live refs) rows) where
  row_now : (id : ℕ) → row_of id new ≡ cond (id == v.file.0) (option_map (with_counts live refs) (row_of id rows)) (row_of id rows)
  row_now id = ap (row_of id) is ∙ row_of-edited v.file.0 id (with_counts live refs) rows (λ r. refl)

  its_own : (id : ℕ) → (id == v.file.0) ≡ true → row_of id rows ≡ Some row
  its_own id p = ap (λ (n : ℕ). row_of n rows) (eqb-true id v.file.0 p) ∙ here

  pub rows_added : (row.live + v.size ≤ row.total → live ≡ row.live + v.size) → (row.refs + 1 ≤ row.total → refs ≡ row.refs + 1)
      → (id : ℕ) (r : Row) → row_of id rows ≡ Some r → CanAdd id v r → row_of id new ≡ Some (counts_added id v r)
  rows_added more_live more_refs id r at can =
      elim (cases_Bool (id == v.file.0)) [
        | inl p ↦
            let same_row : Some r ≡ Some row = sym at ∙ its_own id p in
            let same : r ≡ row = cc same_row in
            let in_it = in_own v id put p in
            let bytes : bytes_of_version id v ≡ v.size = ap (λ (b : Bool). cond b v.size 0) in_it in
            let one : one_in id v ≡ 1 = ap (λ (b : Bool). cond b 1 0) in_it in
            let can_live = can.live in
            let can_refs = can.refs in
            let live_is : live ≡ r.live + bytes_of_version id v =
            more_live (omega (arith, can_live, bytes, ap (λ (x : Row). x.live) same, ap (λ (x : Row). x.total) same))
            ∙ omega (arith, bytes, ap (λ (x : Row). x.live) same) in
            let refs_is : refs ≡ r.refs + one_in id v =
            more_refs (omega (arith, can_refs, one, ap (λ (x : Row). x.refs) same, ap (λ (x : Row). x.total) same))
            ∙ omega (arith, one, ap (λ (x : Row). x.refs) same) in
            row_now id ∙ ap (λ (b : Bool). cond b (option_map (with_counts live refs) (row_of id rows)) (row_of id rows)) p
            ∙ ap (option_map (with_counts live refs)) at
            ∙ ap (λ (n : ℕ). Some (with_counts n refs r)) live_is
            ∙ ap (λ (n : ℕ). Some (with_counts (r.live + bytes_of_version id v) n r)) refs_is
        | inr p ↦
            let not_in = in_other v id put p in
            let bytes : bytes_of_version id v ≡ 0 = ap (λ (b : Bool). cond b v.size 0) not_in in
            let one : one_in id v ≡ 0 = ap (λ (b : Bool). cond b 1 0) not_in in
            row_now id ∙ ap (λ (b : Bool). cond b (option_map (with_counts live refs) (row_of id rows)) (row_of id rows)) p ∙ at
            ∙ ap Some (sym (no_more r))
            ∙ sym (ap (λ (n : ℕ). Some (with_counts (r.live + n) (r.refs + 0) r)) bytes)
            ∙ sym (ap (λ (n : ℕ). Some (with_counts (r.live + bytes_of_version id v) (r.refs + n) r)) one)
      ]

-- so many references less
pub rows_taken : (v : Version) (rows new : List Row) (row : Row) (n : ℕ) → v.gone ≡ false → row_of v.file.0 rows ≡ Some row
    → new ≡ edited v.file.0 (with_counts (row.live - v.size) (row.refs - n)) rows
    → (id : ℕ) → row_of id new ≡ option_map (counts_taken id v n) (row_of id rows)
rows_taken v rows new row n put here is id =
    let f = with_counts (row.live - v.size) (row.refs - n) in
    ap (row_of id) is ∙ row_of-edited v.file.0 id f rows (λ r. refl) ∙ go where
      other : (o : Option Row) → is_put_in id v ≡ false → o ≡ option_map (counts_taken id v n) o
      other None p = refl
      other (Some r) p =
          ap Some (sym (no_less r))
          ∙ sym (ap (λ (b : Bool). Some (with_counts (r.live - cond b v.size 0) (r.refs - cond b n 0) r)) p)

      own : (o : Option Row) → o ≡ Some row → is_put_in id v ≡ true
          → option_map (with_counts (row.live - v.size) (row.refs - n)) o ≡ option_map (counts_taken id v n) o
      own o e p =
          ap (option_map (with_counts (row.live - v.size) (row.refs - n))) e
          ∙ sym (ap (λ (b : Bool). Some (with_counts (row.live - cond b v.size 0) (row.refs - cond b n 0) row)) p)
          ∙ sym (ap (option_map (counts_taken id v n)) e)

      go : cond (id == v.file.0) (option_map (with_counts (row.live - v.size) (row.refs - n)) (row_of id rows)) (row_of id rows)
          ≡ option_map (counts_taken id v n) (row_of id rows)
      go =
          elim (cases_Bool (id == v.file.0)) [
            | inl p ↦
                rw p
                (own (row_of id rows) (ap (λ (k : ℕ). row_of k rows) (eqb-true id v.file.0 p) ∙ here) (in_own v id put p))
            | inr p ↦ rw p (other (row_of id rows) (in_other v id put p))
          ]
