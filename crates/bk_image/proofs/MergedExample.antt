-- A directory that a merge left after its list was put in place, made by hand: file 4 takes the
-- place of file 1, and still has its temporary name.
use Rattle.std.proofs.Common.{◌≡◌, ℕ, ◌⊎◌, Bool, cond, List, [], ◌∷◌, Option, Some, None, refl, sym}
use Rattle.std.proofs.Common.{ap, subst, ◌∙◌, arith, inl, inr}
use Rattle.std.specs.Option.{is_some}
use Rattle.std.proofs.lemmas.Bool.{cases_Bool, true≢false}
use Rattle.bk_base.specs.declared.names.Kind.{Kind}
use Rattle.bk_base.specs.declared.names.Kind.TheVariants.{Main, MainTemp}
use Rattle.bk_base.specs.declared.names.Name.{Name}
use Rattle.bk_base.specs.declared.writes.Write.{Write}
use Rattle.bk_disk.specs.Names.{kind_number, same}
use Rattle.bk_disk.specs.Told.{Image, Table, at}
use Rattle.bk_disk.proofs.Names.{same_eq}
use Rattle.bk_laws.specs.Log.{winner}
use Rattle.bk_laws.specs.Record.{AreRecords, records_of}
use Rattle.bk_laws.specs.SwapList.{IsWhole, SwapList, swap_text}
use Rattle.bk_swap.proofs.Texts.{one_list}
use Rattle.bk_image.specs.Readings.{Books, In, IsThere, Reading, bytes_in, hint, main, main_temp}
use Rattle.bk_image.specs.Readings.{swap}
use Rattle.bk_image.specs.CountedFiles.{Counts, CountsAs, HasList, IsInput}
use Rattle.bk_image.specs.RecoveredLog.{AreOnce}
use Rattle.bk_image.specs.SoundDirectory.{IsSound}
use Rattle.bk_image.proofs.Chances.{all_records}
use Rattle.bk_image.proofs.SafeSteps.{once_rising}
use Rattle.bk_image.proofs.OneFileExamples.{put, put_fits}

abbrev k_old : Write
k_old = put 1 107 111

abbrev p2 : Write
p2 = put 2 112 120

abbrev k_new : Write
k_new = put 3 107 110

abbrev list : SwapList
list = record { inputs = 1 ∷ []; outputs = 4 ∷ [] }

abbrev merged : Image
merged =
    (main 1, records_of (k_old ∷ p2 ∷ [])) ∷ (main 2, records_of (k_new ∷ [])) ∷
    (main_temp 4, records_of (p2 ∷ []))
    ∷ (swap 3, swap_text list) ∷ []

-- what is there stands in the table
in_table : {X : Type 0} (t : Table X) (n : Name) (x : X) → at t n ≡ Some x → In (n, x) t
in_table [] n x is = absurd (cc is)
in_table (e ∷ es) n x is =
    elim (cases_Bool (same n e.0)) [
      | inl p ↦
          let some : Some e.1 ≡ Some x = sym (ap (λ (b : Bool). cond b (Some e.1) (at es n)) p)
          ∙ is in
          let value : e.1 ≡ x = cc some in
          inl (λ i. (same_eq n e.0 p i, sym value i))
      | inr p ↦ inr (in_table es n x (sym (ap (λ (b : Bool). cond b (Some e.1) (at es n)) p) ∙ is))
    ]

some_there : (r : Reading) (n : Name) → IsThere r n → (b : List ℕ) × (r n ≡ Some b)
some_there r n there = go (r n) refl where
  go : (o : Option (List ℕ)) → r n ≡ o → (b : List ℕ) × (r n ≡ Some b)
  go (Some b) is = (b, is)
  go None is = absurd (true≢false (sym there ∙ ap is_some is))

list_whole : IsWhole (swap_text list) list
list_whole = record {
  fits = record {
    inputs = (omega arith, (omega arith, tt));
    outputs =
        (omega arith, (omega arith, tt));
  };
  is = refl;
}

list_stands : HasList (at merged) list
unfolding same
list_stands = record { id = 3; bytes = swap_text list; there = refl; whole = list_whole }

-- the number of the kind that a name has in the table
abbrev kind_at : Name × List ℕ → ℕ
kind_at e = kind_number e.0.kind

only_list : (l : SwapList) → HasList (at merged) l → l ≡ list
only_list l has = go (in_table merged (swap has.id) has.bytes has.there) where
  go : In (swap has.id, has.bytes) merged → l ≡ list
  go (inl is) = absurd (omega (arith, ap kind_at is))
  go (inr (inl is)) = absurd (omega (arith, ap kind_at is))
  go (inr (inr (inl is))) = absurd (omega (arith, ap kind_at is))
  go (inr (inr (inr (inl is)))) =
      one_list has.bytes l list has.whole
      (record { fits = list_whole.fits; is = ap (λ (e : Name × List ℕ). e.1) is })
  go (inr (inr (inr (inr none)))) = absurd none

input_is_1 : (id : ℕ) → IsInput (at merged) id → id ≡ 1
input_is_1 id input =
    go (subst (λ (l : SwapList). In id l.inputs) (only_list input.0 input.1) input.2) where
      go : In id (1 ∷ []) → id ≡ 1
      go (inl is) = is
      go (inr none) = absurd none

-- file 2 counts, and file 4 under its temporary name; file 1 doesn't
counted_as : (kind : Kind) (id : ℕ) → CountsAs kind (at merged) id
    → (record { id = id; kind = kind } ≡ main 2) ⊎ (record { id = id; kind = kind } ≡ main_temp 4)
counted_as Main id c =
    let found = some_there (at merged) (main id) c.0 in go
    (in_table merged (main id) found.0 found.1) where
      go : {b : List ℕ} → In (main id, b) merged → (main id ≡ main 2) ⊎ (main id ≡ main_temp 4)
      go (inl is) = absurd (c.1 (list, list_stands, inl (ap (λ (e : Name × List ℕ). e.0.id) is)))
      go (inr (inl is)) = inl (ap (λ (e : Name × List ℕ). e.0) is)
      go (inr (inr (inl is))) = absurd (omega (arith, ap kind_at is))
      go (inr (inr (inr (inl is)))) = absurd (omega (arith, ap kind_at is))
      go (inr (inr (inr (inr none)))) = absurd none
counted_as MainTemp id c =
    let found = some_there (at merged) (main_temp id) c.0 in go
    (in_table merged (main_temp id) found.0 found.1) where
      go : {b : List ℕ} → In (main_temp id, b) merged
          → (main_temp id ≡ main 2) ⊎ (main_temp id ≡ main_temp 4)
      go (inl is) = absurd (omega (arith, ap kind_at is))
      go (inr (inl is)) = absurd (omega (arith, ap kind_at is))
      go (inr (inr (inl is))) = inr (ap (λ (e : Name × List ℕ). e.0) is)
      go (inr (inr (inr (inl is)))) = absurd (omega (arith, ap kind_at is))
      go (inr (inr (inr (inr none)))) = absurd none
counted_as kind id c = absurd c

file_2_counts : Counts (at merged) (main 2)
unfolding same
file_2_counts =
    (refl, λ input. let is : 2 ≡ 1 = input_is_1 2 input in absurd (omega arith), omega arith)

no_file_4 : IsThere (at merged) (main 4) → ⊥
unfolding same
no_file_4 there = true≢false (sym there)

output_there : IsThere (at merged) (main_temp 4)
unfolding same
output_there = refl

output_counts : Counts (at merged) (main_temp 4)
output_counts = (
  output_there,
  (list, list_stands, inl refl),
  λ input. let is : 4 ≡ 1 = input_is_1 4 input in absurd (omega arith),
  no_file_4,
  omega arith,
)

abbrev merged_books : Books
merged_books n = cond (same n (main 2)) (k_new ∷ []) (p2 ∷ [])

abbrev merged_log : List Write
merged_log = p2 ∷ k_new ∷ []

-- what holds of the two files holds of each that counts
of_both : (P : Name → Type 0) → P (main 2) → P (main_temp 4) → (n : Name) → Counts (at merged) n
    → P n
of_both P first second n c =
    elim (counted_as n.kind n.id c)
    [ inl is ↦ subst P (sym is) first | inr is ↦ subst P (sym is) second ]

reads_2 : AreRecords (bytes_in (at merged) (main 2)) (merged_books (main 2))
unfolding same
reads_2 = all_records (k_new ∷ [])
    (put_fits 3 107 110 (omega arith) (omega arith) (omega arith) (omega arith), tt)

reads_4 : AreRecords (bytes_in (at merged) (main_temp 4)) (merged_books (main_temp 4))
unfolding same
reads_4 = all_records (p2 ∷ [])
    (put_fits 2 112 120 (omega arith) (omega arith) (omega arith) (omega arith), tt)

book_2 : merged_books (main 2) ≡ k_new ∷ []
unfolding same
book_2 = refl

book_4 : merged_books (main_temp 4) ≡ p2 ∷ []
unfolding same
book_4 = refl

in_2 : (w : Write) → In w (merged_books (main 2)) → w ≡ k_new
in_2 w is_in =
    elim (subst (λ (ws : List Write). In w ws) book_2 is_in)
    [ inl is ↦ is | inr none ↦ absurd none ]

in_4 : (w : Write) → In w (merged_books (main_temp 4)) → w ≡ p2
in_4 w is_in =
    elim (subst (λ (ws : List Write). In w ws) book_4 is_in)
    [ inl is ↦ is | inr none ↦ absurd none ]

-- they hold different writes
differ : (w : Write) → In w (merged_books (main 2)) → In w (merged_books (main_temp 4)) → ⊥
differ w p q =
    omega (arith, ap (λ (v : Write). v.seq.0) (in_2 w p), ap (λ (v : Write). v.seq.0) (in_4 w q))

apart : (n m : Name) (w : Write) → Counts (at merged) n → Counts (at merged) m
    → In w (merged_books n) → In w (merged_books m)
    → n ≡ m
apart n m w c d p q = go (counted_as n.kind n.id c) (counted_as m.kind m.id d) where
  go : (n ≡ main 2) ⊎ (n ≡ main_temp 4) → (m ≡ main 2) ⊎ (m ≡ main_temp 4) → n ≡ m
  go (inl a) (inl b) = a ∙ sym b
  go (inr a) (inr b) = a ∙ sym b
  go (inl a) (inr b) =
      absurd (differ w (subst (λ (k : Name). In w (merged_books k)) a p)
      (subst (λ (k : Name). In w (merged_books k)) b q))
  go (inr a) (inl b) =
      absurd (differ w (subst (λ (k : Name). In w (merged_books k)) b q)
      (subst (λ (k : Name). In w (merged_books k)) a p))

holds_write : (w : Write) → In w merged_log
    → (n : Name) × Counts (at merged) n × In w (merged_books n)
holds_write w (inl is) =
    (main_temp 4, output_counts, subst (λ (ws : List Write). In w ws) (sym book_4) (inl is))
holds_write w (inr (inl is)) =
    (main 2, file_2_counts, subst (λ (ws : List Write). In w ws) (sym book_2) (inl is))
holds_write w (inr (inr none)) = absurd none

no_hint : (id : ℕ) (b : List ℕ) → at merged (hint id) ≡ Some b → ⊥
no_hint id b is = go (in_table merged (hint id) b is) where
  go : In (hint id, b) merged → ⊥
  go (inl e) = omega (arith, ap kind_at e)
  go (inr (inl e)) = omega (arith, ap kind_at e)
  go (inr (inr (inl e))) = omega (arith, ap kind_at e)
  go (inr (inr (inr (inl e)))) = omega (arith, ap kind_at e)
  go (inr (inr (inr (inr none)))) = none

merged_sound : IsSound merged merged_log
merged_sound = record {
  books = merged_books;
  recovers = record {
    reads = of_both
        (λ (n : Name). AreRecords (bytes_in (at merged) n) (merged_books n)) reads_2 reads_4;
    once = of_both (λ (n : Name). AreOnce (merged_books n))
        (subst AreOnce (sym book_2) (once_rising 0 (k_new ∷ []) (omega arith, tt)))
        (subst AreOnce (sym book_4) (once_rising 0 (p2 ∷ []) (omega arith, tt)));
    apart = apart;
    rising = (omega arith, (omega arith, tt));
    from = holds_write;
    all = λ n w. of_both (λ (k : Name). In w (merged_books k) → In w merged_log)
        (λ is_in. inr (inl (in_2 w is_in))) (λ is_in. inl (in_4 w is_in)) n;
  };
  hints = λ n b c is. absurd (no_hint n.id b is);
}

-- The new value of k is the one that counts, and that of p stands in the output.
merged_k : winner merged_log (107 ∷ []) ≡ Some k_new
merged_k = refl

merged_p : winner merged_log (112 ∷ []) ≡ Some p2
merged_p = refl
