-- Directories that the definitions refuse: a seq that stands twice, and a synced write that is gone.
use Rattle.std.proofs.Common.{◌≡◌, ℕ, ◌≤◌, true, List, [], ◌∷◌, take}
use Rattle.std.proofs.Common.{Option, Some, None, refl, sym, ap, subst, ◌∙◌, arith, inl}
use Rattle.std.specs.Option.{is_some, unwrap_or}
use Rattle.std.proofs.lemmas.Bool.{true≢false}
use Rattle.std.proofs.lemmas.List.{take_all}
use Rattle.bk_base.specs.declared.names.Kind.{Kind}
use Rattle.bk_base.specs.declared.names.Kind.TheVariants.{Main, MainTemp}
use Rattle.bk_base.specs.declared.names.Name.{Name}
use Rattle.bk_base.specs.declared.writes.Write.{Write}
use Rattle.bk_disk.specs.Names.{same}
use Rattle.bk_disk.specs.Told.{Image, at}
use Rattle.bk_laws.specs.Log.{put_of, winner}
use Rattle.bk_laws.specs.Record.{AreRecords, records_of}
use Rattle.bk_record.proofs.FileRecords.{one_list}
use Rattle.bk_image.specs.Readings.{In, main, swap}
use Rattle.bk_image.specs.CountedFiles.{Counts, CountsAs}
use Rattle.bk_image.specs.Prefix.{Prefix}
use Rattle.bk_image.specs.SoundDirectory.{IsSound}
use Rattle.bk_image.proofs.Chances.{all_records}
use Rattle.bk_image.proofs.OneFileExamples.{a1, a1_fits}
use Rattle.bk_image.proofs.Places.{other_kind}

-- ---- one record in two files

abbrev twice : Image
twice = (main 1, records_of (a1 ∷ [])) ∷ (main 2, records_of (a1 ∷ [])) ∷ []

no_list : (id : ℕ) → at twice (swap id) ≡ None
no_list id = rw (other_kind (swap id) (main 1) refl, other_kind (swap id) (main 2) refl) refl

both_count : (id : ℕ) → 1 ≤ id → is_some (at twice (main id)) ≡ true
    → Counts (at twice) (main id)
both_count id first there = (
  there,
  λ input. let differ : None ≡ Some input.1.bytes = sym (no_list input.1.id)
      ∙ input.1.there in absurd (cc differ),
  first,
)

at_1 : at twice (main 1) ≡ Some (records_of (a1 ∷ []))
unfolding same
at_1 = refl

at_2 : at twice (main 2) ≡ Some (records_of (a1 ∷ []))
unfolding same
at_2 = refl

book : (sound : (log : List Write) × IsSound twice log) (id : ℕ) → 1 ≤ id
    → at twice (main id) ≡ Some (records_of (a1 ∷ []))
    → In a1 (sound.1.books (main id))
book (log, sound) id first there =
    let counts = both_count id first (ap is_some there) in
    let are : AreRecords (records_of (a1 ∷ [])) (sound.books (main id)) =
    subst (λ (o : Option (List ℕ)). AreRecords (unwrap_or o []) (sound.books (main id))) there
    (sound.recovers.reads (main id) counts) in
    let is : sound.books (main id) ≡ a1 ∷ [] =
    one_list (sound.books (main id)) (a1 ∷ []) (records_of (a1 ∷ [])) are
    (all_records (a1 ∷ []) (a1_fits, tt)) in
    subst (λ (ws : List Write). In a1 ws) (sym is) (inl refl)

not_twice : (log : List Write) → IsSound twice log → ⊥
not_twice log sound =
    let is : main 1 ≡ main 2 =
    sound.recovers.apart (main 1) (main 2) a1
    (both_count 1 (omega arith) (ap is_some at_1)) (both_count 2 (omega arith) (ap is_some at_2))
    (book (log, sound) 1 (omega arith) at_1) (book (log, sound) 2 (omega arith) at_2) in
    omega (arith, ap (λ (n : Name). n.id) is)

-- ---- nothing is left of a write that was synced

none_counts : (kind : Kind) (id : ℕ) → CountsAs kind (at []) id → ⊥
none_counts Main id c = true≢false (sym c.0)
none_counts MainTemp id c = true≢false (sym c.0)
none_counts kind id c = c

nothing_found : (found : List Write) → IsSound [] found → found ≡ []
nothing_found [] sound = refl
nothing_found (w ∷ ws) sound =
    let (n, counts, there) =
    sound.recovers.from w (inl refl) in absurd (none_counts n.kind n.id counts)

not_lost : Prefix [] (a1 ∷ []) 1 [] → ⊥
not_lost p =
    let all : take p.part.n (a1 ∷ []) ≡ a1 ∷ [] = take_all p.part.n (a1 ∷ []) p.part.low in
    let none : None ≡ Some a1 =
    ap (λ (ws : List Write). put_of (winner ws (97 ∷ []))) (sym (nothing_found p.found p.sound))
    ∙ p.part.same_map (97 ∷ []) ∙ ap (λ (ws : List Write). put_of (winner ws (97 ∷ []))) all in
    cc none
