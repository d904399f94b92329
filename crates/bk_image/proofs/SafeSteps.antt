-- What the calls of a store and of its recovery do to files that hold a log.
use Rattle.std.proofs.Common.{◌≡◌, ℕ, ◌<◌, ◌⊎◌, true, false, List, [], ◌∷◌, ◌++◌, length, Option}
use Rattle.std.proofs.Common.{Some, None, refl, sym, ap, subst, ◌∙◌, arith, inl, inr}
use Rattle.std.specs.Option.{is_some, unwrap_or}
use Rattle.std.proofs.lemmas.Bool.{cases_Bool}
use Rattle.bk_base.specs.declared.names.Name.{Name}
use Rattle.bk_base.specs.declared.writes.Write.{Write}
use Rattle.bk_disk.specs.Names.{same}
use Rattle.bk_disk.proofs.Names.{same_eq}
use Rattle.bk_laws.specs.Log.{IsLog, RisesAbove}
use Rattle.bk_laws.specs.Record.{AreRecords}
use Rattle.bk_image.specs.Readings.{Books, In, Reading, added, bytes_in, hint, main}
use Rattle.bk_image.specs.CountedFiles.{Counts, SamePlaces}
use Rattle.bk_image.specs.RecoveredLog.{AreOnce, HintTrue, HintsTrue, Recovers, Safe}
use Rattle.bk_image.proofs.BookEdits.{added_here, added_other, in-added}
use Rattle.bk_image.proofs.Lists.{in-append, in-append_left, in-append_right}
use Rattle.bk_image.proofs.Logs.{rises-above, rises-apart, rises-back, rises-within}
use Rattle.bk_image.proofs.OneName.{by_name}
use Rattle.bk_image.proofs.Places.{counts_same, other_kind, places_sym, places_written}
use Rattle.bk_image.proofs.Winners.{same_append}

-- Seqs that stand once

pub once_rising : (n : ℕ) (ws : List Write) → RisesAbove n ws → AreOnce ws
once_rising n [] h = tt
once_rising n (w ∷ ws) h = (
  λ x is_in same. omega (arith, rises-above w.seq.0 ws x h.1 is_in, ap (λ s. s.0) same),
  once_rising w.seq.0 ws h.1,
)

once-append : (vs ws : List Write) → AreOnce vs → AreOnce ws
    → ((v w : Write) → In v vs → In w ws → v.seq.0 < w.seq.0) → AreOnce (vs ++ ws)
once-append [] ws first second apart = second
once-append (v ∷ vs) ws first second apart = (
  λ x is_in same.
      elim (in-append x vs ws is_in) [
        | inl front ↦ first.0 x front same
        | inr back ↦ omega
            (arith, apart v x (inl refl) back, ap (λ s. s.0) same)
      ],
  once-append vs ws first.1 second (λ u w p q. apart u w (inr p) q),
)

-- More records at the end of a data file without a hint: their seqs are above all others. No record
-- that stands there already is changed; behind the last one may stand bytes that are none.
pub record Grows (r s : Reading) (books : Books) (id : ℕ) (more : List Write) : Type 0 where
  pub counts : Counts r (main id)
  pub no_hint : r (hint id) ≡ None
  pub there : is_some (s (main id)) ≡ true
  pub reads : AreRecords (bytes_in s (main id)) (books (main id) ++ more)
  pub others : (n : Name) → same n (main id) ≡ false → s n ≡ r n

module _ (r s : Reading) (books : Books) (id : ℕ) (more : List Write)
    (grows : Grows r s books id more) where
  abbrev n : Name
  n = main id

  places : SamePlaces r s
  places = places_written r s id (grows.counts.0 ∙ sym grows.there) grows.others

  grown_bytes : (m : Name) → same m n ≡ false → bytes_in s m ≡ bytes_in r m
  grown_bytes m other = ap (λ (o : Option (List ℕ)). unwrap_or o []) (grows.others m other)

  counted : (m : Name) → Counts s m → Counts r m
  counted m c = counts_same s r m (places_sym r s places) c

  grown_reads : ((m : Name) → Counts r m → AreRecords (bytes_in r m) (books m)) → (m : Name)
      → Counts r m
      → AreRecords (bytes_in s m) (added n more books m)
  grown_reads reads =
      by_name (λ (m : Name). Counts r m → AreRecords (bytes_in s m) (added n more books m)) n
      (λ c. subst (λ (ws : List Write). AreRecords (bytes_in s n) ws)
      (sym (added_here n more books)) grows.reads)
      (λ m other c.
      subst (λ (b : List ℕ). AreRecords b (added n more books m)) (sym (grown_bytes m other))
      (subst (λ (ws : List Write). AreRecords (bytes_in r m) ws)
      (sym (added_other n m more books other)) (reads m c)))

  in_grown : (m : Name) (w : Write) → In w (books m) → In w (added n more books m)
  in_grown m w =
      by_name (λ (k : Name). In w (books k) → In w (added n more books k)) n
      (λ here. subst (λ (ws : List Write). In w ws) (sym (added_here n more books))
      (in-append_left w (books n) more here))
      (λ k other here. subst (λ (ws : List Write). In w ws)
      (sym (added_other n k more books other)) here) m

  module _ (base : List Write) (p : Recovers r books base) (rises : IsLog (base ++ more)) where
    grown_once : (m : Name) → Counts r m → AreOnce (added n more books m)
    grown_once =
        by_name (λ (m : Name). Counts r m → AreOnce (added n more books m)) n
        (λ c. subst AreOnce (sym (added_here n more books))
        (once-append (books n) more (p.once n c) (once_rising _ more (rises-back 0 base more rises))
        (λ v w old new. rises-apart 0 base more v w rises (p.all n v c old) new)))
        (λ m other c. subst AreOnce (sym (added_other n m more books other)) (p.once m c))

    -- what stood in the files is below what was added
    not_both : (m : Name) (w : Write) → Counts r m → In w (books m) → In w more → ⊥
    not_both m w c old new = omega (arith, rises-apart 0 base more w w rises (p.all m w c old) new)

    grown_apart : (m k : Name) (w : Write) → Counts r m → Counts r k
        → In w (books m) ⊎ ((m ≡ n) × In w more)
        → In w (books k) ⊎ ((k ≡ n) × In w more) → m ≡ k
    grown_apart m k w c d (inl a) (inl b) = p.apart m k w c d a b
    grown_apart m k w c d (inl a) (inr b) = absurd (not_both m w c a b.1)
    grown_apart m k w c d (inr a) (inl b) = absurd (not_both k w d b a.1)
    grown_apart m k w c d (inr a) (inr b) = a.0 ∙ sym b.0

    grown_from : (w : Write) → In w (base ++ more)
        → (m : Name) × Counts s m × In w (added n more books m)
    grown_from w is_in =
        elim (in-append w base more is_in) [
          | inl old ↦
              let (m, c, there) = p.from w old in
              (m, counts_same r s m places c, in_grown m w there)
          | inr new ↦ (
            n,
            counts_same r s n places grows.counts,
            subst (λ (ws : List Write). In w ws) (sym (added_here n more books))
                (in-append_right w (books n) more new),
          )
        ]

    grown_all : (m : Name) (w : Write) → Counts r m → In w (added n more books m)
        → In w (base ++ more)
    grown_all m w c is_in =
        elim (in-added n m more books w is_in) [
          | inl old ↦ in-append_left w base more (p.all m w c old)
          | inr new ↦ in-append_right w base more new.1
        ]

    pub recovers_more : Recovers s (added n more books) (base ++ more)
    recovers_more = record {
      reads = λ m c. grown_reads p.reads m (counted m c);
      once = λ m c. grown_once m (counted m c);
      apart = λ m k w c d x y.
          grown_apart m k w (counted m c) (counted k d) (in-added n m more books w x)
          (in-added n k more books w y);
      rising = rises;
      from = grown_from;
      all = λ m w c is_in. grown_all m w (counted m c) is_in;
    }

  grown_hints : HintsTrue r books → HintsTrue s (added n more books)
  grown_hints hints m b c is =
      let was : r (hint m.id) ≡ Some b =
      sym (grows.others (hint m.id) (other_kind (hint m.id) n refl)) ∙ is in
      elim (cases_Bool (same m n)) [
        | inl p ↦
            let none : r (hint m.id) ≡ None = ap (λ (k : Name). r (hint k.id)) (same_eq m n p)
            ∙ grows.no_hint in
            let differ : None ≡ Some b = sym none ∙ was in
            absurd (cc differ)
        | inr p ↦
            subst (λ (t : List ℕ). HintTrue b (length t) (added n more books m))
            (sym (grown_bytes m p))
            (subst (λ (ws : List Write). HintTrue b (length (bytes_in r m)) ws)
            (sym (added_other n m more books p))
            (hints m b (counted m c) was))
      ]

  grown_safe : (log : List Write) → IsLog (log ++ more) → Safe r books log
      → Safe s (added n more books) (log ++ more)
  grown_safe log rises safe = record {
    base = safe.base ++ more;
    recovers = recovers_more safe.base safe.recovers
        (rises-within safe.base log more safe.recovers.rising rises safe.within);
    hints = grown_hints safe.hints;
    same_map = same_append safe.base log more safe.same_map;
    within = λ w is_in.
        elim (in-append w safe.base more is_in) [
          | inl old ↦ in-append_left w log more
              (safe.within w old)
          | inr new ↦ in-append_right w log more new
        ];
  }

pub safe_more : (r s : Reading) (books : Books) (log more : List Write) (id : ℕ)
    → Grows r s books id more
    → IsLog (log ++ more) → Safe r books log → Safe s (added (main id) more books) (log ++ more)
safe_more r s books log more id grows rises safe = grown_safe r s books id more grows log rises safe
