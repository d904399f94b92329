-- Which facts last through what the store does to its files between merges: that the active file is
-- the youngest, that no list stands, and two facts that last both.
use Rattle.std.proofs.Common.{◌≡◌, ℕ, ◌<◌, false, cond, List, [], ◌++◌, Some}
use Rattle.std.proofs.Common.{sym, ap, subst, ◌∙◌, inl, inr}
use Rattle.std.specs.Option.{is_some}
use Rattle.std.proofs.lemmas.Bool.{cases_Bool}
use Rattle.bk_base.specs.declared.names.Name.{Name}
use Rattle.bk_base.specs.declared.writes.Write.{Write}
use Rattle.bk_disk.specs.Names.{same}
use Rattle.bk_laws.specs.Log.{IsLog}
use Rattle.bk_image.specs.Readings.{In, Reading, added, main, placed}
use Rattle.bk_image.specs.CountedFiles.{Counts, HasNoList}
use Rattle.bk_image.specs.Holds.{Both, IsIdle, IsYoungest, Lasts, Makes, Shape, Syncs, Young}
use Rattle.bk_image.proofs.BookEdits.{added_here, added_other, placed_other}
use Rattle.bk_image.proofs.CoreFrames.{lists_stayed}
use Rattle.bk_image.proofs.Lists.{in-append}
use Rattle.bk_image.proofs.Logs.{rises-apart}
use Rattle.bk_image.proofs.Places.{counts_same, list_kept, places_sym, places_written}
use Rattle.bk_image.proofs.SafeFiles.{AllBut, all_but_sym, beside}

-- a write of a book that is another one by this equation
pub in_as : (w : Write) (vs ws : List Write) → vs ≡ ws → In w vs → In w ws
in_as w vs ws same is_in = subst (λ (l : List Write). In w l) same is_in

-- ---- the active file is the youngest

youngest_synced : (v : Shape) (id : ℕ) (more : List Write) (s : Reading) → Syncs v id more s
    → IsYoungest v → (n : Name) (w x : Write) → Counts s n → same n (main id) ≡ false
    → In w (added (main id) more v.books (main id)) → In x (added (main id) more v.books n)
    → x.seq.0 < w.seq.0
youngest_synced v id more s e young n w x counts other w_in x_in =
    let there : is_some (v.reading (main id)) ≡ is_some (s (main id)) = e.counts.0
    ∙ sym (ap is_some e.reads) in
    let places = places_written v.reading s id there e.others in
    let counted = counts_same s v.reading n (places_sym v.reading s places) counts in
    let x_was = in_as x _ _ (added_other (main id) n more v.books other) x_in in
    let w_now = in_as w _ _ (added_here (main id) more v.books) w_in in
    elim (in-append w (v.books (main id)) more w_now) [
      | inl old ↦ young id n w x e.active counted other old x_was
      | inr new ↦
          let rises : IsLog (v.settled ++ more) = subst IsLog e.split e.rises in
          rises-apart 0 v.settled more x w rises (e.within n x counted x_was) new
    ]

youngest_made : (v : Shape) (id : ℕ) (s : Reading) → Makes v id s → IsYoungest v
    → (a : ℕ) (n : Name) (w x : Write) → v.active ≡ Some a → Counts s n → same n (main a) ≡ false
    → In w (placed (main id) [] v.books (main a)) → In x (placed (main id) [] v.books n)
    → x.seq.0 < w.seq.0
youngest_made v id s e young a n w x active counts other w_in x_in =
    elim (cases_Bool (same n (main id))) [
      | inl p ↦ absurd (subst (λ b. In x (cond b [] (v.books n))) p x_in)
      | inr p ↦
          elim (cases_Bool (same (main a) (main id))) [
            | inl q ↦ absurd (subst (λ b. In w (cond b [] (v.books (main a)))) q w_in)
            | inr q ↦
                let others = all_but_sym (main id) v.reading s e.others in
                young a n w x active (beside id s v.reading n others e.no_output p counts) other
                (in_as w _ _ (placed_other (main id) (main a) [] v.books q) w_in)
                (in_as x _ _ (placed_other (main id) n [] v.books p) x_in)
          ]
    ]

pub lasts_youngest : Lasts IsYoungest
lasts_youngest = record {
  writes = λ v w young. young;
  syncs = λ v id more s e young a n w x active counts other w_in x_in.
      let is : a ≡ id = cc (sym active ∙ e.active) in
      youngest_synced v id more s e young n w x counts
      (subst (λ (k : ℕ). same n (main k) ≡ false) is other)
      (subst (λ (k : ℕ). In w (added (main id) more v.books (main k))) is w_in) x_in;
  makes = λ v id s e young a n w x active counts other w_in x_in.
      youngest_made v id s e young a n w x active counts other w_in x_in;
  rolls = λ v id above empty young a n w x active counts other w_in x_in.
      let is : id ≡ a = cc active in
      let none : v.books (main a) ≡ [] = ap (λ (k : ℕ). v.books (main k)) (sym is) ∙ empty in
      absurd (in_as w (v.books (main a)) [] none w_in);
}

-- ---- no list stands

idle_but : (id : ℕ) (r s : Reading) → AllBut (main id) r s → HasNoList r → HasNoList s
idle_but id r s others none l has =
    none l (list_kept s r l (lists_stayed id r s others) has)

pub lasts_idle : Lasts IsIdle
lasts_idle = record {
  writes = λ v w idle. idle;
  syncs = λ v id more s e idle. idle_but id v.reading s e.others idle;
  makes = λ v id s e idle. idle_but id v.reading s e.others idle;
  rolls = λ v id above empty idle. idle;
}

-- ---- both

pub lasts_both : (P Q : Shape → Type 0) → Lasts P → Lasts Q → Lasts (Both P Q)
lasts_both P Q p q = record {
  writes = λ v w h. (p.writes v w h.0, q.writes v w h.1);
  syncs = λ v id more s e h. (p.syncs v id more s e h.0, q.syncs v id more s e h.1);
  makes = λ v id s e h. (p.makes v id s e h.0, q.makes v id s e h.1);
  rolls = λ v id above empty h. (p.rolls v id above empty h.0, q.rolls v id above empty h.1);
}

pub lasts_young : (K : Shape → Type 0) → Lasts K → Lasts (Young K)
lasts_young K k = lasts_both IsYoungest K lasts_youngest k

-- what lasts as long as no merge has left a list
pub lasts_young_idle : Lasts (Young IsIdle)
lasts_young_idle = lasts_young IsIdle lasts_idle
