-- Which files count, and what leaves that as it is.
use Rattle.std.proofs.Common.{◌≡◌, ℕ, ◌≤◌, ◌==◌, true, false, List, Some, refl, sym, ap, subst, ◌∙◌}
use Rattle.std.proofs.Common.{arith, inl, inr}
use Rattle.std.specs.Option.{is_some}
use Rattle.std.proofs.lemmas.Bool.{cases_Bool}
use Rattle.bk_base.specs.declared.names.Kind.{Kind}
use Rattle.bk_base.specs.declared.names.Kind.TheVariants.{Main, MainTemp}
use Rattle.bk_base.specs.declared.names.Name.{Name}
use Rattle.bk_disk.specs.Names.{kind_number, same}
use Rattle.bk_disk.proofs.Names.{same_eq}
use Rattle.bk_laws.specs.SwapList.{IsWhole, SwapList}
use Rattle.bk_swap.proofs.Texts.{one_list}
use Rattle.bk_image.specs.Readings.{Reading, main, main_temp, swap}
use Rattle.bk_image.specs.CountedFiles.{Counts, CountsAs, HasList, IsInput, IsOutput, SamePlaces}

-- names of two kinds differ
pub other_kind : (m n : Name) → (kind_number m.kind == kind_number n.kind) ≡ false
    → same m n ≡ false
unfolding same
other_kind m n differs = grind (arith, differs)

-- of two ids too
pub main_same : (k id : ℕ) → same (main k) (main id) ≡ true → k ≡ id
main_same k id h = ap (λ (n : Name). n.id) (same_eq (main k) (main id) h)

-- Swap lists

-- under one name stands one list
pub one_swap : (r : Reading) (k l : SwapList) (p : HasList r k) (q : HasList r l) → p.id ≡ q.id
    → k ≡ l
one_swap r k l p q is =
    let both : Some p.bytes ≡ Some q.bytes = sym p.there ∙ ap (λ (id : ℕ). r (swap id)) is
    ∙ q.there in
    let bytes : p.bytes ≡ q.bytes = cc both in
    one_list q.bytes k l (subst (λ (b : List ℕ). IsWhole b k) bytes p.whole) q.whole

pub list_kept : (r s : Reading) (l : SwapList) → ((id : ℕ) → r (swap id) ≡ s (swap id))
    → HasList r l → HasList s l
list_kept r s l lists has =
    record {
      id = has.id;
      bytes = has.bytes;
      there = sym (lists has.id) ∙ has.there;
      whole =
          has.whole;
    }

pub input_kept : (r s : Reading) (id : ℕ) → ((id : ℕ) → r (swap id) ≡ s (swap id)) → IsInput r id
    → IsInput s id
input_kept r s id lists (l, has, is_in) = (l, list_kept r s l lists has, is_in)

pub output_kept : (r s : Reading) (id : ℕ) → ((id : ℕ) → r (swap id) ≡ s (swap id)) → IsOutput r id
    → IsOutput s id
output_kept r s id lists (l, has, is_in) = (l, list_kept r s l lists has, is_in)

-- The same files count where the same are there and the lists are the same

pub places_refl : (r : Reading) → SamePlaces r r
places_refl r = record { mains = λ id. refl; temps = λ id. refl; lists = λ id. refl }

pub places_sym : (r s : Reading) → SamePlaces r s → SamePlaces s r
places_sym r s p =
    record {
      mains = λ id. sym (p.mains id);
      temps = λ id. sym (p.temps id);
      lists =
          λ id. sym (p.lists id);
    }

pub places_trans : (r s t : Reading) → SamePlaces r s → SamePlaces s t → SamePlaces r t
places_trans r s t p q = record {
  mains = λ id. p.mains id ∙ q.mains id;
  temps = λ id. p.temps id ∙ q.temps id;
  lists = λ id. p.lists id ∙ q.lists id;
}

counts_as : (r s : Reading) (kind : Kind) (id : ℕ) → SamePlaces r s → CountsAs kind r id
    → CountsAs kind s id
counts_as r s Main id p c =
    (sym (p.mains id) ∙ c.0, λ is. c.1 (input_kept s r id (λ k. sym (p.lists k)) is), c.2)
counts_as r s MainTemp id p c = (
  sym (p.temps id) ∙ c.0,
  output_kept r s id p.lists c.1,
  λ is. c.2 (input_kept s r id (λ k. sym (p.lists k)) is),
  λ there. c.3 (p.mains id ∙ there),
  c.4,
)
counts_as r s kind id p c = absurd c

pub counts_same : (r s : Reading) (n : Name) → SamePlaces r s → Counts r n → Counts s n
counts_same r s n p c = counts_as r s n.kind n.id p c

-- no file counts that is numbered 0

first_as : (r : Reading) (kind : Kind) (id : ℕ) → CountsAs kind r id → 1 ≤ id
first_as r Main id c = c.2
first_as r MainTemp id c = c.4
first_as r kind id c = absurd c

pub counts_first : (r : Reading) (n : Name) → Counts r n → 1 ≤ n.id
counts_first r n c = first_as r n.kind n.id c

-- a change of one name alone

pub there_kept : (r s : Reading) (m : Name) → is_some (r m) ≡ is_some (s m)
    → ((n : Name) → same n m ≡ false → s n ≡ r n) → (n : Name) → is_some (r n) ≡ is_some (s n)
there_kept r s m here others n =
    elim (cases_Bool (same n m)) [
      | inl p ↦ subst (λ (k : Name). is_some (r k) ≡ is_some (s k)) (sym (same_eq n m p)) here
      | inr p ↦ ap is_some (sym (others n p))
    ]

-- other bytes in a data file that was and is there
pub places_written : (r s : Reading) (id : ℕ) → is_some (r (main id)) ≡ is_some (s (main id))
    → ((n : Name) → same n (main id) ≡ false → s n ≡ r n) → SamePlaces r s
places_written r s id here others = record {
  mains = λ k. there_kept r s (main id) here others (main k);
  temps = λ k. there_kept r s (main id) here others (main_temp k);
  lists = λ k. sym (others (swap k) (other_kind (swap k) (main id) refl));
}
