-- What an edit of the books leaves of each file's writes.
use Rattle.std.proofs.Common.{◌≡◌, ◌⊎◌, Bool, false, cond, List, ◌++◌, ap, subst, inl, inr}
use Rattle.std.proofs.lemmas.Bool.{cases_Bool}
use Rattle.bk_base.specs.declared.names.Name.{Name}
use Rattle.bk_base.specs.declared.writes.Write.{Write}
use Rattle.bk_disk.specs.Names.{same}
use Rattle.bk_disk.proofs.Names.{same_eq, same_refl}
use Rattle.bk_image.specs.Readings.{Books, In, added, placed}
use Rattle.bk_image.proofs.Lists.{in-append}

pub added_here : (n : Name) (more : List Write) (books : Books)
    → added n more books n ≡ books n ++ more
added_here n more books = ap (λ (b : Bool). cond b (books n ++ more) (books n)) (same_refl n)

pub added_other : (n m : Name) (more : List Write) (books : Books) → same m n ≡ false
    → added n more books m ≡ books m
added_other n m more books other = ap (λ (b : Bool). cond b (books m ++ more) (books m)) other

pub placed_here : (n : Name) (writes : List Write) (books : Books)
    → placed n writes books n ≡ writes
placed_here n writes books = ap (λ (b : Bool). cond b writes (books n)) (same_refl n)

pub placed_other : (n m : Name) (writes : List Write) (books : Books) → same m n ≡ false
    → placed n writes books m ≡ books m
placed_other n m writes books other = ap (λ (b : Bool). cond b writes (books m)) other

-- a write of the new books was there, or it is one of those that were added to its file
pub in-added : (n m : Name) (more : List Write) (books : Books) (w : Write)
    → In w (added n more books m)
    → In w (books m) ⊎ ((m ≡ n) × In w more)
in-added n m more books w is_in =
    elim (cases_Bool (same m n)) [
      | inl p ↦
          let is : m ≡ n = same_eq m n p in
          let here : In w (books m ++ more) =
          subst (λ (b : Bool). In w (cond b (books m ++ more) (books m))) p is_in in
          elim (in-append w (books m) more here) [ inl old ↦ inl old | inr new ↦ inr (is, new) ]
      | inr p ↦ inl (subst (λ (ws : List Write). In w ws) (added_other n m more books p) is_in)
    ]
