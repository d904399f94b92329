-- The test on names decides their equality.
use Rattle.std.proofs.Common.{◌≡◌, ℕ, ◌==◌, cond, true, refl, sym, ◌∙◌, ap, arith}
use Rattle.bk_base.specs.declared.names.Name.{Name}
use Rattle.bk_base.specs.declared.names.Kind.{Kind}
use Rattle.bk_base.specs.declared.names.Kind.TheVariants.{Main, MainTemp, Hint, HintTemp, Swap, SwapTemp, Settings}
use Rattle.bk_disk.specs.Names.{same, kind_number}

abbrev kind_of : ℕ → Kind
kind_of n =
    cond (n == 0) Main
    (cond (n == 1) MainTemp
    (cond (n == 2) Hint
    (cond (n == 3) HintTemp (cond (n == 4) Swap (cond (n == 5) SwapTemp Settings)))))

kind_of-kind_number : (k : Kind) → kind_of (kind_number k) ≡ k
kind_of-kind_number Main = refl
kind_of-kind_number MainTemp = refl
kind_of-kind_number Hint = refl
kind_of-kind_number HintTemp = refl
kind_of-kind_number Swap = refl
kind_of-kind_number SwapTemp = refl
kind_of-kind_number Settings = refl

pub kind_eq : (a b : Kind) → kind_number a ≡ kind_number b → a ≡ b
kind_eq a b h = sym (kind_of-kind_number a) ∙ ap (λ n. kind_of n) h ∙ kind_of-kind_number b

pub same_refl : (n : Name) → same n n ≡ true
unfolding same
same_refl n = grind arith

pub same_sym : (m n : Name) → same m n ≡ same n m
unfolding same
same_sym m n = grind arith

pub same_eq : (m n : Name) → same m n ≡ true → m ≡ n
unfolding same
same_eq m n h = grind (arith, kind_eq m.kind n.kind)
