-- The command that the words of a run ask for.
use Rattle.std.proofs.Common.{◌≡◌, ◌≢◌, ◌∙◌, ℕ, zero, suc, ◌<◌, ◌≤◌, List, [], ◌∷◌, length, get_or, Option, None, Some, refl, sym, ap, arith, codes}
use Rattle.std.specs.Fmt.{decimal}
use Rattle.std.specs.Option.{IfSome}
use Rattle.std.proofs.lemmas.Fmt.{decimal_digit}
use Rattle.bk_base.specs.Names.{IsFileNumber}
use Rattle.bitcaskd.specs.Words.{AsksFor, HasDirectory, IsCount, IsFillOf, count_words, verb_of}
use Rattle.bitcaskd.specs.declared.command.Command.{Command}
use Rattle.bitcaskd.specs.declared.command.Command.TheVariants.{Check, Drill, Open}
use Rattle.bitcaskd.specs.declared.command.Work.TheVariants.{Fill, List as list_work, Pipe}

-- the command that was found is the one that is asked for
pub one_command : (o : Option Command) (words : List (List ℕ)) (found command : Command) → o ≡ Some found
    → ((c : Command) → AsksFor c words → o ≡ Some c) → AsksFor command words → found ≡ command
one_command o words found command is only asked =
    let same : Some found ≡ Some command = sym is ∙ only command asked in cc same

pub none_asked : (o : Option Command) (words : List (List ℕ)) (command : Command) → o ≡ None
    → ((c : Command) → AsksFor c words → o ≡ Some c) → AsksFor command words → ⊥
none_asked o words command is only asked =
    let same : None ≡ Some command = sym is ∙ only command asked in cc same

-- ---- one word, and two

pub one_item : {A : Type 0} (xs : List A) (v : A) → 1 ≤ length xs → length xs < 2 → v ≡ get_or xs 0 v → xs ≡ v ∷ []
one_item [] v low high first = absurd (omega arith)
one_item (x ∷ []) v low high first = cc
one_item (x ∷ y ∷ xs) v low high first = absurd (omega arith)

pub two_items : {A : Type 0} (xs : List A) (v d : A) → 2 ≤ length xs → length xs < 3 → v ≡ get_or xs 0 v → d ≡ get_or xs 1 d
    → xs ≡ v ∷ d ∷ []
two_items [] v d low high first second = absurd (omega arith)
two_items (x ∷ []) v d low high first second = absurd (omega arith)
two_items (x ∷ y ∷ []) v d low high first second = cc
two_items (x ∷ y ∷ z ∷ xs) v d low high first second = absurd (omega arith)

-- a command of two words is known by the first
pub named_only : (o : Option Command) (verb dir : List ℕ) (words : List (List ℕ)) → words ≡ verb ∷ dir ∷ []
    → ((c : Command) → HasDirectory c → verb ≡ verb_of c → count_words c ≡ [] → o ≡ Some c)
    → (c : Command) → AsksFor c words → o ≡ Some c
named_only o verb dir words is only (Open Pipe) (other, asked, some, fits) =
    only (Open Pipe) tt (ap (λ (ws : List (List ℕ)). get_or ws 0 []) (sym is ∙ asked)) refl
named_only o verb dir words is only (Open list_work) (other, asked, some, fits) =
    only (Open list_work) tt (ap (λ (ws : List (List ℕ)). get_or ws 0 []) (sym is ∙ asked)) refl
named_only o verb dir words is only (Open (Fill count)) (other, asked, some, fits) =
    let same = ap length (sym is ∙ asked) in absurd (omega (arith, same))
named_only o verb dir words is only Check (other, asked, some, fits) =
    only Check tt (ap (λ (ws : List (List ℕ)). get_or ws 0 []) (sym is ∙ asked)) refl
named_only o verb dir words is only Drill asked = let same = ap length (sym is ∙ asked) in absurd (omega (arith, same))

-- ---- a fill

-- a list of three
pub three_words : {A : Type 0} (xs : List A) (v d n : A) → 3 ≤ length xs → length xs < 4
    → v ≡ get_or xs 0 v → d ≡ get_or xs 1 d → n ≡ get_or xs 2 n → xs ≡ v ∷ d ∷ n ∷ []
three_words [] v d n low high first second third = absurd (omega arith)
three_words (x ∷ []) v d n low high first second third = absurd (omega arith)
three_words (x ∷ y ∷ []) v d n low high first second third = absurd (omega arith)
three_words (x ∷ y ∷ z ∷ []) v d n low high first second third = cc
three_words (x ∷ y ∷ z ∷ w ∷ ws) v d n low high first second third = absurd (omega arith)

pub fill_found : (o : Option Command) (dir text : List ℕ) (words : List (List ℕ)) → words ≡ codes "fill" ∷ dir ∷ text ∷ []
    → 0 < length dir → IfSome o (λ c. IsFillOf c text) → IfSome o (λ c. AsksFor c words)
fill_found None dir text words is some named = tt
fill_found (Some (Open (Fill count))) dir text words is some named =
    (dir, is ∙ ap (λ t. codes "fill" ∷ dir ∷ t ∷ []) named.1, some, named.0)
fill_found (Some (Open Pipe)) dir text words is some named = absurd named
fill_found (Some (Open list_work)) dir text words is some named = absurd named
fill_found (Some Check) dir text words is some named = absurd named
fill_found (Some Drill) dir text words is some named = absurd named

pub fill_only : (o : Option Command) (dir text : List ℕ) (words : List (List ℕ)) → words ≡ codes "fill" ∷ dir ∷ text ∷ []
    → ((c : Command) → IsFillOf c text → o ≡ Some c) → (c : Command) → AsksFor c words → o ≡ Some c
fill_only o dir text words is only (Open (Fill count)) (other, asked, some, fits) =
    let same : codes "fill" ∷ dir ∷ text ∷ [] ≡ codes "fill" ∷ other ∷ decimal count ∷ [] = sym is ∙ asked in
    only (Open (Fill count)) (fits, ap (λ (ws : List (List ℕ)). get_or ws 2 []) same)
fill_only o dir text words is only (Open Pipe) (other, asked, some, fits) =
    let same = ap length (sym is ∙ asked) in absurd (omega (arith, same))
fill_only o dir text words is only (Open list_work) (other, asked, some, fits) =
    let same = ap length (sym is ∙ asked) in absurd (omega (arith, same))
fill_only o dir text words is only Check (other, asked, some, fits) =
    let same = ap length (sym is ∙ asked) in absurd (omega (arith, same))
fill_only o dir text words is only Drill asked =
    let same = ap length (sym is ∙ asked) in absurd (omega (arith, same))

-- a number other than 0 is read as that of a file is
pub as_file : (text : List ℕ) (count : ℕ) → text ≢ 48 ∷ [] → IsCount count → text ≡ decimal count → IsFileNumber count
as_file text zero other fits e = absurd (other (e ∙ decimal_digit 0 (omega arith)))
as_file text (suc n) other fits e = (omega arith, omega (arith, fits))
