-- What isn't read of the words of an action or a line, by its first word.
use Rattle.std.proofs.Common.{◌≡◌, ℕ, suc, ◌≤◌, ◌<◌, ◌^◌, List, [], ◌∷◌, ◌++◌, map, get_or, drop, length, Option, Some, None, Result, Ok, Err, refl, sym, ap, ◌∙◌, decimal, arith, drop-cons}
use denote.Ref.{Bor}
use Rattle.std.specs.List.{All}
use Rattle.std.specs.Result.{IsErrAnd}
use Rattle.bk_base.specs.declared.limits.TheConstants.{LONGEST_VALUE}
use Rattle.bk_script.specs.declared.lines.Action.{Action}
use Rattle.bk_script.specs.declared.lines.Action.TheVariants.{Put, Big}
use Rattle.bk_script.specs.declared.lines.Line.{Line}
use Rattle.bk_script.specs.declared.lines.Line.TheVariants.{Max, Ttl, Fail, Fuse, By}
use Rattle.bk_script.specs.declared.verbs.Head.{Head}
use Rattle.bk_script.specs.declared.verbs.Head.TheVariants.{Fail as fail_head, Fuse as fuse_head}
use Rattle.bk_script.specs.declared.unread.Unread.{Unread}
use Rattle.bk_script.specs.declared.unread.Unread.TheVariants.{Bad, Memory}
use Rattle.bk_script.specs.declared.verbs.Verb.{Verb}
use Rattle.bk_script.specs.declared.verbs.Verb.TheVariants.{Put as put_verb, Big as big_verb}
use Rattle.bk_script.specs.Lines.{Fits, IsWord, action_words, line_words}
use Rattle.bk_script.specs.Words.{FitsHead, IsBy, IsHeadedBy, Reads, action_operands, head_of, head_word, line_operands, now_of, verb_of, verb_word}

-- an action's words are its verb and what stands behind it
pub action_split : (a : Action) → action_words a ≡ verb_word (verb_of a) ∷ action_operands a
action_split (Put key value) = refl
action_split (Big key len) = refl
action_split _ = refl

-- the first of some words
pub first_word : (words : List (Bor (List ℕ))) (first : Bor (List ℕ)) (others : List (Bor (List ℕ)))
    (word : List ℕ) (more : List (List ℕ)) → words ≡ first ∷ others → word ∷ more ≡ now_of words
    → (word ≡ first.now) × (more ≡ now_of others)
first_word words first others word more split same =
    let whole : word ∷ more ≡ first.now ∷ now_of others = same ∙ ap now_of split in
    (ap (λ ws. get_or ws 0 []) whole, ap (λ ws. drop 1 ws) whole)

pub none_is_some : {A : Type 0} (x : A) → ◌≡◌ {A = Option A} None (Some x) → ⊥
none_is_some x e = cc

-- what one reading didn't find the next one doesn't either
pub passed_on : {A B V W : Type 0} (fits1 : A → Type 0) (written1 : A → V) (fits2 : B → Type 0) (written2 : B → W)
    (r : Result B Unread) (e : Unread) (vs : V) (ws : W) → IsErrAnd r (λ x. x ≡ e)
    → (((a : A) → fits1 a → written1 a ≡ vs → ⊥) → (b : B) → fits2 b → written2 b ≡ ws → ⊥)
    → Reads fits1 written1 (Err e) vs → Reads fits2 written2 r ws
passed_on fits1 written1 fits2 written2 (Ok b) e vs ws err none reads = absurd err
passed_on fits1 written1 fits2 written2 (Err Bad) Bad vs ws err none reads = none reads
passed_on fits1 written1 fits2 written2 (Err Bad) Memory vs ws err none reads = absurd cc
passed_on fits1 written1 fits2 written2 (Err Memory) e vs ws err none reads = tt

pub no_put : (v : Verb) (ws : List (List ℕ)) → v ≡ put_verb
    → ((p : List ℕ × List ℕ) → IsWord p.0 × IsWord p.1 → p.0 ∷ p.1 ∷ [] ≡ ws → ⊥)
    → (a : Action) → IsBy v a → action_operands a ≡ ws → ⊥
no_put v ws put none (Put key value) is same = none (key, value) is.0 same
no_put v ws put none _ is same = absurd cc

pub no_big : (v : Verb) (ws : List (List ℕ)) → v ≡ big_verb
    → ((p : List ℕ × ℕ) → IsWord p.0 × (p.1 ≤ LONGEST_VALUE) → p.0 ∷ decimal p.1 ∷ [] ≡ ws → ⊥)
    → (a : Action) → IsBy v a → action_operands a ≡ ws → ⊥
no_big v ws big none (Big key len) is same = none (key, len) is.0 same
no_big v ws big none _ is same = absurd cc

-- a line's words are its first word and what stands behind it
pub line_split : (l : Line) → line_words l ≡ head_word (head_of l) ∷ line_operands l
line_split (Max n) = refl
line_split (Ttl n) = refl
line_split _ = refl

pub head_fits : (l : Line) → Fits l → FitsHead (head_of l)
head_fits (By actor action) fit = (fit.0, fit.1)
head_fits _ fit = tt

pub no_fail : (h : Head) (ws : List (List ℕ)) → h ≡ fail_head
    → ((p : ℕ × ℕ) → (1 ≤ p.0) × (p.0 < 2 ^ 64) × (p.1 < 2 ^ 64) → decimal p.0 ∷ decimal p.1 ∷ [] ≡ ws → ⊥)
    → (l : Line) → IsHeadedBy h l → line_operands l ≡ ws → ⊥
no_fail h ws fail none (Fail nth effect) is same = none (nth, effect) is.0 same
no_fail h ws fail none _ is same = absurd cc

pub no_fuse : (h : Head) (ws : List (List ℕ)) → h ≡ fuse_head
    → ((p : ℕ × ℕ) → (0 ≤ p.0) × (p.0 < 2 ^ 64) × (p.1 < 2 ^ 64) → decimal p.0 ∷ decimal p.1 ∷ [] ≡ ws → ⊥)
    → (l : Line) → IsHeadedBy h l → line_operands l ≡ ws → ⊥
no_fuse h ws fuse none (Fuse calls effect) is same = none (calls, effect) (omega arith, is.0.0, is.0.1) same
no_fuse h ws fuse none _ is same = absurd cc

-- a word that is no number is none of the flips
pub no_flips : (front : List ℕ) (word : List ℕ) (more : List (List ℕ))
    → ((n : ℕ) → n < 2 ^ 64 → decimal n ≡ word → ⊥) → (flips : List ℕ) → All (λ n. n < 2 ^ 64) flips
    → map decimal flips ≡ map decimal front ++ word ∷ more → ⊥
no_flips [] word more none [] fit same = absurd cc
no_flips [] word more none (f ∷ flips) fit same = none f (fit 0 0 (omega arith)) cc
no_flips (g ∷ front) word more none [] fit same = absurd cc
no_flips (g ∷ front) word more none (f ∷ flips) fit same =
    no_flips front word more none flips (λ i d within. fit (suc i) d (omega (arith, within))) cc

-- the same, where the word stands among others
pub no_flips_at : (front : List ℕ) (words : List (Bor (List ℕ))) (i : ℕ) (d : Bor (List ℕ)) → i < length words
    → map decimal front ++ now_of (drop i words) ≡ now_of words
    → ((n : ℕ) → n < 2 ^ 64 → decimal n ≡ (get_or words i d).now → ⊥)
    → (flips : List ℕ) → All (λ n. n < 2 ^ 64) flips → map decimal flips ≡ now_of words → ⊥
no_flips_at front words i d within so_far none flips fit same =
    no_flips front (get_or words i d).now (now_of (drop (suc i) words)) none flips fit
    (same ∙ sym so_far ∙ ap (λ (ws : List (Bor (List ℕ))). map decimal front ++ now_of ws) (drop-cons words i d within))

-- what was found to be none
pub none_of : {A W : Type 0} (fits : A → Type 0) (written : A → W) (e : Unread) (words : W) → e ≡ Bad
    → Reads fits written (Err e) words → (a : A) → fits a → written a ≡ words → ⊥
none_of fits written Bad words bad reads = reads
none_of fits written Memory words bad reads = absurd cc
