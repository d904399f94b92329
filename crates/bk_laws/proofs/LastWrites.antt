-- Which write of a log is the last one of its key.
use Rattle.std.proofs.Common.{◌≡◌, ◌∙◌, ℕ, ◌+◌, ◌<◌, List, [], ◌∷◌, ◌++◌, length, take, drop, get_or, Bool, true, cond}
use Rattle.std.proofs.Common.{Option, Some, None, refl, sym, ap, arith}
use Rattle.std.specs.Str.{bytes_eq}
use Rattle.std.proofs.lemmas.List.{drop_more, length-take-le, take-append-drop}
use Rattle.bk_base.specs.declared.writes.Write.{Write}
use Rattle.bk_laws.specs.Log.{IsWinner, or_else, winner}

pub or_else-none : (a : Option Write) → or_else a None ≡ a
or_else-none None = refl
or_else-none (Some w) = refl

or_else-assoc : (a b c : Option Write) → or_else (or_else a b) c ≡ or_else a (or_else b c)
or_else-assoc None b c = refl
or_else-assoc (Some w) b c = refl

-- of two logs, one behind the other, the later one counts where it has the key
pub winner-append : (xs ys : List Write) (key : List ℕ) → winner (xs ++ ys) key ≡ or_else (winner ys key) (winner xs key)
winner-append [] ys key = sym (or_else-none (winner ys key))
winner-append (x ∷ xs) ys key =
    ap (λ o. or_else o (cond (bytes_eq x.key key) (Some x) None)) (winner-append xs ys key)
    ∙ or_else-assoc (winner ys key) (winner xs key) (cond (bytes_eq x.key key) (Some x) None)

-- a write of the key behind which none has it
pub found : (log : List Write) (key : List ℕ) (place : ℕ) (w : Write) → place < length log → w ≡ get_or log place w
    → bytes_eq w.key key ≡ true → winner (drop (place + 1) log) key ≡ None → IsWinner log key place
found log key place w inside is same none =
    let split : log ≡ take place log ++ w ∷ drop (place + 1) log =
    sym (take-append-drop place log)
    ∙ ap (λ (l : List Write). take place log ++ l)
    (drop_more log place w inside ∙ ap (λ (x : Write). x ∷ drop (place + 1) log) (sym is)) in
    record {
      before = take place log;
      write = w;
      later = drop (place + 1) log;
      whole = split;
      at = length-take-le place log (omega (arith, inside));
      is_last = ap (λ (l : List Write). winner l key) split
          ∙ winner-append (take place log) (w ∷ drop (place + 1) log) key
          ∙ ap (λ (o : Option Write). or_else (or_else o (cond (bytes_eq w.key key) (Some w) None)) (winner (take place log) key)) none
          ∙ ap (λ (b : Bool). or_else (or_else None (cond b (Some w) None)) (winner (take place log) key)) same;
      none_later = none;
    }
