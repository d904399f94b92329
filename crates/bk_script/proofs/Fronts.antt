-- The first line of some bytes.
use Rattle.std.proofs.Common.{◌≡◌, ◌≢◌, ℕ, ◌+◌, ◌-◌, ◌<◌, ◌≤◌, List, [], ◌∷◌, ◌++◌, length, take, drop, sym, ap, ◌∙◌, arith, append_assoc, length-append, length-drop, take-append-drop}
use Rattle.std.specs.List.{All}
use Rattle.std.proofs.lemmas.List.{drop_at, length-take-le, take_all}
use Rattle.bk_script.specs.declared.limits.TheConstants.{LONGEST_LINE}
use Rattle.bk_script.specs.Front.{IsFirst}

-- bytes with a line feed within the first n of them
pub first_found : (bytes : List ℕ) (n end : ℕ) (tail : List ℕ) → n ≤ LONGEST_LINE → length (take n bytes) ≤ n
    → All (λ b. b ≢ 10) (take end (take n bytes)) → drop end (take n bytes) ≡ 10 ∷ tail
    → IsFirst (take end (take n bytes)) bytes
first_found bytes n end tail most within none last =
    let w = take n bytes in
    let line = take end w in
    let inside : end < length w = omega (arith, length-drop end w, ap length last) in
    let size : length line ≡ end = length-take-le end w (omega (arith, inside)) in
    let more = tail ++ drop n bytes in
    let split : bytes ≡ line ++ 10 ∷ more =
    sym (take-append-drop n bytes)
    ∙ ap (λ x. x ++ drop n bytes) (sym (take-append-drop end w) ∙ ap (λ x. line ++ x) last)
    ∙ append_assoc line (10 ∷ tail) (drop n bytes) in
    let ended : bytes ≡ (line ++ 10 ∷ []) ++ more = split ∙ sym (append_assoc line (10 ∷ []) more) in
    let rest : drop (length line + 1) bytes ≡ more =
    ap (λ x. drop (length line + 1) x) ended
    ∙ drop_at (line ++ 10 ∷ []) more (length line + 1) (omega (arith, length-append line (10 ∷ []))) in
    record {
      no_end = none;
      short = omega (arith, size, inside, within, most);
      whole = split ∙ ap (λ x. line ++ 10 ∷ x) (sym rest);
    }

-- a slice from a place on
pub slice_from : (bytes : List ℕ) (start : ℕ) → take (length bytes - start) (drop start bytes) ≡ drop start bytes
slice_from bytes start =
    take_all (length bytes - start) (drop start bytes) (omega (arith, length-drop start bytes))
