-- Room behind the bytes of a buffer: how it comes there, and that it stays when bytes go off the front.
use Rattle.std.proofs.Common.{◌≡◌, ℕ, ◌+◌, ◌-◌, ◌≤◌, List, ◌++◌, length, replicate, take, drop, refl, sym, ap, ◌∙◌, arith, length-append}
use Rattle.std.proofs.lemmas.List.{drop-take, take_all, take_at, length-drop, length-replicate}
use Rattle.bk_wire.specs.Room.{HasRoom}

pub put_behind : (xs : List ℕ) (room n : ℕ) → n ≡ length xs + room
    → HasRoom xs room (take n xs ++ replicate (n - length xs) 0)
put_behind xs room n is =
    let all : take n xs ≡ xs = take_all n xs (omega (arith, is)) in (
      ap (λ (l : List ℕ). take (length xs) (l ++ replicate (n - length xs) 0)) all
          ∙ take_at xs (replicate (n - length xs) 0) (length xs) refl,
      omega (
        arith,
        is,
        length-append (take n xs) (replicate (n - length xs) 0),
        ap (λ (l : List ℕ). length l) all,
        length-replicate {A = ℕ} (n - length xs) 0,
      ),
    )

pub room_stays : (xs ys : List ℕ) (room count : ℕ) → count ≤ length xs → HasRoom xs room ys
    → HasRoom (drop count xs) room (drop count ys)
room_stays xs ys room count within has =
    let left : count + (length xs - count) ≡ length xs = omega (arith, within) in (
      ap (λ (n : ℕ). take n (drop count ys)) (length-drop count xs) ∙ sym (drop-take count (length xs - count) ys)
          ∙ ap (λ (n : ℕ). drop count (take n ys)) left ∙ ap (λ (l : List ℕ). drop count l) has.0,
      omega (arith, within, has.1, length-drop count xs, length-drop count ys),
    )
