-- What a read gives an inbox.
use Rattle.std.proofs.Common.{◌≡◌, ◌∙◌, ℕ, ◌+◌, ◌<◌, ◌≤◌, List, ◌++◌, length, take, drop, Bool, sym, ap}
use Rattle.std.proofs.Common.{arith, IsTrue}
use Rattle.std.proofs.Math.Seq.{drop-drop}
use Rattle.std.proofs.lemmas.List.{length-take-le, take-append-drop}
use Rattle.bk_disk.specs.Streams.{Takes}
use Rattle.bk_session.specs.Progress.{LosesPiece, TakesPiece}
use Rattle.bk_wire.specs.Stream.{Stream, taken}

-- what a read took of the source
pub took_piece : (whole now_whole into : List ℕ) (before now n : ℕ) → Takes whole before now n into
    → now_whole ≡ whole → drop before whole ≡ take n into ++ drop now now_whole
took_piece whole now_whole into before now n took same =
    sym (take-append-drop n (drop before whole))
    ∙ ap (λ (l : List ℕ). l ++ drop n (drop before whole)) (sym took.bytes)
    ∙ ap (λ (l : List ℕ). take n into ++ l)
    (drop-drop n before whole ∙ ap (λ (m : ℕ). drop m whole) (sym took.moved)
    ∙ ap (λ (w : List ℕ). drop now w) (sym same))

pub takes_piece : (tells : Bool) (old new : Stream) (whole now_whole into : List ℕ) (before now n : ℕ)
    → new.rest ≡ old.rest ++ take n into → new.offset ≡ old.offset → 0 < n → n ≤ length into
    → (IsTrue tells → Takes whole before now n into) → (IsTrue tells → now_whole ≡ whole)
    → TakesPiece tells old new (drop before whole) (drop now now_whole)
takes_piece tells old new whole now_whole into before now n rest offset some inside took same = record {
  piece = take n into;
  some = omega (arith, some, length-take-le n into inside);
  offset = offset;
  rest = rest;
  bytes = λ t. took_piece whole now_whole into before now n (took t) (same t);
}

pub loses_piece : (tells : Bool) (old : Stream) (whole now_whole into : List ℕ) (before now n : ℕ)
    → n ≤ length into → taken old + n ≤ old.most
    → (IsTrue tells → Takes whole before now n into) → (IsTrue tells → now_whole ≡ whole)
    → LosesPiece tells old (drop before whole) (drop now now_whole)
loses_piece tells old whole now_whole into before now n inside few took same = record {
  piece = take n into;
  within = omega (arith, few, length-take-le n into inside);
  bytes = λ t. took_piece whole now_whole into before now n (took t) (same t);
}
