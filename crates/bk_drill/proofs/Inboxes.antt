-- What a read gives an inbox.
use Rattle.std.proofs.Common.{◌≡◌, ℕ, ◌+◌, ◌<◌, ◌≤◌, List, ◌++◌, length, take, drop, Bool}
use Rattle.std.proofs.Common.{arith, IsTrue}
use Rattle.std.proofs.lemmas.List.{length-take-le}
use Rattle.bk_disk.specs.Streams.{Takes}
use Rattle.bk_drill.specs.Running.{LosesPiece, TakesPiece}
use Rattle.bk_script.specs.Script.{Script, taken}
use Rattle.bk_session.proofs.Inboxes.{took_piece}

pub takes_piece : (tells : Bool) (old new : Script) (whole now_whole into : List ℕ) (before now n : ℕ)
    → new ≡ record old { rest = old.rest ++ take n into } → 0 < n → n ≤ length into
    → (IsTrue tells → Takes whole before now n into) → (IsTrue tells → now_whole ≡ whole)
    → TakesPiece tells old new (drop before whole) (drop now now_whole)
takes_piece tells old new whole now_whole into before now n is some inside took same = record {
  piece = take n into;
  some = omega (arith, some, length-take-le n into inside);
  script = is;
  bytes = λ t. took_piece whole now_whole into before now n (took t) (same t);
}

pub loses_piece : (tells : Bool) (old : Script) (whole now_whole into : List ℕ) (before now n : ℕ)
    → n ≤ length into → taken old + n ≤ old.most
    → (IsTrue tells → Takes whole before now n into) → (IsTrue tells → now_whole ≡ whole)
    → LosesPiece tells old (drop before whole) (drop now now_whole)
loses_piece tells old whole now_whole into before now n inside few took same = record {
  piece = take n into;
  within = omega (arith, few, length-take-le n into inside);
  bytes = λ t. took_piece whole now_whole into before now n (took t) (same t);
}
