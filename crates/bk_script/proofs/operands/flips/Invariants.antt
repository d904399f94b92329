use Rattle.std.proofs.Common.{◌≡◌, ◌<◌, ◌^◌, ◌++◌, map, drop, decimal}
use Rattle.std.specs.List.{All}
use Rattle.bk_script.specs.Words.{now_of}
use Rattle.bk_script.proofs.operands.flips.Given as goal

abbrev pub invariant-loop-word : goal.invariant-loop-word
invariant-loop-word l =
    All (λ n. n < 2 ^ 64) l.offsets.items
    × (map decimal l.offsets.items ++ now_of (drop l.word-index l.operands) ≡ now_of l.operands)
