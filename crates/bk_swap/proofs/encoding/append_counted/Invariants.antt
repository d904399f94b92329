use Rattle.std.proofs.Common.{◌≡◌, ◌+◌, ◌*◌, ◌≤◌, ◌++◌, length, take, vec_len, vec_capacity}
use Rattle.std.specs.Int.{w32, to_be_bytes}
use Rattle.bk_laws.specs.SwapList.{ids_text}
use Rattle.bk_swap.specs.Lists.{numbers}
use Rattle.bk_swap.proofs.encoding.append_counted.Given as goal

abbrev pub invariant-loop-id : goal.invariant-loop-id
invariant-loop-id l = record {
  text : l.out.items ≡ l.fn.out.items ++ to_be_bytes w32 (length l.ids) ++ ids_text (numbers (take l.id-index l.ids));
  len : vec_len l.out ≡ vec_len l.fn.out + 4 + 4 * l.id-index;
  room : vec_capacity l.fn.out ≤ vec_capacity l.out;
}
