-- What a result says, whichever it is.
use Rattle.std.proofs.Common.{Result, Ok, Err, OnErr}

-- whatever a call answered, a fact of its refusal
pub on_err : {T E : Type 0} {P : Type 0} (r : Result T E) → P → OnErr r P
on_err (Ok x) p = tt
on_err (Err e) p = p
