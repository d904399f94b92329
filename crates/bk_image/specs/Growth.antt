-- The write that a step of a history adds to the log.
use Rattle.std.specs.Prelude.{List, [], ◌∷◌}
use Rattle.bk_base.specs.declared.calls.Answer.{Answer}
use Rattle.bk_base.specs.declared.calls.Answer.TheVariants.{Numbered}
use Rattle.bk_base.specs.declared.calls.Call.{Call}
use Rattle.bk_base.specs.declared.calls.Call.TheVariants.{Put, Delete, Reap}
use Rattle.bk_base.specs.declared.writes.Body.TheVariants.{Put as put_body, Gone as gone_body}
use Rattle.bk_base.specs.declared.writes.Write.{Write}

-- A put, a delete and a reap that were answered by a number add one write; all else adds none.
abbrev pub written_by : Call → Answer → List Write
written_by (Put key value now) (Numbered n) =
    (record { seq = n; moment = now; key = key; body = put_body value }) ∷ []
written_by (Delete key now) (Numbered n) =
    (record { seq = n; moment = now; key = key; body = gone_body }) ∷ []
written_by (Reap key now) (Numbered n) =
    (record { seq = n; moment = now; key = key; body = gone_body }) ∷ []
written_by call reply = []
