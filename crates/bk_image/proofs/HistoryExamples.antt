-- A put, its delete and a second delete: what the history adds to the log. And the hint of a file with
-- one record.
use Rattle.std.proofs.Common.{◌≡◌, List, [], ◌∷◌, length, refl, arith}
use Rattle.bk_base.specs.Blanks.{blank_opening, blank_step}
use Rattle.bk_base.specs.declared.calls.Answer.{Answer}
use Rattle.bk_base.specs.declared.calls.Answer.TheVariants.{Nothing, Numbered}
use Rattle.bk_base.specs.declared.calls.Call.{Call}
use Rattle.bk_base.specs.declared.calls.Call.TheVariants.{Put, Delete}
use Rattle.bk_base.specs.declared.histories.Step.{Step}
use Rattle.bk_base.specs.declared.writes.Body.TheVariants.{Gone}
use Rattle.bk_base.specs.declared.writes.Write.{Write}
use Rattle.bk_laws.specs.Hint.{head_text, hint_text, row_text}
use Rattle.bk_laws.specs.History.{IsLegalHistory, log_of}
use Rattle.bk_laws.specs.Log.{IsLog}
use Rattle.bk_laws.specs.Record.{checksum_of, covered_of, fields_of, record_of}
use Rattle.bk_image.specs.Growth.{written_by}
use Rattle.bk_image.specs.RecoveredLog.{HintTrue}
use Rattle.bk_image.proofs.LegalLogs.{legal_log}
use Rattle.bk_image.proofs.OneFileExamples.{put, put_fits}
use Rattle.bk_image.proofs.TrueHints.{written_hint}

abbrev step : Call → Answer → Step
step call reply = record blank_step { entry = record { caller = 0; call = call; reply = reply } }

abbrev steps : List Step
steps =
    step (Put (97 ∷ []) (49 ∷ []) (record { 0 = 5 })) (Numbered (record { 0 = 1 }))
    ∷ step (Delete (97 ∷ []) (record { 0 = 5 })) (Numbered (record { 0 = 2 }))
    ∷ step (Delete (97 ∷ []) (record { 0 = 5 })) Nothing ∷ []

abbrev gone : Write
gone = record { seq = record { 0 = 2 }; moment = record { 0 = 5 }; key = 97 ∷ []; body = Gone }

log_is : log_of blank_opening steps ≡ put 1 97 49 ∷ gone ∷ []
log_is = refl

legal : IsLegalHistory blank_opening steps
legal = (refl, ((refl, refl), (refl, tt)))

rises : IsLog (log_of blank_opening steps)
rises = legal_log blank_opening steps tt legal

first_adds : written_by (Put (97 ∷ []) (49 ∷ []) (record { 0 = 5 }))
    (Numbered (record { 0 = 1 })) ≡ put 1 97 49 ∷ []
first_adds = refl

last_adds : written_by (Delete (97 ∷ []) (record { 0 = 5 })) Nothing ≡ []
last_adds = refl

-- 31 bytes of the row, and the end mark of 30
hint_len : length (hint_text (put 1 97 49 ∷ [])) ≡ 61
unfolding row_text head_text record_of covered_of fields_of checksum_of
hint_len = refl

hint_is_true : HintTrue (hint_text (put 1 97 49 ∷ [])) 24 (put 1 97 49 ∷ [])
unfolding record_of covered_of fields_of checksum_of
hint_is_true =
    written_hint (put 1 97 49 ∷ []) [] 24
    (put_fits 1 97 49 (omega arith) (omega arith) (omega arith) (omega arith), tt) (omega arith)
    (omega arith)
