use Rattle.std.proofs.Common.{arith, subst, sym}
use Rattle.bk_disk.specs.Told.{Told}
use Rattle.bk_load.specs.Tidying.{NoneLent}
use Rattle.bk_load.proofs.Going.{goes_same, synced_goes, syncs_too}
use Rattle.bk_load.proofs.calls.sync_file.Goals as goal

pub returns-in-Ok-clause-course : goal.returns-in-Ok-clause-course
returns-in-Ok-clause-course g c = record {
  came = record {
    faults = c.sync.ensures.cause.later;
    views = omega (arith, c.sync.ensures.views);
    outs = c.sync.ensures.outs;
    goes = λ tells. synced_goes c.args.name _ _ (c.in-Ok.ensures.synced tells);
  };
  disk = λ is. absurd (cc is);
  read = λ is. absurd (cc is);
}

pub returns-in-Err-clause-course : goal.returns-in-Err-clause-course
returns-in-Err-clause-course g c = record {
  came = record {
    faults = c.sync.ensures.cause.later;
    views = omega (arith, c.sync.ensures.views);
    outs = c.sync.ensures.outs;
    goes = λ tells. goes_same _ _ (c.in-Err.ensures.err tells);
  };
  disk = λ is. c.in-Err.ensures.cause.failed;
  read = λ is. absurd (cc is);
}

pub returns-in-Ok-clause-lent : goal.returns-in-Ok-clause-lent
returns-in-Ok-clause-lent g c = λ tells. (synced_goes c.args.name _ _ (c.in-Ok.ensures.synced tells)).lent

pub returns-in-Err-clause-lent : goal.returns-in-Err-clause-lent
returns-in-Err-clause-lent g c = λ tells none.
    subst (λ (t : Told). NoneLent t.fronts) (sym (c.in-Err.ensures.err tells)) none

pub returns-in-Ok-clause-synced : goal.returns-in-Ok-clause-synced
returns-in-Ok-clause-synced g c = λ tells. syncs_too c.args.name _ _ (c.requires tells) (c.in-Ok.ensures.synced tells)
