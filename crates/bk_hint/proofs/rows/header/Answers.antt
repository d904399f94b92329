use Rattle.std.proofs.Common.{ℕ, ◌^◌, ◌<◌, Bool, true, false, cond, arith}
use Rattle.bk_base.specs.declared.limits.TheConstants.{TOMBSTONE}
use Rattle.bk_hint.proofs.rows.header.Goals as goal

field_fits : (gone : Bool) (n : ℕ) → n < 2 ^ 32 → cond gone TOMBSTONE n < 2 ^ 32
field_fits true n fits = omega arith
field_fits false n fits = fits

pub returns-clause-fits : goal.returns-clause-fits
returns-clause-fits c =
    let row = c.args.row.now in
    record {
      moment = omega arith;
      vsz = field_fits row.version.gone _ (omega arith);
      at = omega arith;
      seq = omega arith;
      crc = omega arith;
      key = record { bounds = c.bytes-ksz.ensures.bounds; bytes = c.bytes-ksz.ensures.octets };
    }
