use Rattle.std.proofs.Common.{ap}
use Rattle.bk_files.specs.Catalog.{Known}
use Rattle.bk_store.proofs.Pasts.{past_half_rolled, past_rolled}
use Rattle.bk_store.proofs.appending.make_place.Goals as goal

pub returns-in_err-roll-clause-rest : goal.returns-in_err-roll-clause-rest
returns-in_err-roll-clause-rest g c = record {
  consistent = c.in_err-roll.ensures.consistent;
  past = λ tells. past_half_rolled c.args.files.now.catalog c.args.files.now.told c.roll.new.self.told
      (c.in_err-roll.ensures.half tells);
  later = c.in_err-roll.ensures.later;
  views = c.in_err-roll.ensures.views;
  outs = c.in_err-roll.ensures.outs;
  limit = ap (λ (k : Known). k.max_file) c.in_err-roll.ensures.err;
}

pub returns-clause-rest : goal.returns-clause-rest
returns-clause-rest g c = record {
  consistent = c.in_ok-roll.ensures.consistent;
  past = λ tells. past_rolled c.args.files.now.catalog c.args.files.now.told c.roll.new.self.told
      (c.in_ok-roll.ensures.rolled tells);
  later = c.in_ok-roll.ensures.later;
  views = c.in_ok-roll.ensures.views;
  outs = c.in_ok-roll.ensures.outs;
  limit = c.in_ok-roll.ensures.ok.max_file;
}
