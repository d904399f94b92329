use Rattle.std.proofs.Common.{◌≤◌, length, arith}
use Rattle.bk_base.specs.declared.limits.TheConstants.{LONGEST_SETTINGS}
use Rattle.bk_policy.proofs.Refusals.{refused}
use Rattle.bk_policy.proofs.settings.Settings.read.Goals as goal

pub returns-in-Ok-clause-refused : goal.returns-in-Ok-clause-refused
returns-in-Ok-clause-refused c =
    let short : length c.args.text.now ≤ LONGEST_SETTINGS = omega (arith, c.if-text.false) in
    refused c.args.text.now short _ c.in-Ok.ensures.ok c.of_table.result c.of_table.ensures
