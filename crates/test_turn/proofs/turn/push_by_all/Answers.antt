use Rattle.std.proofs.Common.{◌≡◌, ◌≤◌, ◌-◌, length, ap, arith, ◌∙◌}
use Rattle.bk_turn.specs.declared.views.View.{View}
use Rattle.bk_turn.specs.Handles.{turn_id, pass_view}
use Rattle.bk_turn.proofs.Rows.{splits_weigh, splits_are_passes, weights_kept}
use Rattle.test_turn.proofs.turn.push_by_all.Goals as goal

pub push_by_each-requires : goal.push_by_each-requires
push_by_each-requires g c = let split = c.split_into-pass in
    let passes =
    splits_are_passes (turn_id c.args.turn.now) (pass_view c.args.pass) split.new.places
    split.ensures.given in
    let few : length split.new.places ≤ 16 = let same = split.auto.places in let most =
    c.requires.places.1 in omega arith in
    (c.type_bounds.sync-R, (passes, few))

pub returns-clause-weight : goal.returns-clause-weight
returns-clause-weight g c = let split = c.split_into-pass in let each = c.push_by_each in
    let w = splits_weigh (turn_id c.args.turn.now) (pass_view c.args.pass) split.new.places split.ensures.given in
    let kept : (pass_view split.result).weight ≡ (pass_view c.args.pass).weight - length c.args.places.now
    = ap (λ (v : View). v.weight) split.ensures.kept in
    let joined = c.join_from.ensures.keeps.weighs in
    let p = weights_kept split.new.places each.new.places each.auto.places each.ensures.weight in omega arith
