use Rattle.std.proofs.Common.{◌<◌, length, ◌∙◌, ap, refl, arith, get_or}
use Rattle.zio_tasks.specs.declared.hand.Pile.{Pile}
use Rattle.zio_tasks.specs.Rule.{pile, first_of, rest_of}
use Rattle.zio_tasks.specs.declared.tasks.TaskPass.{TaskPass}
use Rattle.zio_tasks.specs.Team.{Joins}
use Rattle.zio_tasks.proofs.Moves.{deal_goes}
use Rattle.zio_tasks.proofs.Recruits.{dealt_view, join_step, join_rest}
use Rattle.zio_tasks.proofs.tasks.join_all.Goals as goal

pub another-requires-clause-rule : goal.another-requires-clause-rule
another-requires-clause-rule g c =
    let within : c.loop-pass.pass-index < length c.args.team.now = omega arith in
    deal_goes _ _ _ _ _ (dealt_view g.row.T.Denot _ _ _ within c.loop-pass.invariant.1)

pub loop-pass-preserved : goal.loop-pass-preserved
loop-pass-preserved g c =
    let within : c.loop-pass.pass-index < length c.args.team.now = omega arith in
    let v = dealt_view g.row.T.Denot _ _ _ within c.loop-pass.invariant.1 in
    let there : c.loop-pass.pass-index < length c.loop-pass.team = omega arith in
    let after : TaskPass g.row.T.Denot = record { number = (get_or c.loop-pass.team c.loop-pass.pass-index c.pass-item.result).number; parts = c.push.new.self } in
    let left = ap (λ (y : Pile g.row.T.Denot). pile (rest_of y.hands) y.passes) v in
    let right = ap (λ (y : Pile g.row.T.Denot). pile (first_of y.hands) y.passes) v in
    let joins : Joins (length c.args.team.now) c.loop-pass.pass-index c.args.queue.now (get_or c.loop-pass.team c.loop-pass.pass-index c.pass-item.result) after = record { part = c.another.result; same = refl; parts = c.in_ok-push.ensures.items; seat = c.another.ensures.queue.1; fresh = c.another.ensures.rule.1 ∙ right } in (
      (c.another.ensures.queue.0.0 ∙ c.loop-pass.invariant.0.0, c.another.ensures.queue.0.2 ∙ c.loop-pass.invariant.0.1),
      c.another.ensures.rule.0 ∙ left,
      join_step (length c.args.team.now) c.loop-pass.pass-index c.args.queue.now c.args.team.now c.loop-pass.team c.pass-item.result after there c.pass-item.is c.loop-pass.invariant.2 c.loop-pass.invariant.3 joins,
      join_rest (length c.args.team.now) c.loop-pass.pass-index c.args.queue.now c.args.team.now c.loop-pass.team c.pass-item.result after there c.pass-item.is c.loop-pass.invariant.2 c.loop-pass.invariant.3 joins,
    )
