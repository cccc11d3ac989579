use Rattle.std.proofs.Common.{◌<◌, None, length, ◌∙◌, refl, arith}
use Rattle.zio_turns.proofs.HelpMoves.{gathering_back, gathering_more}
use Rattle.zio_turns.proofs.helped.gathered.Goals as goal

pub loop-preserved : goal.loop-preserved
loop-preserved g c =
    let some : 0 < length c.loop.turns.line = omega (arith, c.take-next.ensures.len) in (
      c.take-next.ensures.nodes ∙ c.loop.invariant.0,
      gathering_more c.args.key c.args.turns.now.line c.loop.wanted.items c.loop.turns.line c.take-next.new.self.line c.loop.invariant.1
          c.take-next.result some c.take-next.ensures.key c.take-next.ensures.others c.take-next.ensures.len c.push-in-loop.new.self.items
          (record { key = c.take-next.result; ahead = None }) c.in_ok-push-2.ensures.items refl refl,
    )

pub returns-then-not-is_heavy-clause-same : goal.returns-then-not-is_heavy-clause-same
returns-then-not-is_heavy-clause-same g c =
    let some : 0 < length c.loop.turns.line = omega (arith, c.take-next.ensures.len) in
    (gathering_back c.args.key c.args.turns.now.line c.loop.wanted.items c.loop.turns.line c.take-next.new.self.line c.loop.invariant.1
    c.take-next.result some c.take-next.ensures.key c.take-next.ensures.others c.take-next.ensures.len c.requeue.new.self.line
    c.in_ok-requeue.ensures.line).same
