use Rattle.std.proofs.Common.{[], true, refl}
use Rattle.zio_stages.specs.declared.heads_node.HeadsNode.{HeadsNode}
use Rattle.zio_stages.proofs.HeadsOver.{claim_fresh, fresh_over}
use Rattle.zio_stages.proofs.heads_node.HeadsNode.claimed.Goals as goal

pub returns-clause-fresh : goal.returns-clause-fresh
returns-clause-fresh c = λ t tops. record { children = c.new.ensures; alone = refl; begun = []; since = tt; part = c.claimed.ensures.fresh t tops; inside = λ n op left e is. absurd (cc) }

pub returns-clause-over : goal.returns-clause-over
returns-clause-over c =
    let node : HeadsNode = record { work = c.claimed.result; family = c.new.result; name = c.args.name; prio = c.args.prio } in
    let judged = c.claimed.result.walk.judged in
    fresh_over c.args.tops.now node true c.args.levels c.args.path c.args.bp judged c.claimed.ensures.walk c.requires.valid c.requires.named c.new.ensures
    (claim_fresh c.args.tops.now c.claimed.result true c.args.levels c.args.path c.args.bp judged c.claimed.ensures.walk c.claimed.ensures.judged c.requires.tops)
