use Rattle.std.proofs.Common.{[], false, None, refl}
use Rattle.zio_stages.specs.declared.heads_node.HeadsNode.{HeadsNode}
use Rattle.zio_stages.proofs.HeadsOver.{fresh_over, kept_fresh}
use Rattle.zio_stages.proofs.heads_node.HeadsNode.kept.Goals as goal

pub returns-clause-fresh : goal.returns-clause-fresh
returns-clause-fresh c = λ t. record { children = c.new.ensures; alone = refl; begun = []; since = tt; part = c.kept.ensures.fresh t; inside = λ n op left e is. absurd (cc) }

pub returns-clause-over : goal.returns-clause-over
returns-clause-over c = λ tops on all.
    let node : HeadsNode = record { work = c.kept.result; family = c.new.result; name = c.args.name; prio = c.args.prio } in
    fresh_over tops node false c.args.levels c.args.path c.args.bp None c.kept.ensures.walk c.requires.valid c.requires.named c.new.ensures
    (kept_fresh tops c.kept.result false c.args.levels c.args.path c.args.bp None c.args.heads c.kept.ensures.walk c.kept.ensures.heads on all)
