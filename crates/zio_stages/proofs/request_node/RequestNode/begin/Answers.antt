use Rattle.std.proofs.Common.{refl}
use Rattle.zio_stages.specs.declared.request_node.Own.TheVariants.{Due}
use Rattle.zio_stages.specs.declared.request_node.RequestNode.{RequestNode}
use Rattle.zio_stages.proofs.RequestNodeLemmas.{fresh_request}
use Rattle.zio_stages.proofs.request_node.RequestNode.begin.Goals as goal

pub returns-in-Ok-clause-fresh : goal.returns-in-Ok-clause-fresh
returns-in-Ok-clause-fresh c = λ t p forest round failmode tree.
    let r : RequestNode = record {
      waiting = c.in-Ok.waiting;
      kids = c.in-Ok.kids;
      own = Due;
      family = c.new.result;
      round = c.args.round;
      attempt = c.args.attempt;
      failmode = c.args.failmode;
    } in
    fresh_request t r p forest (c.in-Ok.ensures.kids c.args.attempt p forest tree) c.in-Ok.ensures.kept refl c.new.ensures round failmode
