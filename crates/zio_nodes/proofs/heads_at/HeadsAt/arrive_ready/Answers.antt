use Rattle.zio_nodes.proofs.HeadsLemmas.{heard_walk, nothing_to_tell}
use Rattle.zio_nodes.proofs.heads_at.HeadsAt.arrive_ready.Goals as goal

pub returns-clause-over : goal.returns-clause-over
returns-clause-over c = λ tops h. record {
  over = c.arrive_ready.ensures.over tops h.over;
  stands = heard_walk c.args.self.now.stage c.args.self.now.node.work.walk c.arrive_ready.new.self.work.walk h.stands (nothing_to_tell c.args.self.now c.args.child c.requires);
}
