use Rattle.std.proofs.Common.{ap, sym, ◌∙◌}
use Rattle.zio_script.specs.declared.script.Work.{Work}
use Rattle.zio_stages.specs.RequestKinds.{has_gang_stages}
use Rattle.zio_stages.proofs.request_node.RequestNode.has_gang_stages.Goals as goal

pub returns-in-Claim : goal.returns-in-Claim
returns-in-Claim c = c.points_to_gang.ensures ∙ ap (λ (w : Work). has_gang_stages w c.args.self.now.waiting.block) (sym c.in-Claim.is)
