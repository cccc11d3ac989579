use Rattle.zio_script.proofs.BuilderLemmas.{kept_go, no_batch}
use Rattle.zio_script.proofs.builder.Builder.add_go.Goals as goal

pub returns-clause-kept : goal.returns-clause-kept
returns-clause-kept c =
    kept_go c.args.self.now c.push.new.self c.clear.new.self c.requires c.in_ok-push.ensures.ok
    (no_batch c.args.self.now.apart c.clear.new.self c.clear.ensures.marks c.clear.ensures.size c.clear.ensures.claim c.clear.ensures.names)
