use Rattle.std.proofs.Common.{arith}
use Rattle.zio_script.proofs.BuilderLemmas.{kept_clear}
use Rattle.zio_script.proofs.builder.Builder.add_clear.Goals as goal

pub returns-clause-kept : goal.returns-clause-kept
returns-clause-kept c = kept_clear c.args.self.now c.push.new.self c.requires c.in_ok-push.ensures.ok (omega arith)
