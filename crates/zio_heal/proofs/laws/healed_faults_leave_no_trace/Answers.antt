use Rattle.zio_heal.proofs.SameReplies.{same_law}
use Rattle.zio_heal.proofs.laws.healed_faults_leave_no_trace.Goals as goal

pub returns : goal.returns
returns c = same_law
