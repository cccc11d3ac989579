use Rattle.std.proofs.Common.{length}
use Rattle.zio_audit_run.proofs.fetch.+fetch_each.Given as goal

abbrev pub decreases-fetch_each : goal.decreases-fetch_each
decreases-fetch_each g l = length l.words.now
