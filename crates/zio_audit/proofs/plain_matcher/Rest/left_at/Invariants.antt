use Rattle.std.proofs.Common.{length}
use Rattle.zio_audit.proofs.plain_matcher.Rest.left_at.Given as goal

abbrev pub decreases-loop-piece : goal.decreases-loop-piece
decreases-loop-piece l = length l.piece
