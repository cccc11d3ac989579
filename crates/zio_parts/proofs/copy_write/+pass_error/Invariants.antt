use Rattle.std.proofs.Common.{length}
use Rattle.zio_parts.proofs.copy_write.+pass_error.Given as goal

abbrev pub decreases-pass_error : goal.decreases-pass_error
decreases-pass_error l = length l.places.now
