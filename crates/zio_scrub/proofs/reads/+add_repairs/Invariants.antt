use Rattle.std.proofs.Common.{length}
use Rattle.zio_scrub.proofs.reads.+add_repairs.Given as goal

abbrev pub decreases-add_repairs : goal.decreases-add_repairs
decreases-add_repairs l = length l.marks.now
