use Rattle.std.proofs.Common.{length}
use Rattle.zio_scrub.proofs.heard.+all_good.Given as goal

abbrev pub decreases-all_good : goal.decreases-all_good
decreases-all_good l = length l.marks.now
