use Rattle.std.proofs.Common.{length}
use Rattle.zio_graph.proofs.flush.+sync_all.Given as goal

abbrev pub decreases-sync_all : goal.decreases-sync_all
decreases-sync_all g l = length l.disks.now
