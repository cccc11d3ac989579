use Rattle.std.proofs.Common.{length}
use Rattle.zio_command.proofs.shelf.+give_back_rest.Given as goal

abbrev pub decreases-give_back_rest : goal.decreases-give_back_rest
decreases-give_back_rest g l = length l.disks
