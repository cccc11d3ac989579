use Rattle.zio_plain.proofs.settle.+settle_from.Given as goal

abbrev pub decreases-settle_from : goal.decreases-settle_from
decreases-settle_from g l = l.more
