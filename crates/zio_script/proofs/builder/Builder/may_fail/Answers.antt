use Rattle.zio_script.specs.Builders.{batch_of}
use Rattle.zio_script.proofs.BatchSizeLemmas.{stand_within}
use Rattle.zio_script.proofs.builder.Builder.may_fail.Goals as goal

pub is_under_must-requires : goal.is_under_must-requires
is_under_must-requires c =
    stand_within _ _ (batch_of c.args.self.now) c.args.self.now.batch c.args.asked.now.under c.args.stand c.requires.kept.batch c.requires.kept.orderly.last c.requires.stand
