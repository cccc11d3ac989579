use Rattle.std.proofs.Common.{refl}
use Rattle.zio_gang.specs.Attempts.{writing_of}
use Rattle.zio_trace.specs.Programs.{Ends, ask}
use Rattle.zio_trace.specs.Tasks.{StoredAs, nowhere}
use Rattle.zio_parts.proofs.PartTaskLemmas.{part_sector}
use Rattle.zio_parts.proofs.part_laws.parts_are_written_by_their_plans.Goals as goal

pub returns : goal.returns
returns c = record {
  levels = λ t attempt p sum copies levels path bytes. refl;
  sector = λ t attempt p sum copies member path bytes small.
      part_sector (writing_of t attempt p sum copies) (λ below part. Ends (StoredAs nowhere)) (λ below part. ask (member below part)) path bytes small;
}
