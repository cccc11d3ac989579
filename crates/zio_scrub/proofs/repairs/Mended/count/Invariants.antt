use Rattle.std.proofs.Common.{◌≡◌, ◌+◌, ◌≤◌, take}
use Rattle.zio_scrub.specs.Repairs.{errors_of}
use Rattle.zio_scrub.specs.Scrubs.{failed_in, repaired_in}
use Rattle.zio_scrub.proofs.repairs.Mended.count.Given as goal

abbrev pub invariant-loop-answer : goal.invariant-loop-answer
invariant-loop-answer l = record {
  repaired : l.self.repaired ≡ l.initial.self.repaired + repaired_in (errors_of (take l.answer-index l.answers));
  failed : l.self.failed ≡ l.initial.self.failed + failed_in (errors_of (take l.answer-index l.answers));
  most : l.self.repaired + l.self.failed ≤ l.initial.self.repaired + l.initial.self.failed + l.answer-index;
}
