use Rattle.std.proofs.Common.{◌≡◌, ◌<◌, take}
use Rattle.zio_places.specs.Flags.{back_run, best_run}
use Rattle.zio_places.proofs.word.Word.first_run.Given as goal

abbrev pub invariant-loop-at : goal.invariant-loop-at
invariant-loop-at l = record {
  so_far : l.run ≡ back_run (take l.at l.self);
  shorter : l.run < l.count;
  none_yet : best_run (take l.at l.self) < l.count;
}
