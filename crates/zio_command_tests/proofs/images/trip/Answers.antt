use Rattle.std.proofs.Common.{rules}
use Rattle.zio_command.specs.Words.{AreImages}
use Rattle.zio_command.proofs.ShelfLemmas.{AreOut-fetched}
use Rattle.zio_command_tests.proofs.images.trip.Goals as goal

pub give_back_images-requires : goal.give_back_images-requires
give_back_images-requires c = record {
  home = λ tells.
      (
      let are : AreImages c.as_slice-2.result.now = search rules in
      let fetched = c.in-Ok.ensures.told tells in (c.as_slice-2.result.now, fetched.images, AreOut-fetched _ _ _ _ _ _ _ _ are.names fetched));
}
