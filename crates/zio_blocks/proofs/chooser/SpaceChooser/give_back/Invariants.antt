use Rattle.std.proofs.Common.{take}
use Rattle.zio_blocks.proofs.ChooserLemmas.{GaveBack}
use Rattle.zio_blocks.proofs.chooser.SpaceChooser.give_back.Given as goal

abbrev pub invariant-loop-place : goal.invariant-loop-place
invariant-loop-place l = GaveBack l.initial.self l.self (take l.place-index l.places)
