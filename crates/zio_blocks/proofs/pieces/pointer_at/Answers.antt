use Rattle.std.proofs.Common.{arith, rules}
use Rattle.zio_types.specs.Filled.{length-filled}
use Rattle.zio_types.specs.Choices.{no_place}
use Rattle.zio_blocks.proofs.pieces.pointer_at.Goals as goal

pub returns-clause-types : goal.returns-clause-types
returns-clause-types c = record {
  places = length-filled no_place 3 c.entry.inside.found c.entry.inside.places (record { fits = c.entry.invariant.fits; rest = c.entry.invariant.rest });
  birth = omega arith;
  words = search rules;
  each_word = search rules;
}
