use Rattle.std.proofs.Common.{ap, ◌∙◌}
use Rattle.zio_places.specs.Words.{flags_of}
use Rattle.zio_places.proofs.WordLemmas.{flags_of-ones}
use Rattle.zio_places.proofs.word.Word.all_free.Goals as goal

pub returns : goal.returns
returns c = ap (λ bits. flags_of bits c.args.len) c.low_ones.ensures ∙ flags_of-ones c.args.len
