use Rattle.std.proofs.Common.{map, string_bytes}
use Rattle.zio_command.proofs.WordLemmas.{is_load}
use Rattle.zio_command.proofs.words.read_load.Goals as goal

pub returns-in-Some-clause-memory : goal.returns-in-Some-clause-memory
returns-in-Some-clause-memory c e =
    is_load (map string_bytes c.args.words.now) _ _ (map string_bytes c.in-Some.names.now) c.in-Some.ensures
    (c.are_images.ensures.0 c.if-are_images.true)
