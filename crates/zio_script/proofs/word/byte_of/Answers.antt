use Rattle.std.proofs.Common.{rules}
use Rattle.zio_script.proofs.WordLemmas.{byte_of_sized}
use Rattle.zio_script.proofs.word.byte_of.Goals as goal

pub returns-in_err-ok : goal.returns-in_err-ok
returns-in_err-ok c =
    let sized = byte_of_sized c.args.word.now in
    let value = c.decode_to_slice.ensures.value in
    rw sized (grind (rules))
