use Rattle.zio_script.proofs.LineShapeLemmas.{short_request}
use Rattle.zio_script.proofs.shapes.request_shape.Goals as goal

pub returns-in_default : goal.returns-in_default
returns-in_default c = short_request c.args.words.now c.in_default.len_below
