use Rattle.zio_script.proofs.LineShapeLemmas.{short_read}
use Rattle.zio_script.proofs.shapes.read_shape.Goals as goal

pub returns-in_default : goal.returns-in_default
returns-in_default c = short_read c.args.number.now c.args.words.now c.in_default.len_below
