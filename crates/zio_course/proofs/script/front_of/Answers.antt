use Rattle.zio_course.proofs.ScriptLemmas.{take_front}
use Rattle.zio_course.proofs.script.front_of.Goals as goal

pub returns : goal.returns
returns c front is = take_front c.args.whole.now front c.args.rest.now is
