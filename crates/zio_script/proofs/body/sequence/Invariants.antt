use Rattle.zio_script.proofs.BodyLemmas.{IsSequenceFront}
use Rattle.zio_script.proofs.body.sequence.Given as goal

abbrev pub invariant-loop-left : goal.invariant-loop-left
invariant-loop-left l = IsSequenceFront l.seed l.len l.state l.left l.bytes

abbrev pub decreases-loop-left : goal.decreases-loop-left
decreases-loop-left l = l.left
