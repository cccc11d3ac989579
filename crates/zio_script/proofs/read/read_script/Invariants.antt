use Rattle.std.proofs.Common.{length}
use Rattle.zio_script.specs.Builders.{IsReadTo}
use Rattle.zio_script.proofs.read.read_script.Given as goal

abbrev pub invariant-loop-first : goal.invariant-loop-first
invariant-loop-first l = IsReadTo l.bytes l.line l.rest l.builder

abbrev pub decreases-loop-first : goal.decreases-loop-first
decreases-loop-first l = length l.rest
