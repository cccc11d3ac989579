use Rattle.std.proofs.Common.{◌≡◌, map, take}
use Rattle.zio_graph.specs.Ends.{completion_of}
use Rattle.zio_graph.proofs.ends.completions_of.Given as goal

abbrev pub invariant-loop-one : goal.invariant-loop-one
invariant-loop-one g l = l.completions ≡ map (completion_of l.round) (take l.one-index l.ended)
