use Rattle.zio_turns.specs.Slabs.{load}
use Rattle.zio_turns.proofs.TurnLoops.{IsTurning}
use Rattle.zio_turns.proofs.turn.run_turn.Given as goal

abbrev pub invariant-stages : goal.invariant-stages
invariant-stages g l =
    IsTurning g.N.NodeFacts.nodes g.N.Staged.over g.D.Disk.bytes g.D.Disk.image l.initial.turns.nodes l.initial.turns.line l.initial.grounds
    l.key l.turns.nodes l.turns.line l.grounds

abbrev pub decreases-stages : goal.decreases-stages
decreases-stages g l = load g.N.NodeFacts.nodes.left l.turns.nodes l.turns.line
