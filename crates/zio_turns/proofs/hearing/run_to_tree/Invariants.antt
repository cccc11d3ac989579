use Rattle.zio_disks.specs.Disks.{AreSameDisks}
use Rattle.zio_turns.specs.UnderTurns.{work_left}
use Rattle.zio_turns.specs.Wrote.{TellWrote}
use Rattle.zio_turns.proofs.HearingMoves.{IsHearing}
use Rattle.zio_turns.proofs.hearing.run_to_tree.Given as goal

abbrev pub invariant-told : goal.invariant-told
invariant-told g l =
    AreSameDisks g.D.Disk.bytes g.D.Disk.faults g.D.Disk.faults_at_fetch g.D.Disk.home g.D.Disk.image g.D.Disk.sound l.initial.grounds.disks.items
    l.grounds.disks.items
    × IsHearing g.N.NodeFacts.nodes g.N.Staged.over g.D.Disk.bytes g.D.Disk.faults g.D.Disk.image l.initial.turns.nodes
    l.initial.turns.line l.initial.grounds l.initial.ended.items l.turns.nodes l.turns.line l.grounds l.ended.items
    × TellWrote g.N.NodeFacts.nodes g.D.Disk.bytes g.D.Disk.image g.D.Disk.went l.initial.turns.nodes l.initial.turns.line
    l.initial.grounds l.grounds.disks.items

abbrev pub decreases-told : goal.decreases-told
decreases-told g l = work_left g.N.NodeFacts.nodes.left l.turns.nodes l.turns.line l.grounds
