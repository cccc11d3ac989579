use Rattle.zio_disks.specs.Disks.{AreSameDisks}
use Rattle.zio_turns.specs.UnderTurns.{work_left}
use Rattle.zio_turns.specs.Wrote.{TellWrote}
use Rattle.zio_turns.proofs.DriveMoves.{IsDriving}
use Rattle.zio_turns.proofs.drive.run_on.Given as goal

abbrev pub invariant-picks : goal.invariant-picks
invariant-picks g l =
    AreSameDisks g.D.Disk.bytes g.D.Disk.faults g.D.Disk.faults_at_fetch g.D.Disk.home g.D.Disk.image g.D.Disk.sound l.initial.grounds.disks.items
    l.grounds.disks.items
    × IsDriving g.N.NodeFacts.nodes g.D.Disk.bytes g.D.Disk.faults g.D.Disk.image g.N.Staged.over l.initial.turns.nodes l.initial.turns.line
    l.initial.grounds l.turns.nodes l.turns.line l.grounds
    × TellWrote g.N.NodeFacts.nodes g.D.Disk.bytes g.D.Disk.image g.D.Disk.went l.initial.turns.nodes l.initial.turns.line
    l.initial.grounds l.grounds.disks.items

abbrev pub decreases-picks : goal.decreases-picks
decreases-picks g l = work_left g.N.NodeFacts.nodes.left l.turns.nodes l.turns.line l.grounds
