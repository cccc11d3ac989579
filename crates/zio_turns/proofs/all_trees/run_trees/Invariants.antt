use Rattle.std.proofs.Common.{◌≡◌, length}
use Rattle.zio_disks.specs.Disks.{AreSameDisks}
use Rattle.std.specs.List.{AllByRecursion, sum_by}
use Rattle.zio_turns.specs.UnderTrees.{StateIn, attempts_left}
use Rattle.zio_turns.specs.Wrote.{TreesTellWrote}
use Rattle.zio_turns.proofs.TreeLoops.{IsRunningTrees}
use Rattle.zio_turns.proofs.all_trees.run_trees.Given as goal

abbrev pub invariant-trees : goal.invariant-trees
invariant-trees g l =
    (AllByRecursion (StateIn (g.N.Staged.tree_over l.initial.grounds.desk.tops)) l.initial.trees.items
    → AllByRecursion (StateIn (g.N.Staged.tree_over l.initial.grounds.desk.tops)) l.trees.items) × AreSameDisks g.D.Disk.bytes g.D.Disk.faults g.D.Disk.faults_at_fetch g.D.Disk.home g.D.Disk.image g.D.Disk.sound l.initial.grounds.disks.items
    l.grounds.disks.items
    × IsRunningTrees g.N.NodeFacts.nodes g.N.Staged.over g.D.Disk.bytes g.D.Disk.faults g.D.Disk.image l.initial.turns.nodes
    l.initial.turns.line l.initial.grounds l.round l.failmode l.initial.trees.items l.initial.ended.items l.turns.nodes l.turns.line
    l.grounds l.trees.items l.ended.items
    × (length l.trees.items ≡ length l.initial.trees.items)
    × TreesTellWrote g.N.NodeFacts.nodes g.D.Disk.bytes g.D.Disk.image g.D.Disk.went l.initial.turns.nodes l.initial.turns.line
    l.initial.grounds l.round l.failmode l.initial.trees.items l.grounds.disks.items

abbrev pub decreases-trees : goal.decreases-trees
decreases-trees g l = sum_by attempts_left l.trees.items
