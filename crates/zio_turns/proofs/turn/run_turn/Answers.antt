use Rattle.zio_turns.proofs.TurnLoops.{turning_begins, turning_can, turning_ends, turning_finishes, turning_goes, turning_leaves, turning_leaves_less, turning_queued_less, turning_queues, turning_rests, turning_roots, turning_same, turning_takes, turning_told}
use Rattle.zio_turns.proofs.turn.run_turn.Goals as goal

pub stages-init : goal.stages-init
stages-init g c =
    turning_begins g.N.NodeFacts.nodes g.N.Staged.over g.D.Disk.bytes g.D.Disk.image c.args.turns.now.nodes c.args.turns.now.line
    c.args.grounds.now c.args.key c.requires.over

pub step-requires : goal.step-requires
step-requires g c =
    turning_can g.N.NodeFacts.nodes g.N.Staged.over g.D.Disk.bytes g.D.Disk.image c.args.turns.now.nodes c.args.turns.now.line
    c.args.grounds.now c.args.key c.stages.turns.nodes c.stages.turns.line c.stages.grounds c.stages.invariant c.requires.going

pub stages-preserved : goal.stages-preserved
stages-preserved g c =
    let s = rw c.in-Told.is at c.in-Ok.ensures.steps in
    turning_told g.N.NodeFacts.nodes g.N.Staged.over g.D.Disk.bytes g.D.Disk.image c.args.turns.now.nodes c.args.turns.now.line
    c.args.grounds.now c.args.key c.stages.turns.nodes c.stages.turns.line c.stages.grounds c.stages.invariant c.requires.going
    c.step.new.self.nodes c.step.new.self.line c.step.new.services s.0 s.1 s.5 s.3 c.step.ensures.tops c.in-Told.field-0 s.4
    c.in-Ok.ensures.over (rw c.in-Told.is at c.in-Ok.ensures.less)

pub stages-preserved-else-queued : goal.stages-preserved-else-queued
stages-preserved-else-queued g c =
    let s = rw c.in-Goes.is at c.in-Ok.ensures.steps in
    turning_same g.N.NodeFacts.nodes g.N.Staged.over g.D.Disk.bytes g.D.Disk.image c.args.turns.now.nodes c.args.turns.now.line
    c.args.grounds.now c.args.key c.step.new.self.nodes c.step.new.self.line (record c.stages.grounds { desk = c.step.new.services })
    (turning_goes g.N.NodeFacts.nodes g.N.Staged.over g.D.Disk.bytes g.D.Disk.image c.args.turns.now.nodes c.args.turns.now.line
    c.args.grounds.now c.args.key c.stages.turns.nodes c.stages.turns.line c.stages.grounds c.stages.invariant c.requires.going
    c.step.new.self.nodes c.step.new.self.line c.step.new.services s.0 s.1 s.5 s.3 c.step.ensures.tops s.4 c.in-Ok.ensures.over
    (rw c.in-Goes.is at c.in-Ok.ensures.less))
    c.requires.going c.queue_heavy.new.turns.nodes c.queue_heavy.new.turns.line c.queue_heavy.ensures.nodes
    (rw c.if-queued.false at c.in-Ok-queue_heavy.ensures.line)

pub returns-then-queued-clause-turns : goal.returns-then-queued-clause-turns
returns-then-queued-clause-turns g c =
    let s = rw c.in-Goes.is at c.in-Ok.ensures.steps in
    turning_queues g.N.NodeFacts.nodes g.N.Staged.over g.D.Disk.bytes g.D.Disk.image c.args.turns.now.nodes c.args.turns.now.line
    c.args.grounds.now c.args.key c.step.new.self.nodes c.step.new.self.line (record c.stages.grounds { desk = c.step.new.services })
    (turning_goes g.N.NodeFacts.nodes g.N.Staged.over g.D.Disk.bytes g.D.Disk.image c.args.turns.now.nodes c.args.turns.now.line
    c.args.grounds.now c.args.key c.stages.turns.nodes c.stages.turns.line c.stages.grounds c.stages.invariant c.requires.going
    c.step.new.self.nodes c.step.new.self.line c.step.new.services s.0 s.1 s.5 s.3 c.step.ensures.tops s.4 c.in-Ok.ensures.over
    (rw c.in-Goes.is at c.in-Ok.ensures.less))
    c.requires.going c.queue_heavy.new.turns.nodes c.queue_heavy.new.turns.line c.queue_heavy.ensures.nodes
    (rw c.if-queued.true at c.in-Ok-queue_heavy.ensures.line)

pub returns-then-queued-clause-less : goal.returns-then-queued-clause-less
returns-then-queued-clause-less g c =
    let s = rw c.in-Goes.is at c.in-Ok.ensures.steps in
    turning_queued_less g.N.NodeFacts.nodes g.N.Staged.over g.D.Disk.bytes g.D.Disk.image c.args.turns.now.nodes c.args.turns.now.line
    c.args.grounds.now c.args.key c.stages.turns.nodes c.stages.turns.line c.stages.grounds c.stages.invariant c.requires.going
    c.step.new.self.nodes c.step.new.self.line c.step.new.services s.0 s.1 s.5 s.3 c.step.ensures.tops
    c.queue_heavy.new.turns.nodes c.queue_heavy.new.turns.line (rw c.in-Goes.is at c.in-Ok.ensures.less) c.queue_heavy.ensures.nodes
    (rw c.if-queued.true at c.in-Ok-queue_heavy.ensures.line)

pub returns-in-Ended-None-clause-turns : goal.returns-in-Ended-None-clause-turns
returns-in-Ended-None-clause-turns g c =
    let s = rw c.in-Ended-None.is at c.in-Ok.ensures.steps in
    turning_ends g.N.NodeFacts.nodes g.N.Staged.over g.D.Disk.bytes g.D.Disk.image c.args.turns.now.nodes c.args.turns.now.line
    c.args.grounds.now c.args.key c.stages.turns.nodes c.stages.turns.line c.stages.grounds c.stages.invariant c.requires.going
    c.step.new.self.nodes c.step.new.self.line c.step.new.services s.0 s.1 s.5 s.3 c.step.ensures.tops (rw c.in-Ended-None.field-0-is at s.4)

pub returns-in-Rests-clause-turns : goal.returns-in-Rests-clause-turns
returns-in-Rests-clause-turns g c =
    let s = rw c.in-Rests.is at c.in-Ok.ensures.steps in
    turning_rests g.N.NodeFacts.nodes g.N.Staged.over g.D.Disk.bytes g.D.Disk.image c.args.turns.now.nodes c.args.turns.now.line
    c.args.grounds.now c.args.key c.stages.turns.nodes c.stages.turns.line c.stages.grounds c.stages.invariant c.requires.going
    c.step.new.self.nodes c.step.new.self.line c.step.new.services s.0 s.1 s.5 s.3 c.step.ensures.tops s.4

pub returns-in-Ended-Some-clause-turns : goal.returns-in-Ended-Some-clause-turns
returns-in-Ended-Some-clause-turns g c =
    let s = rw c.in-Ended-Some.is at c.in-Ok.ensures.steps in
    turning_finishes g.N.NodeFacts.nodes g.N.Staged.over g.D.Disk.bytes g.D.Disk.image c.args.turns.now.nodes c.args.turns.now.line
    c.args.grounds.now c.args.key c.stages.turns.nodes c.stages.turns.line c.stages.grounds c.stages.invariant c.requires.going
    c.step.new.self.nodes c.step.new.self.line c.step.new.services s.0 s.1 s.5 s.3 c.step.ensures.tops c.in-Ended-Some.finished
    (rw c.in-Ended-Some.field-0-is at s.4)

pub returns-in-Root-clause-turns : goal.returns-in-Root-clause-turns
returns-in-Root-clause-turns g c =
    let s = rw c.in-Root.is at c.in-Ok.ensures.steps in
    turning_roots g.N.NodeFacts.nodes g.N.Staged.over g.D.Disk.bytes g.D.Disk.image c.args.turns.now.nodes c.args.turns.now.line
    c.args.grounds.now c.args.key c.stages.turns.nodes c.stages.turns.line c.stages.grounds c.stages.invariant c.requires.going
    c.step.new.self.nodes c.step.new.self.line c.step.new.services s.0 s.1 s.5 s.3 c.step.ensures.tops c.in-Root.tree c.in-Root.outcome s.4

-- ---- its operation goes to a leaf

pub put-requires-clause-there : goal.put-requires-clause-there
put-requires-clause-there g c =
    let s = rw c.in-Leaf.is at c.in-Ok.ensures.steps in
    (turning_takes g.N.NodeFacts.nodes g.N.Staged.over g.D.Disk.bytes g.D.Disk.image c.args.turns.now.nodes c.args.turns.now.line
    c.args.grounds.now c.args.key c.stages.turns.nodes c.stages.turns.line c.stages.grounds c.stages.invariant c.requires.going
    c.step.new.self.nodes c.step.new.self.line c.step.new.services s.0 s.1 s.5 s.3 c.step.ensures.tops c.in-Leaf.op c.in-Leaf.leaf
    c.in-Leaf.bytes s.4).0

pub put-requires-clause-fits : goal.put-requires-clause-fits
put-requires-clause-fits g c =
    let s = rw c.in-Leaf.is at c.in-Ok.ensures.steps in
    (turning_takes g.N.NodeFacts.nodes g.N.Staged.over g.D.Disk.bytes g.D.Disk.image c.args.turns.now.nodes c.args.turns.now.line
    c.args.grounds.now c.args.key c.stages.turns.nodes c.stages.turns.line c.stages.grounds c.stages.invariant c.requires.going
    c.step.new.self.nodes c.step.new.self.line c.step.new.services s.0 s.1 s.5 s.3 c.step.ensures.tops c.in-Leaf.op c.in-Leaf.leaf
    c.in-Leaf.bytes s.4).1

pub put-requires-clause-lies : goal.put-requires-clause-lies
put-requires-clause-lies g c =
    let s = rw c.in-Leaf.is at c.in-Ok.ensures.steps in
    (turning_takes g.N.NodeFacts.nodes g.N.Staged.over g.D.Disk.bytes g.D.Disk.image c.args.turns.now.nodes c.args.turns.now.line
    c.args.grounds.now c.args.key c.stages.turns.nodes c.stages.turns.line c.stages.grounds c.stages.invariant c.requires.going
    c.step.new.self.nodes c.step.new.self.line c.step.new.services s.0 s.1 s.5 s.3 c.step.ensures.tops c.in-Leaf.op c.in-Leaf.leaf
    c.in-Leaf.bytes s.4).2

pub put-requires-clause-apart : goal.put-requires-clause-apart
put-requires-clause-apart g c =
    let s = rw c.in-Leaf.is at c.in-Ok.ensures.steps in
    (turning_takes g.N.NodeFacts.nodes g.N.Staged.over g.D.Disk.bytes g.D.Disk.image c.args.turns.now.nodes c.args.turns.now.line
    c.args.grounds.now c.args.key c.stages.turns.nodes c.stages.turns.line c.stages.grounds c.stages.invariant c.requires.going
    c.step.new.self.nodes c.step.new.self.line c.step.new.services s.0 s.1 s.5 s.3 c.step.ensures.tops c.in-Leaf.op c.in-Leaf.leaf
    c.in-Leaf.bytes s.4).3

pub returns-in-Leaf-clause-turns : goal.returns-in-Leaf-clause-turns
returns-in-Leaf-clause-turns g c =
    let s = rw c.in-Leaf.is at c.in-Ok.ensures.steps in
    turning_leaves g.N.NodeFacts.nodes g.N.Staged.over g.D.Disk.bytes g.D.Disk.image c.args.turns.now.nodes c.args.turns.now.line
    c.args.grounds.now c.args.key c.stages.turns.nodes c.stages.turns.line c.stages.grounds c.stages.invariant c.requires.going
    c.step.new.self.nodes c.step.new.self.line c.step.new.services s.0 s.1 s.5 s.3 c.step.ensures.tops c.in-Leaf.op c.in-Leaf.leaf
    c.in-Leaf.bytes s.4 c.put.new.self c.in_ok-put-in-Leaf.ensures.ok c.put.ensures.ready c.put.ensures.setting c.put.ensures.disks
    c.put.ensures.desk

pub returns-in-Leaf-clause-less : goal.returns-in-Leaf-clause-less
returns-in-Leaf-clause-less g c =
    let s = rw c.in-Leaf.is at c.in-Ok.ensures.steps in
    turning_leaves_less g.N.NodeFacts.nodes g.N.Staged.over g.D.Disk.bytes g.D.Disk.image c.args.turns.now.nodes c.args.turns.now.line
    c.args.grounds.now c.args.key c.stages.turns.nodes c.stages.turns.line c.stages.grounds c.stages.invariant c.requires.going
    c.step.new.self.nodes c.step.new.self.line c.step.new.services s.0 s.1 s.5 s.3 c.step.ensures.tops c.in-Leaf.op c.in-Leaf.leaf
    c.in-Leaf.bytes s.4 c.put.new.self c.in_ok-put-in-Leaf.ensures.ok c.put.ensures.ready c.put.ensures.setting c.put.ensures.disks
    c.put.ensures.desk (rw c.in-Leaf.is at c.in-Ok.ensures.less)
