use Rattle.zio_turns.specs.AtLeaves.{eligible_at}
use Rattle.zio_turns.specs.Slabs.{load}
use Rattle.zio_turns.proofs.GroupMoves.{group_awaited, group_issues, group_less}
use Rattle.zio_turns.proofs.StopLemmas.{leaf_stops, on_err}
use Rattle.zio_turns.proofs.WroteLemmas.{leaf_wrote}
use Rattle.zio_turns.proofs.group.issue_group.Goals as goal

pub tell_answers-requires : goal.tell_answers-requires
tell_answers-requires g c =
    group_awaited g.N.NodeFacts.nodes g.D.Disk.bytes g.D.Disk.image c.args.turns.now.nodes c.args.turns.now.line
    c.args.grounds.now c.issue.new.self (eligible_at c.args.grounds.now.queues.leaves.items c.args.k) c.in_ok-answers.answers
    c.in_ok-answers.ensures.issued c.requires.going

pub returns-in-Ok-clause-issues : goal.returns-in-Ok-clause-issues
returns-in-Ok-clause-issues g c =
    group_issues g.N.NodeFacts.nodes g.D.Disk.bytes g.D.Disk.image c.args.turns.now.nodes c.args.turns.now.line
    c.args.grounds.now c.issue.new.self (eligible_at c.args.grounds.now.queues.leaves.items c.args.k) c.in_ok-answers.answers
    c.in_ok-answers.ensures.issued c.tell_answers.new.turns.nodes c.tell_answers.new.turns.line c.in-Ok.ensures.back
    c.issue.ensures.handled.same.sizes c.in_ok-answers.ensures.ready_still c.issue.ensures.setting c.issue.ensures.desk

pub returns-in-Ok-clause-less : goal.returns-in-Ok-clause-less
returns-in-Ok-clause-less g c =
    group_less g.N.NodeFacts.nodes g.D.Disk.bytes g.D.Disk.image c.args.turns.now.nodes c.args.turns.now.line
    c.args.grounds.now c.issue.new.self (eligible_at c.args.grounds.now.queues.leaves.items c.args.k) c.in_ok-answers.answers
    c.in_ok-answers.ensures.issued
    (load g.N.NodeFacts.nodes.left c.args.turns.now.nodes c.args.turns.now.line)
    (load g.N.NodeFacts.nodes.left c.tell_answers.new.turns.nodes c.tell_answers.new.turns.line) c.in-Ok.ensures.less

pub returns-in_err-answers-clause-stopped : goal.returns-in_err-answers-clause-stopped
returns-in_err-answers-clause-stopped g c = on_err c.from_residual.result
    (leaf_stops g.N.NodeFacts.nodes g.D.Disk.bytes g.D.Disk.image c.args.turns.now.nodes c.args.turns.now.line c.args.grounds.now
    c.issue.new.self.disks.items (eligible_at c.args.grounds.now.queues.leaves.items c.args.k) c.issue.ensures.handled.outside)

pub returns-in-Err-clause-stopped : goal.returns-in-Err-clause-stopped
returns-in-Err-clause-stopped g c =
    leaf_stops g.N.NodeFacts.nodes g.D.Disk.bytes g.D.Disk.image c.args.turns.now.nodes c.args.turns.now.line c.args.grounds.now
    c.issue.new.self.disks.items (eligible_at c.args.grounds.now.queues.leaves.items c.args.k) c.issue.ensures.handled.outside

pub returns-in_err-answers-clause-wrote : goal.returns-in_err-answers-clause-wrote
returns-in_err-answers-clause-wrote g c =
    leaf_wrote g.N.NodeFacts.nodes g.D.Disk.bytes g.D.Disk.image g.D.Disk.went c.args.turns.now.nodes c.args.turns.now.line
    c.args.grounds.now c.issue.new.self.disks.items (eligible_at c.args.grounds.now.queues.leaves.items c.args.k)
    c.issue.ensures.handled.wrote

pub returns-in-Ok-clause-wrote : goal.returns-in-Ok-clause-wrote
returns-in-Ok-clause-wrote g c =
    leaf_wrote g.N.NodeFacts.nodes g.D.Disk.bytes g.D.Disk.image g.D.Disk.went c.args.turns.now.nodes c.args.turns.now.line
    c.args.grounds.now c.issue.new.self.disks.items (eligible_at c.args.grounds.now.queues.leaves.items c.args.k)
    c.issue.ensures.handled.wrote

pub returns-in-Err-clause-wrote : goal.returns-in-Err-clause-wrote
returns-in-Err-clause-wrote g c =
    leaf_wrote g.N.NodeFacts.nodes g.D.Disk.bytes g.D.Disk.image g.D.Disk.went c.args.turns.now.nodes c.args.turns.now.line
    c.args.grounds.now c.issue.new.self.disks.items (eligible_at c.args.grounds.now.queues.leaves.items c.args.k)
    c.issue.ensures.handled.wrote
