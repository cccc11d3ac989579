use Rattle.zio_turns.proofs.HelpMoves.{settling_ends, settling_goes}
use Rattle.zio_turns.proofs.helped.settle.Goals as goal

pub go_on-requires-clause-over : goal.go_on-requires-clause-over
go_on-requires-clause-over g c = (c.requires.over.0, c.loop-one.invariant.over_still c.requires.over.0 c.requires.over.1)

pub loop-one-preserved : goal.loop-one-preserved
loop-one-preserved g c =
    settling_goes g.N.NodeFacts.nodes g.N.Staged.over g.N.Staged.fits c.args.rest c.args.turns.now.nodes c.args.turns.now.line
    c.loop-one.turns.nodes c.go_on.new.turns.nodes c.requeue.new.self.nodes c.loop-one.turns.line c.go_on.new.turns.line
    c.requeue.new.self.line c.loop-one.one-iterator c.in-Some.one c.next.new.self c.requires.keeps.0 c.requires.keeps.1
    c.requires.keeps.2 c.requires.keeps.3 c.loop-one.invariant c.in-Some.ensures.steps (record {
      kept = c.go_on.ensures.kept;
      others = c.go_on.ensures.others;
      over_still = c.go_on.ensures.over;
      line_same = c.go_on.ensures.line;
      less = c.go_on.ensures.less;
    }) c.requeue.ensures.nodes c.in_ok-requeue.ensures.line

pub returns-clause-kept : goal.returns-clause-kept
returns-clause-kept g c =
    settling_ends g.N.NodeFacts.nodes g.N.Staged.over g.N.Staged.fits c.args.rest c.args.turns.now.nodes c.args.turns.now.line
    c.loop-one.turns.nodes c.loop-one.turns.line c.loop-one.one-iterator c.loop-one.invariant c.in-None.ensures.steps.0
