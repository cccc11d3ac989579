use Rattle.zio_nodes.proofs.heads_at.HeadsAt.run_stage.Goals as goal

pub returns-in-Start-clause-moves : goal.returns-in-Start-clause-moves
returns-in-Start-clause-moves c = c.start.ensures.moves c.args.tops.now

pub returns-in-GangIssue-clause-moves : goal.returns-in-GangIssue-clause-moves
returns-in-GangIssue-clause-moves c = c.gang_issue.ensures.moves c.args.tops.now

pub returns-in-Ready-clause-moves : goal.returns-in-Ready-clause-moves
returns-in-Ready-clause-moves c = c.ready.ensures.moves c.args.tops.now
