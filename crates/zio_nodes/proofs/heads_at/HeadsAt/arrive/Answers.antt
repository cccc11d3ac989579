use Rattle.std.proofs.Common.{inl, inr, subst}
use Rattle.zio_nodes.proofs.HeadsLemmas.{IsHeardOutcome, heard_walk, hears_head_of, hears_read_or_walk, nothing_to_hear}
use Rattle.zio_nodes.proofs.heads_at.HeadsAt.arrive.Goals as goal

pub unreachable-requires : goal.unreachable-requires
unreachable-requires c =
    let heard : IsHeardOutcome c.args.outcome = hears_read_or_walk c.args.tops.now c.args.self.now c.args.child c.args.outcome c.requires.awaited in
    elim c.in-Finished.is [
      | inl f ↦ subst IsHeardOutcome f.1 heard
      | inr r ↦ elim r [ inl a ↦ subst IsHeardOutcome a.3 heard | inr s ↦ subst IsHeardOutcome s.1 heard ]
    ]

pub returns-in-Ok-clause-heard : goal.returns-in-Ok-clause-heard
returns-in-Ok-clause-heard c = λ t st d op v h.
    c.in-Ok.ensures.heard t st d op v (hears_head_of t c.args.tops.now c.args.self.now st c.args.child d op c.args.outcome c.in-Found.found v c.in-Found.is h)

pub returns-in-Ok-clause-over : goal.returns-in-Ok-clause-over
returns-in-Ok-clause-over c = record {
  over = c.in-Ok.ensures.over;
  stands = heard_walk c.args.self.now.stage c.args.self.now.node.work.walk c.arrive_head.new.self.work.walk c.requires.over.stands
      (nothing_to_hear c.args.tops.now c.args.self.now c.args.child c.args.outcome c.requires.awaited);
}

pub returns-in-Walked-clause-over : goal.returns-in-Walked-clause-over
returns-in-Walked-clause-over c = record {
  over = c.arrive_below.ensures.over;
  stands = heard_walk c.args.self.now.stage c.args.self.now.node.work.walk c.arrive_below.new.self.work.walk c.requires.over.stands
      (nothing_to_hear c.args.tops.now c.args.self.now c.args.child c.args.outcome c.requires.awaited);
}
