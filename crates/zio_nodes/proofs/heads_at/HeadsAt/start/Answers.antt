use Rattle.std.proofs.Common.{ap, subst, sym, ◌∙◌, inl}
use Rattle.zio_masks.specs.declared.stage.Stage.{Stage}
use Rattle.zio_nodes.specs.HeadsAts.{WalkStands}
use Rattle.zio_nodes.specs.Told.{is_told}
use Rattle.zio_nodes.proofs.HeadsLemmas.{walk_goes, walk_leads}
use Rattle.zio_nodes.proofs.StageLemmas.{walk_start}
use Rattle.zio_masks.specs.declared.stage.Stage.TheVariants.{Start}
use Rattle.zio_nodes.proofs.heads_at.HeadsAt.start.Goals as goal

pub returns-clause-moves : goal.returns-clause-moves
returns-clause-moves c = λ tops t st now.
    walk_goes t st c.args.self.now _ now.is
    (ap is_told (walk_start c.with_gang.result c.next-self.result c.with_gang.ensures.stages c.next-self.ensures) ∙ sym (ap is_told c.requires.stage))

pub returns-clause-over : goal.returns-clause-over
returns-clause-over c = λ tops h. record {
  over = h.over;
  stands = subst (λ (s : Stage). WalkStands s c.args.self.now.node.work.walk)
      (sym (walk_start c.with_gang.result c.next-self.result c.with_gang.ensures.stages c.next-self.ensures)) tt;
}

pub returns-clause-stages : goal.returns-clause-stages
returns-clause-stages c =
    inl (walk_leads c.args.self.now c.with_gang.result Start c.next-self.result c.requires.stage c.with_gang.ensures.stages c.next-self.ensures)
