use Rattle.std.proofs.Common.{ap, subst, sym, ◌∙◌, inl}
use Rattle.zio_masks.specs.declared.stage.Stage.{Stage}
use Rattle.zio_nodes.specs.CopiesAts.{ReadStands}
use Rattle.zio_nodes.specs.Told.{is_told}
use Rattle.zio_nodes.proofs.CopiesLemmas.{copies_go, copies_lead}
use Rattle.zio_nodes.proofs.StageLemmas.{read_start}
use Rattle.zio_masks.specs.declared.stage.Stage.TheVariants.{Start}
use Rattle.zio_nodes.proofs.copies_at.CopiesAt.start.Goals as goal

pub returns-clause-moves : goal.returns-clause-moves
returns-clause-moves c = λ tops t st now.
    copies_go t st c.args.self.now _ now.is.read now.is.answers
    (ap is_told (read_start c.next-self.result c.next-self.ensures) ∙ sym (ap is_told c.requires.stage))

pub returns-clause-over : goal.returns-clause-over
returns-clause-over c = λ tops h.
    let at = c.args.self.now in
    let due = subst (λ (s : Stage). ReadStands tops s at.is_due at.node.io) c.requires.stage h.stands in
    record {
      over = h.over;
      stands = subst (λ (s : Stage). ReadStands tops s at.is_due at.node.io) (sym (read_start c.next-self.result c.next-self.ensures)) due;
    }

pub returns-clause-stages : goal.returns-clause-stages
returns-clause-stages c = inl (copies_lead c.args.self.now Start c.next-self.result c.requires.stage c.next-self.ensures)
