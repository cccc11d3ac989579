use Rattle.std.proofs.Common.{ap, arith, subst, sym}
use Rattle.zio_masks.specs.declared.stage.Stage.{Stage}
use Rattle.zio_nodes.specs.Bounds.{copies_stages}
use Rattle.zio_nodes.specs.CopiesAts.{ReadStands}
use Rattle.zio_nodes.proofs.CopiesLemmas.{copies_lead}
use Rattle.zio_nodes.proofs.StageLemmas.{read_ready}
use Rattle.zio_masks.specs.declared.stage.Stage.TheVariants.{Ready}
use Rattle.zio_nodes.proofs.copies_at.CopiesAt.ready.Goals as goal

pub returns-clause-over : goal.returns-clause-over
returns-clause-over c = λ tops h.
    let at = c.args.self.now in
    let due = subst (λ (s : Stage). ReadStands tops s at.is_due at.node.io) c.requires.stage h.stands in
    record {
      over = h.over;
      stands = subst (λ (s : Stage). ReadStands tops s at.is_due at.node.io) (sym (read_ready c.next-self.result c.next-self.ensures)) due;
    }

pub returns-clause-left : goal.returns-clause-left
returns-clause-left c = omega (arith, ap copies_stages (read_ready c.next-self.result c.next-self.ensures), ap copies_stages c.requires.stage)

pub returns-clause-stages : goal.returns-clause-stages
returns-clause-stages c = (c.requires.stage, copies_lead c.args.self.now Ready c.next-self.result c.requires.stage c.next-self.ensures)
