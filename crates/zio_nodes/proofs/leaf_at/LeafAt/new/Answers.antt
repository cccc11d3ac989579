use Rattle.std.proofs.Common.{ap, false, refl, subst, sym}
use Rattle.zio_masks.specs.declared.stage.Stage.{Stage}
use Rattle.zio_nodes.specs.Bounds.{leaf_left}
use Rattle.zio_nodes.specs.LeafAts.{LeafStands}
use Rattle.zio_nodes.proofs.StageLemmas.{leaf_start}
use Rattle.zio_nodes.proofs.leaf_at.LeafAt.new.Goals as goal

pub returns-clause-stands : goal.returns-clause-stands
returns-clause-stands c = subst (λ (s : Stage). LeafStands s false c.args.work) (sym (leaf_start c.next.result c.next.ensures)) c.requires

pub returns-clause-left : goal.returns-clause-left
returns-clause-left c = ap (λ (s : Stage). leaf_left s false) (leaf_start c.next.result c.next.ensures)

pub returns-clause-fresh : goal.returns-clause-fresh
returns-clause-fresh c = λ t act h. record { stands = returns-clause-stands c; alone = refl; childless = refl; part = h }
