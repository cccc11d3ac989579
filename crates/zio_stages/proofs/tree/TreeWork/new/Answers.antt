use Rattle.std.proofs.Common.{sym, subst, ap, refl}
use Rattle.zio_parts.specs.TreeReads.{Reading, ShowsRead}
use Rattle.zio_parts.specs.declared.tree_read.TreeStep.TheVariants.{Walk}
use Rattle.zio_stages.specs.declared.tree.TreeWork.{TreeWork}
use Rattle.zio_stages.proofs.TreeLemmas.{fresh_tree}
use Rattle.zio_stages.proofs.tree.TreeWork.new.Goals as goal

pub returns-clause-fresh : goal.returns-clause-fresh
returns-clause-fresh c = λ tree same.
    let w : TreeWork = record { read = c.new.result } in
    fresh_tree w tree c.args.bp c.new.ensures.fresh same

pub returns-clause-walk : goal.returns-clause-walk
returns-clause-walk c = subst (λ (r : Reading). ShowsRead r Walk) (sym c.new.ensures.fresh) (refl, λ heads. refl)

pub returns-clause-bodies : goal.returns-clause-bodies
returns-clause-bodies c = ap (λ (r : Reading). r.bodies) c.new.ensures.fresh
