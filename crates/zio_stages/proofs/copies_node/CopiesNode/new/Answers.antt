use Rattle.std.proofs.Common.{[], ap, length, subst, sym, ◌∙◌}
use Rattle.zio_stages.specs.NodeIos.{SitsOn}
use Rattle.zio_stages.specs.ReadIos.{IsReadOutIn}
use Rattle.zio_stages.specs.declared.family.Layer.TheVariants.{Own}
use Rattle.zio_stages.proofs.CopiesNodeLemmas.{none_yet}
use Rattle.zio_stages.proofs.NodeIoLemmas.{sits_fresh}
use Rattle.zio_stages.proofs.copies_node.CopiesNode.new.Goals as goal

pub returns-clause-over : goal.returns-clause-over
returns-clause-over c = record {
  over = c.new.ensures.over;
  sits = subst (SitsOn Own (IsReadOutIn c.new.result)) (sym c.new-2.ensures) (sits_fresh Own (IsReadOutIn c.new.result) [] none_yet);
  count = ap length c.new-2.ensures ∙ sym c.new.ensures.count;
}

pub returns-clause-fresh : goal.returns-clause-fresh
returns-clause-fresh c = λ t e. record { children = c.new-2.ensures; asks = tt; part = c.new.ensures.fresh t e }
