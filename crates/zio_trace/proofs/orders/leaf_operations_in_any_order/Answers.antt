use Rattle.zio_trace.specs.Leaves.{AreApart, HaveSizes, LiesOn, on_leaf}
use Rattle.zio_trace.proofs.LeafLemmas.{leaves_commute}
use Rattle.zio_trace.proofs.RoundLemmas.{happens_in_order}
use Rattle.zio_trace.proofs.orders.leaf_operations_in_any_order.Goals as goal

pub returns : goal.returns
returns c = λ s sizes history order before after. happens_in_order (on_leaf s) (HaveSizes sizes) (LiesOn sizes) AreApart (leaves_commute s sizes) history order before after
