-- What is left where memory is refused.
use Rattle.std.proofs.Common.{◌≡◌, List, [], OnErr, Result, Ok, Err, append-nil, ap, refl, subst, sym, ◌∙◌}
use Rattle.zio_types.specs.declared.place.Top.{Top}
use Rattle.zio_nodes.specs.Nodes.{IsNode, StaysBare, gave_of, told_of}
use Rattle.zio_nodes.specs.declared.node.Node.{Node}

-- whatever came of it
pub on_err : {A E P : Type 0} (r : Result A E) → P → OnErr r P
on_err (Ok x) p = tt
on_err (Err e) p = p

-- it is as it was
pub stays_same : (tops : List Top) (node after : Node) → after ≡ node → StaysBare tops node after
stays_same tops node after same = λ t st now. record {
  dids = [];
  gone = [];
  stack = st;
  does = refl;
  opens = tt;
  calls_are = refl;
  is = subst (λ (n : Node). IsNode t n st) (sym same) now.is;
  told = ap told_of same;
  gave_more = ap gave_of same ∙ sym (append-nil (gave_of node));
}
