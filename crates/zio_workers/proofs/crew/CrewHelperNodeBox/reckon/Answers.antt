use Rattle.std.proofs.Common.{[], ◌∙◌, sym, ap, subst, arith, IfSome}
use Rattle.std.proofs.lemmas.List.Elements.{recursion_from_All}
use Rattle.zio_nodes.specs.Aheads.{FitsNode}
use Rattle.zio_nodes.specs.declared.ahead.Ahead.{Ahead}
use Rattle.zio_turns.specs.declared.helper.Wanted.{Wanted}
use Rattle.zio_turns.specs.Helping.{FitsAt}
use denote.Param.Send.{param_sync}
use Rattle.zio_workers.proofs.NodesCross.{round_shared}
use Rattle.zio_workers.proofs.WantedLemmas.{keys_stay}
use Rattle.zio_workers.proofs.crew.CrewHelperNodeBox.reckon.Goals as goal

pub returns-clause-keys : goal.returns-clause-keys
returns-clause-keys g c =
    keys_stay c.args.wanted.now c.for_each_mut.new.s (omega (arith, c.for_each_mut.auto.s))
    (λ i d below. let at = (c.for_each_mut.ensures i d below).1 in
    ap (λ (w : Wanted Ahead). w.key) (sym at.left) ∙ at.call.0 ∙ ap (λ (w : Wanted Ahead). w.key) at.argument_is)

pub returns-clause-fits : goal.returns-clause-fits
returns-clause-fits g c =
    let same = c.for_each_mut.auto.s in
    recursion_from_All (λ (w : Wanted Ahead). IfSome w.ahead (FitsAt FitsNode c.args.turns.now.nodes w.key)) c.for_each_mut.new.s
    (λ i d below. let at = (c.for_each_mut.ensures i d (omega (arith, same, below))).1 in
    subst (λ (w : Wanted Ahead). IfSome w.ahead (FitsAt FitsNode c.args.turns.now.nodes w.key)) at.left at.call.1)

pub for_each_mut-requires-sync-F : goal.for_each_mut-requires-sync-F
for_each_mut-requires-sync-F g c κs within = record { shared = (round_shared [] κs).shared }
