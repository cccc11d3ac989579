use Rattle.std.proofs.Common.{◌∙◌, ◌≤◌, ◌<◌, rules, map, ap, sym, subst, arith, length, vec_capacity}
use Rattle.std.specs.List.{AllByRecursion}
use Rattle.zio_exchange.specs.Waits.{pendings}
use Rattle.zio_graph.specs.EngineTrees.{IsEngineTree}
use Rattle.zio_graph.proofs.TreeLemmas.{opening_all, opening_begins, opening_fits, opening_step}
use Rattle.zio_graph.proofs.tree.opened.Goals as goal

pub loop-tree-init : goal.loop-tree-init
loop-tree-init c =
    let trees = c.args.trees.now in
    opening_begins trees.items c.reverse.new.self.items c.in_ok-wholes.wholes.items _ _ c.reverse.ensures.items c.in_ok-wholes.ensures.items
    (omega (arith, c.in_ok-wholes.ensures.exact, c.len.ensures, trees.ok.0)) (omega (arith, c.reverse.ensures.capacity, trees.ok.0, trees.ok.1))

pub push_reserved-requires : goal.push_reserved-requires
push_reserved-requires c =
    let fits : length c.loop-tree.wholes.items < vec_capacity c.loop-tree.wholes =
    opening_fits _ _ _ _ _ _ _ c.loop-tree.invariant c.in-Some.ensures.items in
    omega (arith, fits, c.loop-tree.wholes.ok.0)

pub loop-tree-preserved : goal.loop-tree-preserved
loop-tree-preserved c =
    opening_step _ _ _ _ _ _ _ _ _ _ _ c.loop-tree.invariant c.in-Some.ensures.items c.tree.view_is c.tree.invariant
    c.push_reserved.ensures.items c.push_reserved.ensures.capacity c.in-Some.ensures.capacity

pub returns-clause-same : goal.returns-clause-same
returns-clause-same c = ap (map pendings) c.from_vec.ensures ∙ opening_all _ _ _ _ _ c.loop-tree.invariant (search rules)

pub returns-clause-each : goal.returns-clause-each
returns-clause-each c = subst (AllByRecursion IsEngineTree) (sym c.from_vec.ensures) c.loop-tree.invariant.opened.each

pub returns-clause-room : goal.returns-clause-room
returns-clause-room c = omega (arith, c.loop-tree.invariant.stays, c.in_default.ensures.capacity, ap length c.from_vec.ensures)
