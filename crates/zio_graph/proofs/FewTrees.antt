-- A round has no more trees than there are numbers of requests.
use Rattle.std.proofs.Common.{ℕ, ◌+◌, ◌<◌, ◌≤◌, ◌^◌, List, [], ◌∷◌, length, map, nat_le, Option, refl, subst, arith}
use Rattle.std.specs.List.{AllByRecursion}
use Rattle.std.proofs.lemmas.Bool.{and_parts, leb-true}
use Rattle.zio_script.specs.declared.limits.TheConstants.{NUMBER_MAX}
use Rattle.zio_course.specs.Runners.{AreRunnable, Standing}
use Rattle.zio_children.specs.RequestKids.{RiseFrom}
use Rattle.zio_exchange.specs.Waits.{pendings}
use Rattle.zio_exchange.specs.Wholes.{number_or, roots_in}
use Rattle.zio_exchange.specs.declared.waiting.UnfinishedRequest.{UnfinishedRequest}
use Rattle.zio_exchange.proofs.WholeLemmas.{root_number_is}
use Rattle.zio_graph.specs.EngineTrees.{IsEngineTree}
use Rattle.zio_graph.proofs.NewTrees.{over_rises}

number_most : (ws : List UnfinishedRequest) (h : IsEngineTree ws) → h.root.request.number ≤ NUMBER_MAX
number_most ws h =
    let n : ℕ = h.root.request.number in
    leb-true n NUMBER_MAX (and_parts (nat_le 1 n) (nat_le n NUMBER_MAX) h.sound.0.range.number).1

few_from : (least : ℕ) (trees : List (List UnfinishedRequest)) → AllByRecursion IsEngineTree trees → RiseFrom least (roots_in trees)
    → least ≤ NUMBER_MAX + 1 → least + length trees ≤ NUMBER_MAX + 1
few_from least [] each rise low = omega arith
few_from least (ws ∷ trees) each rise low =
    let first : IsEngineTree ws = each.0 in
    let n : ℕ = first.root.request.number in
    let rises : RiseFrom least (n ∷ roots_in trees) =
    subst (λ (o : Option ℕ). RiseFrom least (number_or o (roots_in trees)))
    (root_number_is ws first.root first.kids first.is) rise in
    let most : n ≤ NUMBER_MAX = number_most ws first in
    let rest : n + 1 + length trees ≤ NUMBER_MAX + 1 = few_from (n + 1) trees each.1 rises.1 (omega (arith, most)) in
    omega (arith, rises.0, rest)

pub few_trees : (s : Standing) (trees : List (List UnfinishedRequest)) → AllByRecursion IsEngineTree trees
    → AreRunnable s (map pendings trees)
    → length trees < 2 ^ 32
few_trees s trees each runs =
    let few : 0 + length trees ≤ NUMBER_MAX + 1 =
    few_from 0 trees each (over_rises (map pendings trees) trees refl each runs.rising) (omega arith) in
    omega (arith, few)
