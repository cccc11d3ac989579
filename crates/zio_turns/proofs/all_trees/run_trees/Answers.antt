use Rattle.std.proofs.Common.{◌≤◌, ◌+◌, List, length, slice_get, arith, refl, ap, sym, subst, ◌∙◌}
use Rattle.std.proofs.lemmas.List.{length-set}
use Rattle.zio_types.specs.declared.place.Top.{Top}
use Rattle.zio_disks.proofs.DiskLemmas.{same_itself, same_then}
use Rattle.zio_staged.specs.Stages.{OutcomeIn}
use Rattle.zio_turns.specs.declared.trees.TreeState.{TreeState}
use Rattle.zio_turns.specs.declared.trees.TreeState.TheVariants.{Settled, UnderWay}
use Rattle.std.specs.List.{AllByRecursion, sum_by}
use Rattle.zio_turns.specs.UnderTrees.{StateIn, attempts_left}
use Rattle.zio_turns.proofs.StopLemmas.{heard_stops, on_err, trees_stop}
use Rattle.zio_turns.proofs.TreeLoops.{IsRunningTrees, all_in, fewer_again, fewer_settled, few_attempts, state_there, trees_again, trees_begin, trees_end, trees_settle, trees_some, tree_under, within_trees}
use Rattle.zio_turns.proofs.WroteLemmas.{trees_wrote, trees_wrote_nothing}
use Rattle.zio_turns.proofs.all_trees.run_trees.Goals as goal

pub trees-init : goal.trees-init
trees-init g c = (
  (λ all. all),
  same_itself g.D.Disk.bytes g.D.Disk.faults g.D.Disk.faults_at_fetch g.D.Disk.home g.D.Disk.image g.D.Disk.sound c.args.grounds.now.disks.items,
  trees_begin g.N.NodeFacts.nodes g.N.Staged.over g.D.Disk.bytes g.D.Disk.faults g.D.Disk.image c.args.turns.now.nodes
      c.args.turns.now.line c.args.grounds.now c.args.round c.args.failmode c.args.trees.now.items c.args.ended.now.items c.requires.over,
  refl,
  trees_wrote_nothing g.N.NodeFacts.nodes g.D.Disk.bytes g.D.Disk.image g.D.Disk.went c.args.turns.now.nodes c.args.turns.now.line
      c.args.grounds.now c.args.round c.args.failmode c.args.trees.now.items,
)

pub run_to_tree-requires-clause-going : goal.run_to_tree-requires-clause-going
run_to_tree-requires-clause-going g c =
    trees_some g.N.NodeFacts.nodes g.N.Staged.over g.D.Disk.bytes g.D.Disk.faults g.D.Disk.image c.args.turns.now.nodes
    c.args.turns.now.line c.args.grounds.now c.args.round c.args.failmode c.args.trees.now.items c.args.ended.now.items c.trees.turns.nodes c.trees.turns.nodes c.trees.turns.nodes
    c.trees.turns.line c.trees.turns.line c.trees.turns.line c.trees.grounds c.trees.grounds c.trees.trees.items c.trees.ended.items
    c.trees.ended.items c.trees.invariant.2 c.requires.runs

pub returns-in_default-clause-runs : goal.returns-in_default-clause-runs
returns-in_default-clause-runs g c =
    let done = rw c.in_default.is at c.in_ok-heard.ensures.done in
    trees_end g.N.NodeFacts.nodes g.N.Staged.over g.D.Disk.bytes g.D.Disk.faults g.D.Disk.image c.args.turns.now.nodes
    c.args.turns.now.line c.args.grounds.now c.args.round c.args.failmode c.args.trees.now.items c.args.ended.now.items c.trees.turns.nodes c.run_to_tree.new.turns.nodes c.run_to_tree.new.turns.nodes c.trees.turns.line
    c.run_to_tree.new.turns.line c.run_to_tree.new.turns.line c.trees.grounds c.run_to_tree.new.grounds c.trees.trees.items c.trees.ended.items
    c.run_to_tree.new.ended.items c.trees.invariant.2
    (rw c.in_default.is at c.in_ok-heard.ensures.runs) done.0 done.1

pub under_way-attempt-requires : goal.under_way-attempt-requires
under_way-attempt-requires g c =
    let under = tree_under g.N.NodeFacts.nodes g.N.Staged.over g.D.Disk.bytes g.D.Disk.faults g.D.Disk.image c.args.turns.now.nodes
    c.args.turns.now.line c.args.grounds.now c.args.round c.args.failmode c.args.trees.now.items c.args.ended.now.items c.trees.turns.nodes c.run_to_tree.new.turns.nodes c.run_to_tree.new.turns.nodes c.trees.turns.line
    c.run_to_tree.new.turns.line c.run_to_tree.new.turns.line c.trees.grounds c.run_to_tree.new.grounds c.trees.trees.items c.trees.ended.items
    c.run_to_tree.new.ended.items c.trees.invariant.2 c.in-Some.heard (rw c.in-Some.is at c.in_ok-heard.ensures.runs) c.requires.runs in
    (under.0, ap (λ (xs : List TreeState). slice_get xs c.in-Some.heard.tree) c.as_slice.ensures.value ∙ under.1)

pub hear_tree-requires-clause-attempt : goal.hear_tree-requires-clause-attempt
hear_tree-requires-clause-attempt g c =
    let under = tree_under g.N.NodeFacts.nodes g.N.Staged.over g.D.Disk.bytes g.D.Disk.faults g.D.Disk.image c.args.turns.now.nodes
    c.args.turns.now.line c.args.grounds.now c.args.round c.args.failmode c.args.trees.now.items c.args.ended.now.items c.trees.turns.nodes c.run_to_tree.new.turns.nodes c.run_to_tree.new.turns.nodes c.trees.turns.line
    c.run_to_tree.new.turns.line c.run_to_tree.new.turns.line c.trees.grounds c.run_to_tree.new.grounds c.trees.trees.items c.trees.ended.items
    c.run_to_tree.new.ended.items c.trees.invariant.2 c.in-Some.heard (rw c.in-Some.is at c.in_ok-heard.ensures.runs) c.requires.runs in
    few_attempts c.trees.trees.items c.as_slice.result.now c.in-Some.heard.tree under.0 c.under_way-attempt.result
    c.as_slice.ensures.value under.1 c.under_way-attempt.ensures under.2

pub hear_tree-requires-clause-outcome : goal.hear_tree-requires-clause-outcome
hear_tree-requires-clause-outcome g c =
    (tree_under g.N.NodeFacts.nodes g.N.Staged.over g.D.Disk.bytes g.D.Disk.faults g.D.Disk.image c.args.turns.now.nodes
    c.args.turns.now.line c.args.grounds.now c.args.round c.args.failmode c.args.trees.now.items c.args.ended.now.items c.trees.turns.nodes c.run_to_tree.new.turns.nodes c.run_to_tree.new.turns.nodes c.trees.turns.line
    c.run_to_tree.new.turns.line c.run_to_tree.new.turns.line c.trees.grounds c.run_to_tree.new.grounds c.trees.trees.items c.trees.ended.items
    c.run_to_tree.new.ended.items c.trees.invariant.2 c.in-Some.heard (rw c.in-Some.is at c.in_ok-heard.ensures.runs) c.requires.runs).3

pub overflow_add-attempt : goal.overflow_add-attempt
overflow_add-attempt g c =
    let under = tree_under g.N.NodeFacts.nodes g.N.Staged.over g.D.Disk.bytes g.D.Disk.faults g.D.Disk.image c.args.turns.now.nodes
    c.args.turns.now.line c.args.grounds.now c.args.round c.args.failmode c.args.trees.now.items c.args.ended.now.items c.trees.turns.nodes c.run_to_tree.new.turns.nodes c.hear_tree.new.turns.nodes c.trees.turns.line
    c.run_to_tree.new.turns.line c.hear_tree.new.turns.line c.trees.grounds c.run_to_tree.new.grounds c.trees.trees.items c.trees.ended.items
    c.run_to_tree.new.ended.items c.trees.invariant.2 c.in-Some.heard (rw c.in-Some.is at c.in_ok-heard.ensures.runs) c.requires.runs in
    let few : c.under_way-attempt.result ≤ 3 =
    few_attempts c.trees.trees.items c.as_slice.result.now c.in-Some.heard.tree under.0 c.under_way-attempt.result
    c.as_slice.ensures.value under.1 c.under_way-attempt.ensures under.2 in
    omega (arith, few)

pub set_state-requires : goal.set_state-requires
set_state-requires g c = within_trees c.trees.trees.items c.in-Some.heard.tree (UnderWay c.under_way-attempt.result)
    (state_there c.trees.trees.items c.as_slice.result.now c.in-Some.heard.tree c.under_way-attempt.result
    c.as_slice.ensures.value c.under_way-attempt.ensures)

pub set_state-requires-in-Some-end : goal.set_state-requires-in-Some-end
set_state-requires-in-Some-end g c = within_trees c.trees.trees.items c.in-Some.heard.tree (UnderWay c.under_way-attempt.result)
    (state_there c.trees.trees.items c.as_slice.result.now c.in-Some.heard.tree c.under_way-attempt.result
    c.as_slice.ensures.value c.under_way-attempt.ensures)

pub trees-preserved-in-None : goal.trees-preserved-in-None
trees-preserved-in-None g c = (
  (λ all. subst (λ (xs : List TreeState). AllByRecursion (StateIn (g.N.Staged.tree_over c.args.grounds.now.desk.tops)) xs) (sym c.set_state.ensures)
      (all_in (g.N.Staged.tree_over c.args.grounds.now.desk.tops) c.trees.trees.items c.in-Some.heard.tree (UnderWay (c.under_way-attempt.result + 1))
      tt (c.trees.invariant.0 all))),
  same_then g.D.Disk.bytes g.D.Disk.faults g.D.Disk.faults_at_fetch g.D.Disk.home g.D.Disk.image g.D.Disk.sound c.args.grounds.now.disks.items c.trees.grounds.disks.items
      c.run_to_tree.new.grounds.disks.items c.trees.invariant.1 c.run_to_tree.ensures.same,
  subst (λ (xs : List TreeState). IsRunningTrees g.N.NodeFacts.nodes g.N.Staged.over g.D.Disk.bytes g.D.Disk.faults g.D.Disk.image c.args.turns.now.nodes
      c.args.turns.now.line c.args.grounds.now c.args.round c.args.failmode c.args.trees.now.items c.args.ended.now.items
      c.hear_tree.new.turns.nodes c.hear_tree.new.turns.line c.run_to_tree.new.grounds xs c.hear_tree.new.ended.items) (sym c.set_state.ensures)
      (trees_again g.N.NodeFacts.nodes g.N.Staged.over g.D.Disk.bytes g.D.Disk.faults g.D.Disk.image c.args.turns.now.nodes
      c.args.turns.now.line c.args.grounds.now c.args.round c.args.failmode c.args.trees.now.items c.args.ended.now.items c.trees.turns.nodes c.run_to_tree.new.turns.nodes c.hear_tree.new.turns.nodes c.trees.turns.line
      c.run_to_tree.new.turns.line c.hear_tree.new.turns.line c.trees.grounds c.run_to_tree.new.grounds c.trees.trees.items c.trees.ended.items
      c.run_to_tree.new.ended.items c.trees.invariant.2 c.in-Some.heard (rw c.in-Some.is at c.in_ok-heard.ensures.runs)
      c.under_way-attempt.result (state_there c.trees.trees.items c.as_slice.result.now c.in-Some.heard.tree c.under_way-attempt.result
      c.as_slice.ensures.value c.under_way-attempt.ensures) c.hear_tree.new.ended.items c.in-Ok.ensures.ended (rw c.in-None.is at c.in-Ok.ensures.goes_on)
      (c.in-Ok.ensures.over c.run_to_tree.new.grounds.desk.tops c.in_ok-heard.ensures.over
      (subst (λ (tops : List Top). OutcomeIn (g.N.Staged.tree_over tops) c.in-Some.heard.outcome) (sym c.run_to_tree.ensures.tops)
      (rw c.in-Some.is at c.in_ok-heard.ensures.inside))) c.in_ok-heard.ensures.steady
      c.run_to_tree.ensures.tops c.run_to_tree.ensures.setting),
  ap (λ (xs : List TreeState). length xs) c.set_state.ensures
      ∙ (length-set c.trees.trees.items c.in-Some.heard.tree (UnderWay (c.under_way-attempt.result + 1)) ∙ c.trees.invariant.3),
  trees_wrote g.N.NodeFacts.nodes g.D.Disk.bytes g.D.Disk.image g.D.Disk.went c.args.turns.now.nodes c.trees.turns.nodes
      c.args.turns.now.line c.trees.turns.line c.args.grounds.now c.trees.grounds c.args.round c.args.failmode c.args.trees.now.items
      c.trees.trees.items c.args.ended.now.items c.trees.ended.items c.run_to_tree.new.grounds.disks.items c.trees.invariant.2.gone
      c.trees.invariant.4 c.run_to_tree.ensures.wrote,
)

pub trees-preserved : goal.trees-preserved
trees-preserved g c = (
  (λ all. subst (λ (xs : List TreeState). AllByRecursion (StateIn (g.N.Staged.tree_over c.args.grounds.now.desk.tops)) xs) (sym c.set_state-in-Some-end.ensures)
      (all_in (g.N.Staged.tree_over c.args.grounds.now.desk.tops) c.trees.trees.items c.in-Some.heard.tree (Settled c.in-Some-end.end)
      (rw c.in-Some-end.is at (c.in-Ok.ensures.inside c.args.grounds.now.desk.tops
      (subst (λ (tops : List Top). OutcomeIn (g.N.Staged.tree_over tops) c.in-Some.heard.outcome) c.trees.invariant.2.tops_same
      (rw c.in-Some.is at c.in_ok-heard.ensures.inside)))) (c.trees.invariant.0 all))),
  same_then g.D.Disk.bytes g.D.Disk.faults g.D.Disk.faults_at_fetch g.D.Disk.home g.D.Disk.image g.D.Disk.sound c.args.grounds.now.disks.items c.trees.grounds.disks.items
      c.run_to_tree.new.grounds.disks.items c.trees.invariant.1 c.run_to_tree.ensures.same,
  subst (λ (xs : List TreeState). IsRunningTrees g.N.NodeFacts.nodes g.N.Staged.over g.D.Disk.bytes g.D.Disk.faults g.D.Disk.image c.args.turns.now.nodes
      c.args.turns.now.line c.args.grounds.now c.args.round c.args.failmode c.args.trees.now.items c.args.ended.now.items
      c.hear_tree.new.turns.nodes c.hear_tree.new.turns.line c.run_to_tree.new.grounds xs c.hear_tree.new.ended.items) (sym c.set_state-in-Some-end.ensures)
      (trees_settle g.N.NodeFacts.nodes g.N.Staged.over g.D.Disk.bytes g.D.Disk.faults g.D.Disk.image c.args.turns.now.nodes
      c.args.turns.now.line c.args.grounds.now c.args.round c.args.failmode c.args.trees.now.items c.args.ended.now.items c.trees.turns.nodes c.run_to_tree.new.turns.nodes c.hear_tree.new.turns.nodes c.trees.turns.line
      c.run_to_tree.new.turns.line c.hear_tree.new.turns.line c.trees.grounds c.run_to_tree.new.grounds c.trees.trees.items c.trees.ended.items
      c.run_to_tree.new.ended.items c.trees.invariant.2 c.in-Some.heard (rw c.in-Some.is at c.in_ok-heard.ensures.runs)
      c.under_way-attempt.result (state_there c.trees.trees.items c.as_slice.result.now c.in-Some.heard.tree c.under_way-attempt.result
      c.as_slice.ensures.value c.under_way-attempt.ensures) c.hear_tree.new.ended.items c.in-Ok.ensures.ended c.in-Some-end.end (rw c.in-Some-end.is at c.in-Ok.ensures.goes_on)
      (c.in-Ok.ensures.over c.run_to_tree.new.grounds.desk.tops c.in_ok-heard.ensures.over
      (subst (λ (tops : List Top). OutcomeIn (g.N.Staged.tree_over tops) c.in-Some.heard.outcome) (sym c.run_to_tree.ensures.tops)
      (rw c.in-Some.is at c.in_ok-heard.ensures.inside))) c.in_ok-heard.ensures.steady
      c.run_to_tree.ensures.tops c.run_to_tree.ensures.setting),
  ap (λ (xs : List TreeState). length xs) c.set_state-in-Some-end.ensures
      ∙ (length-set c.trees.trees.items c.in-Some.heard.tree (Settled c.in-Some-end.end) ∙ c.trees.invariant.3),
  trees_wrote g.N.NodeFacts.nodes g.D.Disk.bytes g.D.Disk.image g.D.Disk.went c.args.turns.now.nodes c.trees.turns.nodes
      c.args.turns.now.line c.trees.turns.line c.args.grounds.now c.trees.grounds c.args.round c.args.failmode c.args.trees.now.items
      c.trees.trees.items c.args.ended.now.items c.trees.ended.items c.run_to_tree.new.grounds.disks.items c.trees.invariant.2.gone
      c.trees.invariant.4 c.run_to_tree.ensures.wrote,
)

pub trees-smaller-in-None : goal.trees-smaller-in-None
trees-smaller-in-None g c =
    let under = tree_under g.N.NodeFacts.nodes g.N.Staged.over g.D.Disk.bytes g.D.Disk.faults g.D.Disk.image c.args.turns.now.nodes
    c.args.turns.now.line c.args.grounds.now c.args.round c.args.failmode c.args.trees.now.items c.args.ended.now.items c.trees.turns.nodes c.run_to_tree.new.turns.nodes c.hear_tree.new.turns.nodes c.trees.turns.line
    c.run_to_tree.new.turns.line c.hear_tree.new.turns.line c.trees.grounds c.run_to_tree.new.grounds c.trees.trees.items c.trees.ended.items
    c.run_to_tree.new.ended.items c.trees.invariant.2 c.in-Some.heard (rw c.in-Some.is at c.in_ok-heard.ensures.runs) c.requires.runs in
    let few : c.under_way-attempt.result ≤ 3 =
    few_attempts c.trees.trees.items c.as_slice.result.now c.in-Some.heard.tree under.0 c.under_way-attempt.result
    c.as_slice.ensures.value under.1 c.under_way-attempt.ensures under.2 in
    let e = ap (λ (xs : List TreeState). sum_by attempts_left xs) c.set_state.ensures in
    omega (
      arith,
      e,
      fewer_again c.trees.trees.items c.in-Some.heard.tree c.under_way-attempt.result (state_there c.trees.trees.items c.as_slice.result.now c.in-Some.heard.tree c.under_way-attempt.result
          c.as_slice.ensures.value c.under_way-attempt.ensures) few,
    )

pub trees-smaller : goal.trees-smaller
trees-smaller g c =
    let under = tree_under g.N.NodeFacts.nodes g.N.Staged.over g.D.Disk.bytes g.D.Disk.faults g.D.Disk.image c.args.turns.now.nodes
    c.args.turns.now.line c.args.grounds.now c.args.round c.args.failmode c.args.trees.now.items c.args.ended.now.items c.trees.turns.nodes c.run_to_tree.new.turns.nodes c.hear_tree.new.turns.nodes c.trees.turns.line
    c.run_to_tree.new.turns.line c.hear_tree.new.turns.line c.trees.grounds c.run_to_tree.new.grounds c.trees.trees.items c.trees.ended.items
    c.run_to_tree.new.ended.items c.trees.invariant.2 c.in-Some.heard (rw c.in-Some.is at c.in_ok-heard.ensures.runs) c.requires.runs in
    let few : c.under_way-attempt.result ≤ 3 =
    few_attempts c.trees.trees.items c.as_slice.result.now c.in-Some.heard.tree under.0 c.under_way-attempt.result
    c.as_slice.ensures.value under.1 c.under_way-attempt.ensures under.2 in
    let e = ap (λ (xs : List TreeState). sum_by attempts_left xs) c.set_state-in-Some-end.ensures in
    omega (
      arith,
      e,
      fewer_settled c.trees.trees.items c.in-Some.heard.tree c.under_way-attempt.result c.in-Some-end.end
          (state_there c.trees.trees.items c.as_slice.result.now c.in-Some.heard.tree c.under_way-attempt.result
          c.as_slice.ensures.value c.under_way-attempt.ensures) few,
    )

pub returns-in_err-heard-clause-stopped : goal.returns-in_err-heard-clause-stopped
returns-in_err-heard-clause-stopped g c = on_err c.from_residual.result
    (trees_stop g.N.NodeFacts.nodes g.D.Disk.bytes g.D.Disk.image c.args.turns.now.nodes c.trees.turns.nodes c.args.turns.now.line c.trees.turns.line
    c.args.grounds.now c.trees.grounds c.args.round c.args.failmode c.args.trees.now.items c.trees.trees.items c.args.ended.now.items
    c.trees.ended.items c.run_to_tree.new.grounds.disks.items c.trees.invariant.2.gone c.in_err-heard.ensures.stopped)

pub returns-in_default-hear_tree-clause-stopped : goal.returns-in_default-hear_tree-clause-stopped
returns-in_default-hear_tree-clause-stopped g c =
    trees_stop g.N.NodeFacts.nodes g.D.Disk.bytes g.D.Disk.image c.args.turns.now.nodes c.trees.turns.nodes c.args.turns.now.line c.trees.turns.line
    c.args.grounds.now c.trees.grounds c.args.round c.args.failmode c.args.trees.now.items c.trees.trees.items c.args.ended.now.items
    c.trees.ended.items c.run_to_tree.new.grounds.disks.items c.trees.invariant.2.gone
    (heard_stops g.N.NodeFacts.nodes g.D.Disk.bytes g.D.Disk.image c.trees.turns.nodes c.run_to_tree.new.turns.nodes c.trees.turns.line
    c.run_to_tree.new.turns.line c.trees.grounds c.run_to_tree.new.grounds c.trees.ended.items c.run_to_tree.new.ended.items c.in-Some.heard
    (rw c.in-Some.is at c.in_ok-heard.ensures.runs))

pub returns-in_err-heard-clause-same : goal.returns-in_err-heard-clause-same
returns-in_err-heard-clause-same g c =
    same_then g.D.Disk.bytes g.D.Disk.faults g.D.Disk.faults_at_fetch g.D.Disk.home g.D.Disk.image g.D.Disk.sound c.args.grounds.now.disks.items c.trees.grounds.disks.items
    c.run_to_tree.new.grounds.disks.items c.trees.invariant.1 c.run_to_tree.ensures.same

pub returns-in_default-clause-same : goal.returns-in_default-clause-same
returns-in_default-clause-same g c =
    same_then g.D.Disk.bytes g.D.Disk.faults g.D.Disk.faults_at_fetch g.D.Disk.home g.D.Disk.image g.D.Disk.sound c.args.grounds.now.disks.items c.trees.grounds.disks.items
    c.run_to_tree.new.grounds.disks.items c.trees.invariant.1 c.run_to_tree.ensures.same

pub returns-in_default-hear_tree-clause-same : goal.returns-in_default-hear_tree-clause-same
returns-in_default-hear_tree-clause-same g c =
    same_then g.D.Disk.bytes g.D.Disk.faults g.D.Disk.faults_at_fetch g.D.Disk.home g.D.Disk.image g.D.Disk.sound c.args.grounds.now.disks.items c.trees.grounds.disks.items
    c.run_to_tree.new.grounds.disks.items c.trees.invariant.1 c.run_to_tree.ensures.same

pub returns-in_err-heard-clause-wrote : goal.returns-in_err-heard-clause-wrote
returns-in_err-heard-clause-wrote g c =
    trees_wrote g.N.NodeFacts.nodes g.D.Disk.bytes g.D.Disk.image g.D.Disk.went c.args.turns.now.nodes c.trees.turns.nodes
    c.args.turns.now.line c.trees.turns.line c.args.grounds.now c.trees.grounds c.args.round c.args.failmode c.args.trees.now.items
    c.trees.trees.items c.args.ended.now.items c.trees.ended.items c.run_to_tree.new.grounds.disks.items c.trees.invariant.2.gone
    c.trees.invariant.4 c.run_to_tree.ensures.wrote

pub returns-in_default-clause-wrote : goal.returns-in_default-clause-wrote
returns-in_default-clause-wrote g c =
    trees_wrote g.N.NodeFacts.nodes g.D.Disk.bytes g.D.Disk.image g.D.Disk.went c.args.turns.now.nodes c.trees.turns.nodes
    c.args.turns.now.line c.trees.turns.line c.args.grounds.now c.trees.grounds c.args.round c.args.failmode c.args.trees.now.items
    c.trees.trees.items c.args.ended.now.items c.trees.ended.items c.run_to_tree.new.grounds.disks.items c.trees.invariant.2.gone
    c.trees.invariant.4 c.run_to_tree.ensures.wrote

pub returns-in_default-hear_tree-clause-wrote : goal.returns-in_default-hear_tree-clause-wrote
returns-in_default-hear_tree-clause-wrote g c =
    trees_wrote g.N.NodeFacts.nodes g.D.Disk.bytes g.D.Disk.image g.D.Disk.went c.args.turns.now.nodes c.trees.turns.nodes
    c.args.turns.now.line c.trees.turns.line c.args.grounds.now c.trees.grounds c.args.round c.args.failmode c.args.trees.now.items
    c.trees.trees.items c.args.ended.now.items c.trees.ended.items c.run_to_tree.new.grounds.disks.items c.trees.invariant.2.gone
    c.trees.invariant.4 c.run_to_tree.ensures.wrote
