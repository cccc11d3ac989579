use Rattle.std.proofs.Common.{List, length, map, refl, sym, ◌∙◌, subst}
use Rattle.std.specs.List.{AllByRecursion}
use Rattle.zio_types.specs.declared.place.Top.{Top}
use Rattle.zio_disks.proofs.DiskLemmas.{same_itself}
use Rattle.zio_exchange.specs.Waits.{pendings}
use Rattle.zio_turns.specs.Slabs.{AreAll}
use Rattle.zio_turns.specs.UnderTrees.{StateIn}
use Rattle.zio_graph.specs.Jobs.{IsSoundJob, size_at}
use Rattle.zio_graph.specs.SteadyGrounds.{standing_on, terms_on}
use Rattle.zio_graph.proofs.Begun.{begun_count, begun_within, some_runs}
use Rattle.zio_graph.proofs.FewTrees.{few_trees}
use Rattle.zio_graph.proofs.Overs.{ends_on, loose_itself, loose_over, loose_stopped, steady_job}
use Rattle.zio_graph.specs.Crashes.{MayWrite}
use Rattle.zio_graph.proofs.WroteRounds.{may_write, spares, spares_same}
use Rattle.zio_turns.proofs.WroteLemmas.{wrote_same}
use Rattle.zio_graph.proofs.wholes.run_to_end.Goals as goal

pub begin_trees-requires-clause-few : goal.begin_trees-requires-clause-few
begin_trees-requires-clause-few g c =
    few_trees (standing_on g.D.Disk.faults c.args.grounds.now) c.args.wholes c.requires.trees c.requires.runs

pub run_trees-requires-clause-runs : goal.run_trees-requires-clause-runs
run_trees-requires-clause-runs g c =
    let m = g.D.Disk in
    some_runs g.N.NodeFacts.nodes m.bytes m.image c.args.grounds.now c.args.round c.args.failmode c.requires.steady
    c.begin_trees.new.turns.nodes c.begin_trees.new.turns.line c.args.wholes c.in_ok-trees.trees.items
    c.in_ok-trees.ensures.begins c.in_ok-trees.ensures.states
    (steady_job m.bytes m.faults c.args.grounds.now c.args.round c.args.failmode c.requires.steady c.args.wholes c.requires.trees
    c.requires.runs)

pub run_trees-requires-clause-over : goal.run_trees-requires-clause-over
run_trees-requires-clause-over g c =
    subst (λ (tops : List Top). AreAll (g.N.Staged.over tops) c.begin_trees.new.turns.nodes) (sym c.requires.steady.tops_are)
    (c.in_ok-trees.ensures.over c.args.grounds.now.setting.tops c.requires.over)

pub returns-in_err-trees-clause-images : goal.returns-in_err-trees-clause-images
returns-in_err-trees-clause-images g c =
    loose_itself g.D.Disk.image (standing_on g.D.Disk.faults c.args.grounds.now)
    (map pendings c.args.wholes) c.args.grounds.now.disks.items c.args.grounds.now.disks.items refl

pub returns-in_err-trees-clause-same : goal.returns-in_err-trees-clause-same
returns-in_err-trees-clause-same g c =
    let m = g.D.Disk in
    same_itself m.bytes m.faults m.faults_at_fetch m.home m.image m.sound c.args.grounds.now.disks.items

pub returns-in-Ok-clause-ends : goal.returns-in-Ok-clause-ends
returns-in-Ok-clause-ends g c =
    let m = g.D.Disk in
    ends_on g.N.NodeFacts.nodes m.bytes m.faults m.image c.args.grounds.now c.args.round c.args.failmode c.requires.steady
    c.args.wholes c.begin_trees.new.turns.nodes c.run_trees.new.turns.nodes c.begin_trees.new.turns.line
    c.run_trees.new.turns.line c.run_trees.new.grounds c.in_ok-trees.trees.items c.run_trees.new.trees.items
    c.new-ended.result.items c.run_trees.new.ended.items c.in_ok-trees.ensures.begins c.in_ok-trees.ensures.states
    c.new-ended.ensures.items c.in-Ok.ensures.runs

pub returns-in-Ok-clause-count : goal.returns-in-Ok-clause-count
returns-in-Ok-clause-count g c =
    c.in-Ok.ensures.count ∙ begun_count (length c.args.wholes) c.in_ok-trees.trees.items c.in_ok-trees.ensures.states

pub returns-in-Ok-clause-over : goal.returns-in-Ok-clause-over
returns-in-Ok-clause-over g c =
    subst (λ (tops : List Top). AllByRecursion
    (StateIn (g.N.Staged.tree_over tops)) c.run_trees.new.trees.items) c.requires.steady.tops_are
    (c.in-Ok.ensures.inside
    (begun_within (g.N.Staged.tree_over c.args.grounds.now.desk.tops)
    (length c.args.wholes) c.in_ok-trees.trees.items c.in_ok-trees.ensures.states))

pub returns-in-Ok-clause-images : goal.returns-in-Ok-clause-images
returns-in-Ok-clause-images g c =
    let m = g.D.Disk in
    let job : IsSoundJob (terms_on c.args.grounds.now c.args.failmode c.args.round)
    (size_at (map m.bytes c.args.grounds.now.disks.items)) c.args.wholes =
    steady_job m.bytes m.faults c.args.grounds.now c.args.round c.args.failmode c.requires.steady c.args.wholes c.requires.trees
    c.requires.runs in
    loose_over g.N.NodeFacts.nodes m.bytes m.faults m.image c.args.grounds.now c.args.round c.args.failmode c.requires.steady
    c.args.wholes job g.met.D.Disk.has_size c.run_trees.new.grounds c.run_trees.new.trees.items c.run_trees.new.ended.items
    (ends_on g.N.NodeFacts.nodes m.bytes m.faults m.image c.args.grounds.now c.args.round c.args.failmode c.requires.steady
    c.args.wholes c.begin_trees.new.turns.nodes c.run_trees.new.turns.nodes c.begin_trees.new.turns.line
    c.run_trees.new.turns.line c.run_trees.new.grounds c.in_ok-trees.trees.items c.run_trees.new.trees.items
    c.new-ended.result.items c.run_trees.new.ended.items c.in_ok-trees.ensures.begins c.in_ok-trees.ensures.states
    c.new-ended.ensures.items c.in-Ok.ensures.runs) c.run_trees.ensures.same.sizes

pub returns-clause-images : goal.returns-clause-images
returns-clause-images g c =
    let m = g.D.Disk in
    let job : IsSoundJob (terms_on c.args.grounds.now c.args.failmode c.args.round)
    (size_at (map m.bytes c.args.grounds.now.disks.items)) c.args.wholes =
    steady_job m.bytes m.faults c.args.grounds.now c.args.round c.args.failmode c.requires.steady c.args.wholes c.requires.trees
    c.requires.runs in
    loose_stopped g.N.NodeFacts.nodes m.bytes m.faults m.image c.args.grounds.now c.args.round c.args.failmode c.requires.steady
    c.args.wholes job g.met.D.Disk.has_size c.begin_trees.new.turns.nodes c.begin_trees.new.turns.line c.in_ok-trees.trees.items
    c.run_trees.new.grounds.disks.items c.in_ok-trees.ensures.begins c.in_ok-trees.ensures.states c.run_trees.ensures.same.sizes
    c.in-Err.ensures.stopped

pub returns-in_err-trees-clause-wrote : goal.returns-in_err-trees-clause-wrote
returns-in_err-trees-clause-wrote g c =
    wrote_same g.D.Disk.went (MayWrite (standing_on g.D.Disk.faults c.args.grounds.now) (map pendings c.args.wholes))
    c.args.grounds.now.disks.items c.args.grounds.now.disks.items refl

pub returns-in_err-trees-clause-spares : goal.returns-in_err-trees-clause-spares
returns-in_err-trees-clause-spares g c =
    spares_same g.D.Disk.image g.D.Disk.went (standing_on g.D.Disk.faults c.args.grounds.now) (map pendings c.args.wholes)
    c.args.grounds.now.disks.items c.args.grounds.now.disks.items refl

pub returns-in-Ok-clause-wrote : goal.returns-in-Ok-clause-wrote
returns-in-Ok-clause-wrote g c =
    let m = g.D.Disk in
    may_write g.N.NodeFacts.nodes m.bytes m.faults m.image m.went c.args.grounds.now c.args.round c.args.failmode c.requires.steady
    c.args.wholes
    (steady_job m.bytes m.faults c.args.grounds.now c.args.round c.args.failmode c.requires.steady c.args.wholes c.requires.trees
    c.requires.runs)
    c.begin_trees.new.turns.nodes c.begin_trees.new.turns.line c.in_ok-trees.trees.items c.run_trees.new.grounds.disks.items
    c.in_ok-trees.ensures.begins c.in_ok-trees.ensures.states c.run_trees.ensures.wrote

pub returns-in-Ok-clause-spares : goal.returns-in-Ok-clause-spares
returns-in-Ok-clause-spares g c =
    let m = g.D.Disk in
    spares g.N.NodeFacts.nodes m.bytes m.faults m.image m.went c.args.grounds.now c.args.round c.args.failmode c.requires.steady
    c.args.wholes
    (steady_job m.bytes m.faults c.args.grounds.now c.args.round c.args.failmode c.requires.steady c.args.wholes c.requires.trees
    c.requires.runs)
    c.begin_trees.new.turns.nodes c.begin_trees.new.turns.line c.in_ok-trees.trees.items c.run_trees.new.grounds.disks.items
    c.in_ok-trees.ensures.begins c.in_ok-trees.ensures.states c.run_trees.ensures.wrote g.met.D.Disk.has_size

pub returns-clause-wrote : goal.returns-clause-wrote
returns-clause-wrote g c =
    let m = g.D.Disk in
    may_write g.N.NodeFacts.nodes m.bytes m.faults m.image m.went c.args.grounds.now c.args.round c.args.failmode c.requires.steady
    c.args.wholes
    (steady_job m.bytes m.faults c.args.grounds.now c.args.round c.args.failmode c.requires.steady c.args.wholes c.requires.trees
    c.requires.runs)
    c.begin_trees.new.turns.nodes c.begin_trees.new.turns.line c.in_ok-trees.trees.items c.run_trees.new.grounds.disks.items
    c.in_ok-trees.ensures.begins c.in_ok-trees.ensures.states c.run_trees.ensures.wrote

pub returns-clause-spares : goal.returns-clause-spares
returns-clause-spares g c =
    let m = g.D.Disk in
    spares g.N.NodeFacts.nodes m.bytes m.faults m.image m.went c.args.grounds.now c.args.round c.args.failmode c.requires.steady
    c.args.wholes
    (steady_job m.bytes m.faults c.args.grounds.now c.args.round c.args.failmode c.requires.steady c.args.wholes c.requires.trees
    c.requires.runs)
    c.begin_trees.new.turns.nodes c.begin_trees.new.turns.line c.in_ok-trees.trees.items c.run_trees.new.grounds.disks.items
    c.in_ok-trees.ensures.begins c.in_ok-trees.ensures.states c.run_trees.ensures.wrote g.met.D.Disk.has_size
