use Rattle.std.proofs.Common.{◌≡◌, List, map, sym, ap, ◌∙◌, subst}
use Rattle.std.specs.List.{AllByRecursion}
use Rattle.std.proofs.lemmas.Result.{err_from_is_err_and}
use Rattle.zio_places.specs.Spaces.{SpaceState}
use Rattle.zio_cksum.proofs.AllLemmas.{all_weaker}
use Rattle.zio_disks.specs.Disks.{AreSameDisks}
use Rattle.zio_course.specs.declared.runner.Stop.TheVariants.{Device, Memory}
use Rattle.zio_exchange.specs.Waits.{pendings}
use Rattle.zio_exchange.specs.Wholes.{IsWhole}
use Rattle.zio_exchange.specs.declared.outcome.FinishedRequest.{FinishedRequest}
use Rattle.zio_turns.proofs.StopLemmas.{on_err}
use Rattle.zio_graph.specs.EngineTrees.{IsEngineTree, IsWithinLimits}
use Rattle.zio_graph.specs.Ends.{completion_of, left_in, told_of}
use Rattle.zio_graph.specs.InUse.{LeavesInUse}
use Rattle.zio_graph.specs.Jobs.{IsSoundJob, size_at}
use Rattle.zio_graph.specs.SteadyGrounds.{standing_on, terms_on}
use Rattle.zio_graph.proofs.EndedRounds.{ends_so, fits, is_so, stands, still, trees_left}
use Rattle.zio_graph.proofs.Lefts.{left_within}
use Rattle.zio_graph.proofs.Overs.{loose_then, steady_job}
use Rattle.zio_graph.proofs.WroteRounds.{spares_now, wrote_now}
use Rattle.zio_graph.proofs.wholes.run_wholes.Goals as goal

pub returns-clause-round : goal.returns-clause-round
returns-clause-round g c =
    let m = g.D.Disk in
    let job : IsSoundJob (terms_on c.args.grounds.now c.args.failmode c.args.round)
    (size_at (map m.bytes c.args.grounds.now.disks.items)) c.args.wholes =
    steady_job m.bytes m.faults c.args.grounds.now c.args.round c.args.failmode c.requires.steady c.args.wholes c.requires.trees
    c.requires.runs in
    is_so g.N.NodeFacts.nodes m.bytes m.faults m.image c.args.grounds.now c.args.round c.args.failmode c.requires.steady c.args.wholes
    c.requires.runs job c.run_to_end.new.grounds c.in_ok-trees.field-0.trees.items c.in_ok-trees.field-0.ended.items
    c.in_ok-trees.ensures.count c.in_ok-trees.ensures.ends (map told_of c.by_number-finished.result) c.by_number-finished.ensures.same
    c.by_number-finished.ensures.order c.in_ok-left.left c.in_ok-left.ensures.left c.in_ok-completions.completions
    (c.in_ok-completions.ensures ∙ ap (λ (fs : List FinishedRequest). map (completion_of c.args.round) fs) c.as_slice.ensures.value)
    c.end_round-entries.result c.end_round-entries.ensures.entries g.met.D.Disk.has_size c.run_to_end.ensures.same.sizes
    c.end_round-entries.new.self.disks.items c.end_round-entries.ensures.disks

pub returns-clause-end : goal.returns-clause-end
returns-clause-end g c =
    let m = g.D.Disk in
    let job : IsSoundJob (terms_on c.args.grounds.now c.args.failmode c.args.round)
    (size_at (map m.bytes c.args.grounds.now.disks.items)) c.args.wholes =
    steady_job m.bytes m.faults c.args.grounds.now c.args.round c.args.failmode c.requires.steady c.args.wholes c.requires.trees
    c.requires.runs in
    ends_so g.N.NodeFacts.nodes m.bytes m.faults m.image c.args.grounds.now c.args.round c.args.failmode c.requires.steady
    c.args.wholes c.requires.runs job c.run_to_end.new.grounds c.in_ok-trees.field-0.trees.items
    c.in_ok-trees.field-0.ended.items c.in_ok-trees.ensures.count c.in_ok-trees.ensures.ends (map told_of c.by_number-finished.result)
    c.by_number-finished.ensures.same c.by_number-finished.ensures.order c.in_ok-left.left c.in_ok-left.ensures.left
    c.in_ok-completions.completions
    (c.in_ok-completions.ensures ∙ ap (λ (fs : List FinishedRequest). map (completion_of c.args.round) fs) c.as_slice.ensures.value)
    c.end_round-entries.result c.end_round-entries.ensures.entries

pub returns-clause-stands : goal.returns-clause-stands
returns-clause-stands g c =
    let m = g.D.Disk in
    let job : IsSoundJob (terms_on c.args.grounds.now c.args.failmode c.args.round)
    (size_at (map m.bytes c.args.grounds.now.disks.items)) c.args.wholes =
    steady_job m.bytes m.faults c.args.grounds.now c.args.round c.args.failmode c.requires.steady c.args.wholes c.requires.trees
    c.requires.runs in
    subst (λ (st : SpaceState). LeavesInUse (standing_on m.faults c.args.grounds.now)
    (map pendings c.args.wholes) (map told_of c.by_number-finished.result) st.live)
    (sym c.end_round-entries.ensures.space)
    (stands g.N.NodeFacts.nodes m.bytes m.faults m.image c.args.grounds.now c.args.round c.args.failmode c.requires.steady
    c.args.wholes c.requires.runs job c.run_to_end.new.grounds c.in_ok-trees.field-0.trees.items
    c.in_ok-trees.field-0.ended.items c.in_ok-trees.ensures.count c.in_ok-trees.ensures.ends (map told_of c.by_number-finished.result)
    c.by_number-finished.ensures.same c.by_number-finished.ensures.order)

pub returns-clause-fits : goal.returns-clause-fits
returns-clause-fits g c =
    let m = g.D.Disk in
    let job : IsSoundJob (terms_on c.args.grounds.now c.args.failmode c.args.round)
    (size_at (map m.bytes c.args.grounds.now.disks.items)) c.args.wholes =
    steady_job m.bytes m.faults c.args.grounds.now c.args.round c.args.failmode c.requires.steady c.args.wholes c.requires.trees
    c.requires.runs in
    fits g.N.NodeFacts.nodes m.bytes m.faults m.image c.args.grounds.now c.args.round c.args.failmode c.requires.steady c.args.wholes
    c.requires.runs job c.run_to_end.new.grounds c.in_ok-trees.field-0.trees.items c.in_ok-trees.field-0.ended.items
    c.in_ok-trees.ensures.count c.in_ok-trees.ensures.ends (map told_of c.by_number-finished.result) c.by_number-finished.ensures.same
    c.by_number-finished.ensures.order

pub returns-clause-left : goal.returns-clause-left
returns-clause-left g c = λ limits.
    let m = g.D.Disk in
    let job : IsSoundJob (terms_on c.args.grounds.now c.args.failmode c.args.round)
    (size_at (map m.bytes c.args.grounds.now.disks.items)) c.args.wholes =
    steady_job m.bytes m.faults c.args.grounds.now c.args.round c.args.failmode c.requires.steady c.args.wholes c.requires.trees
    c.requires.runs in
    subst (AllByRecursion IsEngineTree) (sym c.in_ok-left.ensures.left)
    (trees_left g.N.NodeFacts.nodes m.bytes m.faults m.image c.args.grounds.now c.args.round c.args.failmode c.requires.steady
    c.args.wholes c.requires.runs job c.run_to_end.new.grounds c.in_ok-trees.field-0.trees.items
    c.in_ok-trees.field-0.ended.items c.in_ok-trees.ensures.count c.in_ok-trees.ensures.ends
    (subst (AllByRecursion IsWhole) c.in_ok-left.ensures.left c.in_ok-left.ensures.whole)
    (all_weaker (g.N.Staged.tree_over c.args.grounds.now.setting.tops) (AllByRecursion IsWithinLimits)
    (left_in c.in_ok-trees.field-0.trees.items) limits
    (left_within
    (g.N.Staged.tree_over c.args.grounds.now.setting.tops) c.in_ok-trees.field-0.trees.items c.in_ok-trees.ensures.over)))

pub returns-clause-over : goal.returns-clause-over
returns-clause-over g c =
    subst (AllByRecursion (g.N.Staged.tree_over c.args.grounds.now.setting.tops)) (sym c.in_ok-left.ensures.left)
    (left_within
    (g.N.Staged.tree_over c.args.grounds.now.setting.tops) c.in_ok-trees.field-0.trees.items c.in_ok-trees.ensures.over)

pub returns-clause-steady : goal.returns-clause-steady
returns-clause-steady g c =
    let m = g.D.Disk in
    let job : IsSoundJob (terms_on c.args.grounds.now c.args.failmode c.args.round)
    (size_at (map m.bytes c.args.grounds.now.disks.items)) c.args.wholes =
    steady_job m.bytes m.faults c.args.grounds.now c.args.round c.args.failmode c.requires.steady c.args.wholes c.requires.trees
    c.requires.runs in
    still g.N.NodeFacts.nodes m.bytes m.faults m.image c.args.grounds.now c.args.round c.args.failmode c.requires.steady c.args.wholes
    c.requires.runs job c.run_to_end.new.grounds c.in_ok-trees.field-0.trees.items c.in_ok-trees.field-0.ended.items
    c.in_ok-trees.ensures.count c.in_ok-trees.ensures.ends c.end_round-entries.new.self c.run_to_end.ensures.setting
    c.run_to_end.ensures.same.sizes
    (record {
      space = c.end_round-entries.ensures.space;
      tops = c.end_round-entries.ensures.tops;
      setting = c.end_round-entries.ensures.setting;
      disks = c.end_round-entries.ensures.disks;
      queues = c.end_round-entries.ensures.queues;
    })

pub returns-in_err-left-clause-images : goal.returns-in_err-left-clause-images
returns-in_err-left-clause-images g c = on_err c.from_residual-in_err-left.result
    (loose_then g.D.Disk.image (standing_on g.D.Disk.faults c.args.grounds.now)
    (map pendings c.args.wholes) c.args.grounds.now.disks.items c.run_to_end.new.grounds.disks.items
    c.end_round-entries.new.self.disks.items c.end_round-entries.ensures.disks c.run_to_end.ensures.images)

pub returns-in_err-left-clause-device : goal.returns-in_err-left-clause-device
returns-in_err-left-clause-device g c = λ is.
    let q = err_from_is_err_and c.from_residual-in_err-left.result c.from_residual-in_err-left.ensures.1 in
    let no : Memory ≡ Device = cc in absurd (cc)

pub returns-in_err-left-clause-same : goal.returns-in_err-left-clause-same
returns-in_err-left-clause-same g c =
    let m = g.D.Disk in
    subst
    (λ (ds : List _). AreSameDisks m.bytes m.faults m.faults_at_fetch m.home m.image m.sound c.args.grounds.now.disks.items ds)
    (sym c.end_round-entries.ensures.disks) c.run_to_end.ensures.same

pub returns-in_err-completions-clause-images : goal.returns-in_err-completions-clause-images
returns-in_err-completions-clause-images g c = on_err c.from_residual-in_err-completions.result
    (loose_then g.D.Disk.image (standing_on g.D.Disk.faults c.args.grounds.now)
    (map pendings c.args.wholes) c.args.grounds.now.disks.items c.run_to_end.new.grounds.disks.items
    c.end_round-entries.new.self.disks.items c.end_round-entries.ensures.disks c.run_to_end.ensures.images)

pub returns-in_err-completions-clause-device : goal.returns-in_err-completions-clause-device
returns-in_err-completions-clause-device g c = λ is.
    let q = err_from_is_err_and c.from_residual-in_err-completions.result c.from_residual-in_err-completions.ensures.1 in
    let no : Memory ≡ Device = cc in absurd (cc)

pub returns-in_err-completions-clause-same : goal.returns-in_err-completions-clause-same
returns-in_err-completions-clause-same g c =
    let m = g.D.Disk in
    subst
    (λ (ds : List _). AreSameDisks m.bytes m.faults m.faults_at_fetch m.home m.image m.sound c.args.grounds.now.disks.items ds)
    (sym c.end_round-entries.ensures.disks) c.run_to_end.ensures.same

pub returns-clause-same : goal.returns-clause-same
returns-clause-same g c =
    let m = g.D.Disk in
    subst
    (λ (ds : List _). AreSameDisks m.bytes m.faults m.faults_at_fetch m.home m.image m.sound c.args.grounds.now.disks.items ds)
    (sym c.end_round-entries.ensures.disks) c.run_to_end.ensures.same

pub returns-in_err-left-clause-wrote : goal.returns-in_err-left-clause-wrote
returns-in_err-left-clause-wrote g c =
    wrote_now g.D.Disk.went (standing_on g.D.Disk.faults c.args.grounds.now) (map pendings c.args.wholes)
    c.args.grounds.now.disks.items c.run_to_end.new.grounds.disks.items c.end_round-entries.new.self.disks.items
    c.end_round-entries.ensures.disks c.run_to_end.ensures.wrote

pub returns-in_err-left-clause-spares : goal.returns-in_err-left-clause-spares
returns-in_err-left-clause-spares g c =
    spares_now g.D.Disk.image g.D.Disk.went (standing_on g.D.Disk.faults c.args.grounds.now) (map pendings c.args.wholes)
    c.args.grounds.now.disks.items c.run_to_end.new.grounds.disks.items c.end_round-entries.new.self.disks.items
    c.end_round-entries.ensures.disks c.run_to_end.ensures.spares

pub returns-in_err-completions-clause-wrote : goal.returns-in_err-completions-clause-wrote
returns-in_err-completions-clause-wrote g c =
    wrote_now g.D.Disk.went (standing_on g.D.Disk.faults c.args.grounds.now) (map pendings c.args.wholes)
    c.args.grounds.now.disks.items c.run_to_end.new.grounds.disks.items c.end_round-entries.new.self.disks.items
    c.end_round-entries.ensures.disks c.run_to_end.ensures.wrote

pub returns-in_err-completions-clause-spares : goal.returns-in_err-completions-clause-spares
returns-in_err-completions-clause-spares g c =
    spares_now g.D.Disk.image g.D.Disk.went (standing_on g.D.Disk.faults c.args.grounds.now) (map pendings c.args.wholes)
    c.args.grounds.now.disks.items c.run_to_end.new.grounds.disks.items c.end_round-entries.new.self.disks.items
    c.end_round-entries.ensures.disks c.run_to_end.ensures.spares

pub returns-clause-wrote : goal.returns-clause-wrote
returns-clause-wrote g c =
    wrote_now g.D.Disk.went (standing_on g.D.Disk.faults c.args.grounds.now) (map pendings c.args.wholes)
    c.args.grounds.now.disks.items c.run_to_end.new.grounds.disks.items c.end_round-entries.new.self.disks.items
    c.end_round-entries.ensures.disks c.run_to_end.ensures.wrote

pub returns-clause-spares : goal.returns-clause-spares
returns-clause-spares g c =
    spares_now g.D.Disk.image g.D.Disk.went (standing_on g.D.Disk.faults c.args.grounds.now) (map pendings c.args.wholes)
    c.args.grounds.now.disks.items c.run_to_end.new.grounds.disks.items c.end_round-entries.new.self.disks.items
    c.end_round-entries.ensures.disks c.run_to_end.ensures.spares
