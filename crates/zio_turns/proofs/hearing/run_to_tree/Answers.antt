use Rattle.std.proofs.Common.{refl}
use Rattle.zio_disks.proofs.DiskLemmas.{same_itself, same_then}
use Rattle.zio_turns.proofs.HearingMoves.{hearing_begins, hearing_goes, hearing_nothing, hearing_root, hearing_some}
use Rattle.zio_turns.proofs.StopLemmas.{on_err, run_stops, same_stops}
use Rattle.zio_turns.proofs.WroteLemmas.{none_wrote, run_wrote}
use Rattle.zio_turns.proofs.hearing.run_to_tree.Goals as goal

pub told-init : goal.told-init
told-init g c = (
  same_itself g.D.Disk.bytes g.D.Disk.faults g.D.Disk.faults_at_fetch g.D.Disk.home g.D.Disk.image g.D.Disk.sound c.args.grounds.now.disks.items,
  hearing_begins g.N.NodeFacts.nodes g.N.Staged.over g.D.Disk.bytes g.D.Disk.faults g.D.Disk.image c.args.turns.now.nodes
      c.args.turns.now.line c.args.grounds.now c.args.ended.now.items c.requires.over,
  none_wrote g.N.NodeFacts.nodes g.D.Disk.bytes g.D.Disk.image g.D.Disk.went c.args.turns.now.nodes c.args.turns.now.line
      c.args.grounds.now c.args.grounds.now.disks.items refl,
)

pub run_on-requires-clause-going : goal.run_on-requires-clause-going
run_on-requires-clause-going g c =
    hearing_some g.N.NodeFacts.nodes g.N.Staged.over g.D.Disk.bytes g.D.Disk.faults g.D.Disk.image c.args.turns.now.nodes
    c.args.turns.now.line c.args.grounds.now c.args.ended.now.items c.told.turns.nodes c.told.turns.nodes c.told.turns.line
    c.told.turns.line c.told.grounds c.told.grounds c.told.ended.items c.told.invariant.1 c.requires.going

pub returns-in-Nothing-clause-runs : goal.returns-in-Nothing-clause-runs
returns-in-Nothing-clause-runs g c = hearing_nothing g.N.NodeFacts.nodes g.N.Staged.over g.D.Disk.bytes g.D.Disk.faults g.D.Disk.image c.args.turns.now.nodes
    c.args.turns.now.line c.args.grounds.now c.args.ended.now.items c.told.turns.nodes c.run_on.new.turns.nodes c.told.turns.line
    c.run_on.new.turns.line c.told.grounds c.run_on.new.grounds c.told.ended.items c.told.invariant.1 (rw c.in-Nothing.is at c.in_ok-run_on.ensures.runs)

pub returns-in-Root-clause-runs : goal.returns-in-Root-clause-runs
returns-in-Root-clause-runs g c =
    hearing_root g.N.NodeFacts.nodes g.N.Staged.over g.D.Disk.bytes g.D.Disk.faults g.D.Disk.image c.args.turns.now.nodes
    c.args.turns.now.line c.args.grounds.now c.args.ended.now.items c.told.turns.nodes c.run_on.new.turns.nodes c.told.turns.line
    c.run_on.new.turns.line c.told.grounds c.run_on.new.grounds c.told.ended.items c.told.invariant.1 c.in-Root.tree c.in-Root.outcome
    (rw c.in-Root.is at c.in_ok-run_on.ensures.runs)

pub told-preserved : goal.told-preserved
told-preserved g c = (
  same_then g.D.Disk.bytes g.D.Disk.faults g.D.Disk.faults_at_fetch g.D.Disk.home g.D.Disk.image g.D.Disk.sound c.args.grounds.now.disks.items c.told.grounds.disks.items
      c.run_on.new.grounds.disks.items c.told.invariant.0 c.run_on.ensures.same,
  hearing_goes g.N.NodeFacts.nodes g.N.Staged.over g.D.Disk.bytes g.D.Disk.faults g.D.Disk.image c.args.turns.now.nodes
      c.args.turns.now.line c.args.grounds.now c.args.ended.now.items c.told.turns.nodes c.run_on.new.turns.nodes c.told.turns.line
      c.run_on.new.turns.line c.told.grounds c.run_on.new.grounds c.told.ended.items c.told.invariant.1 c.in-Ended.finished c.push.new.self.items
      (rw c.in-Ended.is at c.in_ok-run_on.ensures.runs) c.in-Ok.ensures.items c.in_ok-run_on.ensures.over c.run_on.ensures.tops
      c.run_on.ensures.setting c.in_ok-run_on.ensures.steady,
  run_wrote g.N.NodeFacts.nodes g.D.Disk.bytes g.D.Disk.image g.D.Disk.went c.args.turns.now.nodes c.told.turns.nodes
      c.args.turns.now.line c.told.turns.line c.args.grounds.now c.told.grounds c.run_on.new.grounds.disks.items
      (λ t sizes f before s sound going. let turned = (c.told.invariant.1.gone t sizes f before s sound going).3 in (turned.now, turned.going))
      c.told.invariant.2 c.run_on.ensures.wrote,
)

pub returns-in_err-run_on-clause-stopped : goal.returns-in_err-run_on-clause-stopped
returns-in_err-run_on-clause-stopped g c = on_err c.from_residual.result
    (run_stops g.N.NodeFacts.nodes g.D.Disk.bytes g.D.Disk.image c.args.turns.now.nodes c.told.turns.nodes c.args.turns.now.line c.told.turns.line
    c.args.grounds.now c.told.grounds c.run_on.new.grounds.disks.items
    (λ t sizes f before s sound going. let turned = (c.told.invariant.1.gone t sizes f before s sound going).3 in (turned.now, turned.going)) c.in_err-run_on.ensures.stopped)

pub returns-in_default-clause-stopped : goal.returns-in_default-clause-stopped
returns-in_default-clause-stopped g c =
    let runs = rw c.in-Ended.is at c.in_ok-run_on.ensures.runs in
    run_stops g.N.NodeFacts.nodes g.D.Disk.bytes g.D.Disk.image c.args.turns.now.nodes c.told.turns.nodes c.args.turns.now.line c.told.turns.line
    c.args.grounds.now c.told.grounds c.run_on.new.grounds.disks.items
    (λ t sizes f before s sound going. let turned = (c.told.invariant.1.gone t sizes f before s sound going).3 in (turned.now, turned.going))
    (run_stops g.N.NodeFacts.nodes g.D.Disk.bytes g.D.Disk.image c.told.turns.nodes c.run_on.new.turns.nodes c.told.turns.line c.run_on.new.turns.line
    c.told.grounds c.run_on.new.grounds c.run_on.new.grounds.disks.items
    (λ t sizes f before s sound going. let turned = (runs t sizes f before s sound going).1 in (turned.now, turned.going))
    (same_stops g.N.NodeFacts.nodes g.D.Disk.bytes g.D.Disk.image c.run_on.new.turns.nodes c.run_on.new.turns.line c.run_on.new.grounds
    c.run_on.new.grounds.disks.items refl))

pub returns-in_err-run_on-clause-same : goal.returns-in_err-run_on-clause-same
returns-in_err-run_on-clause-same g c =
    same_then g.D.Disk.bytes g.D.Disk.faults g.D.Disk.faults_at_fetch g.D.Disk.home g.D.Disk.image g.D.Disk.sound c.args.grounds.now.disks.items c.told.grounds.disks.items
    c.run_on.new.grounds.disks.items c.told.invariant.0 c.run_on.ensures.same

pub returns-in-Nothing-clause-same : goal.returns-in-Nothing-clause-same
returns-in-Nothing-clause-same g c =
    same_then g.D.Disk.bytes g.D.Disk.faults g.D.Disk.faults_at_fetch g.D.Disk.home g.D.Disk.image g.D.Disk.sound c.args.grounds.now.disks.items c.told.grounds.disks.items
    c.run_on.new.grounds.disks.items c.told.invariant.0 c.run_on.ensures.same

pub returns-in-Root-clause-same : goal.returns-in-Root-clause-same
returns-in-Root-clause-same g c =
    same_then g.D.Disk.bytes g.D.Disk.faults g.D.Disk.faults_at_fetch g.D.Disk.home g.D.Disk.image g.D.Disk.sound c.args.grounds.now.disks.items c.told.grounds.disks.items
    c.run_on.new.grounds.disks.items c.told.invariant.0 c.run_on.ensures.same

pub returns-in_default-clause-same : goal.returns-in_default-clause-same
returns-in_default-clause-same g c =
    same_then g.D.Disk.bytes g.D.Disk.faults g.D.Disk.faults_at_fetch g.D.Disk.home g.D.Disk.image g.D.Disk.sound c.args.grounds.now.disks.items c.told.grounds.disks.items
    c.run_on.new.grounds.disks.items c.told.invariant.0 c.run_on.ensures.same

pub returns-in_err-run_on-clause-wrote : goal.returns-in_err-run_on-clause-wrote
returns-in_err-run_on-clause-wrote g c =
    run_wrote g.N.NodeFacts.nodes g.D.Disk.bytes g.D.Disk.image g.D.Disk.went c.args.turns.now.nodes c.told.turns.nodes
    c.args.turns.now.line c.told.turns.line c.args.grounds.now c.told.grounds c.run_on.new.grounds.disks.items
    (λ t sizes f before s sound going. let turned = (c.told.invariant.1.gone t sizes f before s sound going).3 in (turned.now, turned.going))
    c.told.invariant.2 c.run_on.ensures.wrote

pub returns-in-Nothing-clause-wrote : goal.returns-in-Nothing-clause-wrote
returns-in-Nothing-clause-wrote g c =
    run_wrote g.N.NodeFacts.nodes g.D.Disk.bytes g.D.Disk.image g.D.Disk.went c.args.turns.now.nodes c.told.turns.nodes
    c.args.turns.now.line c.told.turns.line c.args.grounds.now c.told.grounds c.run_on.new.grounds.disks.items
    (λ t sizes f before s sound going. let turned = (c.told.invariant.1.gone t sizes f before s sound going).3 in (turned.now, turned.going))
    c.told.invariant.2 c.run_on.ensures.wrote

pub returns-in-Root-clause-wrote : goal.returns-in-Root-clause-wrote
returns-in-Root-clause-wrote g c =
    run_wrote g.N.NodeFacts.nodes g.D.Disk.bytes g.D.Disk.image g.D.Disk.went c.args.turns.now.nodes c.told.turns.nodes
    c.args.turns.now.line c.told.turns.line c.args.grounds.now c.told.grounds c.run_on.new.grounds.disks.items
    (λ t sizes f before s sound going. let turned = (c.told.invariant.1.gone t sizes f before s sound going).3 in (turned.now, turned.going))
    c.told.invariant.2 c.run_on.ensures.wrote

pub returns-in_default-clause-wrote : goal.returns-in_default-clause-wrote
returns-in_default-clause-wrote g c =
    run_wrote g.N.NodeFacts.nodes g.D.Disk.bytes g.D.Disk.image g.D.Disk.went c.args.turns.now.nodes c.told.turns.nodes
    c.args.turns.now.line c.told.turns.line c.args.grounds.now c.told.grounds c.run_on.new.grounds.disks.items
    (λ t sizes f before s sound going. let turned = (c.told.invariant.1.gone t sizes f before s sound going).3 in (turned.now, turned.going))
    c.told.invariant.2 c.run_on.ensures.wrote
