use Rattle.std.proofs.Common.{◌≡◌, List, map, arith, ap, ◌∙◌, refl, sym, subst}
use Rattle.std.proofs.lemmas.Result.{err_from_is_err_and}
use Rattle.zio_types.specs.declared.place.Top.{Top}
use Rattle.zio_disks.specs.Disks.{AreSameDisks}
use Rattle.zio_disks.proofs.DiskLemmas.{same_itself, same_then}
use Rattle.zio_turns.specs.UnderTurns.{TurnedIn}
use Rattle.zio_turns.proofs.DriveMoves.{done_told, drive_begins, drive_issued, drive_taken, drive_tells, drive_turn, drive_turned, no_line, run_some, taken_less}
use Rattle.zio_turns.proofs.Helps.{stays_turned, turn_stays}
use Rattle.zio_turns.proofs.StopLemmas.{on_err, run_stops, same_stops}
use Rattle.zio_turns.proofs.WroteLemmas.{none_wrote, run_wrote, same_wrote}
use Rattle.zio_turns.proofs.drive.run_on.Goals as goal

pub picks-init : goal.picks-init
picks-init g c = (
  same_itself g.D.Disk.bytes g.D.Disk.faults g.D.Disk.faults_at_fetch g.D.Disk.home g.D.Disk.image g.D.Disk.sound c.args.grounds.now.disks.items,
  drive_begins g.N.NodeFacts.nodes g.D.Disk.bytes g.D.Disk.faults g.D.Disk.image g.N.Staged.over c.args.turns.now.nodes c.args.turns.now.line
      c.args.grounds.now c.requires.over,
  none_wrote g.N.NodeFacts.nodes g.D.Disk.bytes g.D.Disk.image g.D.Disk.went c.args.turns.now.nodes c.args.turns.now.line
      c.args.grounds.now c.args.grounds.now.disks.items refl,
)

pub returns-then-choices-eq0-clause-done : goal.returns-then-choices-eq0-clause-done
returns-then-choices-eq0-clause-done g c =
    let some = run_some g.N.NodeFacts.nodes g.D.Disk.bytes g.D.Disk.faults g.D.Disk.image c.args.turns.now.nodes c.args.turns.now.line c.args.grounds.now
    c.picks.turns.nodes c.picks.turns.line c.picks.grounds c.picks.invariant.1.gone c.requires.going in
    let none : c.pickable-keys.result ≡ 0 = omega (arith, c.saturating_add-choices.ensures, c.if-choices-eq0.true) in
    let empty : c.len.result ≡ 0 = c.pickable-keys.ensures.some none in (
      no_line c.picks.turns.line (omega (arith, empty, c.len.ensures)),
      c.eligible.ensures.none some.going.lent.ready.order
          (omega (arith, c.saturating_add-choices.ensures, c.if-choices-eq0.true)),
    )

pub help-requires-clause-turn : goal.help-requires-clause-turn
help-requires-clause-turn g c =
    drive_turn g.N.NodeFacts.nodes g.D.Disk.bytes g.D.Disk.faults g.D.Disk.image g.N.Staged.over c.args.turns.now.nodes c.args.turns.now.line
    c.args.grounds.now c.picks.turns.nodes c.take-key.new.self.nodes c.picks.turns.nodes c.picks.turns.line c.take-key.new.self.line
    c.picks.turns.line c.picks.grounds c.picks.grounds c.picks.invariant.1 c.take-key.result c.tops.result.now
    (turn_stays g.N.NodeFacts.nodes c.picks.turns.nodes c.take-key.new.self.nodes c.picks.turns.line c.take-key.new.self.line
    c.take-key.result c.take-key.ensures.turn) c.take-key.ensures.nodes c.tops.ensures c.requires.going

pub returns-in_err-help-clause-stopped : goal.returns-in_err-help-clause-stopped
returns-in_err-help-clause-stopped g c = on_err c.from_residual.result
    (run_stops g.N.NodeFacts.nodes g.D.Disk.bytes g.D.Disk.image c.args.turns.now.nodes c.picks.turns.nodes c.args.turns.now.line c.picks.turns.line
    c.args.grounds.now c.picks.grounds c.picks.grounds.disks.items
    (λ t sizes f before s sound going. let turned = c.picks.invariant.1.gone t sizes f before s sound going in (turned.now, turned.going))
    (same_stops g.N.NodeFacts.nodes g.D.Disk.bytes g.D.Disk.image c.picks.turns.nodes c.picks.turns.line c.picks.grounds
    c.picks.grounds.disks.items refl))

pub run_turn-requires-clause-going : goal.run_turn-requires-clause-going
run_turn-requires-clause-going g c =
    drive_taken g.N.NodeFacts.nodes g.D.Disk.bytes g.D.Disk.faults g.D.Disk.image g.N.Staged.over c.args.turns.now.nodes c.args.turns.now.line
    c.args.grounds.now c.picks.turns.nodes c.help.new.turns.nodes c.picks.turns.nodes c.picks.turns.line
    c.help.new.turns.line c.picks.turns.line c.picks.grounds c.picks.grounds c.picks.invariant.1 c.take-key.result
    (stays_turned g.N.NodeFacts.nodes c.picks.turns.nodes c.take-key.new.self.nodes c.help.new.turns.nodes c.picks.turns.line
    c.take-key.new.self.line c.help.new.turns.line c.take-key.result c.take-key.ensures.turn c.in_ok-help.ensures.kept) c.requires.going

pub picks-preserved-in-Nothing : goal.picks-preserved-in-Nothing
picks-preserved-in-Nothing g c = (
  subst (λ (ds : List _). AreSameDisks g.D.Disk.bytes g.D.Disk.faults g.D.Disk.faults_at_fetch g.D.Disk.home g.D.Disk.image g.D.Disk.sound c.args.grounds.now.disks.items ds)
      (sym c.run_turn.ensures.same.disks_same) c.picks.invariant.0,
  drive_turned g.N.NodeFacts.nodes g.D.Disk.bytes g.D.Disk.faults g.D.Disk.image g.N.Staged.over c.args.turns.now.nodes c.args.turns.now.line
      c.args.grounds.now c.picks.turns.nodes c.help.new.turns.nodes c.run_turn.new.turns.nodes c.picks.turns.line c.help.new.turns.line
      c.run_turn.new.turns.line c.picks.grounds c.run_turn.new.grounds c.picks.invariant.1
      c.take-key.result c.in_ok-told.told (stays_turned g.N.NodeFacts.nodes c.picks.turns.nodes c.take-key.new.self.nodes c.help.new.turns.nodes c.picks.turns.line
      c.take-key.new.self.line c.help.new.turns.line c.take-key.result c.take-key.ensures.turn c.in_ok-help.ensures.kept) c.in_ok-told.ensures.turns c.in-Nothing.is
      c.in_ok-told.ensures.over c.run_turn.ensures.same
      (taken_less g.N.NodeFacts.nodes g.D.Disk.bytes g.D.Disk.faults g.D.Disk.image g.N.Staged.over c.args.turns.now.nodes c.args.turns.now.line
      c.args.grounds.now c.picks.turns.nodes c.help.new.turns.nodes c.run_turn.new.turns.nodes c.picks.turns.line c.help.new.turns.line
      c.run_turn.new.turns.line c.picks.grounds c.run_turn.new.grounds c.picks.invariant.1
      c.take-key.new.self.nodes c.take-key.new.self.line c.take-key.ensures.nodes c.take-key.ensures.len c.in_ok-help.ensures.less c.in_ok-told.ensures.less),
  same_wrote g.N.NodeFacts.nodes g.D.Disk.bytes g.D.Disk.image g.D.Disk.went c.args.turns.now.nodes c.args.turns.now.line
      c.args.grounds.now c.picks.grounds.disks.items c.run_turn.new.grounds.disks.items c.run_turn.ensures.same.disks_same
      c.picks.invariant.2,
)

pub returns-in_default-clause-runs : goal.returns-in_default-clause-runs
returns-in_default-clause-runs g c =
    drive_tells g.N.NodeFacts.nodes g.D.Disk.bytes g.D.Disk.faults g.D.Disk.image g.N.Staged.over c.args.turns.now.nodes c.args.turns.now.line
    c.args.grounds.now c.picks.turns.nodes c.help.new.turns.nodes c.run_turn.new.turns.nodes c.picks.turns.line c.help.new.turns.line
    c.run_turn.new.turns.line c.picks.grounds c.run_turn.new.grounds c.picks.invariant.1
    c.take-key.result c.in_ok-told.told (stays_turned g.N.NodeFacts.nodes c.picks.turns.nodes c.take-key.new.self.nodes c.help.new.turns.nodes c.picks.turns.line
    c.take-key.new.self.line c.help.new.turns.line c.take-key.result c.take-key.ensures.turn c.in_ok-help.ensures.kept) c.in_ok-told.ensures.turns

pub returns-in_default-clause-done : goal.returns-in_default-clause-done
returns-in_default-clause-done g c = done_told _ _ c.in_ok-told.told c.in_default.not-Nothing

pub returns-in_default-clause-less : goal.returns-in_default-clause-less
returns-in_default-clause-less g c =
    let less = taken_less g.N.NodeFacts.nodes g.D.Disk.bytes g.D.Disk.faults g.D.Disk.image g.N.Staged.over c.args.turns.now.nodes c.args.turns.now.line
    c.args.grounds.now c.picks.turns.nodes c.help.new.turns.nodes c.run_turn.new.turns.nodes c.picks.turns.line c.help.new.turns.line
    c.run_turn.new.turns.line c.picks.grounds c.run_turn.new.grounds c.picks.invariant.1
    c.take-key.new.self.nodes c.take-key.new.self.line c.take-key.ensures.nodes c.take-key.ensures.len c.in_ok-help.ensures.less c.in_ok-told.ensures.less in
    omega (arith, less, c.picks.invariant.1.less)

pub returns-in_default-clause-fewer : goal.returns-in_default-clause-fewer
returns-in_default-clause-fewer g c = λ tells.
    let less = taken_less g.N.NodeFacts.nodes g.D.Disk.bytes g.D.Disk.faults g.D.Disk.image g.N.Staged.over c.args.turns.now.nodes
    c.args.turns.now.line c.args.grounds.now c.picks.turns.nodes c.help.new.turns.nodes c.run_turn.new.turns.nodes
    c.picks.turns.line c.help.new.turns.line c.run_turn.new.turns.line c.picks.grounds c.run_turn.new.grounds c.picks.invariant.1
    c.take-key.new.self.nodes c.take-key.new.self.line c.take-key.ensures.nodes c.take-key.ensures.len c.in_ok-help.ensures.less c.in_ok-told.ensures.less in
    omega (arith, less, c.picks.invariant.1.less)

pub returns-in_default-clause-inside : goal.returns-in_default-clause-inside
returns-in_default-clause-inside g c =
    subst (λ (tops : List Top). TurnedIn (g.N.Staged.tree_over tops) c.in_ok-told.told) c.picks.invariant.1.tops_same
    c.in_ok-told.ensures.inside

pub returns-in_default-clause-tops : goal.returns-in_default-clause-tops
returns-in_default-clause-tops g c = c.run_turn.ensures.same.tops_same ∙ c.picks.invariant.1.tops_same

pub returns-in_default-clause-setting : goal.returns-in_default-clause-setting
returns-in_default-clause-setting g c = c.run_turn.ensures.same.setting_same ∙ c.picks.invariant.1.setting_same

pub issue_group-requires-clause-going : goal.issue_group-requires-clause-going
issue_group-requires-clause-going g c =
    run_some g.N.NodeFacts.nodes g.D.Disk.bytes g.D.Disk.faults g.D.Disk.image c.args.turns.now.nodes c.args.turns.now.line c.args.grounds.now
    c.picks.turns.nodes c.picks.turns.line c.picks.grounds c.picks.invariant.1.gone c.requires.going

pub picks-preserved : goal.picks-preserved
picks-preserved g c = (
  same_then g.D.Disk.bytes g.D.Disk.faults g.D.Disk.faults_at_fetch g.D.Disk.home g.D.Disk.image g.D.Disk.sound c.args.grounds.now.disks.items c.picks.grounds.disks.items
      c.issue_group.new.grounds.disks.items c.picks.invariant.0 c.in_ok-issue_group.ensures.handled.same,
  drive_issued g.N.NodeFacts.nodes g.D.Disk.bytes g.D.Disk.faults g.D.Disk.image g.N.Staged.over c.args.turns.now.nodes c.args.turns.now.line
      c.args.grounds.now c.picks.turns.nodes c.issue_group.new.turns.nodes c.picks.turns.line c.issue_group.new.turns.line
      c.picks.grounds c.issue_group.new.grounds c.picks.invariant.1 c.in_ok-issue_group.ensures.issues
      c.in_ok-issue_group.ensures.over c.issue_group.ensures.desk c.issue_group.ensures.setting
      c.in_ok-issue_group.ensures.handled.steady c.in_ok-issue_group.ensures.less,
  run_wrote g.N.NodeFacts.nodes g.D.Disk.bytes g.D.Disk.image g.D.Disk.went c.args.turns.now.nodes c.picks.turns.nodes
      c.args.turns.now.line c.picks.turns.line c.args.grounds.now c.picks.grounds c.issue_group.new.grounds.disks.items
      (λ t sizes f before s sound going. let turned = c.picks.invariant.1.gone t sizes f before s sound going in (turned.now, turned.going))
      c.picks.invariant.2 c.issue_group.ensures.wrote,
)

pub returns-in_err-told-clause-stopped : goal.returns-in_err-told-clause-stopped
returns-in_err-told-clause-stopped g c = on_err c.from_residual-in_err-told.result
    (run_stops g.N.NodeFacts.nodes g.D.Disk.bytes g.D.Disk.image c.args.turns.now.nodes c.picks.turns.nodes c.args.turns.now.line c.picks.turns.line
    c.args.grounds.now c.picks.grounds c.run_turn.new.grounds.disks.items
    (λ t sizes f before s sound going. let turned = c.picks.invariant.1.gone t sizes f before s sound going in (turned.now, turned.going))
    (same_stops g.N.NodeFacts.nodes g.D.Disk.bytes g.D.Disk.image c.picks.turns.nodes c.picks.turns.line c.picks.grounds
    c.run_turn.new.grounds.disks.items c.run_turn.ensures.same.disks_same))

pub returns-in_err-issue_group-clause-stopped : goal.returns-in_err-issue_group-clause-stopped
returns-in_err-issue_group-clause-stopped g c = on_err c.from_residual-in_err-issue_group.result
    (run_stops g.N.NodeFacts.nodes g.D.Disk.bytes g.D.Disk.image c.args.turns.now.nodes c.picks.turns.nodes c.args.turns.now.line c.picks.turns.line
    c.args.grounds.now c.picks.grounds c.issue_group.new.grounds.disks.items
    (λ t sizes f before s sound going. let turned = c.picks.invariant.1.gone t sizes f before s sound going in (turned.now, turned.going))
    c.in_err-issue_group.ensures.stopped)

pub returns-in_default-clause-same : goal.returns-in_default-clause-same
returns-in_default-clause-same g c =
    subst (λ (ds : List _). AreSameDisks g.D.Disk.bytes g.D.Disk.faults g.D.Disk.faults_at_fetch g.D.Disk.home g.D.Disk.image g.D.Disk.sound c.args.grounds.now.disks.items ds)
    (sym c.run_turn.ensures.same.disks_same) c.picks.invariant.0

pub returns-in_err-told-clause-same : goal.returns-in_err-told-clause-same
returns-in_err-told-clause-same g c =
    subst (λ (ds : List _). AreSameDisks g.D.Disk.bytes g.D.Disk.faults g.D.Disk.faults_at_fetch g.D.Disk.home g.D.Disk.image g.D.Disk.sound c.args.grounds.now.disks.items ds)
    (sym c.run_turn.ensures.same.disks_same) c.picks.invariant.0

pub returns-in_err-issue_group-clause-same : goal.returns-in_err-issue_group-clause-same
returns-in_err-issue_group-clause-same g c =
    same_then g.D.Disk.bytes g.D.Disk.faults g.D.Disk.faults_at_fetch g.D.Disk.home g.D.Disk.image g.D.Disk.sound c.args.grounds.now.disks.items c.picks.grounds.disks.items
    c.issue_group.new.grounds.disks.items c.picks.invariant.0 c.in_err-issue_group.ensures.handled.same

pub returns-in_err-told-clause-calm : goal.returns-in_err-told-clause-calm
returns-in_err-told-clause-calm g c = λ is. ap (map g.D.Disk.faults) c.run_turn.ensures.same.disks_same ∙ c.picks.invariant.1.steady

pub returns-in_err-issue_group-clause-calm : goal.returns-in_err-issue_group-clause-calm
returns-in_err-issue_group-clause-calm g c = λ is.
    (let q = err_from_is_err_and c.from_residual-in_err-issue_group.result c.from_residual-in_err-issue_group.ensures.1 in
    c.in_err-issue_group.ensures.handled.calm (λ e. (let a = q.1 in let b = q.2 in cc)) ∙ c.picks.invariant.1.steady)

pub returns-in_default-clause-wrote : goal.returns-in_default-clause-wrote
returns-in_default-clause-wrote g c =
    same_wrote g.N.NodeFacts.nodes g.D.Disk.bytes g.D.Disk.image g.D.Disk.went c.args.turns.now.nodes c.args.turns.now.line
    c.args.grounds.now c.picks.grounds.disks.items c.run_turn.new.grounds.disks.items c.run_turn.ensures.same.disks_same
    c.picks.invariant.2

pub returns-in_err-told-clause-wrote : goal.returns-in_err-told-clause-wrote
returns-in_err-told-clause-wrote g c =
    same_wrote g.N.NodeFacts.nodes g.D.Disk.bytes g.D.Disk.image g.D.Disk.went c.args.turns.now.nodes c.args.turns.now.line
    c.args.grounds.now c.picks.grounds.disks.items c.run_turn.new.grounds.disks.items c.run_turn.ensures.same.disks_same
    c.picks.invariant.2

pub returns-in_err-issue_group-clause-wrote : goal.returns-in_err-issue_group-clause-wrote
returns-in_err-issue_group-clause-wrote g c =
    run_wrote g.N.NodeFacts.nodes g.D.Disk.bytes g.D.Disk.image g.D.Disk.went c.args.turns.now.nodes c.picks.turns.nodes
    c.args.turns.now.line c.picks.turns.line c.args.grounds.now c.picks.grounds c.issue_group.new.grounds.disks.items
    (λ t sizes f before s sound going. let turned = c.picks.invariant.1.gone t sizes f before s sound going in (turned.now, turned.going))
    c.picks.invariant.2 c.issue_group.ensures.wrote
