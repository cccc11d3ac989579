use Rattle.std.proofs.Common.{◌≡◌, inr, length, map, refl, ap, sym, subst, ◌∙◌}
use Rattle.std.proofs.lemmas.List.{length-map}
use Rattle.zio_disks.proofs.DiskLemmas.{same_itself}
use Rattle.zio_disks.specs.Disks.{AreSameDisks}
use Rattle.zio_graph.specs.Graphs.{SeenGraph}
use Rattle.zio_command.specs.Grounds.{CameOutOver, IsSettingOf}
use Rattle.zio_command.specs.Seen.{sink_by}
use Rattle.zio_command.specs.Tops.{HaveImages, leaves_of}
use Rattle.zio_command.proofs.GroundLemmas.{came_over}
use Rattle.zio_run.proofs.EngineLemmas.{can_run}
use Rattle.zio_run.proofs.RunLemmas.{ended_left}
use Rattle.zio_run.proofs.flushed.FlushedEngines.run.Goals as goal

pub new-requires-clause-can : goal.new-requires-clause-can
new-requires-clause-can g c = can_run c.args.setting (map g.D.Disk.bytes c.args.disks.items) c.requires.setting.pool

pub run_rounds-ended-requires-clause-setting : goal.run_rounds-ended-requires-clause-setting
run_rounds-ended-requires-clause-setting g c =
    subst (λ (e : SeenGraph _). IsSettingOf c.args.script.now (map g.D.Disk.bytes e.disks) e.setting) (sym (c.over-engine.ensures ∙ c.in-Ok.ensures.ok)) c.requires.setting

pub returns-in-Ok-clause-outcome : goal.returns-in-Ok-clause-outcome
returns-in-Ok-clause-outcome g c =
    let seen = sink_by g.O.Sink.holds g.O.Sink.faults in
    let script = c.args.script.now in
    let old = c.over-engine.result.disks in
    let same : old ≡ c.args.disks.items = ap (λ (e : SeenGraph _). e.disks) (c.over-engine.ensures ∙ c.in-Ok.ensures.ok) in
    let sizes : length (map g.D.Disk.bytes c.args.disks.items) ≡ length old = length-map c.args.disks.items g.D.Disk.bytes ∙ ap length (sym same) in
    let have = subst (λ n. HaveImages n (leaves_of script.tops)) sizes c.requires.setting.leaves in
    subst (λ ds. CameOutOver g.D.Disk.faults g.D.Disk.image c.args.show.now script ds c.run_rounds-ended.result.1.items
    (seen c.args.out.now) (seen c.run_rounds-ended.new.out) c.args.journal.now c.run_rounds-ended.new.journal c.outcome_of.result) same
    (came_over g.D.Disk.faults g.D.Disk.image c.args.show.now script old c.run_rounds-ended.result.1.items
    (seen c.args.out.now) (seen c.run_rounds-ended.new.out) c.args.journal.now c.run_rounds-ended.new.journal
    c.run_rounds-ended.result.0 c.outcome_of.result have c.run_rounds-ended.ensures.whole c.run_rounds-ended.ensures.cut c.outcome_of.ensures)

pub returns-in-Ok-clause-left : goal.returns-in-Ok-clause-left
returns-in-Ok-clause-left g c ending is =
    ended_left c.run_rounds-ended.result.0 c.outcome_of.result ending c.outcome_of.ensures is c.run_rounds-ended.ensures.left

pub returns-in-Ok-clause-same : goal.returns-in-Ok-clause-same
returns-in-Ok-clause-same g c =
    subst (λ ds. AreSameDisks g.D.Disk.bytes g.D.Disk.faults g.D.Disk.faults_at_fetch g.D.Disk.home g.D.Disk.image g.D.Disk.sound ds
    c.run_rounds-ended.result.1.items) (ap (λ (e : SeenGraph _). e.disks) (c.over-engine.ensures ∙ c.in-Ok.ensures.ok)) c.run_rounds-ended.ensures.same

pub returns-in-Err-clause-outcome : goal.returns-in-Err-clause-outcome
returns-in-Err-clause-outcome g c = inr (refl, c.in-Err.ensures.back, λ x. (λ h. h, λ h. h), refl)

pub returns-in-Err-clause-same : goal.returns-in-Err-clause-same
returns-in-Err-clause-same g c =
    subst (λ ds. AreSameDisks g.D.Disk.bytes g.D.Disk.faults g.D.Disk.faults_at_fetch g.D.Disk.home g.D.Disk.image g.D.Disk.sound c.args.disks.items ds)
    (sym c.in-Err.ensures.back)
    (same_itself g.D.Disk.bytes g.D.Disk.faults g.D.Disk.faults_at_fetch g.D.Disk.home g.D.Disk.image g.D.Disk.sound c.args.disks.items)
