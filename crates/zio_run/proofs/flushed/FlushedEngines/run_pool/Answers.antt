use Rattle.std.proofs.Common.{inl, inr, map, refl, ap, sym, subst, ◌∙◌}
use Rattle.std.proofs.lemmas.Result.{IfErr-weaker}
use Rattle.std.specs.Prelude.{IfErr, IfOk}
use Rattle.zio_cksum.specs.Images.{Images}
use Rattle.zio_gang.specs.Trees.{sizes_of}
use Rattle.zio_disks.proofs.DiskLemmas.{same_itself}
use Rattle.zio_disks.specs.Disks.{AreSameDisks, Tell}
use Rattle.zio_disks.specs.Whole.{IsWholeTree}
use Rattle.zio_report.specs.Meanings.{course_of}
use Rattle.zio_graph.specs.Graphs.{SeenGraph}
use Rattle.zio_suspend.specs.Pools.{AreBlocks, AreBoundIn}
use Rattle.zio_command.specs.Grounds.{HasRunOver, IsSettingOf, WasCutOver}
use Rattle.zio_command.specs.Seen.{sink_by}
use Rattle.zio_run.proofs.EngineLemmas.{can_run}
use Rattle.zio_run.proofs.flushed.FlushedEngines.run_pool.Goals as goal

pub new-requires-clause-can : goal.new-requires-clause-can
new-requires-clause-can g c = can_run c.args.setting (map g.D.Disk.bytes c.args.disks.items) c.requires.setting.pool

pub run_pool_rounds-requires-clause-setting : goal.run_pool_rounds-requires-clause-setting
run_pool_rounds-requires-clause-setting g c =
    subst (λ (e : SeenGraph _). IsSettingOf c.args.script.now (map g.D.Disk.bytes e.disks) e.setting) (sym (c.over.ensures ∙ c.in-Ok.ensures.ok)) c.requires.setting

pub returns-in-Ok-clause-whole : goal.returns-in-Ok-clause-whole
returns-in-Ok-clause-whole g c =
    let seen = sink_by g.O.Sink.holds g.O.Sink.faults in
    let ran = c.run_pool_rounds in
    subst (λ ds. IfOk ran.result.0 (λ end. HasRunOver g.D.Disk.faults g.D.Disk.image c.args.show.now c.args.script.now end.ending ds ran.result.1.items
    (seen c.args.out.now) (seen ran.new.out) ran.new.journal)) (ap (λ (e : SeenGraph _). e.disks) (c.over.ensures ∙ c.in-Ok.ensures.ok)) ran.ensures.whole

pub returns-in-Ok-clause-bound : goal.returns-in-Ok-clause-bound
returns-in-Ok-clause-bound g c =
    let ran = c.run_pool_rounds in
    subst (λ ds. IfOk ran.result.0 (λ end. (before : Images) → Tell g.D.Disk.image ds before
    → AreBoundIn (course_of c.args.script.now before ran.new.journal).state end.point end.bound)) (ap (λ (e : SeenGraph _). e.disks) (c.over.ensures ∙ c.in-Ok.ensures.ok)) ran.ensures.bound

pub returns-in-Ok-clause-placed : goal.returns-in-Ok-clause-placed
returns-in-Ok-clause-placed g c =
    let ran = c.run_pool_rounds in
    subst (λ (e : SeenGraph _). IfOk ran.result.0 (λ end. AreBlocks IsWholeTree (sizes_of e.setting.tops) end.bound)) (c.over.ensures ∙ c.in-Ok.ensures.ok) ran.ensures.placed

pub returns-in-Ok-clause-cut : goal.returns-in-Ok-clause-cut
returns-in-Ok-clause-cut g c =
    let seen = sink_by g.O.Sink.holds g.O.Sink.faults in
    let ran = c.run_pool_rounds in
    IfErr-weaker ran.result.0 _ _ (λ fault cut. inl cut)
    (subst (λ ds. IfErr ran.result.0 (λ fault. WasCutOver g.D.Disk.faults g.D.Disk.image c.args.show.now c.args.script.now fault ds ran.result.1.items
    (seen c.args.out.now) (seen ran.new.out) ran.new.journal)) (ap (λ (e : SeenGraph _). e.disks) (c.over.ensures ∙ c.in-Ok.ensures.ok)) ran.ensures.cut)

pub returns-in-Ok-clause-same : goal.returns-in-Ok-clause-same
returns-in-Ok-clause-same g c =
    subst (λ ds. AreSameDisks g.D.Disk.bytes g.D.Disk.faults g.D.Disk.faults_at_fetch g.D.Disk.home g.D.Disk.image g.D.Disk.sound ds
    c.run_pool_rounds.result.1.items) (ap (λ (e : SeenGraph _). e.disks) (c.over.ensures ∙ c.in-Ok.ensures.ok)) c.run_pool_rounds.ensures.same

pub returns-in-Err-clause-cut : goal.returns-in-Err-clause-cut
returns-in-Err-clause-cut g c = inr (refl, c.in-Err.ensures.back, λ x. (λ h. h, λ h. h), refl)

pub returns-in-Err-clause-same : goal.returns-in-Err-clause-same
returns-in-Err-clause-same g c =
    subst (λ ds. AreSameDisks g.D.Disk.bytes g.D.Disk.faults g.D.Disk.faults_at_fetch g.D.Disk.home g.D.Disk.image g.D.Disk.sound c.args.disks.items ds)
    (sym c.in-Err.ensures.back)
    (same_itself g.D.Disk.bytes g.D.Disk.faults g.D.Disk.faults_at_fetch g.D.Disk.home g.D.Disk.image g.D.Disk.sound c.args.disks.items)
