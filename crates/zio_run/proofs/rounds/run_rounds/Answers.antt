use Rattle.std.proofs.Common.{◌≡◌, ap, ◌∙◌, sym, subst}
use Rattle.std.proofs.lemmas.Result.{IfErr-weaker, IfOk-weaker, on_ok_weaker}
use Rattle.std.specs.Prelude.{IfErr, IfOk}
use Rattle.zio_cksum.specs.Images.{Images}
use Rattle.zio_disks.specs.Disks.{AreSameDisks, Tell}
use Rattle.zio_report.specs.Meanings.{tops_of}
use Rattle.zio_course.specs.Runners.{Standing}
use Rattle.zio_command.specs.Grounds.{HasRunOver, WasCutOver}
use Rattle.zio_command.specs.Seen.{sink_by}
use Rattle.zio_command.proofs.RoundsLemmas.{cut_plainly, rounds_cut, rounds_whole, told_sizes}
use Rattle.zio_run.proofs.RunLemmas.{counts_rose, left_so}
use Rattle.zio_run.proofs.rounds.run_rounds.Goals as goal

pub run_script-ended-requires-clause-rows : goal.run_script-ended-requires-clause-rows
run_script-ended-requires-clause-rows g c = ap (λ (s : Standing). s.rows) (g.met.E.Engine.stands c.args.engine) ∙ c.requires.setting.rows

pub run_script-ended-requires-clause-tops : goal.run_script-ended-requires-clause-tops
run_script-ended-requires-clause-tops g c before tells =
    ap (λ (s : Standing). s.tops) (g.met.E.Engine.stands c.args.engine)
    ∙ c.requires.setting.tops before (told_sizes g.D.Disk.bytes g.D.Disk.image g.met.D.Disk.has_size (g.E.Engine.seen c.args.engine).disks before
    ((g.met.E.Engine.tells_images c.args.engine before).0 tells))

pub run_script-ended-requires-clause-live : goal.run_script-ended-requires-clause-live
run_script-ended-requires-clause-live g c = ap (λ (s : Standing). s.live) (g.met.E.Engine.stands c.args.engine) ∙ c.requires.live

pub run_script-ended-requires-clause-last : goal.run_script-ended-requires-clause-last
run_script-ended-requires-clause-last g c = ap (λ (s : Standing). s.last) (g.met.E.Engine.stands c.args.engine) ∙ c.requires.last

pub run_script-ended-requires-clause-runs : goal.run_script-ended-requires-clause-runs
run_script-ended-requires-clause-runs g c = ap (λ (s : Standing). s.stopped) (g.met.E.Engine.stands c.args.engine) ∙ c.requires.runs

pub returns-clause-whole : goal.returns-clause-whole
returns-clause-whole g c =
    let sees = sink_by g.O.Sink.holds g.O.Sink.faults in
    let ran = c.run_script-ended.ensures in
    let ended = c.run_script-ended.result in
    let old = c.args.engine in
    let new = c.run_script-ended.new.runner in
    let seen = g.E.Engine.seen in
    let stands = g.met.E.Engine.stands in
    let tells = g.met.E.Engine.tells_images in
    let whole = rounds_whole g.D.Disk.faults g.D.Disk.image c.args.show.now c.args.script.now (seen old).disks (seen new).disks
    (sees c.args.out.now) (sees c.run_script-ended.new.out) c.run_script-ended.new.journal c.args.images ended (sym c.requires.images)
    (IfOk-weaker ended _ _ (λ end told before tell. (let w = told before ((tells old before).1 tell) in (w.0, w.1, w.2, (tells new w.0).0 w.3, w.4))) ran.whole)
    (on_ok_weaker ended (λ same. sym (ap (λ (s : Standing). s.faults) (stands new)) ∙ same ∙ ap (λ (s : Standing). s.faults) (stands old)) ran.faults)
    ran.quiet in
    subst (λ ds. IfOk ended (λ ending. HasRunOver g.D.Disk.faults g.D.Disk.image c.args.show.now c.args.script.now ending (seen old).disks ds
    (sees c.args.out.now) (sees c.run_script-ended.new.out) c.run_script-ended.new.journal)) (sym c.into_disks.ensures.disks) whole

pub returns-clause-left : goal.returns-clause-left
returns-clause-left g c =
    let new = c.run_script-ended.new.runner in
    let ran = c.run_script-ended.ensures in
    let ended = c.run_script-ended.result in
    let stands = g.met.E.Engine.stands new in
    left_so ended (g.E.Engine.seen new).stopped (g.E.Engine.seen new).last c.run_script-ended.new.journal.rounds
    (λ rounds. g.E.Engine.leaves rounds c.into_disks.result.items) c.into_disks.ensures.left
    (on_ok_weaker ended (λ is. sym (ap (λ (s : Standing). s.stopped) stands) ∙ is) ran.runs)
    (on_ok_weaker ended (λ is. sym (ap (λ (s : Standing). s.last) stands) ∙ is) ran.last)

pub returns-clause-cut : goal.returns-clause-cut
returns-clause-cut g c =
    let sees = sink_by g.O.Sink.holds g.O.Sink.faults in
    let ran = c.run_script-ended.ensures in
    let ended = c.run_script-ended.result in
    let old = c.args.engine in
    let new = c.run_script-ended.new.runner in
    let seen = g.E.Engine.seen in
    let standing = g.E.Runner.standing in
    let stands = g.met.E.Engine.stands in
    let tells = g.met.E.Engine.tells_images in
    let known : (before : Images) → Tell g.D.Disk.image (seen old).disks before → (standing old).tops ≡ tops_of c.args.script.now before =
    λ before told. ap (λ (s : Standing). s.tops) (stands old)
    ∙ c.requires.setting.tops before (told_sizes g.D.Disk.bytes g.D.Disk.image g.met.D.Disk.has_size (seen old).disks before told) in
    let cut = rounds_cut g.D.Disk.faults g.D.Disk.image c.args.show.now c.args.script.now (standing old).tops (standing new).stopped (seen old).disks
    (seen new).disks (sees c.args.out.now) (sees c.run_script-ended.new.out) c.run_script-ended.new.journal c.args.images ended
    (sym c.requires.images) known
    (IfErr-weaker ended _ _ (λ fault told before tell.
    (let w = told before ((tells old before).1 tell) in
    (w.0, w.1, w.2, cut_plainly _ _ _ _ _ _ fault _ _ _ w.3, w.4, (tells new w.0).0 w.5, w.6))) ran.cut)
    (λ is. counts_rose (standing old) (standing new) _ _ (ap (λ (s : Standing). s.faults) (stands old)) (ap (λ (s : Standing). s.faults) (stands new)) (ran.device is))
    ran.sink in
    subst (λ ds. IfErr ended (λ fault. WasCutOver g.D.Disk.faults g.D.Disk.image c.args.show.now c.args.script.now fault (seen old).disks ds
    (sees c.args.out.now) (sees c.run_script-ended.new.out) c.run_script-ended.new.journal)) (sym c.into_disks.ensures.disks) cut

pub returns-clause-same : goal.returns-clause-same
returns-clause-same g c =
    subst (λ ds. AreSameDisks g.D.Disk.bytes g.D.Disk.faults g.D.Disk.faults_at_fetch g.D.Disk.home g.D.Disk.image g.D.Disk.sound
    (g.E.Engine.seen c.args.engine).disks ds) (sym c.into_disks.ensures.disks)
    (g.met.E.Engine.same_disks c.args.engine c.run_script-ended.new.runner c.run_script-ended.ensures.same)
