use Rattle.std.proofs.Common.{◌≡◌, List, length, map, true, refl, sym, ◌∙◌, subst}
use Rattle.std.proofs.lemmas.Bool.{and_parts}
use Rattle.zio_types.specs.declared.place.Top.{Top}
use Rattle.zio_outside.specs.Memory.{disk_image}
use Rattle.zio_script.specs.Requests.{requests_of}
use Rattle.zio_cksum.specs.Images.{Images}
use Rattle.zio_report.specs.declared.report.RunFault.TheVariants.{Memory}
use Rattle.zio_report.specs.Meanings.{tops_of}
use Rattle.zio_report.specs.Reports.{RunSize}
use Rattle.zio_course.specs.Runners.{Stopping}
use Rattle.zio_course.specs.SoFar.{IsCut}
use Rattle.zio_audit.specs.Ended.{HasReplayed}
use Rattle.zio_audit.specs.Replays.{ChoseSpelled}
use Rattle.zio_audit.proofs.JudgedRuns.{none_rose, replayed_whole, sizes_told, tell_images, told_images}
use Rattle.zio_audit.proofs.ReplayedRuns.{strange_is_unlawful}
use Rattle.zio_audit.proofs.run.run_spelled.Goals as goal

pub run_script-requires-clause-tops : goal.run_script-requires-clause-tops
run_script-requires-clause-tops g c before tells =
    c.requires.start.tops before (sizes_told c.args.runner.disks before (told_images c.args.runner.disks before tells))

pub returns-in-Ok-clause-ran : goal.returns-in-Ok-clause-ran
returns-in-Ok-clause-ran g c =
    subst (λ ds. HasReplayed c.args.show.now c.args.script.now g.K.Spelled.journals (map disk_image c.args.runner.disks) (map disk_image ds) c.args.plain.now c.run_script.new.out c.run_script.new.journal.journal)
    (sym c.into_disks.ensures)
    (replayed_whole c.args.show.now c.args.script.now g.K.Spelled.journals c.args.runner.disks c.run_script.new.runner.disks c.args.images c.args.plain.now c.run_script.new.out
    c.run_script.new.journal.journal c.in-Ok.field-0 c.requires.images c.run_script.ensures.chosen c.in-Ok.ensures.whole)

pub returns-in-Err-Memory-clause-strange : goal.returns-in-Err-Memory-clause-strange
returns-in-Err-Memory-clause-strange g c = λ is case same read.
    let script = c.args.script.now in
    let disks = c.args.runner.disks in
    let before : Images = map disk_image disks in
    let n : RunSize = record { tops = length script.tops; images = c.args.images; requests = length (requests_of script.items) } in
    let j = c.run_script.new.journal.journal in
    let both = and_parts c.run_script.new.runner.stopped c.run_script.new.runner.strange (sym c.is_strange.ensures ∙ c.if-is_strange.true) in
    let cut = rw c.in-Err-Memory.field-0-is at c.in-Err-Memory.ensures.cut in
    let x = cut before (tell_images disks) in
    let tops = c.requires.start.tops before (sizes_told disks before refl) in
    let w : Stopping = record {
      stopped = c.run_script.new.runner.stopped;
      means = λ t trees images. c.run_script.new.runner.strange ≡ true → ¬ ChoseSpelled g.K.Spelled.journals t trees images;
    } in
    strange_is_unlawful case script g.K.Spelled.journals read c.args.show.now n w j x.0 x.1
    (subst (λ (b : Images). IsCut c.args.show.now n script b (tops_of script b) w Memory j x.0 x.1) (sym same)
    (subst (λ (ts : List Top). IsCut c.args.show.now n script before ts w Memory j x.0 x.1) tops x.3))
    both.0 (λ t trees images means. means both.1) c.run_script.ensures.chosen

pub unreachable-requires : goal.unreachable-requires
unreachable-requires g c =
    let rose = rw c.in-Err-Device.field-0-is at c.in-Err-Device.ensures.device in
    none_rose c.args.runner.disks c.run_script.new.runner.disks c.requires.start.sound c.run_script.ensures.same.stay (rose refl)
