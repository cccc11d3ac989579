use Rattle.std.proofs.Common.{◌≡◌, List, map, false, true, refl, sym, ap, ◌∙◌, subst}
use Rattle.std.specs.List.{list_all}
use Rattle.zio_types.specs.declared.place.TopSize.{TopSize}
use Rattle.zio_types.specs.Places.{is_lawful_top}
use Rattle.zio_outside.specs.Memory.{disk_image}
use Rattle.zio_cksum.specs.Images.{Images}
use Rattle.zio_report.specs.declared.report.Show.TheVariants.{Report}
use Rattle.zio_spelled.specs.declared.rounds.RoundJournal.{RoundJournal}
use Rattle.zio_audit.specs.Ended.{HasEnded, HasReplayed, IsAtStart}
use Rattle.zio_audit.specs.Texts.{shows_bytes}
use Rattle.zio_audit.specs.Verdicts.{Case, IsReadAs}
use Rattle.zio_audit.proofs.AuditLemmas.{no_places}
use Rattle.zio_audit.proofs.JudgedRuns.{at_start, ended_of, lawful_tops, read_as, told_none, told_some}
use Rattle.zio_audit.proofs.run.judge_run.Goals as goal

pub of-journals-requires-clause-lawful : goal.of-journals-requires-clause-lawful
of-journals-requires-clause-lawful g c =
    subst (λ (ts : List TopSize). list_all is_lawful_top ts ≡ true) (sym c.requires.sizes) (lawful_tops c.args.setting.tops c.requires.setting.pool.pointers.lawful)

pub of-journals-requires-clause-spelled : goal.of-journals-requires-clause-spelled
of-journals-requires-clause-spelled g c = (g.K.Spelled.journals, c.requires.spelled)

pub replay_over-requires-clause-journals : goal.replay_over-requires-clause-journals
replay_over-requires-clause-journals g c = c.again.ensures ∙ c.of-journals.ensures g.K.Spelled.journals c.requires.spelled

pub replay_over-requires-clause-lawful : goal.replay_over-requires-clause-lawful
replay_over-requires-clause-lawful g c =
    subst (λ (ts : List TopSize). list_all is_lawful_top ts ≡ true) (sym c.requires.sizes) (lawful_tops c.args.setting.tops c.requires.setting.pool.pointers.lawful)

pub run_spelled-requires-clause-start : goal.run_spelled-requires-clause-start
run_spelled-requires-clause-start g c =
    subst (λ p. IsAtStart c.args.script.now p.setting p.disks p.last p.stopped) (sym c.in_ok-runner.ensures) (at_start c.args.script.now c.args.setting c.args.disks.items c.requires.setting c.requires.new.sound)

pub run_spelled-requires-clause-live : goal.run_spelled-requires-clause-live
run_spelled-requires-clause-live g c = ap (λ p. p.chooser.space.live) c.in_ok-runner.ensures

pub returns-in-Some : goal.returns-in-Some
returns-in-Some g c =
    let script = c.args.script.now in
    let before = map disk_image c.args.disks.items in
    let journals : List RoundJournal = g.K.Spelled.journals in
    let own : List RoundJournal = c.of-journals.result in
    let same : own ≡ journals = c.of-journals.ensures journals c.requires.spelled in
    let new = c.run_spelled.new.plain in
    let j = c.run_spelled.new.journal.journal in
    let left = map disk_image c.in-Ok.disks.items in
    let case : Images → Case = λ after. record { script = c.args.text.now; report = c.args.report.now; before = before; after = after } in
    let read : ((after : Images) → IsReadAs (case after) script own) =
    (λ after. subst (IsReadAs (case after) script) (sym same)
    (read_as (case after) script c.args.setting c.args.disks.items c.args.sizes.now journals c.requires.script refl c.requires.setting c.requires.sizes c.requires.spelled)) in
    let ran = subst (λ bytes. HasReplayed (Report false bytes) script journals (map disk_image c.in_ok-runner.runner.disks) left c.new-plain.result new j) c.shows_bytes.ensures c.in-Ok.ensures.ran in
    let here = subst (λ ds. HasReplayed (Report false (shows_bytes c.args.report.now)) script journals (map disk_image ds) left c.new-plain.result new j) (ap (λ p. p.disks) c.in_ok-runner.ensures) ran in
    let ended : ((after : Images) → HasEnded (case after) script own new j left) =
    (λ after. subst (λ (js : List RoundJournal). HasEnded (case after) script js new j left) (sym same)
    (ended_of (case after) script journals left c.new-plain.result new j here c.new-plain.ensures)) in
    told_some script c.args.text.now c.args.report.now before own new j left read ended c.in-Some.seen (rw c.in-Some.is at c.in_ok-seen-in-Ok.ensures)

pub returns-in-Ok : goal.returns-in-Ok
returns-in-Ok g c =
    let script = c.args.script.now in
    let before = map disk_image c.args.disks.items in
    let journals : List RoundJournal = g.K.Spelled.journals in
    let own : List RoundJournal = c.of-journals.result in
    let same : own ≡ journals = c.of-journals.ensures journals c.requires.spelled in
    let new = c.run_spelled.new.plain in
    let j = c.run_spelled.new.journal.journal in
    let left = map disk_image c.in-Ok.disks.items in
    let case : Images → Case = λ after. record { script = c.args.text.now; report = c.args.report.now; before = before; after = after } in
    let read : ((after : Images) → IsReadAs (case after) script own) =
    (λ after. subst (IsReadAs (case after) script) (sym same)
    (read_as (case after) script c.args.setting c.args.disks.items c.args.sizes.now journals c.requires.script refl c.requires.setting c.requires.sizes c.requires.spelled)) in
    let ran = subst (λ bytes. HasReplayed (Report false bytes) script journals (map disk_image c.in_ok-runner.runner.disks) left c.new-plain.result new j) c.shows_bytes.ensures c.in-Ok.ensures.ran in
    let here = subst (λ ds. HasReplayed (Report false (shows_bytes c.args.report.now)) script journals (map disk_image ds) left c.new-plain.result new j) (ap (λ p. p.disks) c.in_ok-runner.ensures) ran in
    let ended : ((after : Images) → HasEnded (case after) script own new j left) =
    (λ after. subst (λ (js : List RoundJournal). HasEnded (case after) script js new j left) (sym same)
    (ended_of (case after) script journals left c.new-plain.result new j here c.new-plain.ensures)) in
    told_none script c.args.text.now c.args.report.now before own new j left read ended (rw c.in-None.is at c.in_ok-seen-in-Ok.ensures)

pub returns-in-Err-Strange : goal.returns-in-Err-Strange
returns-in-Err-Strange g c after =
    let case : Case = record { script = c.args.text.now; report = c.args.report.now; before = map disk_image c.args.disks.items; after = after } in
    let script = c.args.script.now in
    let journals : List RoundJournal = g.K.Spelled.journals in
    let read : IsReadAs case script journals = read_as case script c.args.setting c.args.disks.items c.args.sizes.now journals c.requires.script refl c.requires.setting c.requires.sizes c.requires.spelled in
    let strange = rw c.in-Err-Strange.field-0-is at c.in-Err-Strange.ensures.strange in
    (no_places case script journals read (strange refl case (ap (λ p. map disk_image p.disks) (sym c.in_ok-runner.ensures)) read), c.round_after.ensures)
