use Rattle.std.proofs.Common.{◌≡◌, ℕ, List, Err, length, sym, ap, ◌∙◌, subst}
use Rattle.std.specs.List.{AllByRecursion}
use Rattle.std.proofs.lemmas.List.{length-map}
use Rattle.zio_outside.specs.declared.mem_disk.MemDisk.{MemDisk}
use Rattle.zio_outside.specs.Memory.{disk_image}
use Rattle.zio_command.specs.Grounds.{IsSettingOf}
use Rattle.zio_command.specs.Outcomes.{HasLawfulSize}
use Rattle.zio_command.specs.Tops.{IsFirstMissing, leaves_of}
use Rattle.zio_audit.specs.Audits.{sizes_in}
use Rattle.zio_audit.specs.Verdicts.{Case}
use Rattle.zio_audit.proofs.AuditedCases.{leaf_missing}
use Rattle.zio_audit.proofs.JudgedRuns.{lawful_sizes, script_in}
use Rattle.zio_audit.proofs.ShapeLemmas.{shaped_spelled}
use Rattle.zio_audit.proofs.VerdictLemmas.{no_lines}
use Rattle.zio_audit.proofs.FaultyLemmas.{faulty_unshaped}
use Rattle.zio_audit.proofs.JournalReads.{read_spelled}
use Rattle.zio_audit.proofs.auditing.audit_script.Goals as goal

pub pool_over-requires-clause-measured : goal.pool_over-requires-clause-measured
pool_over-requires-clause-measured c =
    subst (λ (ds : List MemDisk). AllByRecursion HasLawfulSize (sizes_in ds)) (sym c.as_slice.ensures.value)
    (lawful_sizes c.in_ok-disks.disks.items c.args.before.items c.in_ok-disks.ensures.images_are c.requires.may.sizes)

pub returns-in-Err-Leaf : goal.returns-in-Err-Leaf
returns-in-Err-Leaf c after =
    let case : Case = record { script = c.args.text.now; report = c.args.report.now; before = c.args.before.items; after = after } in
    let many : length c.as_slice.result.now ≡ length c.args.before.items =
    ap length c.as_slice.ensures.value ∙ sym (length-map c.in_ok-disks.disks.items disk_image) ∙ ap length c.in_ok-disks.ensures.images_are in
    let missing = c.in-Err-Leaf.ensures.missing c.in-Err-Leaf.leaf (ap (λ e. Err e) c.in-Err-Leaf.field-0-is) in
    let first : IsFirstMissing (length case.before) (leaves_of c.args.script.now.tops) c.in-Err-Leaf.leaf =
    subst (λ (n : ℕ). IsFirstMissing n (leaves_of c.args.script.now.tops) c.in-Err-Leaf.leaf) many missing in (
      leaf_missing case c.args.script.now c.in-Err-Leaf.leaf c.requires.script first,
      (c.args.script.now, c.requires.script, subst (λ (n : ℕ). IsFirstMissing (length case.before) (leaves_of c.args.script.now.tops) n) (sym c.in-Err-Leaf.leaf-is) first),
    )

pub returns-in-Some : goal.returns-in-Some
returns-in-Some c after =
    let case : Case = record { script = c.args.text.now; report = c.args.report.now; before = c.args.before.items; after = after } in
    let script = c.args.script.now in
    let setting = subst (λ (ds : List MemDisk). IsSettingOf script (sizes_in ds) c.in-Ok.pool.0) c.as_slice.ensures.value c.in-Ok.ensures.setting in
    let first = rw c.in-Some.is at c.in_ok-line.ensures in (
      no_lines case (script, script_in case script c.in-Ok.pool.0 c.in_ok-disks.disks.items c.requires.script (sym c.in_ok-disks.ensures.images_are) setting)
          (faulty_unshaped case.report c.in-Some.line first),
      first,
    )

pub judge_run-requires-clause-setting : goal.judge_run-requires-clause-setting
judge_run-requires-clause-setting c =
    subst (λ (ds : List MemDisk). IsSettingOf c.args.script.now (sizes_in ds) c.in-Ok.pool.0) c.as_slice.ensures.value c.in-Ok.ensures.setting

pub judge_run-requires-clause-spelled : goal.judge_run-requires-clause-spelled
judge_run-requires-clause-spelled c =
    let shaped = rw c.in-None.is at c.in_ok-line.ensures in
    read_spelled c.as_slice-in-None.result.now c.args.report.now (shaped_spelled c.as_slice-in-None.result.now c.args.report.now shaped)
