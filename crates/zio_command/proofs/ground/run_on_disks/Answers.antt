use Rattle.std.proofs.Common.{Err, inr, length, map, refl, ap, subst}
use Rattle.zio_disks.proofs.DiskLemmas.{same_itself}
use Rattle.zio_command.specs.declared.tops.TopsFault.{TopsFault}
use Rattle.zio_command.specs.Grounds.{IsSettingOf}
use Rattle.zio_command.specs.Tops.{IsFirstMissing, leaves_of}
use Rattle.zio_command.proofs.ground.run_on_disks.Goals as goal

pub run-requires-clause-setting : goal.run-requires-clause-setting
run-requires-clause-setting g c =
    subst (λ ds. IsSettingOf c.args.script.now (map g.D.Disk.bytes ds) c.in-Ok.setting) c.as_slice.ensures.value c.in-Ok.ensures.setting

pub returns-in-Err-Leaf-clause-outcome : goal.returns-in-Err-Leaf-clause-outcome
returns-in-Err-Leaf-clause-outcome g c =
    rw c.in-Err-Leaf.leaf-is (
      subst (λ ds. IsFirstMissing (length ds) (leaves_of c.args.script.now.tops) c.in-Err-Leaf.leaf) c.as_slice.ensures.value
          (c.in-Err-Leaf.ensures.missing c.in-Err-Leaf.leaf (ap (λ (f : TopsFault). Err f) c.in-Err-Leaf.field-0-is)),
      refl,
      refl,
    )

pub returns-in-Err-Memory-clause-outcome : goal.returns-in-Err-Memory-clause-outcome
returns-in-Err-Memory-clause-outcome g c = inr (refl, refl, λ x. (λ h. h, λ h. h), refl)

pub returns-in-Err-Leaf-clause-same : goal.returns-in-Err-Leaf-clause-same
returns-in-Err-Leaf-clause-same g c = same_itself g.D.Disk.bytes g.D.Disk.faults g.D.Disk.faults_at_fetch g.D.Disk.home g.D.Disk.image g.D.Disk.sound c.args.disks.items

pub returns-in-Err-Memory-clause-same : goal.returns-in-Err-Memory-clause-same
returns-in-Err-Memory-clause-same g c = same_itself g.D.Disk.bytes g.D.Disk.faults g.D.Disk.faults_at_fetch g.D.Disk.home g.D.Disk.image g.D.Disk.sound c.args.disks.items
