use Rattle.std.proofs.Common.{ap, ◌∙◌, subst}
use Rattle.zio_disks.specs.Disks.{Tell}
use Rattle.zio_plain.specs.Plains.{SeenPlain}
use Rattle.zio_command.proofs.RoundsLemmas.{told_sizes}
use Rattle.zio_reference.proofs.rounds.run_rounds.Goals as goal

pub run_script-ended-requires-clause-tops : goal.run_script-ended-requires-clause-tops
run_script-ended-requires-clause-tops g c before tells =
    let made = c.new-runner.ensures in
    let disks = ap (λ (p : SeenPlain _ _). p.disks) made in
    ap (λ (p : SeenPlain _ _). p.setting.tops) made
    ∙ c.requires.setting.tops before (told_sizes g.D.Disk.bytes g.D.Disk.image g.met.D.Disk.has_size c.args.disks.items before
    (subst (λ ds. Tell g.D.Disk.image ds before) disks tells))
