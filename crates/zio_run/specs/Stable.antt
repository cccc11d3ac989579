-- Disks whose images are stable after a run, and the command that such a run is.
use Rattle.std.specs.Prelude.{◌≢◌, ℕ, List, None, false}
use Rattle.zio_outside.specs.declared.written.Written.{Written}
use Rattle.zio_cksum.specs.Images.{Images}
use Rattle.zio_disks.specs.Disks.{Tell}
use Rattle.zio_report.specs.declared.report.Show.TheVariants.{Report}
use Rattle.zio_command.specs.declared.words.Command.{Command}
use Rattle.zio_command.specs.declared.words.Command.TheVariants.{Run}
use Rattle.zio_graph.specs.Stable.{AreStable}

-- where a round was run, the images that are told are stable
abbrev pub LeavesStable : {D : Type 0} → (D → List ℕ → Type 0) → (D → List ℕ → List Written → Type 0) → ℕ → List D → Type 0
LeavesStable image keeps rounds disks = rounds ≢ 0 → (images : Images) → Tell image disks images → AreStable keeps disks images

-- a script is run over these images, the first turn is always picked, and the report has no options
abbrev pub plain_run : List (List ℕ) → Command
plain_run names = Run 1 None (Report false false) names
