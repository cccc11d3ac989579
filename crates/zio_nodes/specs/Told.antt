-- Which stages stand behind Ready, where a node tells its pointer.
use Rattle.std.specs.Prelude.{Bool, true, false}
use Rattle.zio_masks.specs.declared.stage.Stage.{Stage}
use Rattle.zio_masks.specs.declared.stage.Stage.TheVariants.{VdevIoStart, VdevIoDone, VdevIoAssess, ChecksumVerify, Done}

abbrev pub is_told : Stage → Bool
is_told VdevIoStart = true
is_told VdevIoDone = true
is_told VdevIoAssess = true
is_told ChecksumVerify = true
is_told Done = true
is_told _ = false
