-- The example, evaluated.
use Rattle.std.proofs.Common.{[], ◌∷◌, refl}
use Rattle.zio_cksum.specs.Images.{Images}
use Rattle.zio_trace.specs.Examples.{images_after, images_before, reads_bad, reads_good, repairs, sound_leaves, writes_on}
use Rattle.zio_trace.specs.Leaves.{on_leaf}
use Rattle.zio_trace.specs.Programs.{Happen}

pub turn_case : Happen (on_leaf sound_leaves) (reads_bad ∷ reads_good ∷ repairs ∷ writes_on 0 ∷ writes_on 1 ∷ []) images_before images_after
turn_case = (refl, (refl, (refl, (refl, (refl, refl)))))

pub between_case : Happen (on_leaf sound_leaves) (writes_on 0 ∷ reads_bad ∷ writes_on 1 ∷ reads_good ∷ repairs ∷ []) images_before images_after
between_case = (refl, (refl, (refl, (refl, (refl, refl)))))

pub not_case : (after : Images) → Happen (on_leaf sound_leaves) (repairs ∷ reads_bad ∷ reads_good ∷ writes_on 0 ∷ writes_on 1 ∷ []) images_before after → ⊥
not_case after h = cc
