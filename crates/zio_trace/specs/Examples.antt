-- A read with a repair beside a write of another block, on a mirror of two leaves. docs/BRIDGE.md tells it.
use Rattle.std.specs.Prelude.{ℕ, [], ◌∷◌, false, Ok}
use Rattle.zio_cksum.specs.Images.{Images, Setting, Spot}
use Rattle.zio_trace.specs.Leaves.{Answer, Fetch, LeafOp, Store}
use Rattle.zio_trace.specs.Programs.{Deed}

-- no fault rows
abbrev pub sound_leaves : Setting
sound_leaves = record { tops = []; rows = []; point = 0 }

-- the copies of the one block are the first two bytes of each leaf, those of the other the next two
abbrev pub copy_on : ℕ → Spot
copy_on leaf = record { leaf = leaf; at = 0; span = 2 }

abbrev pub other_copy_on : ℕ → Spot
other_copy_on leaf = record { leaf = leaf; at = 2; span = 2 }

-- the first leaf has a bad copy
abbrev pub images_before : Images
images_before = (9 ∷ 9 ∷ 0 ∷ 0 ∷ []) ∷ (1 ∷ 2 ∷ 0 ∷ 0 ∷ []) ∷ []

abbrev pub images_after : Images
images_after = (1 ∷ 2 ∷ 5 ∷ 6 ∷ []) ∷ (1 ∷ 2 ∷ 5 ∷ 6 ∷ []) ∷ []

-- the read finds the bad copy, then the good one, and repairs the first
abbrev pub reads_bad : Deed LeafOp Answer
reads_bad = record { op = Fetch false 2 (copy_on 0); answer = Ok (9 ∷ 9 ∷ []) }

abbrev pub reads_good : Deed LeafOp Answer
reads_good = record { op = Fetch false 2 (copy_on 1); answer = Ok (1 ∷ 2 ∷ []) }

abbrev pub repairs : Deed LeafOp Answer
repairs = record { op = Store false (1 ∷ 2 ∷ []) (copy_on 0); answer = Ok [] }

-- the write stores both copies of the other block
abbrev pub writes_on : ℕ → Deed LeafOp Answer
writes_on leaf = record { op = Store false (5 ∷ 6 ∷ []) (other_copy_on leaf); answer = Ok [] }
