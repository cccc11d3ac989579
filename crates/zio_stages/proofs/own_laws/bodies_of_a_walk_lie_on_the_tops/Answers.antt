use Rattle.std.proofs.Common.{ℕ, zero, suc, ◌<◌, List, [], ◌∷◌, length, get_or, arith}
use Rattle.std.specs.Prelude.{Contains}
use Rattle.std.specs.List.{AllByRecursion}
use Rattle.zio_types.specs.declared.place.Top.{Top}
use Rattle.zio_blkptr.specs.declared.pointer.Bp.{Bp}
use Rattle.zio_trace.specs.BlockCopies.{Copies, body_copies, groups_of}
use Rattle.zio_stages.specs.OwnReads.{IsBodyOn}
use Rattle.zio_stages.specs.RequestOwns.{IsPieceOn}
use Rattle.zio_stages.proofs.own_laws.bodies_of_a_walk_lie_on_the_tops.Goals as goal

all_index : {X : Type 0} (P : X → Type 0) (xs : List X) (k : ℕ) (d : X) → AllByRecursion P xs → k < length xs → P (get_or xs k d)
all_index P [] k d h l = absurd (omega arith)
all_index P (x ∷ xs) zero d h l = h.0
all_index P (x ∷ xs) (suc k) d h l = all_index P xs k d h.1 (omega arith)

bodies_lie : (tops : List Top) (pieces : List Copies) (bps : List Bp) → AllByRecursion (IsPieceOn tops) pieces → AllByRecursion (λ (b : Bp). Contains pieces (body_copies b)) bps
    → AllByRecursion (IsBodyOn tops) bps
bodies_lie tops pieces [] on found = tt
bodies_lie tops pieces (b ∷ bps) on found =
    let f = found.0 in
    (all_index (IsPieceOn tops) pieces f.0 (body_copies b) on f.1 b f.2, bodies_lie tops pieces bps on found.1)

pub returns : goal.returns
returns c = λ t tops journal tree left on fits. bodies_lie tops (groups_of tree).bodies left.bodies on.bodies fits.0
