use Rattle.std.proofs.Common.{◌∷◌, [], List, subst, sym}
use Rattle.zio_vqueue.specs.declared.op.Op.{Op}
use Rattle.zio_vqueue.specs.declared.spots.Spot.{Spot}
use Rattle.zio_vqueue.specs.Spots.{IsKept}
use Rattle.zio_vqueue.proofs.ByTimeLemmas.{kept_none}
use Rattle.zio_vqueue.proofs.queue.VQueue.new.Goals as goal

pub invariant_of-result : goal.invariant_of-result
invariant_of-result c =
    subst (λ (fs : List (Spot × Op)). IsKept fs (0 ∷ 0 ∷ 0 ∷ 0 ∷ 0 ∷ []) 0 (0 ∷ 0 ∷ 0 ∷ 0 ∷ 0 ∷ [])) (sym c.new.ensures.empty) kept_none
