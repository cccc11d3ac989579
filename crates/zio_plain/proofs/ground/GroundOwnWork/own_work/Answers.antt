use Rattle.std.proofs.lemmas.Result.{IfOk-weaker}
use Rattle.zio_cksum.specs.Images.{Images}
use Rattle.zio_gang.specs.Attempts.{Terms}
use Rattle.zio_plain.proofs.ground.GroundOwnWork.own_work.Goals as goal

pub returns-clause-told : goal.returns-clause-told
returns-clause-told g c =
    IfOk-weaker c.own_work_of.result _ _
    (λ done does (t : Terms) runs fresh (images : Images) tell.
    (let told = does.told t runs.0 runs.1 fresh images tell in record { after = told.after; told = told.told; meant = told.meant }))
    c.own_work_of.ensures.done
