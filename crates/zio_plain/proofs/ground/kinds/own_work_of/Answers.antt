use Rattle.std.proofs.lemmas.Result.{IfOk-weaker}
use Rattle.zio_plain.specs.Waits.{pointers_in}
use Rattle.zio_plain.proofs.ground.kinds.own_work_of.Goals as goal

pub returns-in-Read-clause-done : goal.returns-in-Read-clause-done
returns-in-Read-clause-done g c = IfOk-weaker c.own_read.result _ _ (λ done h. h c.args.attempt (pointers_in c.args.children.now)) c.own_read.ensures.done

pub returns-in-Free-clause-done : goal.returns-in-Free-clause-done
returns-in-Free-clause-done g c = IfOk-weaker c.own_free.result _ _ (λ done h. h c.args.attempt (pointers_in c.args.children.now)) c.own_free.ensures.done

pub returns-in-Claim-clause-done : goal.returns-in-Claim-clause-done
returns-in-Claim-clause-done g c = IfOk-weaker c.own_claim.result _ _ (λ done h. h c.args.attempt (pointers_in c.args.children.now)) c.own_claim.ensures.done
