use Rattle.zio_stages.specs.declared.tree.TreeWork.{TreeWork}
use Rattle.zio_stages.proofs.PartsOutLemmas.{on_both}
use Rattle.zio_stages.proofs.TreeLemmas.{body_handed, body_there}
use Rattle.zio_stages.proofs.tree.TreeWork.hand_out_body.Goals as goal

pub returns-clause-out : goal.returns-clause-out
returns-clause-out c =
    let old = c.args.self.now in
    let now : TreeWork = record { read = c.hand_out_body.new.self } in
    on_both c.hand_out_body.result (λ is more tree asked slots h. body_handed old now tree asked slots c.args.body c.requires is more h) c.hand_out_body.ensures.handed c.hand_out_body.ensures.slots

pub returns-clause-there : goal.returns-clause-there
returns-clause-there c =
    let old = c.args.self.now in
    let now : TreeWork = record { read = c.hand_out_body.new.self } in
    on_both c.hand_out_body.result (λ is more left. body_there old now c.args.body left c.requires is) c.hand_out_body.ensures.handed c.hand_out_body.ensures.slots
